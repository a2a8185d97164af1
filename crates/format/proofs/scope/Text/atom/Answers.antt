use Rattle.std.proofs.Common.{sym, refl, ◌∙◌, subst}
use Rattle.format.specs.Places.Slot.{atomOr, atomNumber, between}
use Rattle.format.specs.Reading.{Goes}
use Rattle.format.specs.declared.scope.Text.{Text}
use Rattle.format.proofs.Exits.{exit}
use Rattle.format.proofs.Learned.{no_more_atoms, wrong_atom, urgent_stops, surplus_stops, atom_goes, atom_and_number}
use Rattle.format.proofs.scope.Text.atom.Goals as goal

pub returns-in_default : goal.returns-in_default
returns-in_default c x =
    let e = c.in_default.ensures in
    subst (λ (q : Text). Goes c.args.self.now x (atomOr c.args.count) q between) (sym e.1) (no_more_atoms c.args.self.now x c.args.count e.0)

pub returns-in_err-clocks_of : goal.returns-in_err-clocks_of
returns-in_err-clocks_of c =
    let e = c.in-Some.ensures in
    exit _ _ _ _ c.from_residual.ensures.1
    (λ x u. wrong_atom c.args.self.now x _ _ _ _ e.0 e.1 (sym c.clocks_of.ensures ∙ c.in_err-clocks_of.was))

pub returns-then-urgent : goal.returns-then-urgent
returns-then-urgent c x u =
    let e = c.in-Some.ensures in
    urgent_stops c.args.self.now x _ _ _ c.in_ok-clocks_of.field-0 e.0 e.1 (sym c.clocks_of.ensures ∙ c.in_ok-clocks_of.was) (u ∙ c.if-urgent.true)

pub returns-then-count-ge-ATOMS : goal.returns-then-count-ge-ATOMS
returns-then-count-ge-ATOMS c x u =
    let e = c.in-Some.ensures in
    surplus_stops c.args.self.now x _ _ _ c.in_ok-clocks_of.field-0 e.0 e.1 (sym c.clocks_of.ensures ∙ c.in_ok-clocks_of.was) (u ∙ c.if-urgent.false) c.if-count-ge-ATOMS.true

pub returns-in_err-number : goal.returns-in_err-number
returns-in_err-number c =
    let e = c.in-Some.ensures in
    exit _ _ _ _ c.from_residual-in_err-number.ensures.1
    (λ x u. (atom_goes c.args.self.now x _ _ _ c.in_ok-clocks_of.field-0 e.0 e.1 (sym c.clocks_of.ensures ∙ c.in_ok-clocks_of.was) (u ∙ c.if-urgent.false) c.if-count-ge-ATOMS.false).walks ∙ c.in_err-number.ensures x (atomNumber _) refl)

pub returns : goal.returns
returns c =
    let e = c.in-Some.ensures in
    (c.if-count-ge-ATOMS.false, λ x u. atom_and_number c.args.self.now x _ _ _ _ (atom_goes c.args.self.now x _ _ _ c.in_ok-clocks_of.field-0 e.0 e.1 (sym c.clocks_of.ensures ∙ c.in_ok-clocks_of.was) (u ∙ c.if-urgent.false) c.if-count-ge-ATOMS.false) c.in_ok-number.ensures)
