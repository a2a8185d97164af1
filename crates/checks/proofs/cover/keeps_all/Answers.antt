use Rattle.std.proofs.Common.{List, sym, refl, ◌∙◌, subst}
use Rattle.std.specs.List.{AllByRecursion}
use Rattle.std.proofs.lemmas.Bool.{true≢false}
use Rattle.format.specs.Syntax.{Atom}
use Rattle.model.specs.Views.{atom_is, atoms_in}
use Rattle.checks.specs.Frames.{shape, Placeable}
use Rattle.checks.proofs.Alls.{left_more, left_done, left_fails}
use Rattle.checks.proofs.Keeping.{KeepsPlaced, decides_placed, keeps_each, each_keeps}
use Rattle.checks.proofs.cover.keeps_all.Goals as goal

pub loop-atom-preserved : goal.loop-atom-preserved
loop-atom-preserved g c =
    let f = shape c.args.frame.now in
    let t = c.args.table.now in
    let first = c.in-Some.ensures.steps in
    let told = decides_placed t f c.include.result (atom_is c.in-Some.atom) c.place.result c.place.ensures c.include.ensures in (
      left_more (KeepsPlaced t f) _ _ _ _ first (told.0 c.if-not-include.false) c.loop-atom.invariant.0,
      (subst (λ (l : List Atom). AllByRecursion (Placeable f t.square.n) l) first c.loop-atom.invariant.1).1,
    )

pub returns-then-not-include : goal.returns-then-not-include
returns-then-not-include g c =
    let f = shape c.args.frame.now in
    let t = c.args.table.now in
    let told = decides_placed t f c.include.result (atom_is c.in-Some.atom) c.place.result c.place.ensures c.include.ensures in (
      λ e. absurd (true≢false (sym e)),
      λ all. absurd (left_fails (KeepsPlaced t f) _ _ _ _ c.in-Some.ensures.steps (λ kept. true≢false (sym (told.1 kept) ∙ c.if-not-include.true)) c.loop-atom.invariant.0 (each_keeps t f (atoms_in c.args.atoms) all)),
    )

pub returns : goal.returns
returns g c =
    let f = shape c.args.frame.now in
    let t = c.args.table.now in
    (λ _. keeps_each t f (atoms_in c.args.atoms) (left_done (KeepsPlaced t f) _ _ c.in-None.ensures.steps.0 c.loop-atom.invariant.0), λ _. refl)
