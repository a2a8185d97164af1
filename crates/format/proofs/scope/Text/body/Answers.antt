use Rattle.std.proofs.Common.{◌≡◌, false, eqb, arith}
use Rattle.format.specs.Words.{content}
use Rattle.format.specs.Places.{Context, after_condition}
use Rattle.format.specs.Places.Slot.{onesMask, setMask, atomOr}
use Rattle.format.proofs.Begins.{begun, command_begun, zone_begun, guarded_begun, kind_is}
use Rattle.format.proofs.scope.Text.body.Goals as goal

pub returns-in-Command : goal.returns-in-Command
returns-in-Command c =
    let is = kind_is c.args.first _ c.in-Command.is in
    let b = command_begun c.args.first.word is in
    begun c.args.self.now c.args.first.word _ onesMask c.command.result (λ (x : Context). (after_condition x.section ≡ setMask) × (x.urgent ≡ eqb (content c.args.first.word) 1)) (omega (arith, is)) b.1 b.0 (simp c.content.ensures at c.command.ensures)

pub returns-in-Zone : goal.returns-in-Zone
returns-in-Zone c =
    let is = kind_is c.args.first _ c.in-Zone.is in
    let b = zone_begun c.args.first.word is in
    begun c.args.self.now c.args.first.word _ (atomOr 0) c.atoms.result (λ (x : Context). x.urgent ≡ false) (omega (arith, is)) b.1 b.0 c.atoms.ensures

pub returns-in-Invariant : goal.returns-in-Invariant
returns-in-Invariant c =
    let b = guarded_begun c.args.first c.in-Invariant.is in
    begun c.args.self.now c.args.first.word _ onesMask c.guarded.result (λ (x : Context). (after_condition x.section ≡ atomOr 0) × (x.urgent ≡ false)) b.0 b.2 b.1 c.guarded.ensures
