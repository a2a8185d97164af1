use Rattle.std.proofs.Common.{sym, ◌∙◌}
use Rattle.std.proofs.lemmas.Bool.{eqb-true}
use Rattle.model.specs.Views.{zone_in}
use Rattle.checks.specs.Frames.{shape}
use Rattle.checks.proofs.Keeping.{held_by_atoms, not_held}
use Rattle.checks.proofs.cover.holds_all.Goals as goal

pub returns-then-booleans : goal.returns-then-booleans
returns-then-booleans g c =
    held_by_atoms c.args.table.now (shape c.args.frame.now) c.args.booleans (zone_in c.args.zone) c.keeps_all.result _ (c.if-booleans.true ∙ c.booleans.ensures) c.atoms.ensures c.keeps_all.ensures

pub returns-else-booleans : goal.returns-else-booleans
returns-else-booleans g c = (
  λ e. absurd (c.if-booleans.false (eqb-true _ _ e)),
  λ h. absurd (not_held c.args.table.now (shape c.args.frame.now) c.args.booleans (zone_in c.args.zone) (λ e. c.if-booleans.false (e ∙ sym c.booleans.ensures)) h),
)
