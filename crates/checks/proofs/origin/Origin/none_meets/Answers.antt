use Rattle.std.proofs.Common.{◌+◌, ◌∙◌, arith}
use Rattle.std.specs.List.{AllByRecursion}
use Rattle.model.specs.Views.{guarded_in, zone_in}
use Rattle.model.specs.Files.{model_in}
use Rattle.checks.specs.Passed.{head_in}
use Rattle.checks.specs.Systems.{same, Placed}
use Rattle.checks.proofs.Answering.{condition_as, poured_as, none_solve}
use Rattle.checks.proofs.Placing.{roomy_same, fit_atoms}
use Rattle.checks.proofs.Pours.{adds_both}
use Rattle.checks.proofs.Ranging.{ranged}
use Rattle.checks.proofs.Steps.{bad_system}
use Rattle.checks.proofs.origin.Origin.none_meets.Goals as goal

pub returns : goal.returns
returns g c =
    let o = c.args.self in
    let z = zone_in o.zone in
    let r = guarded_in c.args.bad in
    let holds = condition_as _ _ _ _ c.condition.ensures c.booleans.ensures (c.holds.ensures.0 c.if-not-holds.false) in
    let system = bad_system g.B.Bound.admits (model_in o.files.now) z r o.fits c.requires.fits holds in
    let first = poured_as _ same _ z.atoms c.table_in-table.result c.pour.new.table c.same-frame.ensures c.atoms.ensures c.pour.ensures in
    let second = poured_as _ same _ r.atoms c.pour.new.table c.pour-2.new.table c.same-frame.ensures c.atoms-2.ensures c.pour-2.ensures in
    let both = adds_both (λ k ν. AllByRecursion (Placed same k ν) z.atoms) (λ k ν. AllByRecursion (Placed same k ν) r.atoms) _ _ _ first second in
    let none = none_solve _ (λ k ν. AllByRecursion (Placed same k ν) z.atoms × AllByRecursion (Placed same k ν) r.atoms) c.table_in-table.result c.pour-2.new.table c.table_in-table.ensures both c.close.result c.close.ensures c.is_none.result c.is_none.ensures in
    (λ e. system.1 (λ k ν ok s. none.0 e k ν ok (s.zone, s.bad)), λ check. none.1 (λ k ν ok p. system.0 check k ν ok (record { zone = p.0; bad = p.1 })))

pub pour-requires : goal.pour-requires
pour-requires g c =
    let h = head_in c.args.self.files.now in
    fit_atoms h (ranged c.args.self.files.now c.args.self.passed).model.few_clocks (c.clocks.result + 1) _ _ same (roomy_same h.clocks _ (omega (arith, c.clocks.ensures))) c.same-frame.ensures c.table_in-table.ensures.rows_are _ _ c.atoms.ensures c.args.self.fits.atoms.each

pub pour-requires-2 : goal.pour-requires-2
pour-requires-2 g c =
    let h = head_in c.args.self.files.now in
    fit_atoms h (ranged c.args.self.files.now c.args.self.passed).model.few_clocks (c.clocks.result + 1) _ _ same (roomy_same h.clocks _ (omega (arith, c.clocks.ensures))) c.same-frame.ensures (c.pour.ensures.same_rows ∙ c.table_in-table.ensures.rows_are) _ _ c.atoms-2.ensures c.requires.fits.atoms.each
