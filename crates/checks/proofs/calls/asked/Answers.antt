use Rattle.model.specs.Views.{zone_in}
use Rattle.checks.proofs.Lowest.{all_nth}
use Rattle.checks.proofs.Ranging.{ranged}
use Rattle.checks.proofs.calls.asked.Goals as goal

pub invariant_of-result : goal.invariant_of-result
invariant_of-result c =
    let passed = c.in_ok-passed.ensures.1 in
    record { passed = passed; fits = all_nth _ _ c.args.n (zone_in c.in-Some.zone) (ranged c.args.files.now passed).zones.zones c.in-Some.ensures }
