use Rattle.std.proofs.Common.{length, ap, arith}
use Rattle.checks.proofs.Ranging.{ranged}
use Rattle.checks.proofs.listed.Listed.of.Goals as goal

pub invariant_of-result : goal.invariant_of-result
invariant_of-result c = record { few = omega (arith, ap length c.zones.ensures, (ranged c.args.files.now c.requires).zones.few_zones) }
