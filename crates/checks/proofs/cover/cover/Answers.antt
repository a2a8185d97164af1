use Rattle.std.proofs.Common.{rules}
use Rattle.model.specs.Files.{zones_left}
use Rattle.checks.specs.Frames.{shape}
use Rattle.checks.specs.Reaching.{HoldsAll}
use Rattle.checks.proofs.Lowest.{names_by}
use Rattle.checks.proofs.cover.cover.Goals as goal

pub returns-in-None : goal.returns-in-None
returns-in-None g c = rw c.in-None.is (names_by _ (λ y. Unit {0}) c.args.listed.struck.now (zones_left c.args.listed.zones) c.lowest.result c.lowest.ensures (λ n p b listed says. search rules))

pub returns-in-Some : goal.returns-in-Some
returns-in-Some g c = rw c.in-Some.is (names_by _ (HoldsAll c.in-Some.table (shape c.args.frame.now) c.args.booleans) c.args.listed.struck.now (zones_left c.args.listed.zones) c.lowest-in-Some.result c.lowest-in-Some.ensures (λ n p b listed says. search rules))
