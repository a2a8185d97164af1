use Rattle.std.proofs.Common.{◌≡◌, drop}
use Rattle.model.specs.Files.{zones_left}
use Rattle.checks.proofs.Lowest.{Tried}
use Rattle.checks.proofs.listed.Listed.lowest.Given as goal

abbrev pub invariant-loop-n : goal.invariant-loop-n
invariant-loop-n g l = (zones_left l.zones ≡ drop l.n (zones_left l.fn.self.zones)) × Tried (goal.F-post g l.holds) l.fn.self.struck.now (zones_left l.fn.self.zones) l.n
