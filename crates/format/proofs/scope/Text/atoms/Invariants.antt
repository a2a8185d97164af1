use Rattle.std.proofs.Common.{◌≡◌, ◌-◌, ◌≤◌}
use Rattle.format.specs.Places.{Context}
use Rattle.format.specs.Places.Slot.{atomOr}
use Rattle.format.specs.Reading.{Goes}
use Rattle.format.proofs.scope.Text.atoms.Given as goal

abbrev pub invariant-loop-count : goal.invariant-loop-count
invariant-loop-count l = (l.count ≤ 64) × ((x : Context) → x.urgent ≡ l.urgent → Goes l.initial.self x (atomOr 0) l.self (atomOr l.count))

abbrev pub decreases-loop-count : goal.decreases-loop-count
decreases-loop-count l = 64 - l.count
