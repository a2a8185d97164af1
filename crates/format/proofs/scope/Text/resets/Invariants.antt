use Rattle.std.proofs.Common.{◌-◌}
use Rattle.format.specs.Places.{Context, owing}
use Rattle.format.specs.Reading.{Goes}
use Rattle.format.proofs.scope.Text.resets.Given as goal

abbrev pub invariant-loop : goal.invariant-loop
invariant-loop l = (x : Context) → Goes l.initial.self x (owing l.count) l.self (owing (l.count - l.counter))
