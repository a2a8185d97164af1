use Rattle.std.proofs.Common.{◌≡◌, ◌≤◌, length}
use Rattle.format.specs.Words.{words}
use Rattle.format.specs.Reading.{walk_of}
use Rattle.format.proofs.look.tally.Given as goal

abbrev pub invariant-loop-record : goal.invariant-loop-record
invariant-loop-record l = (walk_of l.initial.place l.bytes ≡ walk_of l.place l.rest) × (length (words l.rest) ≤ l.place.scope.words)

abbrev pub decreases-loop-record : goal.decreases-loop-record
decreases-loop-record l = length l.rest
