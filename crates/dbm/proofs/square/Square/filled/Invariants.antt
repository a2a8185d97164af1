use Rattle.std.proofs.Common.{◌≡◌}
use Rattle.dbm.proofs.Places.{Filling}
use Rattle.dbm.proofs.square.Square.filled.Given as goal

abbrev pub invariant-loop-i : goal.invariant-loop-i
invariant-loop-i g l = let b = g.B.Bound in (l.square.n ≡ l.n) × Filling b.NONE b.ZERO l.n l.square.bounds.now l.i
