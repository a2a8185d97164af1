use Rattle.std.proofs.Common.{◌≡◌}
use Rattle.dbm.proofs.Rows.{Turning}
use Rattle.dbm.proofs.square.Square.turn.Given as goal

abbrev pub invariant-loop-i : goal.invariant-loop-i
invariant-loop-i g l = let b = g.B.Bound in (l.self.n ≡ l.initial.self.n) × Turning b l.initial.self.n l.k l.initial.self.bounds.now l.self.bounds.now l.i
