use Rattle.std.proofs.Common.{◌≡◌}
use Rattle.dbm.specs.Table.{AfterTurns}
use Rattle.dbm.proofs.square.Square.close.Given as goal

abbrev pub invariant-loop-k : goal.invariant-loop-k
invariant-loop-k g l = let b = g.B.Bound in (l.self.n ≡ l.initial.self.n) × AfterTurns b l.initial.self.n l.initial.self.bounds.now l.self.bounds.now l.k
