use Rattle.std.proofs.Common.{◌≡◌}
use Rattle.table_cases.proofs.case.Case.table.Given as goal

abbrev pub invariant-loop-atom : goal.invariant-loop-atom
invariant-loop-atom g l = l.table.square.n ≡ l.self.rows
