use Rattle.dbm.proofs.Rows.{Rows}
use Rattle.dbm.proofs.close.tighten.Given as goal

abbrev pub invariant-loop-j : goal.invariant-loop-j
invariant-loop-j g l = let b = g.B.Bound in Rows b l.initial.row l.through l.via l.row l.j
