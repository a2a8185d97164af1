use Rattle.std.proofs.Common.{◌≡◌, ℕ, ◌<◌, get_or}
use Rattle.dbm.proofs.square.clear.Given as goal

abbrev pub invariant-loop-b : goal.invariant-loop-b
invariant-loop-b g l = let k = g.B.Bound in (q : ℕ) → q < l.b-index → get_or l.bounds q k.NONE ≡ k.NONE
