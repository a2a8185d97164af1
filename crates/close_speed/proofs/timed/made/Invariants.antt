use Rattle.std.proofs.Common.{◌≡◌}
use Rattle.close_speed.proofs.timed.made.Given as goal

abbrev pub invariant-loop-j : goal.invariant-loop-j
invariant-loop-j g l = l.t.square.n ≡ l.n

abbrev pub invariant-loop-i : goal.invariant-loop-i
invariant-loop-i g l = l.t.square.n ≡ l.n
