use Rattle.std.proofs.Common.{⊎_elim, arith}
use Rattle.std.proofs.lemmas.List.{get_or_past}
use Rattle.std.proofs.lemmas.Bool.{cases_lt}
use Rattle.dbm.proofs.square.clear.Goals as goal

pub returns : goal.returns
returns g c p = ⊎_elim (λ before. c.loop-b.invariant p before) (λ past. get_or_past c.loop-b.bounds p g.B.Bound.NONE (omega (arith, past))) (cases_lt p c.loop-b.b-index)
