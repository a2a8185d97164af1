use Rattle.std.proofs.Common.{length}
use Rattle.sheet.proofs.Replaying.{Replayed}
use Rattle.sheet.proofs.series.replay.Given as goal

abbrev pub invariant-loop-call : goal.invariant-loop-call
invariant-loop-call g l = Replayed g.B.Bound.admits l.model l.zones (length l.area) l.calls l.call-index l.sheet
