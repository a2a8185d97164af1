use Rattle.std.proofs.Common.{ap, refl, arith}
use Rattle.checks.specs.Systems.{Frame}
use Rattle.checks.proofs.Shapes.{shape_before}
use Rattle.checks.proofs.frame.Frame.before.Goals as goal

pub returns : goal.returns
returns c = shape_before c.same-frame.result _ c.args.second c.same-frame.ensures (omega arith) refl (ap (λ (q : Frame). q.offset 0) c.same-frame.ensures)
