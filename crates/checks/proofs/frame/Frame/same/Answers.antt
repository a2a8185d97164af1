use Rattle.checks.proofs.Shapes.{shape_same}
use Rattle.std.proofs.Common.{rules}
use Rattle.checks.proofs.frame.Frame.same.Goals as goal

pub returns : goal.returns
returns c = shape_same _ c.from_fn.ensures.items.long (λ i e less. search rules)
