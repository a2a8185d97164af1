use Rattle.model.specs.Views.{resets_in}
use Rattle.checks.proofs.Shapes.{Writing}
use Rattle.checks.proofs.frame.Frame.after.Given as goal

abbrev pub invariant-loop-reset : goal.invariant-loop-reset
invariant-loop-reset l = Writing (resets_in l.fn.resets) (resets_in l.reset-iterator) l.frame
