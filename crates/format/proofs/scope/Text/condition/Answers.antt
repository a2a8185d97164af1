use Rattle.std.proofs.Common.{◌∙◌}
use Rattle.format.specs.Places.Slot.{zerosMask}
use Rattle.format.proofs.Exits.{exit}
use Rattle.format.proofs.Learned.{ones_go, condition_goes}
use Rattle.format.proofs.scope.Text.condition.Goals as goal

pub returns-in_err-mask-2 : goal.returns-in_err-mask-2
returns-in_err-mask-2 c =
    exit _ _ _ _ c.from_residual-in_err-mask-2.ensures.1
    (λ x. (ones_go c.args.self.now x _ _ c.in_ok-mask.ensures).walks ∙ c.in_err-mask-2.ensures x zerosMask tt)

pub returns : goal.returns
returns c = condition_goes c.args.self.now _ _ _ _ c.in_ok-mask.ensures c.in_ok-mask-2.ensures
