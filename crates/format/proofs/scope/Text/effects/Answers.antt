use Rattle.std.proofs.Common.{◌∙◌}
use Rattle.format.specs.Places.Slot.{clearMask}
use Rattle.format.proofs.Exits.{exit}
use Rattle.format.proofs.Learned.{set_goes, clear_stops, masks_go, after_masks}
use Rattle.format.proofs.scope.Text.effects.Goals as goal

pub returns-in_err-clear : goal.returns-in_err-clear
returns-in_err-clear c =
    exit _ _ _ _ c.from_residual-in_err-clear.ensures.1
    (λ x. (set_goes c.args.self.now x _ _ c.in_ok-set.ensures).walks ∙ c.in_err-clear.ensures x (clearMask _) tt)

pub returns-then-clear-set-ne0 : goal.returns-then-clear-set-ne0
returns-then-clear-set-ne0 c x =
    (set_goes c.args.self.now x _ _ c.in_ok-set.ensures).walks ∙
    clear_stops _ x _ _ _ c.in_ok-clear.ensures c.if-clear-set-ne0.true

pub returns : goal.returns
returns c = after_masks c.args.self.now _ _ c.reset.result (masks_go c.args.self.now _ _ _ _ c.in_ok-set.ensures c.in_ok-clear.ensures c.if-clear-set-ne0.false) c.reset.ensures
