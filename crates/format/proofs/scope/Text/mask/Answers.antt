use Rattle.std.proofs.Common.{sym, ap, ◌∙◌}
use Rattle.format.specs.Faults.{record_stop}
use Rattle.format.proofs.Exits.{exit}
use Rattle.format.proofs.Learned.{no_mask, wrong_mask}
use Rattle.format.proofs.scope.Text.mask.Goals as goal

pub returns-in_err-word : goal.returns-in_err-word
returns-in_err-word c = let e = c.in_err-word.ensures in exit _ _ _ _ c.from_residual.ensures.1 (λ x s takes. no_mask c.args.self.now e.1 x s takes ∙ ap record_stop (sym e.0))

pub returns-in_err-booleans_in : goal.returns-in_err-booleans_in
returns-in_err-booleans_in c =
    let e = c.in_ok-word.ensures in
    exit _ _ _ _ c.from_residual-in_err-booleans_in.ensures.1 (wrong_mask c.args.self.now _ _ _ e.0 e.1 (rw c.content.ensures at (sym c.booleans_in.ensures ∙ c.in_err-booleans_in.was)))
