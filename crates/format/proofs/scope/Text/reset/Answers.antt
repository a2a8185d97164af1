use Rattle.std.proofs.Common.{sym, ap, ◌∙◌}
use Rattle.format.specs.Faults.{record_stop}
use Rattle.format.proofs.Exits.{exit}
use Rattle.format.proofs.Learned.{no_reset, wrong_reset, right_reset}
use Rattle.format.proofs.scope.Text.reset.Goals as goal

pub returns-in_err-word : goal.returns-in_err-word
returns-in_err-word c = let e = c.in_err-word.ensures in exit _ _ _ _ c.from_residual.ensures.1 (λ x. no_reset c.args.self.now e.1 x ∙ ap record_stop (sym e.0))

pub returns-in_err-clocks_in : goal.returns-in_err-clocks_in
returns-in_err-clocks_in c =
    let e = c.in_ok-word.ensures in
    exit _ _ _ _ c.from_residual-in_err-clocks_in.ensures.1 (wrong_reset c.args.self.now _ _ _ e.0 e.1 (rw c.content.ensures at (sym c.clocks_in.ensures ∙ c.in_err-clocks_in.was)))

pub returns : goal.returns
returns c =
    let e = c.in_ok-word.ensures in
    right_reset c.args.self.now _ _ _ e.0 e.1 (rw c.content.ensures at (sym c.clocks_in.ensures ∙ c.in_ok-clocks_in.was))
