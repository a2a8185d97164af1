use Rattle.std.proofs.Common.{sym, ap, ◌∙◌, w32}
use Rattle.std.proofs.lemmas.Int.{to_z-of_z}
use Rattle.format.specs.Faults.{record_stop}
use Rattle.format.proofs.Exits.{exit}
use Rattle.format.proofs.Learned.{no_number, wrong_number}
use Rattle.format.proofs.scope.Text.number.Goals as goal

pub returns-in_err-word : goal.returns-in_err-word
returns-in_err-word c = let e = c.in_err-word.ensures in exit _ _ _ _ c.from_residual.ensures.1 (λ x s takes. no_number c.args.self.now _ e.1 x s takes ∙ ap record_stop (sym e.0))

pub returns-in_err-number_in : goal.returns-in_err-number_in
returns-in_err-number_in c =
    let e = c.in_ok-word.ensures in
    exit _ _ _ _ c.from_residual-in_err-number_in.ensures.1
    (wrong_number c.args.self.now _ _ _ _ e.0 e.1 (simp (to_z-of_z w32 c.args.least c.ranges.least) at (sym c.number_in.ensures ∙ c.in_err-number_in.was)))
