use Rattle.std.proofs.Common.{◌≡◌, true, sym, refl, ◌∙◌, subst}
use Rattle.std.proofs.lemmas.Bool.{true≢false}
use Rattle.format.specs.Syntax.{Condition}
use Rattle.model.specs.States.{ConditionHolds}
use Rattle.model.specs.Views.{command_in}
use Rattle.checks.proofs.Urgency.{urgent_here, urgent_skip}
use Rattle.checks.proofs.time.is_urgent.Goals.{else-urgent-via-then-urgent+else-holds, else-urgent-via-else-urgent}
use Rattle.checks.proofs.time.is_urgent.Goals as goal

pub loop-command-preserved : goal.loop-command-preserved
loop-command-preserved c =
    let u = command_in c.in-Some.command in
    let b = c.args.booleans in
    let not_here : u.urgent ≡ true → ConditionHolds u.condition b → ⊥ = elim c.else-urgent.branch [
      | else-urgent-via-then-urgent+else-holds w ↦ λ _ holds. true≢false (sym (w.holds.ensures.1 (subst (λ (d : Condition). ConditionHolds d b) (sym w.condition.ensures) holds)) ∙ w.if-holds.false)
      | else-urgent-via-else-urgent w ↦ λ urgent _. true≢false (sym urgent ∙ sym c.urgent.ensures ∙ w.if-urgent.false)
    ] in
    let skip = urgent_skip b _ _ u c.in-Some.ensures.steps not_here in
    (λ all. skip.0 (c.loop-command.invariant.0 all), λ left. c.loop-command.invariant.1 (skip.1 left))

pub returns-then-holds : goal.returns-then-holds
returns-then-holds c =
    let u = command_in c.in-Some.command in
    let b = c.args.booleans in
    let here = subst (λ (d : Condition). ConditionHolds d b) c.condition.ensures (c.holds.ensures.0 c.if-holds.true) in
    (λ _. c.loop-command.invariant.1 (urgent_here b _ _ u c.in-Some.ensures.steps (sym c.urgent.ensures ∙ c.if-urgent.true) here), λ _. refl)
