use Rattle.std.proofs.Common.{sym, refl, ◌∙◌}
use Rattle.std.proofs.lemmas.Bool.{true≢false}
use Rattle.checks.specs.Reaching.{AtZero}
use Rattle.checks.proofs.Alls.{left_more, left_done, left_fails}
use Rattle.checks.proofs.cover.all_at_zero.Goals as goal

pub loop-atom-preserved : goal.loop-atom-preserved
loop-atom-preserved c = left_more AtZero _ _ _ _ c.in-Some.ensures.steps (c.holds_at_zero.ensures.0 c.if-not-holds_at_zero.false) c.loop-atom.invariant

pub returns-then-not-holds_at_zero : goal.returns-then-not-holds_at_zero
returns-then-not-holds_at_zero c = (λ e. absurd (true≢false (sym e)), λ all. absurd (left_fails AtZero _ _ _ _ c.in-Some.ensures.steps (λ p. true≢false (sym (c.holds_at_zero.ensures.1 p) ∙ c.if-not-holds_at_zero.true)) c.loop-atom.invariant all))

pub returns : goal.returns
returns c = (λ _. left_done AtZero _ _ c.in-None.ensures.steps.0 c.loop-atom.invariant, λ _. refl)
