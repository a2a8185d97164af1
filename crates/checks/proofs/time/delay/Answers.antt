use Rattle.std.proofs.Common.{◌≡◌, true, false, pos, ◌-ℤ◌, sym, ◌∙◌}
use Rattle.std.proofs.lemmas.Bool.{true≢false}
use Rattle.bound.specs.Time.{Made}
use Rattle.checks.proofs.Pours.{adds_at_most, adds_both, adds_same}
use Rattle.checks.proofs.time.delay.Goals as goal

pub returns-then-urgent : goal.returns-then-urgent
returns-then-urgent g c =
    let n = c.args.second in
    let first = adds_at_most 0 n c.at_most.result c.args.table.now c.constrain.new.self c.at_most.ensures c.constrain.ensures in
    let second = adds_at_most n 0 c.at_most-then-urgent.result c.constrain.new.self c.constrain-then-urgent.new.self c.at_most-then-urgent.ensures c.constrain-then-urgent.ensures in
    let both = adds_both (λ k ν. Made (pos 0) false k (ν 0 -ℤ ν n)) (λ k ν. Made (pos 0) false k (ν n -ℤ ν 0)) _ _ _ first second in
    adds_same (λ k ν. Made (pos 0) false k (ν 0 -ℤ ν n) × Made (pos 0) false k (ν n -ℤ ν 0)) (λ k ν. Made (pos 0) false k (ν 0 -ℤ ν n) × (c.args.urgent ≡ true → Made (pos 0) false k (ν n -ℤ ν 0))) _ _ (λ k ν ok. (λ p. (p.0, λ _. p.1), λ p. (p.0, p.1 c.if-urgent.true))) both

pub returns-else-urgent : goal.returns-else-urgent
returns-else-urgent g c =
    let n = c.args.second in
    let first = adds_at_most 0 n c.at_most.result c.args.table.now c.constrain.new.self c.at_most.ensures c.constrain.ensures in
    adds_same (λ k ν. Made (pos 0) false k (ν 0 -ℤ ν n)) (λ k ν. Made (pos 0) false k (ν 0 -ℤ ν n) × (c.args.urgent ≡ true → Made (pos 0) false k (ν n -ℤ ν 0))) _ _ (λ k ν ok. (λ p. (p, λ e. absurd (true≢false (sym e ∙ c.if-urgent.false))), λ p. p.0)) first
