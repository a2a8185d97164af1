-- An urgent command among some, one after another. Assumes nothing.
use Rattle.std.proofs.Common.{◌≡◌, ℕ, zero, suc, true, List, [], ◌∷◌, Some, sym, ap, ◌∙◌, subst, arith}
use Rattle.std.specs.List.{slice_get}
use Rattle.bound.specs.Time.{Same}
use Rattle.format.specs.Syntax.{Command}
use Rattle.model.specs.States.{ConditionHolds}
use Rattle.model.specs.Steps.{Urgent}

module _ (b : ℕ) where
  pub urgent_here : (l rest : List Command) (c : Command) → l ≡ c ∷ rest → c.urgent ≡ true → ConditionHolds c.condition b → Urgent l b
  urgent_here l rest c e urgent holds = record { number = 0; command = c; listed = ap (λ (q : List Command). slice_get q 0) e; urgent = urgent; condition = holds }

  -- it is the first one, or one of those after it
  past : (rest : List Command) (c : Command) → (c.urgent ≡ true → ConditionHolds c.condition b → ⊥) → (n : ℕ) (u : Command) → slice_get (c ∷ rest) n ≡ Some u → u.urgent ≡ true → ConditionHolds u.condition b → Urgent rest b
  past rest c not_here zero u listed urgent holds = let same : c ≡ u = cc in absurd (not_here (ap (λ (q : Command). q.urgent) same ∙ urgent) (subst (λ (q : Command). ConditionHolds q.condition b) (sym same) holds))
  past rest c not_here (suc n) u listed urgent holds = record { number = n; command = u; listed = listed; urgent = urgent; condition = holds }

  pub urgent_skip : (l rest : List Command) (c : Command) → l ≡ c ∷ rest → (c.urgent ≡ true → ConditionHolds c.condition b → ⊥) → Same (Urgent l b) (Urgent rest b)
  urgent_skip l rest c e not_here = (
    λ u. past rest c not_here u.number u.command (ap (λ (q : List Command). slice_get q u.number) (sym e) ∙ u.listed) u.urgent u.condition,
    λ u. record { number = suc u.number; command = u.command; listed = ap (λ (q : List Command). slice_get q (suc u.number)) e ∙ u.listed; urgent = u.urgent; condition = u.condition },
  )

  pub urgent_none : (l : List Command) → l ≡ [] → Urgent l b → ⊥
  urgent_none l e u = let listed = u.listed in let z : ◌≡◌ {A = ℕ} 0 1 = cc (ap (λ (q : List Command). slice_get q u.number) e) in omega arith
