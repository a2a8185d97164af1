-- A fact of each member of a list, told one member after another. Assumes nothing.
use Rattle.std.proofs.Common.{◌≡◌, List, [], ◌∷◌, sym, subst}
use Rattle.std.specs.List.{AllByRecursion}
use Rattle.bound.specs.Time.{Same}

module _ {X : Type 0} (P : X → Type 0) (all : List X) where
  -- all have it exactly when those that are left have it
  abbrev pub Left : List X → Type 0
  Left left = Same (AllByRecursion P all) (AllByRecursion P left)

  pub left_none : Left all
  left_none = (λ a. a, λ a. a)

  pub left_more : (left rest : List X) (x : X) → left ≡ x ∷ rest → P x → Left left → Left rest
  left_more left rest x e here l = (λ a. (subst (AllByRecursion P) e (l.0 a)).1, λ a. l.1 (subst (AllByRecursion P) (sym e) (here, a)))

  pub left_done : (left : List X) → left ≡ [] → Left left → AllByRecursion P all
  left_done left e l = l.1 (subst (AllByRecursion P) (sym e) tt)

  pub left_fails : (left rest : List X) (x : X) → left ≡ x ∷ rest → (P x → ⊥) → Left left → AllByRecursion P all → ⊥
  left_fails left rest x e fails l a = fails (subst (AllByRecursion P) e (l.0 a)).0

-- nothing is asked of each member
pub all_units : {X : Type 0} (l : List X) → AllByRecursion (λ x. Unit {0}) l
all_units [] = tt
all_units (x ∷ l) = (tt, all_units l)
