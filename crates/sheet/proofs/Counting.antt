-- How far the checks of a list are settled, after any series of calls. Assumes nothing.
use Rattle.std.proofs.Common.{◌≡◌, ℕ, zero, suc, ◌+◌, ◌<◌, ◌≤◌, Bool, true, false, ◌⊎◌, List, [], ◌∷◌, length, Some, None, sym, refl, ap, ◌∙◌, subst, ⊎_elim, arith}
use Rattle.std.specs.List.{slice_get, AllByRecursion}
use Rattle.std.proofs.lemmas.Option.{slice_get_past}
use Rattle.std.proofs.lemmas.Bool.{true≢false, cases_eq}
use Rattle.bound.specs.Time.{Same}
use Rattle.checks.proofs.Lowest.{all_nth}
use Rattle.sheet.specs.Tracking.{Progress}

-- a member has a place below the length
pub nth_in : {X : Type 0} (l : List X) (n : ℕ) (x : X) → slice_get l n ≡ Some x → n < length l
nth_in [] n x e = let z : ◌≡◌ {A = ℕ} 0 1 = cc in absurd (omega arith)
nth_in (y ∷ l) zero x e = omega arith
nth_in (y ∷ l) (suc n) x e = let h = nth_in l n x e in omega arith

pub nth_out : {X : Type 0} (l : List X) (n : ℕ) → slice_get l n ≡ None → length l ≤ n
nth_out [] n e = omega arith
nth_out (y ∷ l) zero e = let z : ◌≡◌ {A = ℕ} 0 1 = cc in absurd (omega arith)
nth_out (y ∷ l) (suc n) e = let h = nth_out l n e in omega arith

pub all_from_nth : {X : Type 0} (P : X → Type 0) (l : List X) → ((n : ℕ) (x : X) → slice_get l n ≡ Some x → P x) → AllByRecursion P l
all_from_nth P [] h = tt
all_from_nth P (x ∷ l) h = (h 0 x refl, all_from_nth P l (λ n y e. h (suc n) y e))

module _ {X : Type 0} (P : X → Type 0) (l : List X) where
  pub progress_none : Progress P l 0 false 0
  progress_none = record {
    below = λ k x less e. absurd (omega arith);
    going = λ _. omega arith;
    stopped = λ e. absurd (true≢false (sym e));
  }

  pub progress_holds : (count a : ℕ) (x : X) → slice_get l count ≡ Some x → P x → Progress P l count false a → Progress P l (count + 1) false (a + 1)
  progress_holds count a x e p g = let inside = nth_in l count x e in let here = g.going refl in record {
    below = λ k y less d. ⊎_elim (λ same. let listed : slice_get l count ≡ Some y = ap (slice_get l) (sym same) ∙ d in let one : x ≡ y = cc in subst P one p) (λ other. g.below k y (omega arith) d) (cases_eq k count);
    going = λ _. omega arith;
    stopped = λ f. absurd (true≢false (sym f));
  }

  pub progress_fails : (count a : ℕ) (x : X) → slice_get l count ≡ Some x → (P x → ⊥) → Progress P l count false a → Progress P l count true (a + 1)
  progress_fails count a x e fails g = let here = g.going refl in record {
    below = g.below;
    going = λ f. absurd (true≢false f);
    stopped = λ _. (x, e, fails, omega arith);
  }

  -- a call that finds no check left, or a failing
  pub progress_over : (count a : ℕ) (failing : Bool) → ((failing ≡ true) ⊎ (slice_get l count ≡ None)) → Progress P l count failing a → Progress P l count failing (a + 1)
  progress_over count a failing over g = record {
    below = g.below;
    going = λ f. let here = g.going f in ⊎_elim (λ t. absurd (true≢false (sym t ∙ f))) (λ none. let past = nth_out l count none in omega arith) over;
    stopped = λ t. let s = g.stopped t in (s.0, s.1, s.2, omega (arith, s.3));
  }

  -- all are settled exactly when all hold and there were calls enough
  pub settled : (count a : ℕ) (failing : Bool) → Progress P l count failing a → Same ((failing ≡ false) × (slice_get l count ≡ None)) (AllByRecursion P l × (length l ≤ a))
  settled count a failing g = (
    λ h. let here = g.going h.0 in let past = nth_out l count h.1 in (all_from_nth P l (λ n x e. let inside = nth_in l n x e in g.below n x (omega arith) e), omega arith),
    λ h. both failing g h.0 h.1,
  ) where
    both : (f : Bool) → Progress P l count f a → AllByRecursion P l → length l ≤ a → (f ≡ false) × (slice_get l count ≡ None)
    both false p all enough = let here = p.going refl in (refl, slice_get_past l count (omega arith))
    both true p all enough = let s = p.stopped refl in absurd (s.2 (all_nth P l count s.0 all s.1))

  pub settled_count : (count a : ℕ) → Progress P l count false a → slice_get l count ≡ None → count ≡ length l
  settled_count count a g none = let here = g.going refl in let past = nth_out l count none in omega arith
