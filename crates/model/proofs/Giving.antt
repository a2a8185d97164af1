-- What calls of `next` give where each gives the first of some items. Assumes nothing.
use Rattle.std.proofs.Common.{◌≡◌, ℕ, List, ◌∷◌, length, Some, None, Option, option_map, slice_get, MatchOption, sym, ap, arith}
use Rattle.std.specs.Iterator.{MakesProgress, SkipsThenYields, YieldsFirstBy, item_count}
use Rattle.std.proofs.lemmas.Iterator.Consumers.{YieldsList-from_first, nth_from_yields_List}

-- one item fewer is left
pub one_fewer : {S A B : Type 0} {can : S → Type 0} (rest : S → List B) {s t : S} {x : A} (y : B) → can t → rest s ≡ y ∷ rest t → MakesProgress can (item_count rest) s (Some x) t
one_fewer rest y may e = record { on = λ _. (may, tt, omega (arith, ap length e)); keeps = may; rests = λ _. tt }

matches : {A B : Type 0} (v : A → B) (r : Option A) (o : Option B) → option_map v r ≡ o → MatchOption r (o ≡ None) (λ x. o ≡ Some (v x))
matches v None o e = sym e
matches v (Some x) o e = sym e

-- the n-th item
pub nth_is : {S A B : Type 0} (v : A → B) (rest : S → List B) {s : S} {xs : List B} (n : ℕ) (r : Option A) (u : S) → SkipsThenYields (YieldsFirstBy v rest) s n r u → rest s ≡ xs → MatchOption r (slice_get xs n ≡ None) (λ x. slice_get xs n ≡ Some (v x))
nth_is v rest {xs = xs} n r u ran e = matches v r (slice_get xs n) (nth_from_yields_List r u n ran (YieldsList-from_first v rest xs e))
