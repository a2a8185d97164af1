-- The check at a place of the order, zone by zone. Assumes nothing.
use Rattle.std.proofs.Common.{◌≡◌, ℕ, zero, suc, ◌+◌, ◌-◌, ◌*◌, ◌<◌, ◌≤◌, Bool, true, false, List, [], ◌∷◌, ◌++◌, map, length, get_or, Some, None, refl, ap, ◌∙◌, arith}
use Rattle.std.specs.List.{slice_get}
use Rattle.std.specs.Option.{option_map}
use Rattle.std.proofs.lemmas.List.{length-map}
use Rattle.std.proofs.lemmas.Option.{slice_get-map}
use Rattle.checks.specs.declared.check.Check.{Check}
use Rattle.checks.specs.declared.check.Check.TheVariants.{Bad, Time, Command}
use Rattle.std.proofs.lemmas.Nat.{mul-le}
use Rattle.std.proofs.lemmas.Bool.{cond_both}
use Rattle.sheet.specs.Order.{counting, checks_of, checks_from, order, unstruck_from}
use Rattle.sheet.proofs.Counting.{nth_in}
use Rattle.sheet.proofs.Ordering.{length_counting, length_of, length_order}

nth_front : {X : Type 0} (xs ys : List X) (k : ℕ) → k < length xs → slice_get (xs ++ ys) k ≡ slice_get xs k
nth_front [] ys k less = absurd (omega arith)
nth_front (x ∷ xs) ys zero less = refl
nth_front (x ∷ xs) ys (suc k) less = nth_front xs ys k (omega arith)

nth_after : {X : Type 0} (xs ys : List X) (k j : ℕ) → k ≡ length xs + j → slice_get (xs ++ ys) k ≡ slice_get ys j
nth_after [] ys k j e = ap (slice_get ys) (omega arith)
nth_after (x ∷ xs) ys zero j e = absurd (omega arith)
nth_after (x ∷ xs) ys (suc k) j e = nth_after xs ys k j (omega arith)

nth_counted : (k n i : ℕ) → i < n → slice_get (counting k n) i ≡ Some (k + i)
unfolding counting
nth_counted k zero i less = absurd (omega arith)
nth_counted k (suc n) zero less = ap Some (omega arith)
nth_counted k (suc n) (suc i) less = nth_counted (suc k) n i (omega arith) ∙ ap Some (omega arith)

module _ (bads commands n : ℕ) where
  length_bads : length (map (Bad n) (counting 0 bads)) ≡ bads
  length_bads = length-map (counting 0 bads) (Bad n) ∙ length_counting 0 bads

  pub of_bad : (k : ℕ) → k < bads → slice_get (checks_of bads commands n) k ≡ Some (Bad n k)
  unfolding checks_of
  of_bad k less = nth_front (map (Bad n) (counting 0 bads)) (Time n ∷ map (Command n) (counting 0 commands)) k (omega (arith, length_bads)) ∙ slice_get-map (Bad n) (counting 0 bads) k ∙ ap (option_map (Bad n)) (nth_counted 0 bads k less) ∙ ap (λ (i : ℕ). Some (Bad n i)) (omega arith)

  pub of_time : (k : ℕ) → k ≡ bads → slice_get (checks_of bads commands n) k ≡ Some (Time n)
  unfolding checks_of
  of_time k e = nth_after (map (Bad n) (counting 0 bads)) (Time n ∷ map (Command n) (counting 0 commands)) k 0 (omega (arith, length_bads))

  pub of_command : (k : ℕ) → bads < k → k < bads + 1 + commands → slice_get (checks_of bads commands n) k ≡ Some (Command n (k - bads - 1))
  unfolding checks_of
  of_command k more less =
      nth_after (map (Bad n) (counting 0 bads)) (Time n ∷ map (Command n) (counting 0 commands)) k (suc (k - bads - 1)) (omega (arith, length_bads))
      ∙ slice_get-map (Command n) (counting 0 commands) (k - bads - 1) ∙ ap (option_map (Command n)) (nth_counted 0 commands (k - bads - 1) (omega arith)) ∙ ap (λ (i : ℕ). Some (Command n i)) (omega arith)

module _ (bads commands : ℕ) (struck : List Bool) (n zones : ℕ) (less : n < zones) where
  one_more : zones - n ≡ suc (zones - (n + 1))
  one_more = omega arith

  next_zone : suc n ≡ n + 1
  next_zone = omega arith

  -- zone n is struck: its checks are passed over
  pub passed_over : (left : ℕ) → get_or struck n false ≡ true → slice_get (checks_from bads commands struck n (zones - n)) left ≡ slice_get (checks_from bads commands struck (n + 1) (zones - (n + 1))) left
  unfolding checks_from
  passed_over left e = ap (λ (l : ℕ). slice_get (checks_from bads commands struck n l) left) one_more ∙ rw e (ap (λ (l : ℕ). slice_get (checks_from bads commands struck l (zones - (n + 1))) left) next_zone)

  -- zone n is not struck: the check is among its checks, or after them
  pub among : (left : ℕ) → get_or struck n false ≡ false → left < bads + 1 + commands → slice_get (checks_from bads commands struck n (zones - n)) left ≡ slice_get (checks_of bads commands n) left
  unfolding checks_from
  among left e here = ap (λ (l : ℕ). slice_get (checks_from bads commands struck n l) left) one_more ∙ rw e (nth_front (checks_of bads commands n) (checks_from bads commands struck (suc n) (zones - (n + 1))) left (omega (arith, length_of bads commands n)))

  pub beyond : (left : ℕ) → get_or struck n false ≡ false → bads + 1 + commands ≤ left → slice_get (checks_from bads commands struck n (zones - n)) left ≡ slice_get (checks_from bads commands struck (n + 1) (zones - (n + 1))) (left - (bads + 1 + commands))
  unfolding checks_from
  beyond left e there = ap (λ (l : ℕ). slice_get (checks_from bads commands struck n l) left) one_more ∙ rw e (nth_after (checks_of bads commands n) (checks_from bads commands struck (suc n) (zones - (n + 1))) left (left - (bads + 1 + commands)) (omega (arith, length_of bads commands n)) ∙ ap (λ (l : ℕ). slice_get (checks_from bads commands struck l (zones - (n + 1))) (left - (bads + 1 + commands))) next_zone)

pub none_beyond : (bads commands : ℕ) (struck : List Bool) (n zones left : ℕ) → zones ≤ n → slice_get (checks_from bads commands struck n (zones - n)) left ≡ None
unfolding checks_from
none_beyond bads commands struck n zones left past = let none : zones - n ≡ 0 = omega arith in ap (λ (l : ℕ). slice_get (checks_from bads commands struck n l) left) none

-- past the start check, the checks of the zones
pub after_start : (bads commands : ℕ) (struck : List Bool) (zones number : ℕ) → (number ≡ 0 → ⊥) → slice_get (order bads commands struck zones) number ≡ slice_get (checks_from bads commands struck 0 (zones - 0)) (number - 1)
after_start bads commands struck zones zero some = absurd (some refl)
after_start bads commands struck zones (suc n) some = let z : zones ≡ zones - 0 = omega arith in let e : n ≡ suc n - 1 = omega arith in λ i. slice_get (checks_from bads commands struck 0 (z i)) (e i)

-- ---- no count is large

unstruck_le : (struck : List Bool) (n more : ℕ) → unstruck_from struck n more ≤ more
unfolding unstruck_from
unstruck_le struck n zero = omega arith
unstruck_le struck n (suc more) = let l = unstruck_le struck (suc n) more in cond_both (get_or struck n false) (unstruck_from struck (suc n) more) (suc (unstruck_from struck (suc n) more)) (λ k. k ≤ suc more) (λ _. omega arith) (λ _. omega arith)

pub count_small : (bads commands : ℕ) (struck : List Bool) (zones number : ℕ) (c : Check) → bads ≤ 32 → commands ≤ 64 → zones ≤ 512 → slice_get (order bads commands struck zones) number ≡ Some c → number < 49665
count_small bads commands struck zones number c few_bads few_commands few_zones e =
    omega (arith, nth_in (order bads commands struck zones) number c e, length_order bads commands struck zones, mul-le (unstruck_from struck 0 zones) (bads + 1 + commands) 512 97 (omega (arith, unstruck_le struck 0 zones)) (omega arith))

-- ---- past the checks of all zones there is none, whatever is struck

nth_past : {X : Type 0} (l : List X) (k : ℕ) → length l ≤ k → slice_get l k ≡ None
nth_past [] k le = refl
nth_past (x ∷ xs) zero le = absurd (omega arith)
nth_past (x ∷ xs) (suc k) le = nth_past xs k (omega arith)

pub past_all : (bads commands : ℕ) (struck : List Bool) (zones number : ℕ) → zones * (bads + 1 + commands) < number → slice_get (order bads commands struck zones) number ≡ None
past_all bads commands struck zones number past =
    nth_past (order bads commands struck zones) number (omega (arith, length_order bads commands struck zones, mul-le (unstruck_from struck 0 zones) (bads + 1 + commands) zones (bads + 1 + commands) (unstruck_le struck 0 zones) (omega arith), past))
