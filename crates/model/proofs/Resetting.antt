-- The resets of a mask, bit by bit. Assumes nothing.
use Rattle.std.proofs.Common.{◌≡◌, ℕ, zero, suc, ◌+◌, ◌-◌, ◌/◌, ◌%◌, ◌^◌, ◌<◌, ◌≤◌, Bool, true, false, ◌==◌, List, [], ◌∷◌, ℤ, Option, Some, None, find, sym, refl, ap, ◌∙◌, ⊎_elim, add-one, arith}
use Rattle.std.specs.List.{range_with_len, AllByRecursion}
use Rattle.std.proofs.lemmas.Bool.{cases_Bool, cond_both}
use Rattle.std.proofs.lemmas.Nat.{shr-shr}
use Rattle.format.specs.Words.{value}
use Rattle.format.specs.Syntax.{Reset, resets_from}
use Rattle.model.specs.Views.{words_left}
use Rattle.model.specs.Views.{resets_in, IsOfClock, Rise}
use Rattle.model.specs.declared.resets.Resets.{Resets}

-- the resets of a mask from a bit on, at most so many bits of it
abbrev pub resets_at : ℕ → ℕ → ℕ → List ℕ → List Reset
resets_at mask bits bit ns = resets_from bits (bit + 1) (mask / 2 ^ bit) ns

abbrev is_reset : ℕ → ℕ → Bool
is_reset mask bit = mask / 2 ^ bit % 2 == 1

pub resets_none : (mask bits bit : ℕ) → resets_at mask bits bit [] ≡ []
unfolding resets_from
resets_none mask zero bit = refl
resets_none mask (suc bits) bit = refl

module _ (mask : ℕ) where
  next_bit : (bits bit : ℕ) (ns : List ℕ) → resets_from bits (suc (bit + 1)) (mask / 2 ^ bit / 2) ns ≡ resets_at mask bits (bit + 1) ns
  next_bit bits bit ns i = resets_from bits (sym (add-one (bit + 1)) i) (shr-shr mask bit 1 i) ns

  -- the next bit is 0: its clock is not reset
  resets_skip : (bits bit : ℕ) (ns : List ℕ) → is_reset mask bit ≡ false → resets_at mask (suc bits) bit ns ≡ resets_at mask bits (bit + 1) ns
  unfolding resets_from
  resets_skip bits bit [] other = sym (resets_none mask bits (bit + 1))
  resets_skip bits bit (n ∷ ns) other = rw other (next_bit bits bit (n ∷ ns))

  -- the next bit is 1: its clock gets the next number
  resets_hit : (bits bit n : ℕ) (ns : List ℕ) → is_reset mask bit ≡ true → resets_at mask (suc bits) bit (n ∷ ns) ≡ record { clock = bit + 1; number = value n } ∷ resets_at mask bits (bit + 1) ns
  unfolding resets_from
  resets_hit bits bit n ns is = rw is (ap (λ l. record { clock = bit + 1; number = value n } ∷ l) (next_bit bits bit ns))

  -- no bit is left
  pub resets_missing : (bits bit : ℕ) (ns : List ℕ) → find (is_reset mask) (range_with_len bit bits) ≡ None → resets_at mask bits bit ns ≡ []
  unfolding resets_from
  resets_missing zero bit ns e = refl
  resets_missing (suc bits) bit ns e =
      ⊎_elim
      (λ (is : is_reset mask bit ≡ true). let some : ◌≡◌ {A = Option ℕ} (Some bit) None = rw is at e in cc)
      (λ (no : is_reset mask bit ≡ false). resets_skip bits bit ns no ∙ resets_missing bits (bit + 1) ns (rw no at e))
      (cases_Bool (is_reset mask bit))

  -- the next bit that is 1 is found: its clock gets the next number
  pub resets_found : (bits bit found n : ℕ) (ns : List ℕ) → find (is_reset mask) (range_with_len bit bits) ≡ Some found → resets_at mask bits bit (n ∷ ns) ≡ record { clock = found + 1; number = value n } ∷ resets_at mask (bit + bits - (found + 1)) (found + 1) ns
  resets_found zero bit found n ns e = let some : ◌≡◌ {A = Option ℕ} None (Some found) = e in cc
  resets_found (suc bits) bit found n ns e =
      ⊎_elim
      (λ (is : is_reset mask bit ≡ true).
      let here : bit ≡ found = (let some : ◌≡◌ {A = Option ℕ} (Some bit) (Some found) = rw is at e in cc) in
      let left : bits ≡ bit + suc bits - (found + 1) = omega arith in
      resets_hit bits bit n ns is ∙ (λ i. record { clock = here i + 1; number = value n } ∷ resets_at mask (left i) (here i + 1) ns))
      (λ (no : is_reset mask bit ≡ false).
      let left : bit + 1 + bits - (found + 1) ≡ bit + suc bits - (found + 1) = omega arith in
      resets_skip bits bit (n ∷ ns) no ∙ resets_found bits (bit + 1) found n ns (rw no at e)
      ∙ ap (λ (b : ℕ). record { clock = found + 1; number = value n } ∷ resets_at mask b (found + 1) ns) left)
      (cases_Bool (is_reset mask bit))

  pub found_within : (bits bit found : ℕ) → find (is_reset mask) (range_with_len bit bits) ≡ Some found → (bit ≤ found) × (found < bit + bits)
  found_within zero bit found e = let some : ◌≡◌ {A = Option ℕ} None (Some found) = e in cc
  found_within (suc bits) bit found e =
      ⊎_elim
      (λ (is : is_reset mask bit ≡ true). let here : bit ≡ found = (let some : ◌≡◌ {A = Option ℕ} (Some bit) (Some found) = rw is at e in cc) in (omega arith, omega arith))
      (λ (no : is_reset mask bit ≡ false). let w = found_within bits (bit + 1) found (rw no at e) in (omega arith, omega arith))
      (cases_Bool (is_reset mask bit))

-- ---- the clocks of some resets

-- what holds of each clock from the first one on, so many of them, holds of all resets
each : (P : Reset → Type 0) (bits clock mask : ℕ) (ns : List ℕ) → ((k : ℕ) (v : ℤ) → clock ≤ k → k < clock + bits → P (record { clock = k; number = v })) → AllByRecursion P (resets_from bits clock mask ns)
unfolding resets_from
each P zero clock mask ns holds = tt
each P (suc bits) clock mask [] holds = tt
each P (suc bits) clock mask (n ∷ ns) holds =
    let later = λ (k : ℕ) (v : ℤ) (low : suc clock ≤ k) (high : k < suc clock + bits). holds k v (omega arith) (omega arith) in
    cond_both (mask % 2 == 1) (record { clock = clock; number = value n } ∷ resets_from bits (suc clock) (mask / 2) ns) (resets_from bits (suc clock) (mask / 2) (n ∷ ns))
    (λ l. AllByRecursion P l)
    (λ _. (holds clock (value n) (omega arith) (omega arith), each P bits (suc clock) (mask / 2) ns later))
    (λ _. each P bits (suc clock) (mask / 2) (n ∷ ns) later)

-- each is a clock of a state
pub clocks_known : (l : Resets) → AllByRecursion IsOfClock (resets_in l)
clocks_known l = each _ (15 - l.bit) (l.bit + 1) (l.mask / 2 ^ l.bit) (words_left l.numbers) (λ k v low high. (omega arith, omega arith))

rise_from : (bits clock mask : ℕ) (ns : List ℕ) → Rise (resets_from bits clock mask ns)
unfolding resets_from
rise_from zero clock mask ns = tt
rise_from (suc bits) clock mask [] = tt
rise_from (suc bits) clock mask (n ∷ ns) =
    cond_both (mask % 2 == 1) (record { clock = clock; number = value n } ∷ resets_from bits (suc clock) (mask / 2) ns) (resets_from bits (suc clock) (mask / 2) (n ∷ ns))
    Rise
    (λ _. (each (λ later. clock < later.clock) bits (suc clock) (mask / 2) ns (λ k v low high. omega arith), rise_from bits (suc clock) (mask / 2) ns))
    (λ _. rise_from bits (suc clock) (mask / 2) (n ∷ ns))

-- those that come later are of higher clocks
pub clocks_rise : (l : Resets) → Rise (resets_in l)
clocks_rise l = rise_from (15 - l.bit) (l.bit + 1) (l.mask / 2 ^ l.bit) (words_left l.numbers)
