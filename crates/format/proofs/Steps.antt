-- One word of the walk: what the questions come to at each kind of word, and where the walk goes then. Assumes nothing.
use Rattle.std.proofs.Common.{◌≡◌, ℕ, suc, ◌%◌, ◌^◌, Bool, true, false, not, ◌&&◌, ◌||◌, eqb, ltb, leb, List, [], ◌∷◌, ℤ, refl, ap, arith}
use Rattle.std.proofs.lemmas.Bool.{ne_eqb, lt-ltb, or_from, and_right}
use Rattle.std.proofs.lemmas.Bool.Decides.{nat_tests}
use lib.Signed.{le_z}
use Rattle.format.specs.Words.{kind, content, value, atom_i, atom_j, continues, continued}
use Rattle.format.specs.Places.{Head, Context, Slot, scan, questions, asks, goes_on, is_empty, may_stand_here, disjoint, context_after, slot_after, greatest_number, Section, begins}
use Rattle.format.specs.Places.Section.{head, start, invariant, command, bad, zone}
use Rattle.format.specs.Places.Verdict.{yes_to_all, first_no}
use Rattle.format.specs.Places.Scan.{stopped, passed}
use Rattle.format.specs.Places.Slot.{onesMask, zerosMask, setMask, clearMask, resetMask, owed, atomOr, atomNumber, between, opening, starting}
use Rattle.format.specs.Reading.{TakesMask, TakesNumber, BeginsNext}

pub same_scan : (h k : Head) (x y : Context) (s r : Slot) (i j : ℕ) (ws vs : List ℕ) → h ≡ k → x ≡ y → s ≡ r → i ≡ j → ws ≡ vs → scan h x s i ws ≡ scan k y r j vs
same_scan h k x y s r i j ws vs a b c d e = λ l. scan (a l) (b l) (c l) (d l) (e l)

module _ (h : Head) (x : Context) (s : Slot) (i : ℕ) where
  pub stop_at : (n w : ℕ) (ws : List ℕ) → questions h x s (is_empty ws) w ≡ first_no n → scan h x s i (w ∷ ws) ≡ stopped n i
  unfolding scan
  stop_at n w ws e = ap (λ v. goes_on v i (eqb (kind w) 15) x.tally (scan h (context_after x s w) (slot_after x s w) (suc i) ws)) e

  pub go_on : (w : ℕ) (ws : List ℕ) → questions h x s (is_empty ws) w ≡ yes_to_all → eqb (kind w) 15 ≡ false → scan h x s i (w ∷ ws) ≡ scan h (context_after x s w) (slot_after x s w) (suc i) ws
  unfolding scan
  go_on w ws e n = rw (e, n) refl

  pub finish : (w : ℕ) (ws : List ℕ) → questions h x s (is_empty ws) w ≡ yes_to_all → eqb (kind w) 15 ≡ true → scan h x s i (w ∷ ws) ≡ passed x.tally
  unfolding scan
  finish w ws e n = rw (e, n) refl

  -- no word that may stand
  pub misplaced : (ws : List ℕ) → ((w : ℕ) (more : List ℕ) → ws ≡ w ∷ more → may_stand_here x s (is_empty more) w ≡ false) → scan h x s i ws ≡ stopped 5 i
  unfolding scan
  misplaced [] never = refl
  misplaced (w ∷ ws) never = stop_at 5 w ws (rw (never w ws refl) refl)

pub questions_mask : (h : Head) (x : Context) (s : Slot) (last : Bool) (w : ℕ) → TakesMask s → kind w ≡ 4 → questions h x s last w ≡ asks (ltb (content w) (2 ^ 24)) 6 (asks (ltb (content w) (2 ^ h.booleans)) 7 (asks (disjoint s w) 9 yes_to_all))
questions_mask h x (opening f) last w t e = absurd t
questions_mask h x starting last w t e = absurd t
questions_mask h x onesMask last w t e = simp e
questions_mask h x zerosMask last w t e = simp e
questions_mask h x setMask last w t e = simp e
questions_mask h x (clearMask m) last w t e = simp e
questions_mask h x resetMask last w t e = absurd t
questions_mask h x (owed n) last w t e = absurd t
questions_mask h x (atomOr a) last w t e = absurd t
questions_mask h x (atomNumber a) last w t e = absurd t
questions_mask h x between last w t e = absurd t

-- a number word has no unused bits
pub full : (w : ℕ) → ltb (w % 268435456) 268435456 ≡ true
full w = lt-ltb _ _ (omega arith)

pub questions_number : (h : Head) (x : Context) (s : Slot) (last : Bool) (w : ℕ) (least : ℤ) → TakesNumber least s → kind w ≡ 10 → questions h x s last w ≡ asks (le_z least (value w) && le_z (value w) greatest_number) 8 yes_to_all
questions_number h x (opening f) last w least t e = absurd t
questions_number h x starting last w least t e = absurd t
questions_number h x onesMask last w least t e = absurd t
questions_number h x zerosMask last w least t e = absurd t
questions_number h x setMask last w least t e = absurd t
questions_number h x (clearMask m) last w least t e = absurd t
questions_number h x resetMask last w least t e = absurd t
questions_number h x (owed n) last w least t e = simp (e, full, t)
questions_number h x (atomOr a) last w least t e = absurd t
questions_number h x (atomNumber a) last w least t e = simp (e, full, t)
questions_number h x between last w least t e = absurd t

pub questions_reset : (h : Head) (x : Context) (last : Bool) (w : ℕ) → kind w ≡ 5 → questions h x resetMask last w ≡ asks (ltb (content w) (2 ^ 15)) 6 (asks (ltb (content w) (2 ^ h.clocks)) 7 yes_to_all)
questions_reset h x last w e = simp e

pub questions_atom : (h : Head) (x : Context) (a : ℕ) (last : Bool) (w : ℕ) → kind w ≡ 9 → questions h x (atomOr a) last w ≡ asks (ltb (content w) (2 ^ 9)) 6 (asks (leb (atom_i w) h.clocks && leb (atom_j w) h.clocks && not (eqb (atom_i w) (atom_j w))) 7 (asks (not x.urgent) 10 (asks (ltb a 64) 11 yes_to_all)))
questions_atom h x a last w e = simp e

-- a word that continues a record is counted
pub one_continued : (w : ℕ) (ws : List ℕ) → continues w ≡ true → continued (w ∷ ws) ≡ suc (continued ws)
unfolding continued
one_continued w ws e = rw e

pub none_continued : (w : ℕ) (ws : List ℕ) → continues w ≡ false → continued (w ∷ ws) ≡ 0
unfolding continued
none_continued w ws e = rw e

-- where no atom comes, it does not matter how many came
pub skip_atoms : (h : Head) (x : Context) (a i : ℕ) (ws : List ℕ) → ((w : ℕ) (more : List ℕ) → ws ≡ w ∷ more → kind w ≡ 9 → ⊥) → scan h x (atomOr a) i ws ≡ scan h x between i ws
unfolding scan
skip_atoms h x a i [] never = refl
skip_atoms h x a i (w ∷ ws) never = let no : eqb (kind w) 9 ≡ false = ne_eqb _ _ (never w ws refl) in simp no

never_begins : (s : Section) (k : ℕ) → (eqb k 4 || eqb k 5 || eqb k 9 || eqb k 10) ≡ true → (begins s k ≡ false) × (eqb k 15 ≡ false) × (eqb k 2 ≡ false)
never_begins head k e = (grind (arith, nat_tests), grind (arith, nat_tests), grind (arith, nat_tests))
never_begins start k e = (grind (arith, nat_tests), grind (arith, nat_tests), grind (arith, nat_tests))
never_begins invariant k e = (grind (arith, nat_tests), grind (arith, nat_tests), grind (arith, nat_tests))
never_begins command k e = (grind (arith, nat_tests), grind (arith, nat_tests), grind (arith, nat_tests))
never_begins bad k e = (grind (arith, nat_tests), grind (arith, nat_tests), grind (arith, nat_tests))
never_begins zone k e = (grind (arith, nat_tests), grind (arith, nat_tests), grind (arith, nat_tests))

-- a word that continues a record begins none, and ends no file
pub not_due : (x : Context) (s : Slot) (last : Bool) (w : ℕ) → BeginsNext s → continues w ≡ true → may_stand_here x s last w ≡ false
not_due x (opening f) last w b e = absurd b
not_due x starting last w b e = (never_begins x.section (kind w) e).2
not_due x onesMask last w b e = absurd b
not_due x zerosMask last w b e = absurd b
not_due x setMask last w b e = absurd b
not_due x (clearMask m) last w b e = absurd b
not_due x resetMask last w b e = absurd b
not_due x (owed n) last w b e = absurd b
not_due x (atomOr a) last w b e = absurd b
not_due x (atomNumber a) last w b e = absurd b
not_due x between last w b e = let n = never_begins x.section (kind w) e in or_from _ _ n.0 (and_right last _ n.1)
