-- What the reader of words learns of the walk, word by word. Assumes nothing.
use Rattle.std.proofs.Common.{◌≡◌, ℕ, suc, ◌+◌, ◌-◌, ◌^◌, ◌<◌, ◌≤◌, Bool, true, false, not, ◌&&◌, eqb, ltb, leb, List, [], ◌∷◌, drop, ℤ, pos, Some, None, Option, Ok, Err, Result, MatchOption, MatchResult, sym, refl, ap, ◌∙◌, subst, add-one, arith}
use Rattle.std.proofs.lemmas.List.{drop-drop}
use Rattle.std.proofs.lemmas.Bool.{true≢false, ne_eqb, ltb-true, lt-ltb, eq-eqb, le-ltb}
use lib.Bits.{bit_and}
use lib.Count.{ones}
use lib.Signed.{le_z}
use Rattle.format.specs.Words.{kind, content, value, continues, continued, atom_i, atom_j}
use Rattle.format.specs.Places.{Context, Slot, Verdict, scan, questions, asks, may_stand_here, disjoint, context_after, slot_after, after_condition, owing, greatest_number, least_number}
use Rattle.format.specs.Places.Verdict.{yes_to_all, first_no}
use Rattle.format.specs.Places.Scan.{stopped}
use Rattle.format.specs.Places.Slot.{onesMask, zerosMask, setMask, clearMask, resetMask, owed, atomOr, atomNumber, between, opening, starting}
use Rattle.format.specs.Faults.{word_stop, six_seven, eight}
use Rattle.format.specs.Reading.{Takes, TakesMask, TakesNumber, NotNext, BeginsNext, Mask, Moves, Number, Goes, Stops, reading, words_of, head_of}
use Rattle.format.specs.declared.fault.WordFault.{WordFault}
use Rattle.format.specs.declared.fault.WordFault.TheVariants.{UnusedBits, UnknownName, OutOfRange}
use Rattle.format.specs.declared.fault.RecordFault.{RecordFault}
use Rattle.format.specs.declared.fault.RecordFault.TheVariants.{Misplaced, SetAndClear, UrgentAtom, Surplus, Word}
use Rattle.format.specs.declared.scope.Scope.{Scope}
use Rattle.format.specs.declared.scope.Text.{Text}
use Rattle.format.proofs.Steps.{stop_at, go_on, misplaced, questions_mask, questions_number, questions_reset, questions_atom, one_continued, none_continued, skip_atoms, not_due, same_scan}

-- ---- one word taken

-- a no to a question at the next word
pub stops_at : (t : Text) (x : Context) (s : Slot) (w n : ℕ) (more : List ℕ) → words_of t ≡ w ∷ more → ((last : Bool) → questions (head_of t.scope) x s last w ≡ first_no n) → reading t x s ≡ stopped n t.next
stops_at t x s w n more here q = ap (scan (head_of t.scope) x s t.next) here ∙ stop_at _ x s _ n w more (q _)

-- where words of one kind alone may stand, and none comes next
pub none_due : (t : Text) (x : Context) (s : Slot) (n : ℕ) → ((last : Bool) (w : ℕ) → may_stand_here x s last w ≡ eqb (kind w) n) → NotNext t n → reading t x s ≡ stopped 5 t.next
none_due t x s n only never = misplaced _ x s _ _ (λ w more e. only _ w ∙ ne_eqb (kind w) n (never w more e))

pub moves_none : (t : Text) → Moves t t
moves_none t = let none : t.next - t.next ≡ 0 = omega arith in record { later = omega arith; left = ap (λ (n : ℕ). drop n (words_of t)) (sym none); same_scope = refl }

pub moves_one : (t : Text) (w : ℕ) (q : Text) → Takes t w q → Moves t q
moves_one t w q here =
    let one : q.next - t.next ≡ 1 = omega (arith, here.next) in
    record { later = omega (arith, here.next); left = sym (ap (λ (n : ℕ). drop n (words_of t)) one ∙ ap (drop 1) here.first); same_scope = here.same_scope }

pub moves_trans : (t q u : Text) → Moves t q → Moves q u → Moves t u
moves_trans t q u a b =
    let all : q.next - t.next + (u.next - q.next) ≡ u.next - t.next = omega (arith, a.later, b.later) in
    record {
      later = omega (arith, a.later, b.later);
      left = b.left ∙ ap (drop (u.next - q.next)) a.left ∙ drop-drop (u.next - q.next) (q.next - t.next) (words_of t) ∙ ap (λ (n : ℕ). drop n (words_of t)) all;
      same_scope = b.same_scope ∙ a.same_scope;
    }

pub goes_trans : (t : Text) (x : Context) (s : Slot) (q : Text) (r : Slot) (u : Text) (z : Slot) → Goes t x s q r → Goes q x r u z → Goes t x s u z
goes_trans t x s q r u z a b = record { moves = moves_trans t q u a.moves b.moves; walks = a.walks ∙ b.walks; continues = a.continues ∙ b.continues }

-- a word that may stand and continues its record, in the same context
pub goes_one : (t : Text) (x : Context) (s : Slot) (w : ℕ) (q : Text) → Takes t w q → ((last : Bool) → questions (head_of t.scope) x s last w ≡ yes_to_all) → continues w ≡ true → eqb (kind w) 15 ≡ false → context_after x s w ≡ x → Goes t x s q (slot_after x s w)
goes_one t x s w q here ask more no_end same = record {
  moves = moves_one t w q here;
  walks = ap (scan (head_of t.scope) x s t.next) here.first ∙ go_on _ x s _ w _ (ask _) no_end ∙ same_scan _ _ _ _ _ _ _ _ _ _ (ap head_of (sym here.same_scope)) same refl (sym here.next) refl;
  continues = let one : continued (words_of t) ≡ suc (continued (words_of q)) = ap continued here.first ∙ one_continued w _ more in omega (arith, here.next);
}

-- ---- masks

pub mask_only : (x : Context) (s : Slot) → TakesMask s → (last : Bool) (w : ℕ) → may_stand_here x s last w ≡ eqb (kind w) 4
mask_only x (opening f) t last w = absurd t
mask_only x starting t last w = absurd t
mask_only x onesMask t last w = refl
mask_only x zerosMask t last w = refl
mask_only x setMask t last w = refl
mask_only x (clearMask m) t last w = refl
mask_only x resetMask t last w = absurd t
mask_only x (owed n) t last w = absurd t
mask_only x (atomOr a) t last w = absurd t
mask_only x (atomNumber a) t last w = absurd t
mask_only x between t last w = absurd t

pub no_mask : (t : Text) → NotNext t 4 → (x : Context) (s : Slot) → TakesMask s → Stops t x s (Misplaced t.next)
no_mask t never x s takes = none_due t x s 4 (mask_only x s takes) never

-- questions 6 and 7, where nothing is asked before them
pub six_seven_stops : (t : Text) (x : Context) (s : Slot) (w : ℕ) (ws : List ℕ) (used known : Bool) (more : Verdict) (v : ℕ) (f : WordFault) → words_of t ≡ w ∷ ws → ((last : Bool) → questions (head_of t.scope) x s last w ≡ asks used 6 (asks known 7 more)) → six_seven used known t.next v ≡ Err f → reading t x s ≡ word_stop f
six_seven_stops t x s w ws false known more v f here q e = let same : UnusedBits t.next ≡ f = cc in stops_at t x s w 6 ws here q ∙ ap word_stop same
six_seven_stops t x s w ws true false more v f here q e = let same : UnknownName t.next ≡ f = cc in stops_at t x s w 7 ws here q ∙ ap word_stop same
six_seven_stops t x s w ws true true more v f here q e = let no : ◌≡◌ {A = ℕ} 0 1 = cc in absurd (omega arith)

pub wrong_mask : (t : Text) (w : ℕ) (q : Text) (f : WordFault) → Takes t w q → kind w ≡ 4 → six_seven (ltb (content w) (2 ^ 24)) (ltb (content w) (2 ^ q.scope.booleans)) t.next (content w) ≡ Err f → (x : Context) (s : Slot) → TakesMask s → Stops t x s (Word f)
wrong_mask t w q f here is_mask told x s takes =
    let e = rw here.same_scope at told in
    six_seven_stops t x s w _ (ltb (content w) (2 ^ 24)) (ltb (content w) (2 ^ t.scope.booleans)) (asks (disjoint s w) 9 yes_to_all) (content w) f here.first (λ last. questions_mask _ x s last w takes is_mask) e

pub six_seven_yes : (used known : Bool) (p v v' : ℕ) → six_seven used known p v ≡ Ok v' → (used ≡ true) × (known ≡ true) × (v ≡ v')
six_seven_yes false known p v v' e = let no : ◌≡◌ {A = ℕ} 0 1 = cc in absurd (omega arith)
six_seven_yes true false p v v' e = let no : ◌≡◌ {A = ℕ} 0 1 = cc in absurd (omega arith)
six_seven_yes true true p v v' e = let same : v ≡ v' = cc in (refl, refl, same)

mask_yes : (t : Text) (x : Context) (s : Slot) (m : ℕ) (q : Text) (here : Mask t m q) → TakesMask s → disjoint s here.word ≡ true → (last : Bool) → questions (head_of t.scope) x s last here.word ≡ yes_to_all
mask_yes t x s m q here takes apart last =
    let low : ltb (content here.word) (2 ^ 24) ≡ true = rw here.is (lt-ltb _ _ here.narrow) in
    let known : ltb (content here.word) (2 ^ t.scope.booleans) ≡ true = rw here.is (lt-ltb _ _ here.known) in
    questions_mask _ x s last here.word takes here.is_mask ∙ simp (low, known, apart)

mask_goes : (t : Text) (x : Context) (s : Slot) (m : ℕ) (q : Text) (here : Mask t m q) → TakesMask s → disjoint s here.word ≡ true → context_after x s here.word ≡ x → Goes t x s q (slot_after x s here.word)
mask_goes t x s m q here takes apart same = goes_one t x s here.word q here.taken (mask_yes t x s m q here takes apart) (simp here.is_mask) (simp here.is_mask) same

pub ones_go : (t : Text) (x : Context) (m : ℕ) (q : Text) → Mask t m q → Goes t x onesMask q zerosMask
ones_go t x m q here = mask_goes t x onesMask m q here tt refl refl

pub zeros_go : (t : Text) (x : Context) (m : ℕ) (q : Text) → Mask t m q → Goes t x zerosMask q (after_condition x.section)
zeros_go t x m q here = mask_goes t x zerosMask m q here tt refl refl

pub set_goes : (t : Text) (x : Context) (m : ℕ) (q : Text) → Mask t m q → Goes t x setMask q (clearMask m)
set_goes t x m q here = subst (λ n. Goes t x setMask q (clearMask n)) here.is (mask_goes t x setMask m q here tt refl refl)

pub clear_goes : (t : Text) (x : Context) (m n : ℕ) (q : Text) → Mask t n q → bit_and n m ≡ 0 → Goes t x (clearMask m) q resetMask
clear_goes t x m n q here apart = mask_goes t x (clearMask m) n q here tt (rw here.is (eq-eqb _ _ apart)) refl

pub clear_stops : (t : Text) (x : Context) (m n : ℕ) (q : Text) → Mask t n q → (bit_and n m ≡ 0 → ⊥) → Stops t x (clearMask m) (SetAndClear t.next)
clear_stops t x m n q here shared =
    let low : ltb (content here.word) (2 ^ 24) ≡ true = rw here.is (lt-ltb _ _ here.narrow) in
    let known : ltb (content here.word) (2 ^ t.scope.booleans) ≡ true = rw here.is (lt-ltb _ _ here.known) in
    let apart : eqb (bit_and (content here.word) m) 0 ≡ false = rw here.is (ne_eqb _ _ shared) in
    stops_at t x (clearMask m) here.word 9 _ here.taken.first (λ last. questions_mask _ x (clearMask m) last here.word tt here.is_mask ∙ simp (low, known, apart))

-- the two masks of a condition
pub condition_goes : (t : Text) (m : ℕ) (q : Text) (n : ℕ) (u : Text) → Mask t m q → Mask q n u → (x : Context) → Goes t x onesMask u (after_condition x.section)
condition_goes t m q n u a b x = goes_trans t x _ q _ u _ (ones_go t x m q a) (zeros_go q x n u b)

-- the clear mask may stand after the set mask
pub masks_go : (t : Text) (m : ℕ) (q : Text) (n : ℕ) (u : Text) → Mask t m q → Mask q n u → bit_and n m ≡ 0 → (x : Context) → Goes t x setMask u resetMask
masks_go t m q n u a b apart x = goes_trans t x _ q _ u _ (set_goes t x m q a) (clear_goes q x m n u b apart)

-- what is told after the two masks, told from before them
pub after_masks : (t q u : Text) (r : Result ℕ RecordFault) → ((x : Context) → Goes t x setMask q resetMask) →
    MatchResult r (λ m. (m < 2 ^ 15) × ((x : Context) → Goes q x resetMask u (owing (ones m)))) (λ f. (x : Context) → Stops q x resetMask f) →
    MatchResult r (λ m. (m < 2 ^ 15) × ((x : Context) → Goes t x setMask u (owing (ones m)))) (λ f. (x : Context) → Stops t x setMask f)
after_masks t q u (Ok m) before told = (told.0, λ x. goes_trans t x _ q _ u _ (before x) (told.1 x))
after_masks t q u (Err f) before told = λ x. (before x).walks ∙ told x

-- ---- resets

pub no_reset : (t : Text) → NotNext t 5 → (x : Context) → Stops t x resetMask (Misplaced t.next)
no_reset t never x = none_due t x resetMask 5 (λ last w. refl) never

pub wrong_reset : (t : Text) (w : ℕ) (q : Text) (f : WordFault) → Takes t w q → kind w ≡ 5 → six_seven (ltb (content w) (2 ^ 15)) (ltb (content w) (2 ^ q.scope.clocks)) t.next (content w) ≡ Err f → (x : Context) → Stops t x resetMask (Word f)
wrong_reset t w q f here is_reset told x =
    let e = rw here.same_scope at told in
    six_seven_stops t x resetMask w _ (ltb (content w) (2 ^ 15)) (ltb (content w) (2 ^ t.scope.clocks)) yes_to_all (content w) f here.first (λ last. questions_reset _ x last w is_reset) e

pub right_reset : (t : Text) (w m : ℕ) (q : Text) → Takes t w q → kind w ≡ 5 → six_seven (ltb (content w) (2 ^ 15)) (ltb (content w) (2 ^ q.scope.clocks)) t.next (content w) ≡ Ok m → (m < 2 ^ 15) × ((x : Context) → Goes t x resetMask q (owing (ones m)))
right_reset t w m q here is_reset told =
    let e = rw here.same_scope at told in
    let y = six_seven_yes _ _ _ _ m e in
    let low : ltb (content w) (2 ^ 15) ≡ true = y.0 in
    let known : ltb (content w) (2 ^ t.scope.clocks) ≡ true = y.1 in
    (subst (λ n. n < 2 ^ 15) y.2 (ltb-true _ _ y.0), λ x. subst (λ n. Goes t x resetMask q (owing (ones n))) y.2 (goes_one t x resetMask w q here (λ last. questions_reset _ x last w is_reset ∙ simp (low, known)) (simp is_reset) (simp is_reset) refl))

-- ---- numbers

pub number_only : (x : Context) (s : Slot) (least : ℤ) → TakesNumber least s → (last : Bool) (w : ℕ) → may_stand_here x s last w ≡ eqb (kind w) 10
number_only x (opening f) least t last w = absurd t
number_only x starting least t last w = absurd t
number_only x onesMask least t last w = absurd t
number_only x zerosMask least t last w = absurd t
number_only x setMask least t last w = absurd t
number_only x (clearMask m) least t last w = absurd t
number_only x resetMask least t last w = absurd t
number_only x (owed n) least t last w = refl
number_only x (atomOr a) least t last w = absurd t
number_only x (atomNumber a) least t last w = refl
number_only x between least t last w = absurd t

pub no_number : (t : Text) (least : ℤ) → NotNext t 10 → (x : Context) (s : Slot) → TakesNumber least s → Stops t x s (Misplaced t.next)
no_number t least never x s takes = none_due t x s 10 (number_only x s least takes) never

eight_no : (fine : Bool) (p : ℕ) (v : ℤ) (f : WordFault) → eight fine p v ≡ Err f → (fine ≡ false) × (OutOfRange p ≡ f)
eight_no false p v f e = let same : OutOfRange p ≡ f = cc in (refl, same)
eight_no true p v f e = let no : ◌≡◌ {A = ℕ} 0 1 = cc in absurd (omega arith)

pub wrong_number : (t : Text) (w : ℕ) (q : Text) (least : ℤ) (f : WordFault) → Takes t w q → kind w ≡ 10 → eight (le_z least (value w) && le_z (value w) greatest_number) t.next (value w) ≡ Err f → (x : Context) (s : Slot) → TakesNumber least s → Stops t x s (Word f)
wrong_number t w q least f here is_number e x s takes =
    let y = eight_no _ _ (value w) f e in
    stops_at t x s w 8 _ here.first (λ last. questions_number _ x s last w least takes is_number ∙ simp (y.0)) ∙ ap word_stop y.1

number_yes : (t : Text) (x : Context) (s : Slot) (least v : ℤ) (q : Text) (here : Number t least v q) → TakesNumber least s → (last : Bool) → questions (head_of t.scope) x s last here.word ≡ yes_to_all
number_yes t x s least v q here takes last =
    let low : le_z least (value here.word) ≡ true = rw here.is here.low in
    let high : le_z (value here.word) greatest_number ≡ true = rw here.is here.high in
    questions_number _ x s last here.word least takes here.is_number ∙ simp (low, high)

pub owed_goes : (t : Text) (x : Context) (n : ℕ) (v : ℤ) (q : Text) → Number t (pos 0) v q → Goes t x (owed n) q (owing n)
owed_goes t x n v q here = goes_one t x (owed n) here.word q here.taken (number_yes t x (owed n) (pos 0) v q here refl) (simp here.is_number) (simp here.is_number) refl

pub atom_number_goes : (t : Text) (x : Context) (a : ℕ) (v : ℤ) (q : Text) → Number t least_number v q → Goes t x (atomNumber a) q (atomOr a)
atom_number_goes t x a v q here = goes_one t x (atomNumber a) here.word q here.taken (number_yes t x (atomNumber a) least_number v q here refl) (simp here.is_number) (simp here.is_number) refl

-- some of the numbers of a reset: there are more
pub owing_more : (t : Text) (x : Context) (s : Slot) (q : Text) (count n : ℕ) → n < count → Goes t x s q (owing (count - n)) → Goes t x s q (owed (count - (n + 1)))
owing_more t x s q count n more before = let left : count - n ≡ suc (count - (n + 1)) = omega arith in subst (λ (m : ℕ). Goes t x s q (owing m)) left before

-- all the numbers of a reset
pub owing_none : (t : Text) (x : Context) (s : Slot) (q : Text) (count n : ℕ) → count ≤ n → Goes t x s q (owing (count - n)) → Goes t x s q (atomOr 0)
owing_none t x s q count n all before = let none : count - n ≡ 0 = omega arith in subst (λ (m : ℕ). Goes t x s q (owing m)) none before

-- one more number of a reset
pub owing_goes : (t : Text) (x : Context) (s : Slot) (q : Text) (n : ℕ) (v : ℤ) (u : Text) → Goes t x s q (owed n) → Number q (pos 0) v u → Goes t x s u (owing n)
owing_goes t x s q n v u before here = goes_trans t x _ q _ u _ before (owed_goes q x n v u here)

-- ---- atoms

abbrev clocks_known : Scope → ℕ → Bool
clocks_known c w = leb (atom_i w) c.clocks && leb (atom_j w) c.clocks && not (eqb (atom_i w) (atom_j w))

-- questions 6 and 7 at an atom
abbrev pub clocks_asked : Scope → ℕ → ℕ → Result ℕ WordFault
clocks_asked c i w = six_seven (ltb (content w) (2 ^ 9)) (clocks_known c w) i w

pub wrong_atom : (t : Text) (x : Context) (w : ℕ) (q : Text) (a : ℕ) (f : WordFault) → Takes t w q → kind w ≡ 9 → clocks_asked q.scope t.next w ≡ Err f → Stops t x (atomOr a) (Word f)
wrong_atom t x w q a f here is_atom told =
    let e = rw here.same_scope at told in
    six_seven_stops t x (atomOr a) w _ (ltb (content w) (2 ^ 9)) (clocks_known t.scope w) (asks (not x.urgent) 10 (asks (ltb a 64) 11 yes_to_all)) w f here.first (λ last. questions_atom _ x a last w is_atom) e

module _ (t : Text) (x : Context) (w : ℕ) (q : Text) (a w' : ℕ) (here : Takes t w q) (is_atom : kind w ≡ 9) (known : clocks_asked q.scope t.next w ≡ Ok w') where
  atom_asked : (last : Bool) → questions (head_of t.scope) x (atomOr a) last w ≡ asks (not x.urgent) 10 (asks (ltb a 64) 11 yes_to_all)
  atom_asked last = let y = six_seven_yes (ltb (content w) (2 ^ 9)) (clocks_known t.scope w) t.next w w' (rw here.same_scope at known) in questions_atom _ x a last w is_atom ∙ rw (y.0, y.1) refl

  pub urgent_stops : x.urgent ≡ true → Stops t x (atomOr a) (UrgentAtom t.next)
  urgent_stops u = stops_at t x (atomOr a) w 10 _ here.first (λ last. atom_asked last ∙ rw u refl)

  pub surplus_stops : x.urgent ≡ false → 64 ≤ a → Stops t x (atomOr a) (Surplus t.next)
  surplus_stops u many = let out : ltb a 64 ≡ false = le-ltb _ _ many in stops_at t x (atomOr a) w 11 _ here.first (λ last. atom_asked last ∙ rw (u, out) refl)

  pub atom_goes : x.urgent ≡ false → a < 64 → Goes t x (atomOr a) q (atomNumber (suc a))
  atom_goes u few =
      let low : ltb a 64 ≡ true = lt-ltb _ _ few in
      let is9 : eqb (kind w) 9 ≡ true = eq-eqb _ _ is_atom in
      subst (λ r. Goes t x (atomOr a) q r) (rw is9 refl) (goes_one t x (atomOr a) w q here (λ last. atom_asked last ∙ rw (u, low) refl) (simp is_atom) (simp is_atom) (rw is9 refl))

-- one more atom
pub atom_and_number : (t : Text) (x : Context) (q : Text) (a : ℕ) (v : ℤ) (u : Text) → Goes t x (atomOr a) q (atomNumber (suc a)) → Number q least_number v u → Goes t x (atomOr a) u (atomOr (a + 1))
atom_and_number t x q a v u before here = rw (add-one a) (goes_trans t x _ q _ u _ before (atom_number_goes q x (suc a) v u here))

-- ---- the end of a record

pub no_more_atoms : (t : Text) (x : Context) (a : ℕ) → NotNext t 9 → Goes t x (atomOr a) t between
no_more_atoms t x a never = record { moves = moves_none t; walks = skip_atoms _ x a _ _ never; continues = refl }

-- the next word continues a record, and so begins none
pub no_boundary : (t : Text) (next : Option ℕ) (on : Bool) → MatchOption next (words_of t ≡ []) (λ w. words_of t ≡ w ∷ drop 1 (words_of t)) → MatchOption next (on ≡ false) (λ w. on ≡ continues w) → on ≡ true → (x : Context) (s : Slot) → BeginsNext s → Stops t x s (Misplaced t.next)
no_boundary t None on here is more x s b = absurd (true≢false (sym more ∙ is))
no_boundary t (Some w) on here is more x s b = stops_at t x s w 5 _ here (λ last. rw (not_due x s last w b (sym is ∙ more)) refl)

pub at_boundary : (t : Text) (next : Option ℕ) (on : Bool) → MatchOption next (words_of t ≡ []) (λ w. words_of t ≡ w ∷ drop 1 (words_of t)) → MatchOption next (on ≡ false) (λ w. on ≡ continues w) → on ≡ false → continued (words_of t) ≡ 0
unfolding continued
at_boundary t None on here is none = rw here refl
at_boundary t (Some w) on here is none = ap continued here ∙ none_continued w (drop 1 (words_of t)) (sym is ∙ none)
