-- A walk that passed, word by word: every question was answered yes. Assumes nothing.
use Rattle.std.proofs.Common.{◌≡◌, ℕ, suc, ◌^◌, ◌<◌, Bool, true, false, ◌&&◌, eqb, ltb, ◌⊎◌, List, [], ◌∷◌, ℤ, sym, refl, ◌∙◌, inl, inr, ⊎_elim, arith}
use lib.Count.{ones}
use lib.Signed.{le_z}
use Rattle.std.proofs.lemmas.Bool.{eqb-true, ltb-true, and_parts}
use Rattle.format.specs.Words.{kind, content, value}
use Rattle.format.specs.Places.{Head, Context, Slot, Tally, Verdict, Scan, scan, questions, asks, goes_on, is_empty, may_stand_here, unused_zero, names_known, in_range, disjoint, may_guard, within_limit, context_after, slot_after, owing, greatest_number}
use Rattle.format.specs.Places.Verdict.{yes_to_all, first_no}
use Rattle.format.specs.Places.Scan.{passed}
use Rattle.format.specs.Places.Slot.{onesMask, zerosMask, setMask, clearMask, resetMask, owed, atomOr, atomNumber, between, opening, starting}
use Rattle.format.specs.Reading.{TakesMask, TakesNumber}
use Rattle.format.proofs.Learned.{mask_only, number_only}

pub asks_yes : (b : Bool) (n : ℕ) (v : Verdict) → asks b n v ≡ yes_to_all → (b ≡ true) × (v ≡ yes_to_all)
asks_yes true n v e = (refl, e)
asks_yes false n v e = let no : ◌≡◌ {A = ℕ} 0 1 = cc in absurd (omega arith)

-- what a word that was passed has answered
pub record Answered (h : Head) (x : Context) (s : Slot) (last : Bool) (w : ℕ) : Type 0 where
  pub stands : may_stand_here x s last w ≡ true
  pub unused : unused_zero w ≡ true
  pub known : names_known h (kind w) w ≡ true
  pub ranged : in_range s w ≡ true
  pub apart : disjoint s w ≡ true
  pub guards : may_guard x w ≡ true
  pub room : within_limit x s w ≡ true

pub answered : (h : Head) (x : Context) (s : Slot) (last : Bool) (w : ℕ) → questions h x s last w ≡ yes_to_all → Answered h x s last w
answered h x s last w e =
    let a5 = asks_yes _ 5 _ e in
    let a6 = asks_yes _ 6 _ a5.1 in
    let a7 = asks_yes _ 7 _ a6.1 in
    let a8 = asks_yes _ 8 _ a7.1 in
    let a9 = asks_yes _ 9 _ a8.1 in
    let a10 = asks_yes _ 10 _ a9.1 in
    let a11 = asks_yes _ 11 _ a10.1 in
    record { stands = a5.0; unused = a6.0; known = a7.0; ranged = a8.0; apart = a9.0; guards = a10.0; room = a11.0 }

goes_on_passed : (v : Verdict) (i : ℕ) (end : Bool) (u : Tally) (r : Scan) (t : Tally) → goes_on v i end u r ≡ passed t → (v ≡ yes_to_all) × (((end ≡ true) × (u ≡ t)) ⊎ ((end ≡ false) × (r ≡ passed t)))
goes_on_passed (first_no n) i end u r t e = let no : ◌≡◌ {A = ℕ} 0 1 = cc in absurd (omega arith)
goes_on_passed yes_to_all i true u r t e = let same : u ≡ t = cc in (refl, inl (refl, same))
goes_on_passed yes_to_all i false u r t e = (refl, inr (refl, e))

module _ (h : Head) (t : Tally) where
  abbrev pub Passes : Context → Slot → ℕ → List ℕ → Type 0
  Passes x s i ws = scan h x s i ws ≡ passed t

  pub never_empty : {P : Type 0} (x : Context) (s : Slot) (i : ℕ) → Passes x s i [] → P
  unfolding scan
  never_empty x s i e = let no : ◌≡◌ {A = ℕ} 0 1 = cc in absurd (omega arith)

  -- one word of a walk that passed
  pub record One (x : Context) (s : Slot) (i w : ℕ) (ws : List ℕ) : Type 0 where
    pub yes : Answered h x s (is_empty ws) w
    pub on : ((eqb (kind w) 15 ≡ true) × (x.tally ≡ t)) ⊎ ((eqb (kind w) 15 ≡ false) × Passes (context_after x s w) (slot_after x s w) (suc i) ws)

  pub one : (x : Context) (s : Slot) (i w : ℕ) (ws : List ℕ) → Passes x s i (w ∷ ws) → One x s i w ws
  unfolding scan
  one x s i w ws e =
      let g = goes_on_passed (questions h x s (is_empty ws) w) i (eqb (kind w) 15) x.tally (scan h (context_after x s w) (slot_after x s w) (suc i) ws) t e in
      record { yes = answered h x s (is_empty ws) w g.0; on = g.1 }

  -- where the end may not stand, the walk goes on
  pub goes : (x : Context) (s : Slot) (i w : ℕ) (ws : List ℕ) → One x s i w ws → (kind w ≡ 15 → ⊥) → Passes (context_after x s w) (slot_after x s w) (suc i) ws
  goes x s i w ws o no_end = ⊎_elim (λ e. absurd (no_end (eqb-true _ _ e.0))) (λ e. e.1) o.on

  -- ---- masks

  pub record Masked (x : Context) (s : Slot) (i w : ℕ) (ws : List ℕ) : Type 0 where
    pub is_mask : kind w ≡ 4
    pub known : content w < 2 ^ h.booleans
    pub apart : disjoint s w ≡ true
    pub on : Passes (context_after x s w) (slot_after x s w) (suc i) ws

  pub masked : (x : Context) (s : Slot) (i w : ℕ) (ws : List ℕ) → TakesMask s → Passes x s i (w ∷ ws) → Masked x s i w ws
  masked x s i w ws takes e =
      let o = one x s i w ws e in
      let is : kind w ≡ 4 = eqb-true _ _ (sym (mask_only x s takes (is_empty ws) w) ∙ o.yes.stands) in
      let known : ltb (content w) (2 ^ h.booleans) ≡ true = simp is at o.yes.known in
      record { is_mask = is; known = ltb-true _ _ known; apart = o.yes.apart; on = goes x s i w ws o (λ f. omega arith) }

  -- ---- numbers

  pub record Numbered (x : Context) (s : Slot) (least : ℤ) (i w : ℕ) (ws : List ℕ) : Type 0 where
    pub is_number : kind w ≡ 10
    pub low : le_z least (value w) ≡ true
    pub high : le_z (value w) greatest_number ≡ true
    pub on : Passes (context_after x s w) (slot_after x s w) (suc i) ws

  in_range_is : (s : Slot) (least : ℤ) (w : ℕ) → TakesNumber least s → in_range s w ≡ (le_z least (value w) && le_z (value w) greatest_number)
  in_range_is (opening f) least w n = absurd n
  in_range_is starting least w n = absurd n
  in_range_is onesMask least w n = absurd n
  in_range_is zerosMask least w n = absurd n
  in_range_is setMask least w n = absurd n
  in_range_is (clearMask m) least w n = absurd n
  in_range_is resetMask least w n = absurd n
  in_range_is (owed k) least w n = rw n refl
  in_range_is (atomOr a) least w n = absurd n
  in_range_is (atomNumber a) least w n = rw n refl
  in_range_is between least w n = absurd n

  pub numbered : (x : Context) (s : Slot) (least : ℤ) (i w : ℕ) (ws : List ℕ) → TakesNumber least s → Passes x s i (w ∷ ws) → Numbered x s least i w ws
  numbered x s least i w ws takes e =
      let o = one x s i w ws e in
      let is : kind w ≡ 10 = eqb-true _ _ (sym (number_only x s least takes (is_empty ws) w) ∙ o.yes.stands) in
      let both = and_parts (le_z least (value w)) (le_z (value w) greatest_number) (sym (in_range_is s least w takes) ∙ o.yes.ranged) in
      record { is_number = is; low = both.0; high = both.1; on = goes x s i w ws o (λ f. omega arith) }

  -- ---- the reset

  pub record Resetting (x : Context) (i w : ℕ) (ws : List ℕ) : Type 0 where
    pub is_reset : kind w ≡ 5
    pub narrow : content w < 2 ^ 15
    pub known : content w < 2 ^ h.clocks
    pub on : Passes x (owing (ones (content w))) (suc i) ws

  pub resetting : (x : Context) (i w : ℕ) (ws : List ℕ) → Passes x resetMask i (w ∷ ws) → Resetting x i w ws
  resetting x i w ws e =
      let o = one x resetMask i w ws e in
      let is : kind w ≡ 5 = eqb-true _ _ o.yes.stands in
      let narrow : ltb (content w) (2 ^ 15) ≡ true = simp is at o.yes.unused in
      let known : ltb (content w) (2 ^ h.clocks) ≡ true = simp is at o.yes.known in
      record { is_reset = is; narrow = ltb-true _ _ narrow; known = ltb-true _ _ known; on = goes x resetMask i w ws o (λ f. omega arith) }
