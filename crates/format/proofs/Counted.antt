-- The records of each kind in a walk that passed: each is within its ranges, and they are counted. Assumes nothing.
use Rattle.std.proofs.Common.{◌≡◌, ℕ, suc, ◌+◌, ◌<◌, ◌≤◌, true, false, cond, ◌||◌, eqb, List, [], ◌∷◌, length, sym, refl, ap, ◌∙◌, subst, ⊎_elim, arith}
use Rattle.std.specs.List.{AllByRecursion}
use Rattle.std.proofs.lemmas.Bool.{eqb-true, cases_Bool, cases_eq, true≢false, ne_eqb, eq-eqb}
use Rattle.std.proofs.lemmas.Bool.Decides.{nat_tests}
use Rattle.format.specs.Words.{kind, continues}
use Rattle.format.specs.Places.{Head, Context, Slot, Tally, is_empty, may_stand_here, names_known, within_limit, begin, begun, after_begin, context_after, slot_after}
use Rattle.format.specs.Places.Slot.{onesMask, zerosMask, setMask, clearMask, resetMask, owed, atomOr, atomNumber, between, opening, starting}
use Rattle.format.specs.Syntax.{body, records, of_kind}
use Rattle.format.proofs.Firsts.{stood}
use Rattle.format.proofs.Passed.{Passes, Answered, never_empty, one, goes}

-- ---- what a word does to the records

pub records_more : (w : ℕ) (ws : List ℕ) → continues w ≡ true → records (w ∷ ws) ≡ records ws
unfolding records
records_more w ws e = rw e

pub records_new : (w : ℕ) (ws : List ℕ) → continues w ≡ false → records (w ∷ ws) ≡ (w ∷ body ws) ∷ records ws
unfolding records
records_new w ws e = rw e

of_kind_same : (k w : ℕ) (r : List ℕ) (rs : List (List ℕ)) → kind w ≡ k → of_kind k ((w ∷ r) ∷ rs) ≡ (w ∷ r) ∷ of_kind k rs
unfolding of_kind
of_kind_same k w r rs e = let is : eqb (kind w) k ≡ true = eq-eqb _ _ e in rw is refl

of_kind_other : (k w : ℕ) (r : List ℕ) (rs : List (List ℕ)) → (kind w ≡ k → ⊥) → of_kind k ((w ∷ r) ∷ rs) ≡ of_kind k rs
unfolding of_kind
of_kind_other k w r rs e = let is : eqb (kind w) k ≡ false = ne_eqb _ _ e in rw is refl

empty_is : (ws : List ℕ) → is_empty ws ≡ true → ws ≡ []
empty_is [] e = refl
empty_is (w ∷ ws) e = absurd (true≢false (sym e))

-- what a word that was passed is: one that continues its record, a head or a start, the first of a record, or the end
pub data Class (x : Context) (s : Slot) (w : ℕ) (ws : List ℕ) : Type 0 where
  more : continues w ≡ true → (kind w ≡ 15 → ⊥) → (context_after x s w).tally ≡ x.tally → Class x s w ws
  alone : continues w ≡ false → (kind w < 3) → (context_after x s w).tally ≡ x.tally → Class x s w ws
  fresh : continues w ≡ false → (kind w ≡ 15 → ⊥) → context_after x s w ≡ begin x w → slot_after x s w ≡ after_begin w → Class x s w ws
  end : kind w ≡ 15 → ws ≡ [] → Class x s w ws

not_more : (w : ℕ) → (eqb (kind w) 3 || eqb (kind w) 6 || eqb (kind w) 7 || eqb (kind w) 8) ≡ true → continues w ≡ false
not_more w e = grind (arith, nat_tests)

by_kind_of : (x : Context) (s : Slot) (w k : ℕ) (ws : List ℕ) → kind w ≡ k → (eqb k 4 || eqb k 5 || eqb k 9 || eqb k 10) ≡ true → (k ≡ 15 → ⊥) → (context_after x s w).tally ≡ x.tally → Class x s w ws
by_kind_of x s w k ws e c no_end same = more (subst (λ (n : ℕ). (eqb n 4 || eqb n 5 || eqb n 9 || eqb n 10) ≡ true) (sym e) c) (λ f. no_end (sym e ∙ f)) same

class_between : (x : Context) (s : Slot) (w : ℕ) (ws : List ℕ) → context_after x s w ≡ begin x w → slot_after x s w ≡ after_begin w → may_stand_here x between (is_empty ws) w ≡ true → Class x s w ws
class_between x s w ws c r e =
    let b = stood x between (is_empty ws) w tt e in
    ⊎_elim (λ is. end is (empty_is ws (b.end_last is))) (λ no_end. fresh (not_more w (b.record_begins no_end)) no_end c r) (cases_eq (kind w) 15)

class_atom : (x : Context) (a w : ℕ) (ws : List ℕ) → may_stand_here x (atomOr a) (is_empty ws) w ≡ true → Class x (atomOr a) w ws
class_atom x a w ws e =
    ⊎_elim
    (λ nine. let is : eqb (kind w) 9 ≡ true = nine in by_kind_of x (atomOr a) w 9 ws (eqb-true _ _ nine) refl (λ f. omega arith) (rw is refl))
    (λ other. let is : eqb (kind w) 9 ≡ false = other in class_between x (atomOr a) w ws (rw is refl) (rw is refl) (simp is at e))
    (cases_Bool (eqb (kind w) 9))

pub classify : (x : Context) (s : Slot) (w : ℕ) (ws : List ℕ) → may_stand_here x s (is_empty ws) w ≡ true → Class x s w ws
classify x (opening f) w ws e = let is : kind w ≡ 1 = eqb-true _ _ e in alone (simp is) (omega arith) refl
classify x starting w ws e = let is : kind w ≡ 2 = eqb-true _ _ e in alone (simp is) (omega arith) refl
classify x onesMask w ws e = by_kind_of x onesMask w 4 ws (eqb-true _ _ e) refl (λ f. omega arith) refl
classify x zerosMask w ws e = by_kind_of x zerosMask w 4 ws (eqb-true _ _ e) refl (λ f. omega arith) refl
classify x setMask w ws e = by_kind_of x setMask w 4 ws (eqb-true _ _ e) refl (λ f. omega arith) refl
classify x (clearMask m) w ws e = by_kind_of x (clearMask m) w 4 ws (eqb-true _ _ e) refl (λ f. omega arith) refl
classify x resetMask w ws e = by_kind_of x resetMask w 5 ws (eqb-true _ _ e) refl (λ f. omega arith) refl
classify x (owed n) w ws e = by_kind_of x (owed n) w 10 ws (eqb-true _ _ e) refl (λ f. omega arith) refl
classify x (atomOr a) w ws e = class_atom x a w ws e
classify x (atomNumber a) w ws e = by_kind_of x (atomNumber a) w 10 ws (eqb-true _ _ e) refl (λ f. omega arith) refl
classify x between w ws e = class_between x between w ws refl refl e

-- ---- the records of one kind

-- A kind of record, how it is counted and limited, and what is known of each of its records once a walk has passed it.
pub record CountedKind (h : Head) (t : Tally) (k limit : ℕ) (count : Tally → ℕ) (P : List ℕ → Type 0) : Type 0 where
  pub no_head : 3 ≤ k
  pub no_end : k ≡ 15 → ⊥
  pub counts : (n : ℕ) (u : Tally) → count (begun n u) ≡ cond (eqb n k) (suc (count u)) (count u)
  pub room : (x : Context) (s : Slot) (w : ℕ) → kind w ≡ k → within_limit x s w ≡ true → count x.tally < limit
  pub fits : (x : Context) (i w : ℕ) (ws : List ℕ) → kind w ≡ k → names_known h (kind w) w ≡ true → Passes h t (begin x w) (after_begin w) i ws → P (w ∷ body ws)

module _ (h : Head) (t : Tally) (k limit : ℕ) (count : Tally → ℕ) (P : List ℕ → Type 0) (c : CountedKind h t k limit count P) where
  pub record Run (u : Tally) (ws : List ℕ) : Type 0 where
    pub each : AllByRecursion P (of_kind k (records ws))
    pub counted : count t ≡ count u + length (of_kind k (records ws))
    pub few : count u ≤ limit → count t ≤ limit

  -- a word after which the same records of this kind are left
  same_run : (u v : Tally) (w : ℕ) (ws : List ℕ) → of_kind k (records (w ∷ ws)) ≡ of_kind k (records ws) → count v ≡ count u → Run v ws → Run u (w ∷ ws)
  same_run u v w ws e same r = record {
    each = rw e r.each;
    counted = rw e (r.counted ∙ ap (λ (n : ℕ). n + length (of_kind k (records ws))) same);
    few = λ le. r.few (subst (λ (n : ℕ). n ≤ limit) (sym same) le);
  }

  new_run : (u v : Tally) (w : ℕ) (ws : List ℕ) → of_kind k (records (w ∷ ws)) ≡ (w ∷ body ws) ∷ of_kind k (records ws) → count v ≡ suc (count u) → count u < limit → P (w ∷ body ws) → Run v ws → Run u (w ∷ ws)
  new_run u v w ws e up room p r = record {
    each = rw e (p, r.each);
    counted = rw e (omega (arith, r.counted));
    few = λ _. r.few (omega arith);
  }

  fresh_run : (x : Context) (s : Slot) (i w : ℕ) (ws : List ℕ) → Answered h x s (is_empty ws) w → continues w ≡ false → Passes h t (begin x w) (after_begin w) (suc i) ws → Run (begin x w).tally ws → Run x.tally (w ∷ ws)
  fresh_run x s i w ws answers new on r =
      ⊎_elim
      (λ is. let same : eqb (kind w) k ≡ true = eq-eqb _ _ is in
      new_run x.tally (begin x w).tally w ws (ap (of_kind k) (records_new w ws new) ∙ of_kind_same k w _ _ is) (c.counts (kind w) x.tally ∙ rw same refl) (c.room x s w is answers.room) (c.fits x (suc i) w ws is answers.known on) r)
      (λ other. let differs : eqb (kind w) k ≡ false = ne_eqb _ _ other in
      same_run x.tally (begin x w).tally w ws (ap (of_kind k) (records_new w ws new) ∙ of_kind_other k w _ _ other) (c.counts (kind w) x.tally ∙ rw differs refl) r)
      (cases_eq (kind w) k)

  ends_run : (u : Tally) (w : ℕ) → kind w ≡ 15 → u ≡ t → Run u (w ∷ [])
  unfolding records of_kind
  ends_run u w is same =
      let new : continues w ≡ false = simp is in
      let none : of_kind k (records (w ∷ [])) ≡ [] = ap (of_kind k) (records_new w [] new) ∙ of_kind_other k w (body []) (records []) (λ e. c.no_end (sym e ∙ is)) in
      record { each = rw none tt; counted = rw none (omega (arith, ap count same)); few = λ le. subst (λ (v : Tally). count v ≤ limit) same le }

  pub run : (x : Context) (s : Slot) (i : ℕ) (ws : List ℕ) → Passes h t x s i ws → Run x.tally ws
  run x s i [] e = never_empty h t x s i e
  run x s i (w ∷ ws) e =
      let o = one h t x s i w ws e in
      elim (classify x s w ws o.yes.stands) [
        | more on no_end same ↦ same_run x.tally (context_after x s w).tally w ws (ap (of_kind k) (records_more w ws on)) (ap count same) (run (context_after x s w) (slot_after x s w) (suc i) ws (goes h t x s i w ws o no_end))
        | alone new small same ↦ same_run x.tally (context_after x s w).tally w ws (ap (of_kind k) (records_new w ws new) ∙ of_kind_other k w _ _ (λ f. omega (arith, c.no_head))) (ap count same) (run (context_after x s w) (slot_after x s w) (suc i) ws (goes h t x s i w ws o (λ f. omega arith)))
        | fresh new no_end same slot ↦
            let on : Passes h t (begin x w) (after_begin w) (suc i) ws = subst (λ (y : Context). Passes h t y (after_begin w) (suc i) ws) same (subst (λ (r : Slot). Passes h t (context_after x s w) r (suc i) ws) slot (goes h t x s i w ws o no_end)) in
            fresh_run x s i w ws o.yes new on (run (begin x w) (after_begin w) (suc i) ws on)
        | end is none ↦ subst (λ (l : List ℕ). Run x.tally (w ∷ l)) (sym none) (ends_run x.tally w is (⊎_elim (λ d. d.1) (λ d. absurd (true≢false (sym (eq-eqb _ _ is) ∙ d.0))) o.on))
      ]
