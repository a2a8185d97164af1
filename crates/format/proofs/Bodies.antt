-- The records of a walk that passed, each within its ranges. Assumes nothing.
use Rattle.std.proofs.Common.{◌≡◌, ℕ, zero, suc, ◌+◌, ◌/◌, ◌%◌, ◌^◌, ◌<◌, ◌≤◌, Bool, true, false, not, ◌&&◌, T, eqb, ltb, leb, List, [], ◌∷◌, ◌++◌, length, take, drop, ℤ, pos, ◌≤ℤ◌, sym, refl, ap, ◌∙◌, subst, ⊎_elim, add-zero, add-one, arith}
use lib.Count.{ones}
use lib.Signed.{le_z}
use Rattle.std.specs.List.{AllByRecursion}
use Rattle.std.proofs.lemmas.Nat.{shr_below}
use Rattle.std.proofs.ByRecursion.{All-weaker}
use Rattle.std.proofs.lemmas.List.{take_at, drop_at, length-take-le}
use Rattle.std.proofs.lemmas.Bool.{eqb-true, ltb-true, leb-true, eqb-false, and_parts, cases_Bool, true≢false, not-true, cond_both}
use Rattle.format.specs.Words.{kind, content, value, atom_i, atom_j, continues}
use Rattle.format.specs.Places.{Head, Context, Slot, Tally, may_stand_here, after_condition, owing, least_number, greatest_number}
use Rattle.format.specs.Places.Slot.{onesMask, zerosMask, setMask, clearMask, resetMask, owed, atomOr, atomNumber, between}
use Rattle.format.specs.Syntax.{Reset, body, atoms_of, atom_of_words, resets_from, guarded_of, command_of, zone_of}
use Rattle.format.specs.Ranges.{AtomFits, AtomsFit, ConditionFits, ResetFits, GuardedFits, CommandFits, ZoneFits}
use Rattle.format.proofs.Steps.{one_continued, none_continued, not_due}
use Rattle.format.proofs.Passed.{Passes, never_empty, one, goes, masked, numbered, resetting}

pub body_more : (w : ℕ) (ws : List ℕ) → continues w ≡ true → body (w ∷ ws) ≡ w ∷ body ws
body_more w ws e = ap (λ (n : ℕ). take n (w ∷ ws)) (one_continued w ws e)

pub body_none : (w : ℕ) (ws : List ℕ) → continues w ≡ false → body (w ∷ ws) ≡ []
body_none w ws e = ap (λ (n : ℕ). take n (w ∷ ws)) (none_continued w ws e)

at_most : (a b : ℤ) → le_z a b ≡ true → a ≤ℤ b
at_most a b e = record { le = subst T (sym e) tt }

-- after atoms, what may stand and is no atom does not continue the record
stops_body : (x : Context) (a : ℕ) (last : Bool) (w : ℕ) → may_stand_here x (atomOr a) last w ≡ true → eqb (kind w) 9 ≡ false → continues w ≡ false
stops_body x a last w e other =
    let then : may_stand_here x between last w ≡ true = simp other at e in
    ⊎_elim (λ more. absurd (true≢false (sym then ∙ not_due x between last w tt more))) (λ none. none) (cases_Bool (continues w))

module _ (h : Head) (t : Tally) where
  -- ---- atoms

  pub record AtomsRun (x : Context) (a : ℕ) (ws : List ℕ) : Type 0 where
    pub each : AllByRecursion (AtomFits h) (atoms_of (body ws))
    pub few : a + length (atoms_of (body ws)) ≤ 64
    pub urgent_without : x.urgent ≡ true → atoms_of (body ws) ≡ []

  no_atoms : (x : Context) (a : ℕ) (ws : List ℕ) → a ≤ 64 → body ws ≡ [] → AtomsRun x a ws
  unfolding atoms_of
  no_atoms x a ws le e =
      let none : atoms_of (body ws) ≡ [] = ap atoms_of e in
      record { each = rw none tt; few = rw none (omega arith); urgent_without = λ _. none }

  one_atom : (x : Context) (a w n : ℕ) (ws : List ℕ) → continues w ≡ true → continues n ≡ true → x.urgent ≡ false → AtomFits h (atom_of_words w n) → AtomsRun x (suc a) ws → AtomsRun x a (w ∷ n ∷ ws)
  unfolding atoms_of
  one_atom x a w n ws cw cn calm fits r =
      let is : atoms_of (body (w ∷ n ∷ ws)) ≡ atom_of_words w n ∷ atoms_of (body ws) = ap atoms_of (body_more w (n ∷ ws) cw ∙ ap (λ (l : List ℕ). w ∷ l) (body_more n ws cn)) in
      record {
        each = rw is (fits, r.each);
        few = rw is (omega (arith, r.few));
        urgent_without = λ u. absurd (true≢false (sym u ∙ calm));
      }

  pub atoms_run : (x : Context) (a i : ℕ) (ws : List ℕ) → a ≤ 64 → Passes h t x (atomOr a) i ws → AtomsRun x a ws
  atoms_run x a i [] le e = never_empty h t x (atomOr a) i e
  atoms_run x a i (w ∷ []) le e =
      let o = one h t x (atomOr a) i w [] e in
      ⊎_elim
      (λ atom.
      let is : eqb (kind w) 9 ≡ true = atom in
      let nine : kind w ≡ 9 = eqb-true _ _ atom in
      let on = goes h t x (atomOr a) i w [] o (λ f. omega arith) in
      never_empty h t _ _ _ on)
      (λ other. no_atoms x a (w ∷ []) le (body_none w [] (stops_body x a true w o.yes.stands other)))
      (cases_Bool (eqb (kind w) 9))
  atoms_run x a i (w ∷ n ∷ ws) le e =
      let o = one h t x (atomOr a) i w (n ∷ ws) e in
      ⊎_elim
      (λ atom.
      let is : eqb (kind w) 9 ≡ true = atom in
      let nine : kind w ≡ 9 = eqb-true _ _ atom in
      let on : Passes h t x (atomNumber (suc a)) (suc i) (n ∷ ws) = simp is at (goes h t x (atomOr a) i w (n ∷ ws) o (λ f. omega arith)) in
      let number = numbered h t x (atomNumber (suc a)) least_number (suc i) n ws refl on in
      let clocks : (leb (atom_i w) h.clocks && leb (atom_j w) h.clocks && not (eqb (atom_i w) (atom_j w))) ≡ true = simp nine at o.yes.known in
      let both = and_parts _ _ clocks in
      let two = and_parts _ _ both.0 in
      let room : ltb a 64 ≡ true = simp nine at o.yes.room in
      let calm : not x.urgent ≡ true = simp nine at o.yes.guards in
      one_atom x a w n ws (simp nine) (simp number.is_number) (not-true _ calm)
      (record { i_known = leb-true _ _ two.0; j_known = leb-true _ _ two.1; apart = eqb-false _ _ (not-true _ both.1); low = at_most _ _ number.low; high = at_most _ _ number.high })
      (atoms_run x (suc a) (suc (suc i)) ws (omega (arith, ltb-true _ _ room)) number.on))
      (λ other. no_atoms x a (w ∷ n ∷ ws) le (body_none w (n ∷ ws) (stops_body x a false w o.yes.stands other)))
      (cases_Bool (eqb (kind w) 9))

  pub atoms_fit : (x : Context) (i : ℕ) (ws : List ℕ) → Passes h t x (atomOr 0) i ws → AtomsFit h (atoms_of (body ws))
  atoms_fit x i ws e = let r = atoms_run x 0 i ws (omega arith) e in record { each = r.each; few = omega (arith, r.few) }

  -- ---- the numbers of a reset

  abbrev ResetNumber : ℕ → Type 0
  ResetNumber w = (pos 0 ≤ℤ value w) × (value w ≤ℤ greatest_number)

  pub record NumbersRun (x : Context) (n i : ℕ) (ws : List ℕ) : Type 0 where
    pub enough : n ≤ length ws
    pub each : AllByRecursion ResetNumber (take n ws)
    pub bodies : body ws ≡ take n ws ++ body (drop n ws)
    pub on : Passes h t x (atomOr 0) (i + n) (drop n ws)

  pub numbers_run : (x : Context) (n i : ℕ) (ws : List ℕ) → Passes h t x (owing n) i ws → NumbersRun x n i ws
  numbers_run x zero i ws e = record { enough = omega arith; each = tt; bodies = refl; on = rw (add-zero i) e }
  numbers_run x (suc n) i [] e = never_empty h t x (owed n) i e
  numbers_run x (suc n) i (w ∷ ws) e =
      let number = numbered h t x (owed n) (pos 0) i w ws refl e in
      let r = numbers_run x n (suc i) ws number.on in
      record {
        enough = omega (arith, r.enough);
        each = ((at_most _ _ number.low, at_most _ _ number.high), r.each);
        bodies = body_more w ws (simp number.is_number) ∙ ap (λ (l : List ℕ). w ∷ l) r.bodies;
        on = subst (λ (j : ℕ). Passes h t x (atomOr 0) j (drop n ws)) (omega arith) r.on;
      }

  -- ---- the resets

  abbrev Between : ℕ → ℕ → Reset → Type 0
  Between low high r = (low ≤ r.clock) × (r.clock < high) × (pos 0 ≤ℤ r.number) × (r.number ≤ℤ greatest_number)

  no_resets : (bits clock : ℕ) (ns : List ℕ) → resets_from bits clock 0 ns ≡ []
  unfolding resets_from
  no_resets zero clock ns = refl
  no_resets (suc bits) clock [] = refl
  no_resets (suc bits) clock (n ∷ ns) = no_resets bits (suc clock) (n ∷ ns)

  resets_between : (bits clock k mask : ℕ) (ns : List ℕ) → mask < 2 ^ k → AllByRecursion ResetNumber ns → AllByRecursion (Between clock (clock + k)) (resets_from bits clock mask ns)
  unfolding resets_from
  resets_between zero clock k mask ns below each = tt
  resets_between (suc bits) clock k mask [] below each = tt
  resets_between (suc bits) clock zero mask (n ∷ ns) below each =
      let none : mask ≡ 0 = omega arith in
      subst (λ (m : ℕ). AllByRecursion (Between clock (clock + 0)) (resets_from (suc bits) clock m (n ∷ ns))) (sym none) (rw (no_resets (suc bits) clock (n ∷ ns)) tt)
  resets_between (suc bits) clock (suc k) mask (n ∷ ns) below each =
      let less : mask / 2 < 2 ^ k = shr_below mask k 1 (subst (λ (e : ℕ). mask < 2 ^ e) (sym (add-one k)) below) in
      let wider : (r : Reset) → Between (suc clock) (suc clock + k) r → Between clock (clock + suc k) r = λ r b. (omega (arith, b.0), omega (arith, b.1), b.2, b.3) in
      cond_both (eqb (mask % 2) 1) _ _ (AllByRecursion (Between clock (clock + suc k)))
      (λ _. ((omega arith, omega arith, each.0.0, each.0.1), All-weaker _ _ wider _ (resets_between bits (suc clock) k (mask / 2) ns less each.1)))
      (λ _. All-weaker _ _ wider _ (resets_between bits (suc clock) k (mask / 2) (n ∷ ns) less each))

  pub resets_fit : (mask : ℕ) (ns : List ℕ) → mask < 2 ^ h.clocks → AllByRecursion ResetNumber ns → AllByRecursion (ResetFits h) (resets_from 15 1 mask ns)
  resets_fit mask ns below each =
      All-weaker (Between 1 (1 + h.clocks)) (ResetFits h) (λ r b. record { a_clock = b.0; known = omega (arith, b.1); low = b.2; high = b.3 }) _ (resets_between 15 1 h.clocks mask ns below each)

  -- ---- whole records, by the words after the first

  pub guarded_fits : (x : Context) (i w : ℕ) (ws : List ℕ) → after_condition x.section ≡ atomOr 0 → Passes h t x onesMask i ws → GuardedFits h (guarded_of (w ∷ body ws))
  guarded_fits x i w [] is e = never_empty h t x onesMask i e
  guarded_fits x i w (a ∷ []) is e = never_empty h t x zerosMask (suc i) (masked h t x onesMask i a [] tt e).on
  guarded_fits x i w (a ∷ b ∷ ws) is e =
      let first = masked h t x onesMask i a (b ∷ ws) tt e in
      let second = masked h t x zerosMask (suc i) b ws tt first.on in
      let whole : body (a ∷ b ∷ ws) ≡ a ∷ b ∷ body ws = body_more a (b ∷ ws) (simp first.is_mask) ∙ ap (λ (l : List ℕ). a ∷ l) (body_more b ws (simp second.is_mask)) in
      let on : Passes h t x (atomOr 0) (suc (suc i)) ws = subst (λ (s : Slot). Passes h t x s (suc (suc i)) ws) is second.on in
      subst (λ (l : List ℕ). GuardedFits h (guarded_of (w ∷ l))) (sym whole)
      (record { condition = record { ones_known = first.known; zeros_known = second.known }; atoms = atoms_fit x _ ws on })

  pub zone_fits : (x : Context) (i w : ℕ) (ws : List ℕ) → content w < 2 ^ h.booleans → Passes h t x (atomOr 0) i ws → ZoneFits h (zone_of (w ∷ body ws))
  zone_fits x i w ws known e = record { known = known; atoms = atoms_fit x i ws e }

  -- a command after its condition
  effects_fit : (x : Context) (i w a b : ℕ) (ws : List ℕ) → x.urgent ≡ eqb (content w) 1 → ConditionFits h (record { ones = content a; zeros = content b }) → Passes h t x setMask i ws → CommandFits h (command_of (w ∷ a ∷ b ∷ body ws))
  effects_fit x i w a b [] urgent condition e = never_empty h t x setMask i e
  effects_fit x i w a b (s ∷ []) urgent condition e = never_empty h t x (clearMask (content s)) (suc i) (masked h t x setMask i s [] tt e).on
  effects_fit x i w a b (s ∷ c ∷ []) urgent condition e =
      let set = masked h t x setMask i s (c ∷ []) tt e in
      never_empty h t x resetMask (suc (suc i)) (masked h t x (clearMask (content s)) (suc i) c [] tt set.on).on
  effects_fit x i w a b (s ∷ c ∷ r ∷ ws) urgent condition e =
      let set = masked h t x setMask i s (c ∷ r ∷ ws) tt e in
      let clear = masked h t x (clearMask (content s)) (suc i) c (r ∷ ws) tt set.on in
      let reset = resetting h t x (suc (suc i)) r ws clear.on in
      let n = ones (content r) in
      let numbers = numbers_run x n (suc (suc (suc i))) ws reset.on in
      let atoms = atoms_run x 0 _ (drop n ws) (omega arith) numbers.on in
      let long : length (take n ws) ≡ n = length-take-le n ws numbers.enough in
      let front : take n (take n ws ++ body (drop n ws)) ≡ take n ws = take_at _ _ n long in
      let back : drop n (take n ws ++ body (drop n ws)) ≡ body (drop n ws) = drop_at _ _ n long in
      let whole : body (s ∷ c ∷ r ∷ ws) ≡ s ∷ c ∷ r ∷ (take n ws ++ body (drop n ws)) = body_more s _ (simp set.is_mask) ∙ ap (λ (l : List ℕ). s ∷ l) (body_more c _ (simp clear.is_mask) ∙ ap (λ (l : List ℕ). c ∷ l) (body_more r ws (simp reset.is_reset) ∙ ap (λ (l : List ℕ). r ∷ l) numbers.bodies)) in
      subst (λ (l : List ℕ). CommandFits h (command_of (w ∷ a ∷ b ∷ l))) (sym whole)
      (record {
        condition = condition;
        sets_known = set.known;
        clears_known = clear.known;
        disjoint = eqb-true _ _ clear.apart;
        resets = subst (λ (l : List ℕ). AllByRecursion (ResetFits h) (resets_from 15 1 (content r) l)) (sym front) (resets_fit (content r) (take n ws) reset.known numbers.each);
        atoms = subst (λ (l : List ℕ). AtomsFit h (atoms_of l)) (sym back) (record { each = atoms.each; few = omega (arith, atoms.few) });
        urgent_without = λ u. ap atoms_of back ∙ atoms.urgent_without (urgent ∙ u);
      })

  pub command_fits : (x : Context) (i w : ℕ) (ws : List ℕ) → after_condition x.section ≡ setMask → x.urgent ≡ eqb (content w) 1 → Passes h t x onesMask i ws → CommandFits h (command_of (w ∷ body ws))
  command_fits x i w [] is urgent e = never_empty h t x onesMask i e
  command_fits x i w (a ∷ []) is urgent e = never_empty h t x zerosMask (suc i) (masked h t x onesMask i a [] tt e).on
  command_fits x i w (a ∷ b ∷ ws) is urgent e =
      let first = masked h t x onesMask i a (b ∷ ws) tt e in
      let second = masked h t x zerosMask (suc i) b ws tt first.on in
      let whole : body (a ∷ b ∷ ws) ≡ a ∷ b ∷ body ws = body_more a (b ∷ ws) (simp first.is_mask) ∙ ap (λ (l : List ℕ). a ∷ l) (body_more b ws (simp second.is_mask)) in
      let on : Passes h t x setMask (suc (suc i)) ws = subst (λ (s : Slot). Passes h t x s (suc (suc i)) ws) is second.on in
      subst (λ (l : List ℕ). CommandFits h (command_of (w ∷ l))) (sym whole)
      (effects_fit x (suc (suc i)) w a b ws urgent (record { ones_known = first.known; zeros_known = second.known }) on)
