-- A sheet after one more call. Assumes nothing.
use Rattle.std.proofs.Common.{◌≡◌, ℕ, ◌+◌, min, Bool, true, false, cond, ◌&&◌, ltb, leb, ◌⊎◌, List, length, get_or, set, Some, None, Ok, Err, Option, Result, sym, refl, ap, ◌∙◌, subst, inl, inr, ⊎_elim, arith, MatchResult}
use Rattle.model.specs.declared.files.Files.{Files}
use Rattle.checks.specs.Passed.{pass_over}
use Rattle.sheet.specs.Sheets.{Opened, zones_on, struck_on, next_on}
use Rattle.sheet.specs.Settling.{unless, while_going, left_over, settle_refused, Settles, Moved}
use Rattle.sheet.specs.Striking.{mark_refused, strike_refused, restore_refused, Marked}
use Rattle.sheet.specs.Series.{History, at_opening, after_call, fresh, marking}
use Rattle.sheet.specs.Tracking.{SoFar, Tracks, Makes}
use Rattle.checks.specs.declared.check.Check.{Check}
use Rattle.sheet.specs.declared.sheet.Sheet.{Sheet}
use Rattle.checks.specs.declared.check.Settled.{Settled}
use Rattle.checks.specs.declared.check.Settled.TheVariants.{Holds as Held, Fails}
use Rattle.sheet.specs.declared.answers.Refused.{Refused}
use Rattle.sheet.specs.declared.answers.Refused.TheVariants.{Void, ShortArea, NoSuchZone, AlreadySo}
use Rattle.sheet.specs.declared.call.Call.TheVariants.{Settle, Strike, Restore}
use Rattle.sheet.proofs.Counting.{progress_none, progress_holds, progress_fails, progress_over}

module _ (admits : ℕ → Type 0) where
  -- the same, by other names
  far_as : (p q : Files) (struck marks : List Bool) (count n : ℕ) (failing f : Bool) (a : ℕ) → q ≡ p → marks ≡ struck → n ≡ count → f ≡ failing → SoFar admits p struck count failing a → SoFar admits q marks n f a
  far_as p q struck marks count n failing f a e₁ e₂ e₃ e₄ h =
      subst (λ (x : Files). SoFar admits x marks n f a) (sym e₁) (subst (λ (x : List Bool). SoFar admits p x n f a) (sym e₂) (subst (λ (x : ℕ). SoFar admits p struck x f a) (sym e₃) (subst (λ (x : Bool). SoFar admits p struck count x a) (sym e₄) h)))

  -- ---- settle

  -- not refused: the area has 578 bounds, and the sheet is not failing
  settle_asked : (passed enough failing : Bool) (next : Option Check) → unless passed Void (unless enough ShortArea (while_going failing (left_over next))) ≡ None → (enough ≡ true) × (failing ≡ false)
  settle_asked true true false (Some c) e = (refl, refl)
  settle_asked true true false None e = absurd (let z : ◌≡◌ {A = ℕ} 0 1 = cc in omega arith)
  settle_asked true true true next e = absurd (let z : ◌≡◌ {A = ℕ} 0 1 = cc in omega arith)
  settle_asked true false failing next e = absurd (let z : ◌≡◌ {A = ℕ} 0 1 = cc in omega arith)
  settle_asked false enough failing next e = absurd (let z : ◌≡◌ {A = ℕ} 0 1 = cc in omega arith)

  -- refused on a sheet that is not void: the area is too short, or there is nothing left
  settle_over : (enough failing : Bool) (next : Option Check) (f : Refused) → unless enough ShortArea (while_going failing (left_over next)) ≡ Some f → (enough ≡ false) ⊎ ((enough ≡ true) × ((failing ≡ true) ⊎ (next ≡ None)))
  settle_over false failing next f e = inl refl
  settle_over true true next f e = inr (refl, inl refl)
  settle_over true false None f e = inr (refl, inr refl)
  settle_over true false (Some c) f e = absurd (let z : ◌≡◌ {A = ℕ} 0 1 = cc in omega arith)

  module _ (old new : Sheet) (h : History) (tracks : Tracks admits old h) (b area : ℕ) where
    moved_to : (enough : Bool) → leb 578 (min b area) ≡ enough → (count : ℕ) (failing : Bool) → Moved old new count failing → SoFar admits old.files (struck_on old) count failing (cond enough (h.adequate + 1) h.adequate) → Tracks admits new (after_call (length (zones_on old)) area h (Settle b))
    moved_to enough e count failing m far = record {
      marks = m.marks ∙ tracks.marks;
      settled = far_as old.files new.files (struck_on old) (struck_on new) count new.count failing new.failing _ m.files m.marks m.counted m.fails (subst (λ (x : Bool). SoFar admits old.files (struck_on old) count failing (cond x (h.adequate + 1) h.adequate)) (sym e) far);
    }

    pub tracks_settled : (answer : Settled) → settle_refused old (min b area) ≡ None → Settles admits old answer new → Tracks admits new (after_call (length (zones_on old)) area h (Settle b))
    tracks_settled (Held _) unrefused s =
        let asked = settle_asked _ _ _ _ unrefused in
        moved_to true asked.0 (old.count + 1) false s.moved (progress_holds _ _ old.count h.adequate s.check s.next s.decided.0 (subst (λ (x : Bool). SoFar admits old.files (struck_on old) old.count x h.adequate) asked.1 tracks.settled))
    tracks_settled Fails unrefused s =
        let asked = settle_asked _ _ _ _ unrefused in
        moved_to true asked.0 old.count true s.moved (progress_fails _ _ old.count h.adequate s.check s.next s.decided (subst (λ (x : Bool). SoFar admits old.files (struck_on old) old.count x h.adequate) asked.1 tracks.settled))

    -- a refused settle leaves the sheet; an adequate one counts all the same
    pub tracks_refused : (f : Refused) → pass_over old.files ≡ true → settle_refused old (min b area) ≡ Some f → new ≡ old → Tracks admits new (after_call (length (zones_on old)) area h (Settle b))
    tracks_refused f passed refused same =
        let asked = subst (λ (x : Bool). unless x Void (unless (leb 578 (min b area)) ShortArea (while_going old.failing (left_over (next_on old)))) ≡ Some f) passed refused in
        let unmoved : Moved old new old.count old.failing = record { files = ap (λ (s : Sheet). s.files) same; marks = ap (λ (s : Sheet). struck_on s) same; counted = ap (λ (s : Sheet). s.count) same; fails = ap (λ (s : Sheet). s.failing) same } in
        ⊎_elim
        (λ short. moved_to false short old.count old.failing unmoved tracks.settled)
        (λ over. moved_to true over.0 old.count old.failing unmoved (progress_over _ _ old.count h.adequate old.failing over.1 tracks.settled))
        (settle_over (leb 578 (min b area)) old.failing (next_on old) f asked)

  -- ---- strike and restore

  mark_asked : (passed inside fit : Bool) → unless passed Void (unless inside NoSuchZone (unless fit AlreadySo None)) ≡ None → (inside && fit) ≡ true
  mark_asked true true true e = refl
  mark_asked true true false e = absurd (let z : ◌≡◌ {A = ℕ} 0 1 = cc in omega arith)
  mark_asked true false fit e = absurd (let z : ◌≡◌ {A = ℕ} 0 1 = cc in omega arith)
  mark_asked false inside fit e = absurd (let z : ◌≡◌ {A = ℕ} 0 1 = cc in omega arith)

  mark_over : (inside fit : Bool) (f : Refused) → unless inside NoSuchZone (unless fit AlreadySo None) ≡ Some f → (inside && fit) ≡ false
  mark_over true true f e = absurd (let z : ◌≡◌ {A = ℕ} 0 1 = cc in omega arith)
  mark_over true false f e = refl
  mark_over false fit f e = refl

  module _ (old new : Sheet) (h : History) (tracks : Tracks admits old h) (n : ℕ) (mark : Bool) where
    -- what the history says of the zone's mark is what the sheet says
    abbrev here : Bool
    here = ltb n (length (zones_on old)) && fresh mark (get_or (struck_on old) n false)

    as_here : (r : Bool) → here ≡ r → marking (length (zones_on old)) h n mark ≡ cond r (record { struck = set h.struck n mark; adequate = 0 }) h
    as_here r e = ap (λ (l : List Bool). cond (ltb n (length (zones_on old)) && fresh mark (get_or l n false)) (record { struck = set h.struck n mark; adequate = 0 }) h) (sym tracks.marks) ∙ ap (λ (x : Bool). cond x (record { struck = set h.struck n mark; adequate = 0 }) h) e

    pub tracks_marked : mark_refused (fresh mark (get_or (struck_on old) n false)) old n ≡ None → Marked old n mark new → Tracks admits new (marking (length (zones_on old)) h n mark)
    tracks_marked unrefused m = subst (Tracks admits new) (sym (as_here true (mark_asked (pass_over old.files) (ltb n (length (zones_on old))) (fresh mark (get_or (struck_on old) n false)) unrefused))) (record {
      marks = m.marks ∙ ap (λ (l : List Bool). set l n mark) tracks.marks;
      settled = far_as new.files new.files (struck_on new) (struck_on new) 0 new.count false new.failing 0 refl refl m.counted m.going (progress_none _ _);
    })

    pub tracks_unmarked : (f : Refused) → pass_over old.files ≡ true → mark_refused (fresh mark (get_or (struck_on old) n false)) old n ≡ Some f → new ≡ old → Tracks admits new (marking (length (zones_on old)) h n mark)
    tracks_unmarked f passed refused same =
        let asked = subst (λ (x : Bool). unless x Void (unless (ltb n (length (zones_on old))) NoSuchZone (unless (fresh mark (get_or (struck_on old) n false)) AlreadySo None)) ≡ Some f) passed refused in
        subst (Tracks admits new) (sym (as_here false (mark_over (ltb n (length (zones_on old))) (fresh mark (get_or (struck_on old) n false)) f asked))) (subst (λ (s : Sheet). Tracks admits s h) (sym same) tracks)

  -- ---- one call, by its answer

  moved_files : (answer : Settled) (old new : Sheet) → Settles admits old answer new → new.files ≡ old.files
  moved_files (Held _) old new s = s.moved.files
  moved_files Fails old new s = s.moved.files

  pub makes_settle : (r : Result Settled Refused) (old new : Sheet) (b area len : ℕ) (Q : Type 0) → len ≡ min b area → MatchResult r (λ a. (settle_refused old len ≡ None) × Settles admits old a new) (λ f. (settle_refused old len ≡ Some f) × (new ≡ old) × Q) → Makes admits area old (Settle b) new
  makes_settle (Ok a) old new b area len Q e h = record {
    files = moved_files a old new h.1;
    tracks = λ passed hist tracks. tracks_settled old new hist tracks b area a (subst (λ (k : ℕ). settle_refused old k ≡ None) e h.0) h.1;
  }
  makes_settle (Err f) old new b area len Q e h = record {
    files = ap (λ (s : Sheet). s.files) h.1;
    tracks = λ passed hist tracks. tracks_refused old new hist tracks b area f passed (subst (λ (k : ℕ). settle_refused old k ≡ Some f) e h.0) h.1;
  }

  pub makes_strike : (r : Result (Unit {0}) Refused) (old new : Sheet) (n area : ℕ) → MatchResult r (λ _. (strike_refused old n ≡ None) × Marked old n true new) (λ f. (strike_refused old n ≡ Some f) × (new ≡ old)) → Makes admits area old (Strike n) new
  makes_strike (Ok u) old new n area h = record { files = h.1.files; tracks = λ passed hist tracks. tracks_marked old new hist tracks n true h.0 h.1 }
  makes_strike (Err f) old new n area h = record { files = ap (λ (s : Sheet). s.files) h.1; tracks = λ passed hist tracks. tracks_unmarked old new hist tracks n true f passed h.0 h.1 }

  pub makes_restore : (r : Result (Unit {0}) Refused) (old new : Sheet) (n area : ℕ) → MatchResult r (λ _. (restore_refused old n ≡ None) × Marked old n false new) (λ f. (restore_refused old n ≡ Some f) × (new ≡ old)) → Makes admits area old (Restore n) new
  makes_restore (Ok u) old new n area h = record { files = h.1.files; tracks = λ passed hist tracks. tracks_marked old new hist tracks n false h.0 h.1 }
  makes_restore (Err f) old new n area h = record { files = ap (λ (s : Sheet). s.files) h.1; tracks = λ passed hist tracks. tracks_unmarked old new hist tracks n false f passed h.0 h.1 }

  -- ---- opening

  pub tracks_opened : (ms zs : List ℕ) (s : Sheet) → Opened ms zs s → Tracks admits s at_opening
  tracks_opened ms zs s o = record {
    marks = o.unstruck;
    settled = far_as s.files s.files (struck_on s) (struck_on s) 0 s.count false s.failing 0 refl refl o.count o.going (progress_none _ _);
  }
