-- What a verdict says after a series of calls. Assumes nothing.
use Rattle.std.proofs.Common.{◌≡◌, ℕ, ◌<◌, ◌≤◌, Bool, true, false, List, length, Some, None, Option, sym, refl, ◌∙◌, subst, arith}
use Rattle.checks.specs.Decisions.{Holds}
use Rattle.sheet.specs.Meanings.{AllHold}
use Rattle.sheet.specs.Order.{total}
use Rattle.sheet.specs.Sheets.{model_on, zones_on, struck_on, checks_on, next_on}
use Rattle.sheet.specs.Striking.{by_failing, verdict_of}
use Rattle.sheet.specs.Series.{History, HoldBelow, FailsAt, Promise}
use Rattle.sheet.specs.Tracking.{Progress, Tracks}
use Rattle.checks.specs.declared.check.Check.{Check}
use Rattle.sheet.specs.declared.sheet.Sheet.{Sheet}
use Rattle.sheet.specs.declared.answers.Verdict.TheVariants.{Accepted, Failing, Unfinished}
use Rattle.sheet.proofs.Safety.{never_bad}
use Rattle.sheet.proofs.Counting.{nth_in, settled, settled_count}
use Rattle.sheet.proofs.Ordering.{hold_all, all_hold, length_order}

-- accepted is said exactly where the sheet is not failing and no check is left, with the count
accepted_means : (failing : Bool) (count n : ℕ) (next : Option Check) → by_failing failing count next ≡ Accepted n → (failing ≡ false) × (next ≡ None) × (count ≡ n)
accepted_means true count n next e = absurd (let z : ◌≡◌ {A = ℕ} 0 1 = cc in omega arith)
accepted_means false count n None e = (refl, refl, cc)
accepted_means false count n (Some c) e = absurd (let z : ◌≡◌ {A = ℕ} 0 1 = cc in omega arith)

means_accepted : (failing : Bool) (count : ℕ) (next : Option Check) → failing ≡ false → next ≡ None → by_failing failing count next ≡ Accepted count
means_accepted failing count next f e = rw f (rw e refl)

failing_means : (failing : Bool) (count n : ℕ) (next : Option Check) → by_failing failing count next ≡ Failing n → (failing ≡ true) × (count ≡ n)
failing_means true count n next e = (refl, cc)
failing_means false count n None e = absurd (let z : ◌≡◌ {A = ℕ} 0 1 = cc in omega arith)
failing_means false count n (Some c) e = absurd (let z : ◌≡◌ {A = ℕ} 0 1 = cc in omega arith)

unfinished_means : (failing : Bool) (count n : ℕ) (next : Option Check) → by_failing failing count next ≡ Unfinished n → (failing ≡ false) × (count ≡ n) × ((c : Check) × (next ≡ Some c))
unfinished_means true count n next e = absurd (let z : ◌≡◌ {A = ℕ} 0 1 = cc in omega arith)
unfinished_means false count n None e = absurd (let z : ◌≡◌ {A = ℕ} 0 1 = cc in omega arith)
unfinished_means false count n (Some c) e = (refl, cc, (c, refl))

module _ (admits : ℕ → Type 0) (s : Sheet) (h : History) (tracks : Tracks admits s h) where
  abbrev all_of_it : Type 0
  all_of_it = AllHold admits (model_on s) (zones_on s) (struck_on s)

  abbrev how_many : ℕ
  how_many = total (length (model_on s).bads) (length (model_on s).commands) (struck_on s) (length (zones_on s))

  many : length (checks_on s) ≡ how_many
  many = length_order (length (model_on s).bads) (length (model_on s).commands) (struck_on s) (length (zones_on s))

  told : (n : ℕ) → verdict_of s ≡ Accepted n → all_of_it × (how_many ≤ h.adequate)
  told n e =
      let a = accepted_means s.failing s.count n (next_on s) e in
      let both = (settled _ _ s.count h.adequate s.failing tracks.settled).0 (a.0, a.1) in
      (all_hold admits (model_on s) (zones_on s) (struck_on s) both.0, omega (arith, both.1, many))

  counted : (n : ℕ) → verdict_of s ≡ Accepted n → n ≡ how_many
  counted n e =
      let a = accepted_means s.failing s.count n (next_on s) e in
      sym a.2 ∙ settled_count _ _ s.count h.adequate (subst (λ (f : Bool). Progress (Holds admits (model_on s) (zones_on s) (struck_on s)) (checks_on s) s.count f h.adequate) a.0 tracks.settled) a.1 ∙ many

  said : all_of_it → how_many ≤ h.adequate → (n : ℕ) × (verdict_of s ≡ Accepted n)
  said all enough =
      let both = (settled _ _ s.count h.adequate s.failing tracks.settled).1 (hold_all admits (model_on s) (zones_on s) (struck_on s) all, omega (arith, many)) in
      (s.count, means_accepted s.failing s.count (next_on s) both.0 both.1)

  failed : (n : ℕ) → verdict_of s ≡ Failing n → FailsAt admits (model_on s) (zones_on s) (struck_on s) n
  failed n e =
      let a = failing_means s.failing s.count n (next_on s) e in
      let stop = tracks.settled.stopped a.0 in
      subst (FailsAt admits (model_on s) (zones_on s) (struck_on s)) a.1 (record { check = stop.0; listed = stop.1; fails = stop.2; before = tracks.settled.below })

  still : (n : ℕ) → verdict_of s ≡ Unfinished n → (n ≡ h.adequate) × (n < how_many) × HoldBelow admits (model_on s) (zones_on s) (struck_on s) n
  still n e =
      let a = unfinished_means s.failing s.count n (next_on s) e in
      let here = tracks.settled.going a.0 in
      let inside = nth_in (checks_on s) s.count a.2.0 a.2.1 in
      (omega (arith, a.1, here, inside), omega (arith, a.1, inside, many), subst (HoldBelow admits (model_on s) (zones_on s) (struck_on s)) a.1 tracks.settled.below)

  pub promised : Promise admits (model_on s) (zones_on s) h (verdict_of s)
  promised = subst (λ (l : List Bool). Promise admits (model_on s) (zones_on s) (record { struck = l; adequate = h.adequate }) (verdict_of s)) tracks.marks (record {
    safe = λ n e K ok r stands bad. never_bad admits (model_on s) (zones_on s) (struck_on s) (told n e).0 K ok r stands bad;
    exact = (λ a. told a.0 a.1, λ b. said b.0 b.1);
    count = counted;
    failing = failed;
    unfinished = still;
  })
