-- An atom holds in a state exactly when it holds, placed in a frame, of the values that show the state. Assumes nothing.
use Rattle.std.proofs.Common.{◌≡◌, ℕ, zero, suc, ◌≤◌, Bool, true, false, cond, eqb, leb, List, [], ◌∷◌, ℤ, pos, negsuc, ◌+ℤ◌, ◌-ℤ◌, ◌*ℤ◌, neg_ℤ, ◌≤ℤ◌, refl, ap, ◌∙◌, arith}
use Rattle.std.specs.List.{AllByRecursion}
use Rattle.std.proofs.lemmas.Int.{ints}
use Rattle.std.proofs.lemmas.Bool.{le-leb, lt-leb, ne_eqb, cond-true, cond-false}
use Rattle.bound.specs.Time.{Made, Same}
use Rattle.bound.specs.Integers.{up_times, times_sum, times_neg}
use Rattle.format.specs.Places.{Head}
use Rattle.format.specs.Syntax.{Atom, Reset, Guarded, Command, Zone, Model}
use Rattle.format.specs.Ranges.{AtomFits, GuardedFits, ResetFits, ZoneFits, ModelFits, head_of_model}
use Rattle.model.specs.States.{State, clock, AtomHolds, AtomsHold, Respects, Invariant, LiesIn}
use Rattle.model.specs.Steps.{clocks_after, after_command, later}
use Rattle.checks.specs.Systems.{Frame, same, before, after, row_after, offset_after, Placed, PlacedRecord, PlacedInvariant, PlacedIn}

-- the values ν show the state s in the frame f, for the clocks up to C
abbrev pub Shows : ℕ → Frame → ℕ → (ℕ → ℤ) → State → Type 0
Shows C f K ν s = (i : ℕ) → i ≤ C → clock s i ≡ (ν (f.row i) -ℤ ν (f.row 0)) +ℤ (f.offset i *ℤ pos K)

-- ---- what holds of the values, and of the state

-- a bound on the difference of two values, each moved by its offset
times_moved : (d u w : ℤ) (K : ℕ) → ((d -ℤ u) +ℤ w) *ℤ pos K ≡ (d *ℤ pos K -ℤ u *ℤ pos K) +ℤ w *ℤ pos K
times_moved d u w K = omega (arith, ints, times_sum (d -ℤ u) w K, times_sum d (neg_ℤ u) K, times_neg u K)

moved : (d u w : ℤ) (strict : Bool) (K : ℕ) (x y z a b : ℤ) → a ≡ (x -ℤ z) +ℤ (u *ℤ pos K) → b ≡ (y -ℤ z) +ℤ (w *ℤ pos K) → Same (Made ((d -ℤ u) +ℤ w) strict K (x -ℤ y)) (Made d strict K (a -ℤ b))
moved d u w false K x y z a b p q = let e = times_moved d u w K in (λ h. omega (arith, ints), λ h. omega (arith, ints))
moved d u w true K x y z a b p q = let e = times_moved d u w K in (λ h. omega (arith, ints), λ h. omega (arith, ints))

-- the same of each element
each_same : {X : Type 0} (F P Q : X → Type 0) (l : List X) → ((x : X) → F x → Same (P x) (Q x)) → AllByRecursion F l → Same (AllByRecursion P l) (AllByRecursion Q l)
each_same F P Q [] one fits = (λ h. h, λ h. h)
each_same F P Q (x ∷ l) one fits =
    let here = one x fits.0 in
    let rest = each_same F P Q l one fits.1 in
    (λ h. (here.0 h.0, rest.0 h.1), λ h. (here.1 h.0, rest.1 h.1))

module _ (h : Head) (f : Frame) (K : ℕ) (ν : ℕ → ℤ) (s : State) (shows : Shows h.clocks f K ν s) where
  pub placed_atom : (a : Atom) → AtomFits h a → Same (Placed f K ν a) (AtomHolds K s a)
  placed_atom a fits = moved a.d (f.offset a.i) (f.offset a.j) a.strict K (ν (f.row a.i)) (ν (f.row a.j)) (ν (f.row 0)) (clock s a.i) (clock s a.j) (shows a.i fits.i_known) (shows a.j fits.j_known)

  pub placed_atoms : (l : List Atom) → AllByRecursion (AtomFits h) l → Same (AllByRecursion (Placed f K ν) l) (AtomsHold K s l)
  placed_atoms l fits = each_same (AtomFits h) (Placed f K ν) (AtomHolds K s) l placed_atom fits

  placed_record : (g : Guarded) → GuardedFits h g → Same (PlacedRecord f K ν s.booleans g) (Respects K s g)
  placed_record g fits =
      let both = placed_atoms g.atoms fits.atoms.each in
      (λ r c. both.0 (r c), λ r c. both.1 (r c))

  placed_records : (l : List Guarded) → AllByRecursion (GuardedFits h) l → Same (AllByRecursion (PlacedRecord f K ν s.booleans) l) (AllByRecursion (Respects K s) l)
  placed_records l fits = each_same (GuardedFits h) (PlacedRecord f K ν s.booleans) (Respects K s) l placed_record fits

  pub placed_in : (y : Zone) → ZoneFits h y → Same (PlacedIn f K ν s.booleans y) (LiesIn K s y)
  placed_in y fits =
      let both = placed_atoms y.atoms fits.atoms.each in
      (λ p. record { booleans = p.booleans; atoms = both.0 p.atoms }, λ p. record { booleans = p.booleans; atoms = both.1 p.atoms })

pub placed_invariant : (m : Model) (f : Frame) (K : ℕ) (ν : ℕ → ℤ) (s : State) → Shows m.clocks f K ν s → ModelFits m → Same (PlacedInvariant f K ν s.booleans m) (Invariant K m s)
placed_invariant m f K ν s shows fits = placed_records (head_of_model m) f K ν s shows m.invariants fits.invariants

-- ---- which states are shown

pub none_times : (K : ℕ) → pos 0 *ℤ pos K ≡ pos 0
none_times K = omega (arith, ints, up_times (pos 0) K)

-- a state with these Booleans, its clocks as differences from one of the values
abbrev pub state_from : ℕ → ℕ → (ℕ → ℤ) → State
state_from zeroth b ν = record { booleans = b; clocks = λ i. ν i -ℤ ν zeroth }

pub shows_same : (C K : ℕ) (ν : ℕ → ℤ) (b : ℕ) → Shows C same K ν (state_from 0 b ν)
shows_same C K ν b zero le = omega (arith, ints, none_times K)
shows_same C K ν b (suc i) le = omega (arith, ints, none_times K)

pub shows_before : (C second K : ℕ) (ν : ℕ → ℤ) (b : ℕ) → Shows C (before second) K ν (state_from second b ν)
shows_before C second K ν b zero le = omega (arith, ints, none_times K)
shows_before C second K ν b (suc i) le = omega (arith, ints, none_times K)

-- a state's own clocks
pub shows_clocks : (C K : ℕ) (s : State) → Shows C same K (clock s) s
shows_clocks C K s i le = omega (arith, ints, none_times K)

-- after some resets
zero_stays : (h : Head) (l : List Reset) → AllByRecursion (ResetFits h) l → (row_after l 0 ≡ 0) × (offset_after l 0 ≡ pos 0)
unfolding row_after offset_after
zero_stays h [] fits = (refl, refl)
zero_stays h (r ∷ l) fits =
    let rest = zero_stays h l fits.1 in
    let other : eqb r.clock 0 ≡ false = ne_eqb r.clock 0 (λ e. omega (arith, fits.0.a_clock)) in
    (cond-false _ _ _ other ∙ rest.0, cond-false _ _ _ other ∙ rest.1)

reset_shown : (K : ℕ) (l : List Reset) (ν x : ℕ → ℤ) (n : ℕ) → x n ≡ ν n -ℤ ν 0 → clocks_after K l x n ≡ (ν (row_after l n) -ℤ ν 0) +ℤ (offset_after l n *ℤ pos K)
unfolding row_after offset_after clocks_after
reset_shown K [] ν x n e = omega (arith, ints, none_times K)
reset_shown K (r ∷ l) ν x n e = by (eqb r.clock n) (reset_shown K l ν x n e) where
  by : (t : Bool) → clocks_after K l x n ≡ (ν (row_after l n) -ℤ ν 0) +ℤ (offset_after l n *ℤ pos K) → cond t (r.number *ℤ pos K) (clocks_after K l x n) ≡ (ν (cond t 0 (row_after l n)) -ℤ ν 0) +ℤ (cond t r.number (offset_after l n) *ℤ pos K)
  by true rest = omega (arith, ints)
  by false rest = rest

pub shows_after : (h : Head) (C K : ℕ) (ν : ℕ → ℤ) (s : State) (c : Command) → AllByRecursion (ResetFits h) c.resets → Shows C same K ν s → Shows C (after c.resets) K ν (after_command K c s)
shows_after h C K ν s c fits shows zero le = omega (arith, ints, ap (λ (z : ℤ). z *ℤ pos K) (zero_stays h c.resets fits).1, none_times K)
shows_after h C K ν s c fits shows (suc n) le =
    let e : s.clocks (suc n) ≡ ν (suc n) -ℤ ν 0 = omega (arith, ints, shows (suc n) le, none_times K) in
    omega (arith, ints, reset_shown K c.resets ν s.clocks (suc n) e, ap ν (zero_stays h c.resets fits).0)

-- ---- a timed step

-- the clocks after the delay, with the delay in the row of the second zero
abbrev pub stepped : ℕ → State → ℕ → ℕ → ℤ
stepped C s δ i = cond (leb i C) (clock (later δ s) i) (pos δ)

stepped_clock : (C : ℕ) (s : State) (δ i : ℕ) → i ≤ C → stepped C s δ i ≡ clock (later δ s) i
stepped_clock C s δ i le = cond-true _ _ _ (le-leb i C le)

stepped_second : (C : ℕ) (s : State) (δ : ℕ) → stepped C s δ (suc C) ≡ pos δ
stepped_second C s δ = cond-false _ _ _ (lt-leb (suc C) C (omega arith))

module _ (C K : ℕ) (s : State) (δ : ℕ) where
  pub stepped_before : Shows C (before (suc C)) K (stepped C s δ) s
  stepped_before zero le = omega (arith, ints, none_times K)
  stepped_before (suc i) le = omega (arith, ints, none_times K, stepped_clock C s δ (suc i) le, stepped_second C s δ)

  pub stepped_same : Shows C same K (stepped C s δ) (later δ s)
  stepped_same i le = omega (arith, ints, none_times K, stepped_clock C s δ i le, stepped_clock C s δ 0 (omega arith))

  pub stepped_forward : Made (pos 0) false K (stepped C s δ 0 -ℤ stepped C s δ (suc C))
  stepped_forward = omega (arith, ints, none_times K, stepped_clock C s δ 0 (omega arith), stepped_second C s δ)

  pub stepped_at_once : δ ≡ 0 → Made (pos 0) false K (stepped C s δ (suc C) -ℤ stepped C s δ 0)
  stepped_at_once e = omega (arith, ints, none_times K, stepped_clock C s δ 0 (omega arith), stepped_second C s δ)

-- a whole number that is not negative is a natural
natural : (z : ℤ) → pos 0 ≤ℤ z → (δ : ℕ) × (pos δ ≡ z)
natural (pos n) h = (n, refl)
natural (negsuc n) h = absurd (omega (arith, ints))

module _ (C K : ℕ) (ν : ℕ → ℤ) (b : ℕ) where
  -- the delay of the timed step that the values show
  pub record Timed : Type 0 where
    pub delay : ℕ
    pub is : pos delay ≡ ν (suc C) -ℤ ν 0
    pub shown : Shows C same K ν (later delay (state_from (suc C) b ν))
    pub at_once : Made (pos 0) false K (ν (suc C) -ℤ ν 0) → delay ≡ 0

  pub timed_by : Made (pos 0) false K (ν 0 -ℤ ν (suc C)) → Timed
  timed_by forward =
      let d = natural (ν (suc C) -ℤ ν 0) (omega (arith, ints, none_times K)) in
      record { delay = d.0; is = d.1; shown = shown d.0 d.1; at_once = λ back. omega (arith, ints, none_times K, d.1) }
    where
      shown : (δ : ℕ) → pos δ ≡ ν (suc C) -ℤ ν 0 → Shows C same K ν (later δ (state_from (suc C) b ν))
      shown δ e zero le = omega (arith, ints, none_times K)
      shown δ e (suc i) le = omega (arith, ints, none_times K)
