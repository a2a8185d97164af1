-- Each check, as a statement on the solutions of its system. Assumes nothing.
use Rattle.std.proofs.Common.{◌≡◌, ℕ, zero, suc, ◌*◌, ◌<◌, ◌≤◌, Bool, ℤ, pos, ◌-ℤ◌, ◌*ℤ◌, sym, refl, subst, ap₂, one-mul, arith}
use mathlib.Core.Path.{transport}
use Rattle.std.specs.List.{AllByRecursion}
use Rattle.std.proofs.ByRecursion.{All-weaker}
use Rattle.bound.specs.Time.{Made, Same}
use Rattle.bound.specs.Scales.{made_finer}
use Rattle.format.specs.Syntax.{Atom, Guarded, Command, Zone, Model}
use Rattle.format.specs.Ranges.{GuardedFits, CommandFits, ZoneFits, ModelFits, head_of_model}
use Rattle.model.specs.States.{State, clock, start_state, ConditionHolds, AtomHolds, Invariant, LiesIn}
use Rattle.model.specs.Steps.{booleans_after_command, after_command, later, Urgent, Delays}
use Rattle.checks.specs.Meanings.{HoldsStart, BadCheck, CoversTime, CoversCommand}
use Rattle.checks.specs.Systems.{same, before, after, PlacedInvariant, PlacedIn, BadSystem, TimeSystem, CommandSystem}
use Rattle.checks.proofs.Frames.{none_times, Shows, state_from, placed_atoms, placed_invariant, placed_in, shows_same, shows_before, shows_clocks, shows_after, stepped, stepped_before, stepped_same, stepped_forward, stepped_at_once, timed_by}
use Rattle.checks.proofs.Delays.{between_ends, no_delay}

-- ---- the start

-- at the start every clock is 0
start_clock : (m : Model) (i : ℕ) → clock (start_state m) i ≡ pos 0
start_clock m zero = refl
start_clock m (suc i) = refl

-- a bound on 0 says the same at every positive scale
made_at_one : (d : ℤ) (strict : Bool) (K : ℕ) → 1 ≤ K → Same (Made d strict K (pos 0)) (Made d strict 1 (pos 0))
made_at_one d strict K some =
    let both = made_finer d strict 1 K (pos 0) some in
    let at : Made d strict (1 * K) (pos 0 *ℤ pos K) ≡ Made d strict K (pos 0) = ap₂ (Made d strict) (one-mul K) (none_times K) in
    (λ h. both.1 (transport (sym at) h), λ h. transport at (both.0 h))

start_atom : (m : Model) (K : ℕ) → 1 ≤ K → (a : Atom) → Same (AtomHolds K (start_state m) a) (Made a.d a.strict 1 (pos 0))
start_atom m K some a =
    let at : clock (start_state m) a.i -ℤ clock (start_state m) a.j ≡ pos 0 = ap₂ ◌-ℤ◌ (start_clock m a.i) (start_clock m a.j) in
    let both = made_at_one a.d a.strict K some in
    (λ h. both.0 (subst (Made a.d a.strict K) at h), λ h. subst (Made a.d a.strict K) (sym at) (both.1 h))

module _ (admits : ℕ → Type 0) (m : Model) where
  pub start_system : (y : Zone) → (k : ℕ) × admits k → ((k : ℕ) → admits k → 1 ≤ k) → Same (HoldsStart admits m y) ((m.start ≡ y.booleans) × AllByRecursion (λ a. Made a.d a.strict 1 (pos 0)) y.atoms)
  start_system y some positive = (
    λ starts. let lies = starts some.0 some.1 in (lies.booleans, All-weaker (AtomHolds some.0 (start_state m)) (λ a. Made a.d a.strict 1 (pos 0)) (λ a. (start_atom m some.0 (positive some.0 some.1) a).0) y.atoms lies.atoms),
    λ both K ok. record { booleans = both.0; atoms = All-weaker (λ a. Made a.d a.strict 1 (pos 0)) (AtomHolds K (start_state m)) (λ a. (start_atom m K (positive K ok) a).1) y.atoms both.1 },
  )

  -- ---- a check whose condition fails

  pub bad_idle : (z : Zone) (g : Guarded) → (ConditionHolds g.condition z.booleans → ⊥) → BadCheck admits m z g
  bad_idle z g fails K s ok lies meets = fails (subst (ConditionHolds g.condition) lies.booleans meets.condition)

  pub command_idle : (z : Zone) (c : Command) (y : Zone) → (ConditionHolds c.condition z.booleans → ⊥) → CoversCommand admits m z c y
  command_idle z c y fails K s ok lies fires = absurd (fails (subst (ConditionHolds c.condition) lies.booleans fires.condition))

  -- ---- the bad check

  pub bad_system : (z : Zone) (g : Guarded) → ZoneFits (head_of_model m) z → GuardedFits (head_of_model m) g → ConditionHolds g.condition z.booleans → Same (BadCheck admits m z g) ((K : ℕ) (ν : ℕ → ℤ) → admits K → BadSystem z g K ν → ⊥)
  bad_system z g z_fits g_fits holds = (forth, back) where
    forth : BadCheck admits m z g → (K : ℕ) (ν : ℕ → ℤ) → admits K → BadSystem z g K ν → ⊥
    forth check K ν ok system =
        let s = state_from 0 z.booleans ν in
        let atoms = placed_atoms (head_of_model m) same K ν s (shows_same m.clocks K ν z.booleans) in
        check K s ok
        (record { booleans = refl; atoms = (atoms z.atoms z_fits.atoms.each).0 system.zone })
        (record { condition = holds; atoms = (atoms g.atoms g_fits.atoms.each).0 system.bad })

    back : ((K : ℕ) (ν : ℕ → ℤ) → admits K → BadSystem z g K ν → ⊥) → BadCheck admits m z g
    back none K s ok lies meets =
        let atoms = placed_atoms (head_of_model m) same K (clock s) s (shows_clocks m.clocks K s) in
        none K (clock s) ok (record { zone = (atoms z.atoms z_fits.atoms.each).1 lies.atoms; bad = (atoms g.atoms g_fits.atoms.each).1 meets.atoms })

  -- ---- a timed step

  module _ (fits : ModelFits m) where
    -- the values that a state of the zone and a delay give
    time_values : (z : Zone) (K : ℕ) (s : State) (δ : ℕ) → ZoneFits (head_of_model m) z → LiesIn K s z → Delays K m δ s → TimeSystem m z (suc m.clocks) K (stepped m.clocks s δ)
    time_values z K s δ z_fits lies delays =
        let C = m.clocks in
        let ν : ℕ → ℤ = stepped C s δ in
        let first : Shows C (before (suc C)) K ν s = stepped_before C K s δ in
        let last : Shows C same K ν (later δ s) = stepped_same C K s δ in
        let at_first : Invariant K m s = (no_delay K m s).0 (delays.invariant 0 (omega arith)) in
        record {
          zone = (placed_atoms (head_of_model m) (before (suc C)) K ν s first z.atoms z_fits.atoms.each).1 lies.atoms;
          begins = subst (λ (b : ℕ). PlacedInvariant (before (suc C)) K ν b m) lies.booleans ((placed_invariant m (before (suc C)) K ν s first fits).1 at_first);
          ends = subst (λ (b : ℕ). PlacedInvariant same K ν b m) lies.booleans ((placed_invariant m same K ν (later δ s) last fits).1 (delays.invariant δ (omega arith)));
          forward = stepped_forward C K s δ;
          at_once = λ urgent. stepped_at_once C K s δ (none δ (λ some. delays.unhurried some (subst (Urgent m.commands) (sym lies.booleans) urgent)));
        }
      where
        none : (n : ℕ) → (0 < n → ⊥) → n ≡ 0
        none zero h = refl
        none (suc n) h = absurd (h (omega arith))

    -- the delay that values give
    time_delays : (z : Zone) (K : ℕ) (ν : ℕ → ℤ) (t : TimeSystem m z (suc m.clocks) K ν) → Delays K m (timed_by m.clocks K ν z.booleans t.forward).delay (state_from (suc m.clocks) z.booleans ν)
    time_delays z K ν t =
        let C = m.clocks in
        let b = z.booleans in
        let s = state_from (suc C) b ν in
        let d = timed_by C K ν b t.forward in
        let at_first : Invariant K m s = (placed_invariant m (before (suc C)) K ν s (shows_before C (suc C) K ν b) fits).0 t.begins in
        let at_last : Invariant K m (later d.delay s) = (placed_invariant m same K ν (later d.delay s) d.shown fits).0 t.ends in
        record {
          invariant = λ e le. between_ends K d.delay e m s le at_first at_last;
          unhurried = λ some urgent. let none = d.at_once (t.at_once urgent) in omega arith;
        }

    pub time_system : (z y : Zone) → ZoneFits (head_of_model m) z → ZoneFits (head_of_model m) y → Same (CoversTime admits m z y) ((K : ℕ) (ν : ℕ → ℤ) → admits K → TimeSystem m z (suc m.clocks) K ν → PlacedIn same K ν z.booleans y)
    time_system z y z_fits y_fits = (forth, back) where
      forth : CoversTime admits m z y → (K : ℕ) (ν : ℕ → ℤ) → admits K → TimeSystem m z (suc m.clocks) K ν → PlacedIn same K ν z.booleans y
      forth covers K ν ok t =
          let C = m.clocks in
          let b = z.booleans in
          let s = state_from (suc C) b ν in
          let d = timed_by C K ν b t.forward in
          let atoms = (placed_atoms (head_of_model m) (before (suc C)) K ν s (shows_before C (suc C) K ν b) z.atoms z_fits.atoms.each).0 t.zone in
          (placed_in (head_of_model m) same K ν (later d.delay s) d.shown y y_fits).1 (covers K s d.delay ok (record { booleans = refl; atoms = atoms }) (time_delays z K ν t))

      back : ((K : ℕ) (ν : ℕ → ℤ) → admits K → TimeSystem m z (suc m.clocks) K ν → PlacedIn same K ν z.booleans y) → CoversTime admits m z y
      back all K s δ ok lies delays =
          let ν : ℕ → ℤ = stepped m.clocks s δ in
          let inside = subst (λ (b : ℕ). PlacedIn same K ν b y) (sym lies.booleans) (all K ν ok (time_values z K s δ z_fits lies delays)) in
          (placed_in (head_of_model m) same K ν (later δ s) (stepped_same m.clocks K s δ) y y_fits).0 inside

    -- ---- a command

    pub command_system : (z : Zone) (c : Command) (y : Zone) → ZoneFits (head_of_model m) z → CommandFits (head_of_model m) c → ZoneFits (head_of_model m) y → ConditionHolds c.condition z.booleans → Same (CoversCommand admits m z c y) ((K : ℕ) (ν : ℕ → ℤ) → admits K → CommandSystem m z c K ν → PlacedIn (after c.resets) K ν (booleans_after_command c z.booleans) y)
    command_system z c y z_fits c_fits y_fits holds = (forth, back) where
      forth : CoversCommand admits m z c y → (K : ℕ) (ν : ℕ → ℤ) → admits K → CommandSystem m z c K ν → PlacedIn (after c.resets) K ν (booleans_after_command c z.booleans) y
      forth covers K ν ok t =
          let s = state_from 0 z.booleans ν in
          let first : Shows m.clocks same K ν s = shows_same m.clocks K ν z.booleans in
          let last : Shows m.clocks (after c.resets) K ν (after_command K c s) = shows_after (head_of_model m) m.clocks K ν s c c_fits.resets first in
          let atoms = placed_atoms (head_of_model m) same K ν s first in
          (placed_in (head_of_model m) (after c.resets) K ν (after_command K c s) last y y_fits).1
          (covers K s ok
          (record { booleans = refl; atoms = (atoms z.atoms z_fits.atoms.each).0 t.zone })
          (record { condition = holds; atoms = (atoms c.atoms c_fits.atoms.each).0 t.guard; invariant = (placed_invariant m (after c.resets) K ν (after_command K c s) last fits).0 t.invariant }))

      back : ((K : ℕ) (ν : ℕ → ℤ) → admits K → CommandSystem m z c K ν → PlacedIn (after c.resets) K ν (booleans_after_command c z.booleans) y) → CoversCommand admits m z c y
      back all K s ok lies fires =
          let ν : ℕ → ℤ = clock s in
          let first : Shows m.clocks same K ν s = shows_clocks m.clocks K s in
          let last : Shows m.clocks (after c.resets) K ν (after_command K c s) = shows_after (head_of_model m) m.clocks K ν s c c_fits.resets first in
          let atoms = placed_atoms (head_of_model m) same K ν s first in
          let inside = all K ν ok (record {
            zone = (atoms z.atoms z_fits.atoms.each).1 lies.atoms;
            guard = (atoms c.atoms c_fits.atoms.each).1 fires.atoms;
            invariant = subst (λ (b : ℕ). PlacedInvariant (after c.resets) K ν (booleans_after_command c b) m) lies.booleans ((placed_invariant m (after c.resets) K ν (after_command K c s) last fits).1 fires.invariant);
          }) in
          (placed_in (head_of_model m) (after c.resets) K ν (after_command K c s) last y y_fits).0 (subst (λ (b : ℕ). PlacedIn (after c.resets) K ν (booleans_after_command c b) y) (sym lies.booleans) inside)
