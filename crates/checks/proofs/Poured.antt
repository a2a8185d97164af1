-- What the time check and the command check pour into their tables: their systems. Assumes nothing.
use Rattle.std.proofs.Common.{◌≡◌, ℕ, suc, Bool, true, false, ℤ, pos, ◌-ℤ◌, Decides, Option, MatchOption}
use Rattle.std.specs.List.{AllByRecursion}
use Rattle.bound.specs.Time.{Same, Made}
use Rattle.bound.specs.declared.kind.Bound.{Ghosts as Kind}
use Rattle.dbm.specs.Calls.{HasSolution, EmptyTable, Closes}
use Rattle.dbm.specs.declared.table.Table.{Table}
use Rattle.dbm.specs.declared.table.Closed.{Closed}
use Rattle.format.specs.Syntax.{Command, Zone, Model}
use Rattle.format.specs.Ranges.{ModelFits, ZoneFits, CommandFits, head_of_model}
use Rattle.model.specs.States.{ConditionHolds}
use Rattle.model.specs.Steps.{Urgent, booleans_after_command}
use Rattle.checks.specs.Meanings.{CoversTime, CoversCommand}
use Rattle.checks.specs.Systems.{Placed, PlacedInvariant, same, before, after, TimeSystem, CommandSystem}
use Rattle.checks.specs.Pouring.{Adds}
use Rattle.checks.specs.Reaching.{Covered}
use Rattle.checks.proofs.Pours.{adds_both, adds_same}
use Rattle.checks.proofs.Steps.{time_system, command_system}
use Rattle.checks.proofs.Answering.{covered_by}

-- the bounds on a delay, where u tells whether a command is urgent
abbrev pub DelayBounds : ℕ → Bool → ℕ → (ℕ → ℤ) → Type 0
DelayBounds second u k ν = Made (pos 0) false k (ν 0 -ℤ ν second) × (u ≡ true → Made (pos 0) false k (ν second -ℤ ν 0))

module _ {B : Type 0} {kind : Kind B} (m : Model) (z : Zone) where
  pub poured_time : (second : ℕ) (u : Bool) (t₀ t₁ t₂ t₃ t₄ : Table B kind) → Decides u (Urgent m.commands z.booleans) →
      Adds (λ k ν. AllByRecursion (Placed (before second) k ν) z.atoms) t₀ t₁ →
      Adds (λ k ν. PlacedInvariant (before second) k ν z.booleans m) t₁ t₂ →
      Adds (λ k ν. PlacedInvariant same k ν z.booleans m) t₂ t₃ →
      Adds (DelayBounds second u) t₃ t₄ →
      Adds (TimeSystem m z second) t₀ t₄
  poured_time second u t₀ t₁ t₂ t₃ t₄ urgent zone begins ends delay =
      let P = λ (k : ℕ) (ν : ℕ → ℤ). AllByRecursion (Placed (before second) k ν) z.atoms in
      let Q = λ (k : ℕ) (ν : ℕ → ℤ). PlacedInvariant (before second) k ν z.booleans m in
      let R = λ (k : ℕ) (ν : ℕ → ℤ). PlacedInvariant same k ν z.booleans m in
      let one = adds_both P Q t₀ t₁ t₂ zone begins in
      let two = adds_both (λ k ν. P k ν × Q k ν) R t₀ t₂ t₃ one ends in
      let three = adds_both (λ k ν. (P k ν × Q k ν) × R k ν) (DelayBounds second u) t₀ t₃ t₄ two delay in
      adds_same (λ k ν. ((P k ν × Q k ν) × R k ν) × DelayBounds second u k ν) (TimeSystem m z second) t₀ t₄ (λ k ν ok. (
        λ p. record { zone = p.0.0.0; begins = p.0.0.1; ends = p.0.1; forward = p.1.0; at_once = λ h. p.1.1 (urgent.1 h) },
        λ s. (((s.zone, s.begins), s.ends), (s.forward, λ e. s.at_once (urgent.0 e))),
      )) three

  pub poured_command : (c : Command) (t₀ t₁ t₂ t₃ : Table B kind) →
      Adds (λ k ν. AllByRecursion (Placed same k ν) z.atoms) t₀ t₁ →
      Adds (λ k ν. AllByRecursion (Placed same k ν) c.atoms) t₁ t₂ →
      Adds (λ k ν. PlacedInvariant (after c.resets) k ν (booleans_after_command c z.booleans) m) t₂ t₃ →
      Adds (CommandSystem m z c) t₀ t₃
  poured_command c t₀ t₁ t₂ t₃ zone guard invariant =
      let P = λ (k : ℕ) (ν : ℕ → ℤ). AllByRecursion (Placed same k ν) z.atoms in
      let Q = λ (k : ℕ) (ν : ℕ → ℤ). AllByRecursion (Placed same k ν) c.atoms in
      let R = λ (k : ℕ) (ν : ℕ → ℤ). PlacedInvariant (after c.resets) k ν (booleans_after_command c z.booleans) m in
      let one = adds_both P Q t₀ t₁ t₂ zone guard in
      let two = adds_both (λ k ν. P k ν × Q k ν) R t₀ t₂ t₃ one invariant in
      adds_same (λ k ν. (P k ν × Q k ν) × R k ν) (CommandSystem m z c) t₀ t₃ (λ k ν ok. (
        λ p. record { zone = p.0.0; guard = p.0.1; invariant = p.1 },
        λ s. ((s.zone, s.guard), s.invariant),
      )) two

  -- a zone covers exactly when it holds what the closed table shows
  module _ (fits : ModelFits m) (z_fits : ZoneFits (head_of_model m) z) (n : ℕ) (t₀ t : Table B kind) (o : Option (Closed B kind)) (began : EmptyTable n t₀) (closes : MatchOption o (HasSolution t → ⊥) (λ c. Closes t c)) where
    pub time_covered : Adds (TimeSystem m z (suc m.clocks)) t₀ t → (y : Zone) → ZoneFits (head_of_model m) y → Same (CoversTime kind.admits m z y) (Covered o same z.booleans y)
    time_covered adds y y_fits =
        let system = time_system kind.admits m fits z y z_fits y_fits in
        let shown = covered_by n (TimeSystem m z (suc m.clocks)) t₀ t began adds o closes same z.booleans y in
        (λ h. shown.0 (system.0 h), λ h. system.1 (shown.1 h))

    pub command_covered : (c : Command) → CommandFits (head_of_model m) c → ConditionHolds c.condition z.booleans → Adds (CommandSystem m z c) t₀ t → (y : Zone) → ZoneFits (head_of_model m) y → Same (CoversCommand kind.admits m z c y) (Covered o (after c.resets) (booleans_after_command c z.booleans) y)
    command_covered c c_fits holds adds y y_fits =
        let system = command_system kind.admits m fits z c y z_fits c_fits y_fits holds in
        let shown = covered_by n (CommandSystem m z c) t₀ t began adds o closes (after c.resets) (booleans_after_command c z.booleans) y in
        (λ h. shown.0 (system.0 h), λ h. system.1 (shown.1 h))
