-- The steps and the runs of a model at a scale. Assumes nothing.
use Rattle.std.specs.Prelude.{◌≡◌, ℕ, ◌-◌, ◌<◌, ◌≤◌, true, cond, List, [], ◌∷◌, ℤ, pos, ◌+ℤ◌, ◌*ℤ◌, Some, ◌==◌, bit_and, bit_or}
use Rattle.std.specs.List.{slice_get}
use Rattle.format.specs.Syntax.{Reset, Guarded, Command, Model}
use Rattle.model.specs.States.{State, start_state, ConditionHolds, AtomsHold, Invariant, Meets}

-- ---- a command's step

-- the Booleans after a command: those that it clears are taken away, those that it sets are put in
abbrev pub booleans_after_command : Command → ℕ → ℕ
booleans_after_command c b = bit_or (b - bit_and b c.clears) c.sets

-- the clocks after some resets: a reset clock has its number times K, any other what it had
unfoldable pub clocks_after : ℕ → List Reset → (ℕ → ℤ) → ℕ → ℤ
clocks_after K [] x n = x n
clocks_after K (r ∷ rs) x n = cond (r.clock == n) (r.number *ℤ pos K) (clocks_after K rs x n)

abbrev pub after_command : ℕ → Command → State → State
after_command K c s = record { booleans = booleans_after_command c s.booleans; clocks = clocks_after K c.resets s.clocks }

-- The command may fire: its condition and its atoms hold before, and the invariant holds after.
pub record Fires (K : ℕ) (m : Model) (c : Command) (s : State) : Type 0 where
  pub condition : ConditionHolds c.condition s.booleans
  pub atoms : AtomsHold K s c.atoms
  pub invariant : Invariant K m (after_command K c s)

-- ---- a timed step

-- δ is added to every clock
abbrev pub later : ℕ → State → State
later δ s = record { booleans = s.booleans; clocks = λ n. s.clocks n +ℤ pos δ }

-- some command is urgent, and its condition holds
pub record Urgent (commands : List Command) (booleans : ℕ) : Type 0 where
  pub number : ℕ
  pub command : Command
  pub listed : slice_get commands number ≡ Some command
  pub urgent : command.urgent ≡ true
  pub condition : ConditionHolds command.condition booleans

-- Time may pass by δ: the invariant holds after each whole e from 0 to δ, and above 0 no urgent command's condition holds.
pub record Delays (K : ℕ) (m : Model) (δ : ℕ) (s : State) : Type 0 where
  pub invariant : (e : ℕ) → e ≤ δ → Invariant K m (later e s)
  pub unhurried : 0 < δ → Urgent m.commands s.booleans → ⊥

-- ---- runs

-- A run of finitely many steps from the start state, whose invariant may fail. It stands in the start state and in the state
-- after each of its steps.
pub data Stands (K : ℕ) (m : Model) : State → Type 0 where
  at_start : Stands K m (start_state m)
  fired : (s : State) (n : ℕ) (c : Command) → Stands K m s → slice_get m.commands n ≡ Some c → Fires K m c s → Stands K m (after_command K c s)
  delayed : (s : State) (δ : ℕ) → Stands K m s → Delays K m δ s → Stands K m (later δ s)

-- a state that meets a bad record
pub record Bad (K : ℕ) (m : Model) (s : State) : Type 0 where
  pub number : ℕ
  pub bad : Guarded
  pub in_model : slice_get m.bads number ≡ Some bad
  pub meets : Meets K s bad
