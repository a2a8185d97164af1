-- The states of a model at a scale, and what holds in them. Assumes nothing.
use Rattle.std.specs.Prelude.{◌≡◌, ℕ, zero, suc, List, ℤ, pos, ◌-ℤ◌, bit_and}
use Rattle.std.specs.List.{AllByRecursion}
use Rattle.bound.specs.Time.{Made}
use Rattle.format.specs.Syntax.{Atom, Condition, Guarded, Zone, Model}

-- A value for every Boolean, Boolean n in bit n, and a whole number for every clock. At scale K a clock counts in units of 1/K.
pub record State : Type 0 where
  pub booleans : ℕ
  pub clocks : ℕ → ℤ

-- what a clock shows: clock 0 is no clock and always 0
abbrev pub clock : State → ℕ → ℤ
clock s zero = pos 0
clock s (suc n) = s.clocks (suc n)

-- the start's Booleans, all clocks 0
abbrev pub start_state : Model → State
start_state m = record { booleans = m.start; clocks = λ _. pos 0 }

-- every Boolean in ones is true, and every one in zeros is false
pub record ConditionHolds (c : Condition) (booleans : ℕ) : Type 0 where
  pub ones_true : bit_and booleans c.ones ≡ c.ones
  pub zeros_false : bit_and booleans c.zeros ≡ 0

-- at scale K: clock i minus clock j is at most d × K, or below d × K if strict
abbrev pub AtomHolds : ℕ → State → Atom → Type 0
AtomHolds K s a = Made a.d a.strict K (clock s a.i -ℤ clock s a.j)

abbrev pub AtomsHold : ℕ → State → List Atom → Type 0
AtomsHold K s l = AllByRecursion (AtomHolds K s) l

-- if the record's condition holds, all its atoms do
abbrev pub Respects : ℕ → State → Guarded → Type 0
Respects K s g = ConditionHolds g.condition s.booleans → AtomsHold K s g.atoms

-- the invariant: so for each invariant record
abbrev pub Invariant : ℕ → Model → State → Type 0
Invariant K m s = AllByRecursion (Respects K s) m.invariants

-- the record's condition and all its atoms hold
pub record Meets (K : ℕ) (s : State) (g : Guarded) : Type 0 where
  pub condition : ConditionHolds g.condition s.booleans
  pub atoms : AtomsHold K s g.atoms

-- the Booleans are the zone's, and all its atoms hold
pub record LiesIn (K : ℕ) (s : State) (z : Zone) : Type 0 where
  pub booleans : s.booleans ≡ z.booleans
  pub atoms : AtomsHold K s z.atoms
