-- A check as bounds on the differences of the values in one table. Assumes nothing.
use Rattle.std.specs.Prelude.{◌≡◌, ℕ, zero, suc, false, cond, List, [], ◌∷◌, ℤ, pos, ◌+ℤ◌, ◌-ℤ◌, ◌==◌}
use Rattle.std.specs.List.{AllByRecursion}
use Rattle.bound.specs.Time.{Made}
use Rattle.format.specs.Syntax.{Atom, Reset, Guarded, Command, Zone, Model}
use Rattle.model.specs.States.{ConditionHolds}
use Rattle.model.specs.Steps.{Urgent, booleans_after_command}

-- A frame says where a table has the clocks of a state: clock i is the value of its row, plus its offset at scale K, less the
-- value of clock 0's row.
pub record Frame : Type 0 where
  pub row : ℕ → ℕ
  pub offset : ℕ → ℤ

-- each clock in its own row
abbrev pub same : Frame
same = record { row = λ i. i; offset = λ _. pos 0 }

-- before a delay: clock 0 in the row of the second zero
abbrev pub row_before : ℕ → ℕ → ℕ
row_before second zero = second
row_before second (suc i) = suc i

abbrev pub before : ℕ → Frame
before second = record { row = row_before second; offset = λ _. pos 0 }

-- after some resets: a reset clock in the row of zero, with its number as offset
unfoldable pub row_after : List Reset → ℕ → ℕ
row_after [] i = i
row_after (r ∷ rs) i = cond (r.clock == i) 0 (row_after rs i)

unfoldable pub offset_after : List Reset → ℕ → ℤ
offset_after [] i = pos 0
offset_after (r ∷ rs) i = cond (r.clock == i) r.number (offset_after rs i)

abbrev pub after : List Reset → Frame
after l = record { row = row_after l; offset = offset_after l }

module _ (f : Frame) (K : ℕ) (ν : ℕ → ℤ) where
  -- an atom, placed in a frame, holds of the values ν
  abbrev pub Placed : Atom → Type 0
  Placed a = Made ((a.d -ℤ f.offset a.i) +ℤ f.offset a.j) a.strict K (ν (f.row a.i) -ℤ ν (f.row a.j))

  -- so do all atoms of the invariant records whose condition holds at these Booleans
  abbrev pub PlacedRecord : ℕ → Guarded → Type 0
  PlacedRecord b g = ConditionHolds g.condition b → AllByRecursion Placed g.atoms

  abbrev pub PlacedInvariant : ℕ → Model → Type 0
  PlacedInvariant b m = AllByRecursion (PlacedRecord b) m.invariants

  -- the zone has these Booleans, and all its atoms hold of the values
  pub record PlacedIn (b : ℕ) (y : Zone) : Type 0 where
    pub booleans : b ≡ y.booleans
    pub atoms : AllByRecursion Placed y.atoms

-- the values that stand for a state of z that meets g
pub record BadSystem (z : Zone) (g : Guarded) (K : ℕ) (ν : ℕ → ℤ) : Type 0 where
  pub zone : AllByRecursion (Placed same K ν) z.atoms
  pub bad : AllByRecursion (Placed same K ν) g.atoms

-- The values that stand for a timed step from z: the state before it in the frame `before`, the state after it in the frame
-- `same`, and the delay as the second zero less the first. The delay is not negative, and it is 0 where a command is urgent.
pub record TimeSystem (m : Model) (z : Zone) (second : ℕ) (K : ℕ) (ν : ℕ → ℤ) : Type 0 where
  pub zone : AllByRecursion (Placed (before second) K ν) z.atoms
  pub begins : PlacedInvariant (before second) K ν z.booleans m
  pub ends : PlacedInvariant same K ν z.booleans m
  pub forward : Made (pos 0) false K (ν 0 -ℤ ν second)
  pub at_once : Urgent m.commands z.booleans → Made (pos 0) false K (ν second -ℤ ν 0)

-- The values that stand for a step of the command from z: the state before it in the frame `same`, the state after it in the
-- frame `after`.
pub record CommandSystem (m : Model) (z : Zone) (c : Command) (K : ℕ) (ν : ℕ → ℤ) : Type 0 where
  pub zone : AllByRecursion (Placed same K ν) z.atoms
  pub guard : AllByRecursion (Placed same K ν) c.atoms
  pub invariant : PlacedInvariant (after c.resets) K ν (booleans_after_command c z.booleans) m
