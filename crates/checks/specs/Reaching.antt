-- What a step reaches, and which zones hold it. Assumes nothing.
use Rattle.std.specs.Prelude.{◌≡◌, ℕ, List, ℤ, pos, Some, None, Option}
use Rattle.std.specs.List.{AllByRecursion}
use Rattle.bound.specs.Time.{Made}
use Rattle.bound.specs.declared.kind.Bound.{Ghosts as Kind}
use Rattle.dbm.specs.Calls.{SolvesClosed}
use Rattle.dbm.specs.declared.table.Closed.{Closed}
use Rattle.format.specs.Syntax.{Atom, Zone}
use Rattle.checks.specs.Systems.{Frame, PlacedIn}
use Rattle.checks.specs.Frames.{Placeable}

-- the atom holds where all clocks are 0
abbrev pub AtZero : Atom → Type 0
AtZero a = Made a.d a.strict 1 (pos 0)

-- the zone holds the state with these Booleans and all clocks 0
abbrev pub HoldsZero : ℕ → Zone → Type 0
HoldsZero b y = (b ≡ y.booleans) × AllByRecursion AtZero y.atoms

-- every atom of the zone can be placed
abbrev pub PlaceableZone : Frame → ℕ → Zone → Type 0
PlaceableZone f n y = AllByRecursion (Placeable f n) y.atoms

-- the zone holds all states that the solutions of a closed table show in a frame, with these Booleans
abbrev pub HoldsAll : {B : Type 0} {kind : Kind B} → Closed B kind → Frame → ℕ → Zone → Type 0
HoldsAll {B} {kind} t f b y = (k : ℕ) (ν : ℕ → ℤ) → kind.admits k → SolvesClosed t k ν → PlacedIn f k ν b y

-- ---- by what closing answered

-- the zone holds all that is shown in a frame, with these Booleans: anything, where the table has no solution
abbrev pub Covered : {B : Type 0} {kind : Kind B} → Option (Closed B kind) → Frame → ℕ → Zone → Type 0
Covered (Some t) f b y = HoldsAll t f b y
Covered None f b y = Unit {0}

-- where there is a closed table, every atom of the zones can be placed in it
abbrev pub PlaceableIn : {B : Type 0} {kind : Kind B} → Option (Closed B kind) → Frame → List Zone → Type 0
PlaceableIn (Some t) f l = AllByRecursion (PlaceableZone f t.square.n) l
PlaceableIn None f l = Unit {0}
