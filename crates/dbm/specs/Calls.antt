-- What the calls on a table do. Assumes nothing.
use Rattle.std.specs.Prelude.{◌≡◌, ℕ, ℤ, ◌-ℤ◌}
use Rattle.bound.specs.Time.{Same, Made}
use Rattle.bound.specs.declared.atom.Atom.{Atom}
use Rattle.bound.specs.declared.kind.Bound.{Ghosts as Kind}
use Rattle.dbm.specs.Table.{entry, Sat, Solution, Tight}
use Rattle.dbm.specs.Table.{Closed as IsClosed}
use Rattle.dbm.specs.declared.table.Table.{Table}
use Rattle.dbm.specs.declared.table.Closed.{Closed}

-- ---- a table to which bounds are added

abbrev pub bound_at : {B : Type 0} {kind : Kind B} → Table B kind → ℕ → ℕ → B
bound_at {B} {kind} t i j = entry kind.NONE t.square.n t.square.bounds.now i j

-- at scale k the values ν keep every bound of the table
abbrev pub Solves : {B : Type 0} {kind : Kind B} → Table B kind → ℕ → (ℕ → ℤ) → Type 0
Solves {B} {kind} t k ν = Sat kind t.square.n t.square.bounds.now k ν

-- some values at an admitted scale do
abbrev pub HasSolution : {B : Type 0} {kind : Kind B} → Table B kind → Type 0
HasSolution {B} {kind} t = Solution kind (bound_at t) t.square.n

-- a new table: every value solves it
pub record EmptyTable {B : Type 0} {kind : Kind B} (n : ℕ) (t : Table B kind) : Type 0 where
  pub rows_are : t.square.n ≡ n
  pub all : (k : ℕ) (ν : ℕ → ℤ) → kind.admits k → Solves t k ν

-- One more bound: the solutions are those of before that also keep it.
pub record More {B : Type 0} {kind : Kind B} (old : Table B kind) (atom : Atom) (new : Table B kind) : Type 0 where
  pub same_rows : new.square.n ≡ old.square.n
  pub solutions : (k : ℕ) (ν : ℕ → ℤ) → kind.admits k → Same (Solves new k ν) (Solves old k ν × Made atom.d atom.strict k (ν atom.i -ℤ ν atom.j))

-- every solution keeps the bound
abbrev pub OpenKeeps : {B : Type 0} {kind : Kind B} → Table B kind → Atom → Type 0
OpenKeeps {B} {kind} t atom = (k : ℕ) (ν : ℕ → ℤ) → kind.admits k → Solves t k ν → Made atom.d atom.strict k (ν atom.i -ℤ ν atom.j)

-- ---- a table that was closed

abbrev pub closed_bound_at : {B : Type 0} {kind : Kind B} → Closed B kind → ℕ → ℕ → B
closed_bound_at {B} {kind} t i j = entry kind.NONE t.square.n t.square.bounds.now i j

-- at scale k the values ν keep every bound of the table
abbrev pub SolvesClosed : {B : Type 0} {kind : Kind B} → Closed B kind → ℕ → (ℕ → ℤ) → Type 0
SolvesClosed {B} {kind} t k ν = Sat kind t.square.n t.square.bounds.now k ν

-- What closing makes of a table that has a solution: the solutions stay, it is closed, and each difference that a bound
-- allows is reached.
pub record Closes {B : Type 0} {kind : Kind B} (old : Table B kind) (new : Closed B kind) : Type 0 where
  pub same_rows : new.square.n ≡ old.square.n
  pub solutions : (k : ℕ) (ν : ℕ → ℤ) → kind.admits k → Same (SolvesClosed new k ν) (Solves old k ν)
  pub solution : HasSolution old
  pub closed : IsClosed kind (closed_bound_at new) new.square.n
  pub tight : Tight kind (closed_bound_at new) new.square.n

-- every solution keeps the bound
abbrev pub Keeps : {B : Type 0} {kind : Kind B} → Closed B kind → Atom → Type 0
Keeps {B} {kind} t atom = (k : ℕ) (ν : ℕ → ℤ) → kind.admits k → SolvesClosed t k ν → Made atom.d atom.strict k (ν atom.i -ℤ ν atom.j)
