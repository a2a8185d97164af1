-- What a table says after more bounds were added to it. Assumes nothing.
use Rattle.std.specs.Prelude.{◌≡◌, ℕ, ℤ}
use Rattle.std.specs.List.{AllByRecursion}
use Rattle.bound.specs.Time.{Same}
use Rattle.bound.specs.declared.kind.Bound.{Ghosts as Kind}
use Rattle.dbm.specs.Calls.{Solves}
use Rattle.dbm.specs.declared.table.Table.{Table}
use Rattle.format.specs.Syntax.{Guarded}
use Rattle.checks.specs.Systems.{Frame}
use Rattle.checks.specs.Frames.{Placeable}

-- every atom of the record can be placed
abbrev pub PlaceableRecord : Frame → ℕ → Guarded → Type 0
PlaceableRecord f n g = AllByRecursion (Placeable f n) g.atoms

-- the solutions are those of before of which P is also true
pub record Adds {B : Type 0} {kind : Kind B} (P : ℕ → (ℕ → ℤ) → Type 0) (old new : Table B kind) : Type 0 where
  pub same_rows : new.square.n ≡ old.square.n
  pub solutions : (k : ℕ) (ν : ℕ → ℤ) → kind.admits k → Same (Solves new k ν) (Solves old k ν × P k ν)
