-- A table of bounds on the differences of n values, row by row. Assumes nothing.
use Rattle.std.specs.Prelude.{◌≡◌, ℕ, ◌+◌, ◌*◌, ◌^◌, ◌<◌, ◌≤◌, ◌⊎◌, List, ℤ, pos, ◌-ℤ◌, ◌*ℤ◌, ◌≤ℤ◌, ◌≢◌, slice_index_or}
use Rattle.bound.specs.Time.{Within, Splits, Same}
use Rattle.bound.specs.declared.kind.Bound.{Ghosts as Kind}

-- the entry at row i and column j of a table with n rows; past the end `none`
abbrev pub entry : {B : Type 0} → B → ℕ → List B → ℕ → ℕ → B
entry none n t i j = slice_index_or t (i * n + j) none

-- zero on the diagonal, no bound elsewhere
pub record Filled {B : Type 0} (none origin : B) (n : ℕ) (t : List B) : Type 0 where
  pub diagonal : (i : ℕ) → i < n → entry none n t i i ≡ origin
  pub elsewhere : (i j : ℕ) → i < n → j < n → (i ≢ j) → entry none n t i j ≡ none

module _ {B : Type 0} (kind : Kind B) where
  -- at scale k the values ν keep every bound of the table
  abbrev pub Sat : ℕ → List B → ℕ → (ℕ → ℤ) → Type 0
  Sat n t k ν = (i j : ℕ) → i < n → j < n → kind.allows (entry kind.NONE n t i j) k (ν i -ℤ ν j)

  -- what a bound becomes that is tightened by the sum of two others: at most both, and one of the two
  pub record Tightened (old via through new : B) : Type 0 where
    pub smaller : Within kind.admits (kind.allows new) (kind.allows old)
    pub by_way : Within kind.admits (kind.allows new) (Splits kind.admits (kind.allows via) (kind.allows through))
    pub either : Within kind.admits (kind.allows old) (kind.allows new) ⊎ Within kind.admits (Splits kind.admits (kind.allows via) (kind.allows through)) (kind.allows new)
    pub small : (most : ℕ) → kind.size old ≤ most → kind.size via + kind.size through ≤ most → kind.size new ≤ most

  -- A closed table, by its entries: none allows more than the sum of two through a third, and the diagonal allows exactly
  -- what is at most 0.
  pub record Closed (D : ℕ → ℕ → B) (n : ℕ) : Type 0 where
    pub through : (i j p : ℕ) → i < n → j < n → p < n → (k : ℕ) (v : ℤ) → kind.admits k → kind.allows (D i j) k v → Splits kind.admits (kind.allows (D i p)) (kind.allows (D p j)) k v
    pub diagonal : (i : ℕ) → i < n → (k : ℕ) → kind.admits k → kind.allows (D i i) k (pos 0)
    pub flat : (i : ℕ) → i < n → (k : ℕ) (v : ℤ) → kind.admits k → kind.allows (D i i) k v → v ≤ℤ pos 0

  -- values at an admitted scale that keep every bound
  pub record Solution (D : ℕ → ℕ → B) (n : ℕ) : Type 0 where
    pub scale : ℕ
    pub admitted : kind.admits scale
    pub value : ℕ → ℤ
    pub keeps : (i j : ℕ) → i < n → j < n → kind.allows (D i j) scale (value i -ℤ value j)

  -- a solution at a finer scale whose difference of i and j is at least v
  pub record Reached (D : ℕ → ℕ → B) (n i j k : ℕ) (v : ℤ) : Type 0 where
    pub times : ℕ
    pub scale : kind.admits (k * times)
    pub value : ℕ → ℤ
    pub keeps : (a b : ℕ) → a < n → b < n → kind.allows (D a b) (k * times) (value a -ℤ value b)
    pub far : (v *ℤ pos times) ≤ℤ (value i -ℤ value j)

  -- each difference that an entry allows is reached
  abbrev pub Tight : (ℕ → ℕ → B) → ℕ → Type 0
  Tight D n = (i j k : ℕ) (v : ℤ) → i < n → j < n → kind.admits k → kind.allows (D i j) k v → Reached D n i j k v

  -- What closing has made of a table D that has a solution: E is closed and tight.
  pub record ConsistentTable (D E : ℕ → ℕ → B) (n : ℕ) : Type 0 where
    pub closed : Closed E n
    pub tight : Tight E n
    pub small : (i j : ℕ) → i < n → j < n → kind.size (E i j) ≤ 2 ^ 54
    pub solution : Solution D n

  abbrev pub SameSolutions : ℕ → List B → List B → Type 0
  SameSolutions n old new = (k : ℕ) (ν : ℕ → ℤ) → kind.admits k → Same (Sat n old k ν) (Sat n new k ν)

  -- what the turns of closing before k have made of a table
  pub record AfterTurns (n : ℕ) (old now : List B) (k : ℕ) : Type 0 where
    pub same : SameSolutions n old now
    pub through : (p : ℕ) → p < k → (i j : ℕ) → i < n → j < n → Within kind.admits (kind.allows (entry kind.NONE n now i j)) (Splits kind.admits (kind.allows (entry kind.NONE n now i p)) (kind.allows (entry kind.NONE n now p j)))
    pub flat : (i : ℕ) → i < n → (s : ℕ) (v : ℤ) → kind.admits s → kind.allows (entry kind.NONE n now i i) s v → v ≤ℤ pos 0
    pub small : (i j : ℕ) → i < n → j < n → kind.size (entry kind.NONE n now i j) ≤ 2 ^ 37 * 2 ^ k

  -- A bound was added at row i and column j: the solutions are those of before that also keep it; no entry has grown, nor
  -- has any a greater size than it or the bound had.
  pub record Constrained (n : ℕ) (old : List B) (i j : ℕ) (b : B) (new : List B) : Type 0 where
    pub solutions : (k : ℕ) (ν : ℕ → ℤ) → kind.admits k → Same (Sat n new k ν) (Sat n old k ν × kind.allows b k (ν i -ℤ ν j))
    pub smaller : (p q : ℕ) → p < n → q < n → Within kind.admits (kind.allows (entry kind.NONE n new p q)) (kind.allows (entry kind.NONE n old p q))
    pub small : (most : ℕ) → ((p q : ℕ) → p < n → q < n → kind.size (entry kind.NONE n old p q) ≤ most) → kind.size b ≤ most → (p q : ℕ) → p < n → q < n → kind.size (entry kind.NONE n new p q) ≤ most
