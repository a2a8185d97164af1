-- What every solution of a table keeps, atom by atom. Assumes nothing.
use Rattle.std.proofs.Common.{◌≡◌, ℕ, Bool, List, [], ◌∷◌, ℤ, ◌-ℤ◌, Decides, sym, subst}
use Rattle.std.specs.List.{AllByRecursion}
use Rattle.bound.specs.declared.kind.Bound.{Ghosts as Kind}
use Rattle.bound.specs.declared.atom.Atom.{Atom as AtomRead}
use Rattle.dbm.specs.Calls.{SolvesClosed, Keeps}
use Rattle.dbm.specs.declared.table.Closed.{Closed}
use Rattle.format.specs.Syntax.{Atom, Zone}
use Rattle.model.specs.Views.{atom_is}
use Rattle.bound.specs.Time.{Made}
use Rattle.std.proofs.Math.Logic.{∥∥₁_elim}
use Rattle.checks.specs.Systems.{Frame, Placed}
use Rattle.checks.specs.Frames.{place}
use Rattle.checks.specs.Reaching.{HoldsAll}

module _ {B : Type 0} {kind : Kind B} (t : Closed B kind) (f : Frame) where
  -- every solution keeps the atom, placed in the frame
  abbrev pub KeepsPlaced : Atom → Type 0
  KeepsPlaced a = (k : ℕ) (ν : ℕ → ℤ) → kind.admits k → SolvesClosed t k ν → Placed f k ν a

  pub decides_placed : (r : Bool) (a : Atom) (p : AtomRead) → atom_is p ≡ place f a → Decides r (Keeps t p) → Decides r (KeepsPlaced a)
  decides_placed r a p e d = subst (λ (q : Atom). Decides r ((k : ℕ) (ν : ℕ → ℤ) → kind.admits k → SolvesClosed t k ν → Made q.d q.strict k (ν q.i -ℤ ν q.j))) e d

  pub keeps_each : (l : List Atom) → AllByRecursion KeepsPlaced l → (k : ℕ) (ν : ℕ → ℤ) → kind.admits k → SolvesClosed t k ν → AllByRecursion (Placed f k ν) l
  keeps_each [] h k ν ok s = tt
  keeps_each (a ∷ l) h k ν ok s = (h.0 k ν ok s, keeps_each l h.1 k ν ok s)

  pub each_keeps : (l : List Atom) → ((k : ℕ) (ν : ℕ → ℤ) → kind.admits k → SolvesClosed t k ν → AllByRecursion (Placed f k ν) l) → AllByRecursion KeepsPlaced l
  each_keeps [] h = tt
  each_keeps (a ∷ l) h = (λ k ν ok s. (h k ν ok s).0, each_keeps l (λ k ν ok s. (h k ν ok s).1))

  module _ (b : ℕ) (y : Zone) where
    -- the Booleans are the zone's: it is told by its atoms
    pub held_by_atoms : (r : Bool) (l : List Atom) → b ≡ y.booleans → l ≡ y.atoms → Decides r ((k : ℕ) (ν : ℕ → ℤ) → kind.admits k → SolvesClosed t k ν → AllByRecursion (Placed f k ν) l) → Decides r (HoldsAll t f b y)
    held_by_atoms r l same_booleans same_atoms d = (
      λ e k ν ok s. record { booleans = same_booleans; atoms = subst (AllByRecursion (Placed f k ν)) same_atoms (d.0 e k ν ok s) },
      λ h. d.1 (λ k ν ok s. subst (AllByRecursion (Placed f k ν)) (sym same_atoms) (h k ν ok s).atoms),
    )

    -- other Booleans: some state is reached, and the zone does not hold it
    pub not_held : (b ≡ y.booleans → ⊥) → HoldsAll t f b y → ⊥
    not_held other h = ∥∥₁_elim t.solution (λ x y. absurd x) (λ s. other (h s.scale s.value s.admitted s.keeps).booleans)
