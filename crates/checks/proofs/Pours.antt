-- Adding one atom after another, or one record after another, to a table. Assumes nothing.
use Rattle.std.proofs.Common.{◌≡◌, ℕ, false, List, [], ◌∷◌, ℤ, pos, ◌-ℤ◌, refl, ◌∙◌, subst}
use Rattle.std.specs.List.{AllByRecursion}
use Rattle.bound.specs.Time.{Same, Made}
use Rattle.bound.specs.declared.kind.Bound.{Ghosts as Kind}
use Rattle.bound.specs.declared.atom.Atom.{Atom as AtomRead}
use Rattle.dbm.specs.Calls.{Solves, More}
use Rattle.dbm.specs.declared.table.Table.{Table}
use Rattle.format.specs.Syntax.{Atom}
use Rattle.model.specs.Views.{atom_is}
use Rattle.checks.specs.Systems.{Frame, Placed}
use Rattle.checks.specs.Frames.{place}
use Rattle.checks.specs.Pouring.{Adds}

module _ {B : Type 0} {kind : Kind B} where
  -- adding something and then something more
  pub adds_both : (P Q : ℕ → (ℕ → ℤ) → Type 0) (old mid new : Table B kind) → Adds P old mid → Adds Q mid new → Adds (λ k ν. P k ν × Q k ν) old new
  adds_both P Q old mid new p q = record {
    same_rows = q.same_rows ∙ p.same_rows;
    solutions = λ k ν ok. (
      λ s. let b = (q.solutions k ν ok).0 s in let a = (p.solutions k ν ok).0 b.0 in (a.0, (a.1, b.1)),
      λ s. (q.solutions k ν ok).1 ((p.solutions k ν ok).1 (s.0, s.1.0), s.1.1),
    );
  }

  -- the same said otherwise
  pub adds_same : (P Q : ℕ → (ℕ → ℤ) → Type 0) (old new : Table B kind) → ((k : ℕ) (ν : ℕ → ℤ) → kind.admits k → Same (P k ν) (Q k ν)) → Adds P old new → Adds Q old new
  adds_same P Q old new e a = record {
    same_rows = a.same_rows;
    solutions = λ k ν ok. (
      λ s. let b = (a.solutions k ν ok).0 s in (b.0, (e k ν ok).0 b.1),
      λ s. (a.solutions k ν ok).1 (s.0, (e k ν ok).1 s.1),
    );
  }

  -- one atom, placed in a frame
  pub adds_atom : (f : Frame) (a : Atom) (p : AtomRead) (old new : Table B kind) → atom_is p ≡ place f a → More old p new → Adds (λ k ν. Placed f k ν a) old new
  adds_atom f a p old new e m = subst (λ (q : Atom). Adds (λ k ν. Made q.d q.strict k (ν q.i -ℤ ν q.j)) old new) e (record { same_rows = m.same_rows; solutions = m.solutions })

  -- one bound on the difference of two rows
  pub adds_bound : (p : AtomRead) (old new : Table B kind) → More old p new → Adds (λ k ν. Made p.d p.strict k (ν p.i -ℤ ν p.j)) old new
  adds_bound p old new m = record { same_rows = m.same_rows; solutions = m.solutions }

  pub adds_at_most : (i j : ℕ) (p : AtomRead) (old new : Table B kind) → p ≡ record { i = i; j = j; d = pos 0; strict = false } → More old p new → Adds (λ k ν. Made (pos 0) false k (ν i -ℤ ν j)) old new
  adds_at_most i j p old new e m = subst (λ (q : AtomRead). Adds (λ k ν. Made q.d q.strict k (ν q.i -ℤ ν q.j)) old new) e (adds_bound p old new m)

  -- ---- the members of a list, one after another

  module _ {X : Type 0} (P : ℕ → (ℕ → ℤ) → X → Type 0) (all : List X) where
    -- those that are left are still to be added to `now`, so that all of them are added to `old`
    pub record Pouring (left : List X) (old now : Table B kind) : Type 0 where
      pub same_rows : now.square.n ≡ old.square.n
      pub solutions : (k : ℕ) (ν : ℕ → ℤ) → kind.admits k → Same (Solves now k ν × AllByRecursion (P k ν) left) (Solves old k ν × AllByRecursion (P k ν) all)

    pub pouring_none : (old : Table B kind) → Pouring all old old
    pouring_none old = record { same_rows = refl; solutions = λ k ν ok. (λ s. s, λ s. s) }

    -- one was added
    pub pouring_more : (left rest : List X) (x : X) (old now next : Table B kind) → left ≡ x ∷ rest → Pouring left old now → Adds (λ k ν. P k ν x) now next → Pouring rest old next
    pouring_more left rest x old now next e p a =
        let split : Pouring (x ∷ rest) old now = subst (λ (l : List X). Pouring l old now) e p in
        record {
          same_rows = a.same_rows ∙ p.same_rows;
          solutions = λ k ν ok. (
            λ s. let b = (a.solutions k ν ok).0 s.0 in (split.solutions k ν ok).0 (b.0, (b.1, s.1)),
            λ s. let b = (split.solutions k ν ok).1 s in ((a.solutions k ν ok).1 (b.0, b.1.0), b.1.1),
          );
        }

    -- one says nothing here
    pub pouring_idle : (left rest : List X) (x : X) (old now : Table B kind) → left ≡ x ∷ rest → Pouring left old now → ((k : ℕ) (ν : ℕ → ℤ) → P k ν x) → Pouring rest old now
    pouring_idle left rest x old now e p idle = pouring_more left rest x old now now e p (record { same_rows = refl; solutions = λ k ν ok. (λ s. (s, idle k ν), λ s. s.0) })

    pub pouring_all : (left : List X) (old now : Table B kind) → left ≡ [] → Pouring left old now → Adds (λ k ν. AllByRecursion (P k ν) all) old now
    pouring_all left old now e p =
        let done : Pouring [] old now = subst (λ (l : List X). Pouring l old now) e p in
        record {
          same_rows = p.same_rows;
          solutions = λ k ν ok. (λ s. (done.solutions k ν ok).0 (s, tt), λ s. ((done.solutions k ν ok).1 s).0);
        }
