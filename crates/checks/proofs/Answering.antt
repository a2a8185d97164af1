-- From what was poured into a table, and what closing it answers, to the solutions of a system. Assumes nothing.
use Rattle.std.proofs.Common.{◌≡◌, ℕ, Bool, List, ℤ, Some, None, Option, MatchOption, Decides, true, false, not, sym, refl, ◌∙◌, subst, arith}
use Rattle.std.proofs.lemmas.Bool.{true≢false}
use Rattle.std.specs.Option.{is_some}
use Rattle.checks.specs.Meanings.{Names}
use Rattle.std.specs.List.{AllByRecursion}
use Rattle.bound.specs.Time.{Same}
use Rattle.bound.specs.declared.kind.Bound.{Ghosts as Kind}
use Rattle.dbm.specs.Calls.{Solves, HasSolution, EmptyTable, Closes}
use Rattle.dbm.specs.declared.table.Table.{Table}
use Rattle.dbm.specs.declared.table.Closed.{Closed}
use Rattle.format.specs.Syntax.{Atom, Condition, Guarded, Zone}
use Rattle.model.specs.States.{ConditionHolds}
use Rattle.checks.specs.Systems.{Frame, Placed, PlacedRecord, PlacedIn}
use Rattle.checks.specs.Pouring.{Adds}
use Rattle.checks.specs.Reaching.{Covered}

-- the same condition and the same Booleans, by other names
pub condition_as : (c d : Condition) (b e : ℕ) → c ≡ d → b ≡ e → ConditionHolds c b → ConditionHolds d e
condition_as c d b e same_condition same_booleans h = subst (λ (q : Condition). ConditionHolds q e) same_condition (subst (ConditionHolds c) same_booleans h)

module _ {B : Type 0} {kind : Kind B} where
  -- the same frame and the same atoms, by other names
  pub poured_as : (f h : Frame) (l r : List Atom) (old new : Table B kind) → f ≡ h → l ≡ r → Adds (λ k ν. AllByRecursion (Placed f k ν) l) old new → Adds (λ k ν. AllByRecursion (Placed h k ν) r) old new
  poured_as f h l r old new e d a = subst (λ (q : Frame). Adds (λ k ν. AllByRecursion (Placed q k ν) r) old new) e (subst (λ (q : List Atom). Adds (λ k ν. AllByRecursion (Placed f k ν) q) old new) d a)

  pub invariant_as : (f h : Frame) (b e : ℕ) (l r : List Guarded) (old new : Table B kind) → f ≡ h → b ≡ e → l ≡ r → Adds (λ k ν. AllByRecursion (PlacedRecord f k ν b) l) old new → Adds (λ k ν. AllByRecursion (PlacedRecord h k ν e) r) old new
  invariant_as f h b e l r old new same_frame same_booleans same_records a =
      subst (λ (q : Frame). Adds (λ k ν. AllByRecursion (PlacedRecord q k ν e) r) old new) same_frame
      (subst (λ (q : ℕ). Adds (λ k ν. AllByRecursion (PlacedRecord f k ν q) r) old new) same_booleans
      (subst (λ (q : List Guarded). Adds (λ k ν. AllByRecursion (PlacedRecord f k ν b) q) old new) same_records a))

  -- the same answer, by other names for the frame, the Booleans and the zones
  pub named_as : (o : Option (Closed B kind)) (f h : Frame) (b e : ℕ) (struck : List Bool) (l r : List Zone) (answer : Option ℕ) → f ≡ h → b ≡ e → l ≡ r → Names (Covered o f b) struck l answer → Names (Covered o h e) struck r answer
  named_as o f h b e struck l r answer same_frame same_booleans same_zones names =
      subst (λ (q : Frame). Names (Covered o q e) struck r answer) same_frame
      (subst (λ (q : ℕ). Names (Covered o f q) struck r answer) same_booleans
      (subst (λ (q : List Zone). Names (Covered o f b) struck q answer) same_zones names))

  -- closing keeps the rows
  pub rows_closed : (t : Table B kind) (o : Option (Closed B kind)) → MatchOption o (HasSolution t → ⊥) (λ c. Closes t c) → (n : ℕ) → t.square.n ≡ n → (c : Closed B kind) → o ≡ Some c → c.square.n ≡ n
  rows_closed t (Some closed) closes n same c e = let is : closed ≡ c = cc in subst (λ (q : Closed B kind). q.square.n ≡ n) is (closes.same_rows ∙ same)
  rows_closed t None closes n same c e = let z : ◌≡◌ {A = ℕ} 0 1 = cc in absurd (omega arith)

  module _ (n : ℕ) (P : ℕ → (ℕ → ℤ) → Type 0) (empty t : Table B kind) (began : EmptyTable n empty) (adds : Adds P empty t) where
    -- the solutions are those of the system that was poured
    pub solves : (k : ℕ) (ν : ℕ → ℤ) → kind.admits k → Same (Solves t k ν) (P k ν)
    solves k ν ok = (λ s. ((adds.solutions k ν ok).0 s).1, λ p. (adds.solutions k ν ok).1 (began.all k ν ok, p))

    -- where the table has no solution, the system has none
    pub unsolvable : (HasSolution t → ⊥) → (k : ℕ) (ν : ℕ → ℤ) → kind.admits k → P k ν → ⊥
    unsolvable none k ν ok p = none (record { scale = k; admitted = ok; value = ν; keeps = (solves k ν ok).1 p })

    -- where it has one, so has the system
    pub solvable : HasSolution t → ((k : ℕ) (ν : ℕ → ℤ) → kind.admits k → P k ν → ⊥) → ⊥
    solvable s none_solves = none_solves s.scale s.value s.admitted ((solves s.scale s.value s.admitted).0 s.keeps)

    -- which zones hold all that solves the system, by what closing answered
    pub covered_by : (o : Option (Closed B kind)) → MatchOption o (HasSolution t → ⊥) (λ c. Closes t c) → (f : Frame) (b : ℕ) (y : Zone) → Same ((k : ℕ) (ν : ℕ → ℤ) → kind.admits k → P k ν → PlacedIn f k ν b y) (Covered o f b y)
    covered_by (Some closed) c f b y = (
      λ h k ν ok s. h k ν ok ((solves k ν ok).0 ((c.solutions k ν ok).0 s)),
      λ h k ν ok p. h k ν ok ((c.solutions k ν ok).1 ((solves k ν ok).1 p)),
    )
    covered_by None c f b y = (λ _. tt, λ _ k ν ok p. absurd (unsolvable c k ν ok p))

    -- closing answers nothing exactly when the system has no solution
    pub none_solve : (o : Option (Closed B kind)) → MatchOption o (HasSolution t → ⊥) (λ c. Closes t c) → (r : Bool) → is_some o ≡ not r → Decides r ((k : ℕ) (ν : ℕ → ℤ) → kind.admits k → P k ν → ⊥)
    none_solve (Some closed) c true e = absurd (true≢false e)
    none_solve (Some closed) c false e = (λ yes. absurd (true≢false (sym yes)), λ none. absurd (solvable c.solution none))
    none_solve None c true e = (λ _. unsolvable c, λ _. refl)
    none_solve None c false e = absurd (true≢false (sym e))
