-- The invariant holds throughout a delay when it holds at both its ends. Assumes nothing.
use Rattle.std.proofs.Common.{◌≡◌, ℕ, zero, suc, ◌≤◌, Bool, List, [], ◌∷◌, ℤ, pos, ◌+ℤ◌, ◌-ℤ◌, sym, ap, subst, arith}
use mathlib.Core.Path.{fun_ext}
use Rattle.std.specs.List.{AllByRecursion}
use Rattle.std.proofs.lemmas.Int.{ints}
use Rattle.bound.specs.Time.{Made, Same}
use Rattle.bound.specs.Scales.{made_lower}
use Rattle.format.specs.Syntax.{Atom, Guarded, Model}
use Rattle.model.specs.States.{State, clock, AtomHolds, AtomsHold, Respects, Invariant}
use Rattle.model.specs.Steps.{later}

-- what follows of each element from two facts of it
both_all : {X : Type 0} (P Q R : X → Type 0) → ((x : X) → P x → Q x → R x) → (l : List X) → AllByRecursion P l → AllByRecursion Q l → AllByRecursion R l
both_all P Q R one [] p q = tt
both_all P Q R one (x ∷ l) p q = (one x p.0 q.0, both_all P Q R one l p.1 q.1)

-- a difference of two clocks stays, that of a clock and zero grows, that of zero and a clock falls
module _ (K δ e : ℕ) (s : State) (le : e ≤ δ) where
  between_clocks : (d : ℤ) (strict : Bool) (i j : ℕ) → Made d strict K (clock s i -ℤ clock s j) → Made d strict K (clock (later δ s) i -ℤ clock (later δ s) j) → Made d strict K (clock (later e s) i -ℤ clock (later e s) j)
  between_clocks d strict zero zero p q = p
  between_clocks d strict zero (suc j) p q = made_lower d strict K _ _ p (omega (arith, ints))
  between_clocks d strict (suc i) zero p q = made_lower d strict K _ _ q (omega (arith, ints))
  between_clocks d strict (suc i) (suc j) p q = made_lower d strict K _ _ p (omega (arith, ints))

  between_atoms : (l : List Atom) → AtomsHold K s l → AtomsHold K (later δ s) l → AtomsHold K (later e s) l
  between_atoms = both_all (AtomHolds K s) (AtomHolds K (later δ s)) (AtomHolds K (later e s)) (λ a. between_clocks a.d a.strict a.i a.j)

  between_records : (l : List Guarded) → AllByRecursion (Respects K s) l → AllByRecursion (Respects K (later δ s)) l → AllByRecursion (Respects K (later e s)) l
  between_records = both_all (Respects K s) (Respects K (later δ s)) (Respects K (later e s)) (λ g p q c. between_atoms g.atoms (p c) (q c))

pub between_ends : (K δ e : ℕ) (m : Model) (s : State) → e ≤ δ → Invariant K m s → Invariant K m (later δ s) → Invariant K m (later e s)
between_ends K δ e m s le = between_records K δ e s le m.invariants

-- a delay of 0 changes nothing
pub later_none : (s : State) → later 0 s ≡ s
later_none s =
    let e : (n : ℕ) → s.clocks n +ℤ pos 0 ≡ s.clocks n = λ n. omega (arith, ints) in
    ap (λ (x : ℕ → ℤ). record { booleans = s.booleans; clocks = x }) (fun_ext e)

pub no_delay : (K : ℕ) (m : Model) (s : State) → Same (Invariant K m (later 0 s)) (Invariant K m s)
no_delay K m s = (subst (Invariant K m) (later_none s), subst (Invariant K m) (sym (later_none s)))
