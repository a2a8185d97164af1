-- Bounds from limits: a bound is a limit or none, and none allows everything. Assumes nothing.
use Rattle.std.specs.Prelude.{ℕ, Option, None, Some, ◌⊎◌, ℤ, pos, ◌-ℤ◌}
use Rattle.std.proofs.Common.{arith, inl, inr}
use Rattle.std.proofs.lemmas.Int.{ints}
use Rattle.bound.specs.Time.{Meaning, Within, Splits}
use Rattle.bound.specs.Scales.{flat}

module _ {L : Type 0} where
  abbrev pub Lifted : (L → Meaning) → Option L → Meaning
  Lifted allows None k v = Unit {0}
  Lifted allows (Some a) k v = allows a k v

  abbrev pub lifted_size : (L → ℕ) → Option L → ℕ
  lifted_size size None = 0
  lifted_size size (Some a) = size a

module _ {L : Type 0} (admits : ℕ → Type 0) (allows : L → Meaning) where
  abbrev Allows : Option L → Meaning
  Allows = Lifted allows

  pub lifted_total : ((a b : L) → Within admits (allows a) (allows b) ⊎ Within admits (allows b) (allows a)) → (a b : Option L) → Within admits (Allows a) (Allows b) ⊎ Within admits (Allows b) (Allows a)
  lifted_total limits a None = inl (λ k v ok h. tt)
  lifted_total limits None (Some b) = inr (λ k v ok h. tt)
  lifted_total limits (Some a) (Some b) = limits a b

  -- none is within no limit
  pub none_not : ((k : ℕ) × admits k) → ((b : L) (k : ℕ) → admits k → (v : ℤ) × (allows b k v → ⊥)) → (b : L) → Within admits (Allows None) (Allows (Some b)) → ⊥
  none_not some refused b within = let out = refused b some.0 some.1 in out.1 (within some.0 out.0 some.1 tt)

  module _ (allowed : (b : L) (k : ℕ) → admits k → (v : ℤ) × allows b k v) where
    some_in : (b : Option L) (k : ℕ) → admits k → (v : ℤ) × Allows b k v
    some_in None k ok = (pos 0, tt)
    some_in (Some b) k ok = allowed b k ok

    -- none plus anything is none
    pub none_first : (b : Option L) (k : ℕ) (v : ℤ) → admits k → Splits admits (Allows None) (Allows b) k v
    none_first b k v ok = let w = some_in b k ok in flat admits (Allows None) (Allows b) k (v -ℤ w.0) w.0 v ok (omega (arith, ints)) tt w.1

    pub none_second : (a : Option L) (k : ℕ) (v : ℤ) → admits k → Splits admits (Allows a) (Allows None) k v
    none_second a k v ok = let u = some_in a k ok in flat admits (Allows a) (Allows None) k u.0 (v -ℤ u.0) v ok (omega (arith, ints)) u.1 tt
