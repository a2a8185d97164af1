-- What a bound of a kind of time means. Assumes nothing.
use Rattle.std.specs.Prelude.{◌≡◌, ℕ, ◌*◌, Bool, true, false, ℤ, pos, ◌+ℤ◌, ◌*ℤ◌, ◌≤ℤ◌, ◌<ℤ◌}

-- The differences that a bound allows: at scale K, in units of 1/K, some whole numbers v.
abbrev pub Meaning : Type 1
Meaning = ℕ → ℤ → Type 0

-- an admitted common multiple of the scales k and l
pub record Common (admits : ℕ → Type 0) (k l : ℕ) : Type 0 where
  pub left : ℕ
  pub right : ℕ
  pub same : k * left ≡ l * right
  pub scale : admits (k * left)

-- all that a allows, b allows, at every admitted scale
abbrev pub Within : (ℕ → Type 0) → Meaning → Meaning → Type 0
Within admits a b = (k : ℕ) (v : ℤ) → admits k → a k v → b k v

-- at some admitted finer scale, v is a difference that a allows plus one that b allows
pub record Splits (admits : ℕ → Type 0) (a b : Meaning) (k : ℕ) (v : ℤ) : Type 0 where
  pub times : ℕ
  pub scale : admits (k * times)
  pub first : ℤ
  pub second : ℤ
  pub adds : first +ℤ second ≡ v *ℤ pos times
  pub first_in : a (k * times) first
  pub second_in : b (k * times) second

-- at most d, or below d if strict
abbrev pub Made : ℤ → Bool → Meaning
Made d false k v = v ≤ℤ (d *ℤ pos k)
Made d true k v = v <ℤ (d *ℤ pos k)

-- each exactly where the other
abbrev pub Same : Type 0 → Type 0 → Type 0
Same P Q = (P → Q) × (Q → P)
