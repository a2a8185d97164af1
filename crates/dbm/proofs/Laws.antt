-- The laws of a kind of time, as the mathematics of tables uses them. Assumes nothing.
use Rattle.std.proofs.Common.{ℕ, ◌*◌, ◌≤◌, ℤ, pos, ◌*ℤ◌, ◌≤ℤ◌}
use Rattle.bound.specs.Time.{Meaning, Common, Same}

pub record Laws {Bound : Type 0} (admits : ℕ → Type 0) (allows : Bound → Meaning) : Type 0 where
  pub positive : (k : ℕ) → admits k → 1 ≤ k
  pub common : (k l : ℕ) → admits k → admits l → Common admits k l
  pub lower : (b : Bound) (k : ℕ) (u v : ℤ) → admits k → allows b k v → u ≤ℤ v → allows b k u
  pub finer : (b : Bound) (k m : ℕ) (v : ℤ) → admits k → admits (k * m) → allows b k v → allows b (k * m) (v *ℤ pos m)
  pub coarser : (b : Bound) (k m : ℕ) (v : ℤ) → admits k → admits (k * m) → allows b (k * m) (v *ℤ pos m) → allows b k v

-- the laws as a kind of time gives them
pub laws_from : {Bound : Type 0} {admits : ℕ → Type 0} {allows : Bound → Meaning} → ((k : ℕ) → admits k → 1 ≤ k) → ((k l : ℕ) → admits k → admits l → Common admits k l) → ((b : Bound) (k : ℕ) (u v : ℤ) → admits k → allows b k v → u ≤ℤ v → allows b k u) → ((b : Bound) (k m : ℕ) (v : ℤ) → admits k → admits (k * m) → Same (allows b k v) (allows b (k * m) (v *ℤ pos m))) → Laws admits allows
laws_from positive common lower finer = record {
  positive = positive;
  common = common;
  lower = lower;
  finer = λ b k m v ok fine. (finer b k m v ok fine).0;
  coarser = λ b k m v ok fine. (finer b k m v ok fine).1;
}
