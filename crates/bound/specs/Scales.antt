-- The differences that a made bound allows, at one scale and at finer ones. Assumes nothing.
use Rattle.std.specs.Prelude.{◌≡◌, ℕ, zero, suc, ◌*◌, ◌≤◌, Bool, true, false, ◌||◌, ℤ, pos, ◌+ℤ◌, ◌*ℤ◌, ◌≤ℤ◌, ◌<ℤ◌}
use Rattle.std.proofs.Common.{arith, mul-zero, mul-one, sym, subst, ◌∙◌}
use Rattle.std.proofs.lemmas.Int.{ints}
use Rattle.bound.specs.Time.{Meaning, Splits, Made, Same}
use Rattle.bound.specs.Integers.{times_one, up_times, times_sum, times_times, times_mono, times_strict, times_tells, times_tells_strict}

-- a factor of a positive product is positive
pub factor_some : (k m : ℕ) → 1 ≤ k * m → 1 ≤ m
factor_some k zero h = absurd (omega (arith, mul-zero k))
factor_some k (suc m) h = omega arith

pub made_lower : (d : ℤ) (s : Bool) (k : ℕ) (u v : ℤ) → Made d s k v → u ≤ℤ v → Made d s k u
made_lower d false k u v h le = omega (arith, ints)
made_lower d true k u v h le = omega (arith, ints)

pub made_finer : (d : ℤ) (s : Bool) (k m : ℕ) (v : ℤ) → 1 ≤ m → Same (Made d s k v) (Made d s (k * m) (v *ℤ pos m))
made_finer d false k m v some = (
  λ h. subst (λ (z : ℤ). (v *ℤ pos m) ≤ℤ z) (times_times d k m) (times_mono v (d *ℤ pos k) m h),
  λ h. times_tells v (d *ℤ pos k) m some (subst (λ (z : ℤ). (v *ℤ pos m) ≤ℤ z) (sym (times_times d k m)) h),
)
made_finer d true k m v some = (
  λ h. subst (λ (z : ℤ). (v *ℤ pos m) <ℤ z) (times_times d k m) (times_strict v (d *ℤ pos k) m some h),
  λ h. times_tells_strict v (d *ℤ pos k) m some (subst (λ (z : ℤ). (v *ℤ pos m) <ℤ z) (sym (times_times d k m)) h),
)

-- what is allowed is at most d
pub made_at_most : (d : ℤ) (s : Bool) (k : ℕ) (v : ℤ) → Made d s k v → v ≤ℤ (d *ℤ pos k)
made_at_most d false k v h = h
made_at_most d true k v h = omega (arith, ints)

-- what is below d is allowed
pub made_below : (d : ℤ) (s : Bool) (k : ℕ) (v : ℤ) → v <ℤ (d *ℤ pos k) → Made d s k v
made_below d false k v h = omega (arith, ints)
made_below d true k v h = h

pub made_none : (k : ℕ) (v : ℤ) → Same (Made (pos 0) false k v) (v ≤ℤ pos 0)
made_none k v = (λ h. omega (arith, ints, up_times (pos 0) k), λ h. omega (arith, ints, up_times (pos 0) k))

-- ---- sums

-- two differences that are allowed add up to one that the sum allows
pub sum_of : (a b : ℤ) (s r : Bool) (k : ℕ) (u w : ℤ) → Made a s k u → Made b r k w → Made (a +ℤ b) (s || r) k (u +ℤ w)
sum_of a b false false k u w p q = omega (arith, ints, times_sum a b k)
sum_of a b false true k u w p q = omega (arith, ints, times_sum a b k)
sum_of a b true false k u w p q = omega (arith, ints, times_sum a b k)
sum_of a b true true k u w p q = omega (arith, ints, times_sum a b k)

-- with no finer scale: the first part is given
pub flat : (admits : ℕ → Type 0) (a b : Meaning) (k : ℕ) (u w v : ℤ) → admits k → u +ℤ w ≡ v → a k u → b k w → Splits admits a b k v
flat admits a b k u w v ok e in_a in_b = record {
  times = 1;
  scale = subst admits (sym (mul-one k)) ok;
  first = u;
  second = w;
  adds = e ∙ sym (times_one v);
  first_in = subst (λ (n : ℕ). a n u) (sym (mul-one k)) in_a;
  second_in = subst (λ (n : ℕ). b n w) (sym (mul-one k)) in_b;
}
