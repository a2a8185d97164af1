-- Products of integers: laws that the logic's library lacks. Assumes nothing.
use Rattle.std.specs.Prelude.{◌≡◌, ℕ, ◌+◌, ◌*◌, ◌≤◌, ℤ, pos, ◌+ℤ◌, ◌*ℤ◌, neg_ℤ, ◌≤ℤ◌, ◌<ℤ◌, unsigned_abs}
use Rattle.std.proofs.Common.{arith, add-mul, mul_assoc, mul-le-mul_right, ap}
use borrow.Author.Differences.{up, down, sum_is_lem, neg_is, product_is}
use Rattle.std.proofs.lemmas.Int.{ints, by_lt_z}

-- a product by a natural, by parts
pub up_times : (a : ℤ) (n : ℕ) → (up (a *ℤ pos n) ≡ up a * n) × (down (a *ℤ pos n) ≡ down a * n)
up_times a n = omega (arith, product_is a (pos n))

pub times_sum : (a b : ℤ) (n : ℕ) → (a +ℤ b) *ℤ pos n ≡ a *ℤ pos n +ℤ b *ℤ pos n
times_sum a b n =
    let e = simp add-mul at (ap (λ (x : ℕ). x * n) (sum_is_lem a b)) in
    omega (arith, ints, e, up_times (a +ℤ b) n, up_times a n, up_times b n)

pub times_neg : (a : ℤ) (n : ℕ) → neg_ℤ a *ℤ pos n ≡ neg_ℤ (a *ℤ pos n)
times_neg a n = omega (arith, ints, up_times (neg_ℤ a) n, up_times a n, ap (λ (x : ℕ). x * n) (neg_is a).0, ap (λ (x : ℕ). x * n) (neg_is a).1)

pub times_times : (a : ℤ) (m n : ℕ) → a *ℤ pos m *ℤ pos n ≡ a *ℤ pos (m * n)
times_times a m n =
    let e = up_times a m in
    omega (arith, ints, up_times (a *ℤ pos m) n, up_times a (m * n), ap (λ (x : ℕ). x * n) e.0, ap (λ (x : ℕ). x * n) e.1, mul_assoc (up a) m n, mul_assoc (down a) m n)

pub times_mono : (a b : ℤ) (n : ℕ) → a ≤ℤ b → (a *ℤ pos n) ≤ℤ (b *ℤ pos n)
times_mono a b n h =
    let e : (up a + down b) * n ≤ (up b + down a) * n = mul-le-mul_right n (omega (arith, ints)) in
    omega (arith, ints, up_times a n, up_times b n, add-mul (up a) (down b) n, add-mul (up b) (down a) n, e)

pub times_one : (a : ℤ) → a *ℤ pos 1 ≡ a
times_one a = omega (arith, ints, up_times a 1)

-- a product by a positive natural keeps and tells the order
pub times_strict : (a b : ℤ) (n : ℕ) → 1 ≤ n → a <ℤ b → (a *ℤ pos n) <ℤ (b *ℤ pos n)
times_strict a b n some h =
    let more : (a +ℤ pos 1) ≤ℤ b = omega (arith, ints) in
    let e = times_mono (a +ℤ pos 1) b n more in
    let s = times_sum a (pos 1) n in
    omega (arith, ints, e, s, up_times (pos 1) n)

pub times_tells : (a b : ℤ) (n : ℕ) → 1 ≤ n → (a *ℤ pos n) ≤ℤ (b *ℤ pos n) → a ≤ℤ b
times_tells a b n some h = by_lt_z b a (λ less. let e = times_strict b a n some less in absurd (omega (arith, ints))) (λ more. more)

pub times_tells_strict : (a b : ℤ) (n : ℕ) → 1 ≤ n → (a *ℤ pos n) <ℤ (b *ℤ pos n) → a <ℤ b
times_tells_strict a b n some h = by_lt_z a b (λ less. less) (λ more. let e = times_mono b a n more in absurd (omega (arith, ints)))

-- sizes
pub abs_sum : (a b : ℤ) → unsigned_abs (a +ℤ b) ≤ unsigned_abs a + unsigned_abs b
abs_sum a b = omega (arith, ints)
