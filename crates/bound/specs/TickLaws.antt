-- Tick time keeps the laws of a kind of time. Assumes nothing.
use Rattle.std.specs.Prelude.{◌≡◌, ℕ, ◌*◌, true, false, ◌⊎◌, ℤ, pos, ◌+ℤ◌, ◌-ℤ◌, ◌*ℤ◌, ◌≤ℤ◌, Decides, Option, None, Some, int_le, refl}
use Rattle.std.proofs.Common.{arith, mul-one, sym, ap, subst, ◌∙◌, inl, inr}
use Rattle.std.proofs.lemmas.Int.{ints, by_lt_z}
use Rattle.bound.specs.Time.{Meaning, Common, Within, Splits, Made, Same}
use Rattle.bound.specs.Kinds.{TickLimitAllows, TicksAllows}
use Rattle.bound.specs.declared.ticks.TickLimit.{TickLimit}
use Rattle.bound.specs.Integers.{times_sum, times_mono, times_one}
use Rattle.bound.specs.Scales.{flat, made_lower, made_finer, sum_of}

abbrev pub only_one : ℕ → Type 0
only_one k = k ≡ 1

one_factor : (k m : ℕ) → k ≡ 1 → k * m ≡ 1 → m ≡ 1
one_factor k m e f = omega (arith, ap (λ (n : ℕ). n * m) e)

pub ticks_common : (k l : ℕ) → only_one k → only_one l → Common only_one k l
ticks_common k l a b = record { left = 1; right = 1; same = mul-one k ∙ a ∙ sym (mul-one l ∙ b); scale = mul-one k ∙ a }

-- what is smaller than an allowed difference is allowed, at every scale, admitted or not
pub ticks_lower : (b : Option TickLimit) (k : ℕ) (u v : ℤ) → TicksAllows b k v → u ≤ℤ v → TicksAllows b k u
ticks_lower None k u v h le = tt
ticks_lower (Some a) k u v h le = made_lower a.number false k u v h le

-- a limit allows itself, and not what is above it
pub ticks_allowed : (b : TickLimit) (k : ℕ) → only_one k → (v : ℤ) × TickLimitAllows b k v
ticks_allowed b k one = (b.number *ℤ pos k, omega (arith, ints))

pub ticks_refused : (b : TickLimit) (k : ℕ) → only_one k → (v : ℤ) × (TickLimitAllows b k v → ⊥)
ticks_refused b k one = (b.number *ℤ pos k +ℤ pos 1, λ h. omega (arith, ints, h))

pub less_within : (a b : ℤ) → a ≤ℤ b → Within only_one (Made a false) (Made b false)
less_within a b le k v ok h = let e = times_mono a b k le in omega (arith, ints)

pub greater_not : (a b : ℤ) → Within only_one (Made a false) (Made b false) → a ≤ℤ b
greater_not a b within =
    let v : ℤ = a *ℤ pos 1 in
    let in_b : v ≤ℤ (b *ℤ pos 1) = within 1 v refl (omega (arith, ints)) in
    omega (arith, ints, times_one a, times_one b)

less_tested : (a b : ℤ) → a ≤ℤ b → int_le a b ≡ true
less_tested a b h = grind (arith, ints)

tested_less : (a b : ℤ) → int_le a b ≡ true → a ≤ℤ b
tested_less a b h = grind (arith, ints)

pub decide : (a b : ℤ) → Decides (int_le a b) (Within only_one (Made a false) (Made b false))
decide a b = (λ e. less_within a b (tested_less a b e), λ w. less_tested a b (greater_not a b w))

pub ticks_total : (a b : TickLimit) → Within only_one (TickLimitAllows a) (TickLimitAllows b) ⊎ Within only_one (TickLimitAllows b) (TickLimitAllows a)
ticks_total a b = by_lt_z a.number b.number (λ less. inl (less_within a.number b.number (omega (arith, ints)))) (λ more. inr (less_within b.number a.number more))

-- below d is at most d - 1
pub strict_is : (d : ℤ) (k : ℕ) (v : ℤ) → only_one k → Same (Made (d -ℤ pos 1) false k v) (Made d true k v)
strict_is d k v one =
    subst (λ (n : ℕ). Same (Made (d -ℤ pos 1) false n v) (Made d true n v)) (sym one)
    (λ h. omega (arith, ints, times_one d, times_one (d -ℤ pos 1)), λ h. omega (arith, ints, times_one d, times_one (d -ℤ pos 1)))

abbrev Sum : Meaning → Meaning → Meaning
Sum a b = Splits only_one a b

pub sum_tells : (a b : ℤ) (k : ℕ) (v : ℤ) → only_one k → Sum (Made a false) (Made b false) k v → Made (a +ℤ b) false k v
sum_tells a b k v one p =
    let m = p.times in
    let whole = sum_of a b false false (k * m) p.first p.second p.first_in p.second_in in
    (made_finer (a +ℤ b) false k m v (omega (arith, one_factor k m one p.scale))).1 (subst (Made (a +ℤ b) false (k * m)) p.adds whole)

pub sum_is : (a b : ℤ) (k : ℕ) (v : ℤ) → only_one k → Made (a +ℤ b) false k v → Sum (Made a false) (Made b false) k v
sum_is a b k v one h =
    let spread = times_sum a b k in
    flat only_one (Made a false) (Made b false) k (a *ℤ pos k) (v -ℤ a *ℤ pos k) v one (omega (arith, ints)) (omega (arith, ints)) (omega (arith, ints))
