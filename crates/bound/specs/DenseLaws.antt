-- Dense time keeps the laws of a kind of time. Assumes nothing.
use Rattle.std.specs.Prelude.{◌≡◌, ℕ, ◌*◌, ◌≤◌, Bool, true, false, ◌||◌, ◌⊎◌, ℤ, pos, ◌+ℤ◌, ◌-ℤ◌, ◌*ℤ◌, ◌≤ℤ◌, ◌<ℤ◌, not, ◌≢◌, Decides, Option, None, Some, int_lt, int_le, refl}
use Rattle.std.proofs.Common.{arith, mul_comm, sym, ap, subst, inl, inr}
use Rattle.std.proofs.lemmas.Nat.{mul-le}
use Rattle.std.proofs.lemmas.Bool.{true≢false}
use Rattle.std.proofs.lemmas.Int.{ints, by_lt_z}
use Rattle.bound.specs.Time.{Meaning, Common, Within, Splits, Made, Same}
use Rattle.bound.specs.Kinds.{DenseAllows, DenseLimitAllows}
use Rattle.bound.specs.declared.dense.DenseLimit.{DenseLimit}
use Rattle.bound.specs.declared.dense.DenseLimit.TheVariants.{Below, AtMost}
use Rattle.bound.specs.Integers.{up_times, times_sum, times_times, times_strict}
use Rattle.bound.specs.Scales.{flat, factor_some, made_lower, made_finer, made_at_most, made_below, sum_of}

abbrev pub every : ℕ → Type 0
every k = 1 ≤ k

pub dense_common : (k l : ℕ) → every k → every l → Common every k l
dense_common k l a b = record { left = l; right = k; same = mul_comm k l; scale = mul-le 1 1 k l a b }

-- what is smaller than an allowed difference is allowed, at every scale, and at 0 too, which is none
pub dense_lower : (b : Option DenseLimit) (k : ℕ) (u v : ℤ) → DenseAllows b k v → u ≤ℤ v → DenseAllows b k u
dense_lower None k u v h le = tt
dense_lower (Some (Below n)) k u v h le = made_lower n true k u v h le
dense_lower (Some (AtMost n)) k u v h le = made_lower n false k u v h le

pub dense_finer : (b : DenseLimit) (k m : ℕ) (v : ℤ) → every (k * m) → Same (DenseLimitAllows b k v) (DenseLimitAllows b (k * m) (v *ℤ pos m))
dense_finer (Below n) k m v some = made_finer n true k m v (factor_some k m some)
dense_finer (AtMost n) k m v some = made_finer n false k m v (factor_some k m some)

-- a limit allows what is below its number, and not what is above it
pub dense_allowed : (b : DenseLimit) (k : ℕ) → every k → (v : ℤ) × DenseLimitAllows b k v
dense_allowed (Below n) k ok = (n *ℤ pos k -ℤ pos 1, omega (arith, ints))
dense_allowed (AtMost n) k ok = (n *ℤ pos k -ℤ pos 1, omega (arith, ints))

pub dense_refused : (b : DenseLimit) (k : ℕ) → every k → (v : ℤ) × (DenseLimitAllows b k v → ⊥)
dense_refused (Below n) k ok = (n *ℤ pos k +ℤ pos 1, λ h. omega (arith, ints, h))
dense_refused (AtMost n) k ok = (n *ℤ pos k +ℤ pos 1, λ h. omega (arith, ints, h))

-- ---- comparing

pub less_within : (a b : ℤ) (s r : Bool) → a <ℤ b → Within every (Made a s) (Made b r)
less_within a b s r less k v ok h = made_below b r k v (let e = times_strict a b k ok less in let m = made_at_most a s k v h in omega (arith, ints))

same_within : (a : ℤ) (s r : Bool) → ((r ≡ true) → s ≡ true) → Within every (Made a s) (Made a r)
same_within a s false strict k v ok h = made_at_most a s k v h
same_within a s true strict k v ok h = subst (λ (t : Bool). Made a t k v) (strict refl) h

pub equal_within : (a b : ℤ) (s r : Bool) → a ≡ b → ((r ≡ true) → s ≡ true) → Within every (Made a s) (Made b r)
equal_within a b s r e strict = subst (λ (z : ℤ). Within every (Made a s) (Made z r)) e (same_within a s r strict)

-- a greater number is not within a smaller one: half a unit below it is allowed by the one alone
pub greater_not : (a b : ℤ) (s r : Bool) → b <ℤ a → Within every (Made a s) (Made b r) → ⊥
greater_not a b s r less within =
    let v : ℤ = a *ℤ pos 2 -ℤ pos 1 in
    let in_a : Made a s 2 v = made_below a s 2 v (omega (arith, ints)) in
    let in_b = made_at_most b r 2 v (within 2 v (omega arith) in_a) in
    omega (arith, ints, up_times a 2, up_times b 2, in_b)

-- nor a weak bound within the strict one
pub weak_not : (a b : ℤ) → a ≡ b → Within every (Made a false) (Made b true) → ⊥
weak_not a b e within =
    let v : ℤ = a *ℤ pos 1 in
    let in_b : v <ℤ (b *ℤ pos 1) = within 1 v (omega arith) (omega (arith, ints)) in
    let same : v ≡ b *ℤ pos 1 = ap (λ (z : ℤ). z *ℤ pos 1) e in
    omega (arith, ints)

total_equal : (a b : ℤ) (s r : Bool) → a ≡ b → Within every (Made a s) (Made b r) ⊎ Within every (Made b r) (Made a s)
total_equal a b s false e = inl (equal_within a b s false e (λ t. absurd (true≢false (sym t))))
total_equal a b s true e = inr (equal_within b a true s (sym e) (λ _. refl))

total_made : (a b : ℤ) (s r : Bool) → Within every (Made a s) (Made b r) ⊎ Within every (Made b r) (Made a s)
total_made a b s r = by_lt_z a b (λ less. inl (less_within a b s r less)) (λ more. by_lt_z b a (λ less. inr (less_within b a r s less)) (λ same. total_equal a b s r (omega (arith, ints))))

pub dense_total : (a b : DenseLimit) → Within every (DenseLimitAllows a) (DenseLimitAllows b) ⊎ Within every (DenseLimitAllows b) (DenseLimitAllows a)
dense_total (Below a) (Below b) = total_made a b true true
dense_total (Below a) (AtMost b) = total_made a b true false
dense_total (AtMost a) (Below b) = total_made a b false true
dense_total (AtMost a) (AtMost b) = total_made a b false false

-- what is told of two limits is told of equal ones
pub moved : (a c b d : ℤ) (s r t : Bool) → a ≡ c → b ≡ d → Decides t (Within every (Made a s) (Made b r)) → Decides t (Within every (Made c s) (Made d r))
moved a c b d s r t e f h = subst (λ (z : ℤ). Decides t (Within every (Made z s) (Made d r))) e (subst (λ (z : ℤ). Decides t (Within every (Made a s) (Made z r))) f h)

-- but for a weak limit against a strict one, the numbers decide
pub decide : (a b : ℤ) (s r : Bool) → ((r ≡ true) → s ≡ true) → Decides (int_le a b) (Within every (Made a s) (Made b r))
decide a b s r strict = (
  λ e. by_lt_z a b (λ less. less_within a b s r less) (λ more. equal_within a b s r (grind (arith, ints)) strict),
  λ w. by_lt_z b a (λ less. absurd (greater_not a b s r less w)) (λ more. grind (arith, ints)),
)

-- a weak limit is within a strict one only at a smaller number
pub decide_weak : (a b : ℤ) → Decides (int_lt a b) (Within every (Made a false) (Made b true))
decide_weak a b = (
  λ e. less_within a b false true (grind (arith, ints)),
  λ w. by_lt_z a b (λ less. grind (arith, ints)) (λ more. by_lt_z b a (λ less. absurd (greater_not a b false true less w)) (λ same. absurd (weak_not a b (omega (arith, ints)) w))),
)

-- two limits with different numbers
pub decide_apart : (a b : ℤ) (s r : Bool) → (a ≢ b) → Decides (int_lt a b) (Within every (Made a s) (Made b r))
decide_apart a b s r apart = (
  λ e. less_within a b s r (grind (arith, ints)),
  λ w. by_lt_z a b (λ less. grind (arith, ints)) (λ more. by_lt_z b a (λ less. absurd (greater_not a b s r less w)) (λ same. absurd (apart (omega (arith, ints))))),
)

-- and with the same number
pub decide_equal : (a b : ℤ) (s r : Bool) → a ≡ b → Decides (s || not r) (Within every (Made a s) (Made b r))
decide_equal a b true r e = (λ _. equal_within a b true r e (λ _. refl), λ _. refl)
decide_equal a b false false e = (λ _. equal_within a b false false e (λ t. t), λ _. refl)
decide_equal a b false true e = (λ t. absurd (true≢false (sym t)), λ w. absurd (weak_not a b e w))

-- ---- sums

abbrev Sum : Meaning → Meaning → Meaning
Sum a b = Splits every a b

pub sum_tells : (a b : ℤ) (s r : Bool) (k : ℕ) (v : ℤ) → Sum (Made a s) (Made b r) k v → Made (a +ℤ b) (s || r) k v
sum_tells a b s r k v p =
    let m = p.times in
    let whole = sum_of a b s r (k * m) p.first p.second p.first_in p.second_in in
    (made_finer (a +ℤ b) (s || r) k m v (factor_some k m p.scale)).1 (subst (Made (a +ℤ b) (s || r) (k * m)) p.adds whole)

-- at twice the scale: the first part is half a unit below its bound
halved : (a b : ℤ) (s r : Bool) (k : ℕ) (v : ℤ) → every k → v <ℤ ((a +ℤ b) *ℤ pos k) → Sum (Made a s) (Made b r) k v
halved a b s r k v ok h =
    let u : ℤ = a *ℤ pos (k * 2) -ℤ pos 1 in
    let w : ℤ = v *ℤ pos 2 -ℤ u in
    let two_a = times_times a k 2 in
    let two_b = times_times b k 2 in
    let spread = times_sum a b k in
    record {
      times = 2;
      scale = omega arith;
      first = u;
      second = w;
      adds = omega (arith, ints);
      first_in = made_below a s (k * 2) u (omega (arith, ints));
      second_in = made_below b r (k * 2) w (omega (arith, ints, two_a, two_b, spread, up_times (a *ℤ pos k) 2, up_times (b *ℤ pos k) 2, up_times v 2));
    }

pub sum_is : (a b : ℤ) (s r : Bool) (k : ℕ) (v : ℤ) → every k → Made (a +ℤ b) (s || r) k v → Sum (Made a s) (Made b r) k v
sum_is a b false false k v ok h =
    let spread = times_sum a b k in
    flat every (Made a false) (Made b false) k (a *ℤ pos k) (v -ℤ a *ℤ pos k) v ok (omega (arith, ints)) (omega (arith, ints)) (omega (arith, ints))
sum_is a b false true k v ok h = halved a b false true k v ok h
sum_is a b true false k v ok h = halved a b true false k v ok h
sum_is a b true true k v ok h = halved a b true true k v ok h

-- ---- bounds as they are made

-- x allows what A does
abbrev pub Means : Option DenseLimit → Meaning → Type 0
Means x A = (k : ℕ) (v : ℤ) → every k → Same (DenseAllows x k v) (A k v)

-- what a sum of made bounds allows, known by meanings alone
pub sum_of_made : (x y z : Option DenseLimit) (a b : ℤ) (s r : Bool) → Means x (Made a s) → Means y (Made b r) → Means z (Splits every (DenseAllows x) (DenseAllows y)) → (k : ℕ) (v : ℤ) → every k → DenseAllows z k v → Made (a +ℤ b) (s || r) k v
sum_of_made x y z a b s r mx my mz k v ok h =
    let p = (mz k v ok).0 h in
    sum_tells a b s r k v record {
      times = p.times;
      scale = p.scale;
      first = p.first;
      second = p.second;
      adds = p.adds;
      first_in = (mx _ _ p.scale).0 p.first_in;
      second_in = (my _ _ p.scale).0 p.second_in;
    }

-- 0 is not below 0
pub not_below_zero : (k : ℕ) → Made (pos 0) true k (pos 0) → ⊥
not_below_zero k h = omega (arith, ints, up_times (pos 0) k)

-- and what is below the sum of their numbers is allowed
pub below_sum : (x y z : Option DenseLimit) (a b : ℤ) (s r : Bool) → Means x (Made a s) → Means y (Made b r) → Means z (Splits every (DenseAllows x) (DenseAllows y)) → (k : ℕ) (v : ℤ) → every k → v <ℤ ((a +ℤ b) *ℤ pos k) → DenseAllows z k v
below_sum x y z a b s r mx my mz k v ok h =
    let p = halved a b s r k v ok h in
    (mz k v ok).1 record {
      times = p.times;
      scale = p.scale;
      first = p.first;
      second = p.second;
      adds = p.adds;
      first_in = (mx _ _ p.scale).1 p.first_in;
      second_in = (my _ _ p.scale).1 p.second_in;
    }

pub below_none : (k : ℕ) (v : ℤ) → v <ℤ pos 0 → v <ℤ (pos 0 *ℤ pos k)
below_none k v h = omega (arith, ints, up_times (pos 0) k)
