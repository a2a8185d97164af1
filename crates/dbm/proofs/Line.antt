-- A point that keeps finitely many bounds on a line, where each two leave room.
use Rattle.std.proofs.Common.{◌≡◌, ℕ, ◌*◌, List, [], ◌∷◌, ℤ, pos, ◌+ℤ◌, ◌-ℤ◌, ◌*ℤ◌, neg_ℤ, ◌≤ℤ◌, sym, ap, ◌∙◌, subst, mul_assoc, arith}
use native.Mathlib.Nat.{eq_of_mul-eq-mul_left}
use Rattle.std.proofs.lemmas.Int.{ints, by_lt_z}
use Rattle.bound.specs.Integers.{times_sum, times_neg, times_times}
use Rattle.bound.specs.Time.{Meaning, Splits}
use Rattle.dbm.proofs.Laws.{Laws}

pub data ◌∈◌ (a : ℕ) : List ℕ → Type 0 where
  here : {s : List ℕ} → ◌∈◌ a (a ∷ s)
  there : {b : ℕ} {s : List ℕ} → ◌∈◌ a s → ◌∈◌ a (b ∷ s)

pub nowhere {ℓ} : {P : Type ℓ} {a : ℕ} → ◌∈◌ a [] → P
nowhere i = elim i [ ]

pub only : (a : ℕ) (P : ℕ → Type 0) → P a → (c : ℕ) → ◌∈◌ c (a ∷ []) → P c
only a P p c here = p
only a P p c (there i) = nowhere i

pub joined : (a : ℕ) (us : List ℕ) (P : ℕ → Type 0) → P a → ((c : ℕ) → ◌∈◌ c us → P c) → (c : ℕ) → ◌∈◌ c (a ∷ us) → P c
joined a us P p ps c here = p
joined a us P p ps c (there i) = ps c i

-- a point at scale k times `times`, with a fact
pub record Point (admits : ℕ → Type 0) (k : ℕ) (P : ℕ → ℤ → Type 0) : Type 0 where
  pub times : ℕ
  pub scale : admits (k * times)
  pub at : ℤ
  pub fact : P times at

-- two points brought to one scale
pub record Two (admits : ℕ → Type 0) (k : ℕ) (P Q : ℕ → ℤ → Type 0) : Type 0 where
  pub times : ℕ
  pub scale : admits (k * times)
  pub first : ℤ
  pub second : ℤ
  pub first_in : P times first
  pub second_in : Q times second

-- a property of points that stays at finer scales
abbrev pub Refines : (ℕ → Type 0) → ℕ → (ℕ → ℤ → Type 0) → Type 0
Refines admits k P = (m c : ℕ) (x : ℤ) → admits (k * m) → admits (k * (m * c)) → P m x → P (m * c) (x *ℤ pos c)

module _ {Bound : Type 0} (admits : ℕ → Type 0) (allows : Bound → Meaning) (laws : Laws admits allows) (k : ℕ) (ok : admits k) where
  pub merged : (P Q : ℕ → ℤ → Type 0) → Refines admits k P → Refines admits k Q → Point admits k P → Point admits k Q → Two admits k P Q
  merged P Q rp rq p q =
      let c = laws.common (k * p.times) (k * q.times) p.scale q.scale in
      let one : k * (p.times * c.left) ≡ k * (q.times * c.right) = sym (mul_assoc k p.times c.left) ∙ c.same ∙ mul_assoc k q.times c.right in
      let same : p.times * c.left ≡ q.times * c.right = eq_of_mul-eq-mul_left k (laws.positive k ok) _ _ one in
      let scale : admits (k * (p.times * c.left)) = subst admits (mul_assoc k p.times c.left) c.scale in
      record {
        times = p.times * c.left;
        scale = scale;
        first = p.at *ℤ pos c.left;
        second = q.at *ℤ pos c.right;
        first_in = rp p.times c.left p.at p.scale scale p.fact;
        second_in = subst (λ (m : ℕ). Q m (q.at *ℤ pos c.right)) (sym same) (rq q.times c.right q.at q.scale (subst admits one scale) q.fact);
      }

  -- at m times the scale, x stays above what b leaves, and below what a leaves
  abbrev pub Above : Bound → ℤ → ℕ → ℤ → Type 0
  Above b y m x = allows b (k * m) (y *ℤ pos m -ℤ x)

  abbrev pub Beneath : Bound → ℤ → ℕ → ℤ → Type 0
  Beneath b y m x = allows b (k * m) (x -ℤ y *ℤ pos m)

  finer_at : (b : Bound) (m c : ℕ) (v : ℤ) → admits (k * m) → admits (k * (m * c)) → allows b (k * m) v → allows b (k * (m * c)) (v *ℤ pos c)
  finer_at b m c v am amc h =
      let am' : admits (k * m * c) = subst admits (sym (mul_assoc k m c)) amc in
      subst (λ (n : ℕ). allows b n (v *ℤ pos c)) (mul_assoc k m c) (laws.finer b (k * m) c v am am' h)

  times_less : (x y : ℤ) (m c : ℕ) → (x -ℤ y *ℤ pos m) *ℤ pos c ≡ x *ℤ pos c -ℤ y *ℤ pos (m * c)
  times_less x y m c = times_sum x (neg_ℤ (y *ℤ pos m)) c ∙ ap (λ (z : ℤ). x *ℤ pos c +ℤ z) (times_neg (y *ℤ pos m) c ∙ ap neg_ℤ (times_times y m c))

  times_more : (x y : ℤ) (m c : ℕ) → (y *ℤ pos m -ℤ x) *ℤ pos c ≡ y *ℤ pos (m * c) -ℤ x *ℤ pos c
  times_more x y m c = times_sum (y *ℤ pos m) (neg_ℤ x) c ∙ ap (λ (z : ℤ). z +ℤ neg_ℤ x *ℤ pos c) (times_times y m c) ∙ ap (λ (z : ℤ). y *ℤ pos (m * c) +ℤ z) (times_neg x c)

  beneath_finer : (b : Bound) (y : ℤ) → Refines admits k (Beneath b y)
  beneath_finer b y m c x am amc h = subst (allows b (k * (m * c))) (times_less x y m c) (finer_at b m c _ am amc h)

  above_finer : (b : Bound) (y : ℤ) → Refines admits k (Above b y)
  above_finer b y m c x am amc h = subst (allows b (k * (m * c))) (times_more x y m c) (finer_at b m c _ am amc h)

  -- a table, a variable, and the values of the variables so far
  module _ (D : ℕ → ℕ → Bound) (n : ℕ) (ν : ℕ → ℤ) where
    pub record Below (us : List ℕ) (m : ℕ) (x : ℤ) : Type 0 where
      pub each : (a : ℕ) → ◌∈◌ a us → Beneath (D n a) (ν a) m x

    pub record Over (ls : List ℕ) (m : ℕ) (x : ℤ) : Type 0 where
      pub each : (b : ℕ) → ◌∈◌ b ls → Above (D b n) (ν b) m x

    pub record Between (us ls : List ℕ) (m : ℕ) (x : ℤ) : Type 0 where
      pub low : Below us m x
      pub high : Over ls m x

    below_finer : (us : List ℕ) → Refines admits k (Below us)
    below_finer us m c x am amc h = record { each = λ a i. beneath_finer (D n a) (ν a) m c x am amc (h.each a i) }

    over_finer : (ls : List ℕ) → Refines admits k (Over ls)
    over_finer ls m c x am amc h = record { each = λ b i. above_finer (D b n) (ν b) m c x am amc (h.each b i) }

    between_finer : (us ls : List ℕ) → Refines admits k (Between us ls)
    between_finer us ls m c x am amc h = record { low = below_finer us m c x am amc h.low; high = over_finer ls m c x am amc h.high }

    below_lower : (us : List ℕ) (m : ℕ) (x y : ℤ) → admits (k * m) → Below us m y → x ≤ℤ y → Below us m x
    below_lower us m x y am h le = record { each = λ a i. laws.lower (D n a) (k * m) _ _ am (h.each a i) (omega (arith, ints)) }

    over_raise : (ls : List ℕ) (m : ℕ) (x y : ℤ) → admits (k * m) → Over ls m x → x ≤ℤ y → Over ls m y
    over_raise ls m x y am h le = record { each = λ b i. laws.lower (D b n) (k * m) _ _ am (h.each b i) (omega (arith, ints)) }

    abbrev pub Room : ℕ → ℕ → Type 0
    Room a b = Splits admits (allows (D b n)) (allows (D n a)) k (ν b -ℤ ν a)

    pub room : (a b : ℕ) → Room a b → Point admits k (Between (a ∷ []) (b ∷ []))
    room a b s =
        let m = s.times in
        let x : ℤ = ν b *ℤ pos m -ℤ s.first in
        let spread : (ν b -ℤ ν a) *ℤ pos m ≡ ν b *ℤ pos m -ℤ ν a *ℤ pos m = times_sum (ν b) (neg_ℤ (ν a)) m ∙ ap (λ (z : ℤ). ν b *ℤ pos m +ℤ z) (times_neg (ν a) m) in
        let all : s.first +ℤ s.second ≡ ν b *ℤ pos m -ℤ ν a *ℤ pos m = s.adds ∙ spread in
        let up_is : s.first ≡ ν b *ℤ pos m -ℤ (ν b *ℤ pos m -ℤ s.first) = omega (arith, ints) in
        let down_is : s.second ≡ (ν b *ℤ pos m -ℤ s.first) -ℤ ν a *ℤ pos m = omega (arith, ints) in
        record {
          times = m;
          scale = s.scale;
          at = x;
          fact = record {
            low = record { each = λ c i. only a (λ c. Beneath (D n c) (ν c) m x) (subst (allows (D n a) (k * m)) down_is s.second_in) c i };
            high = record { each = λ c i. only b (λ c. Above (D c n) (ν c) m x) (subst (allows (D b n) (k * m)) up_is s.first_in) c i };
          };
        }

    lowest : (us : List ℕ) (b : ℕ) → ((a : ℕ) → ◌∈◌ a us → Room a b) → Point admits k (Over (b ∷ [])) → Point admits k (Between us (b ∷ []))
    lowest [] b rooms p = record { times = p.times; scale = p.scale; at = p.at; fact = record { low = record { each = λ a i. nowhere i }; high = p.fact } }
    lowest (a ∷ us) b rooms p =
        let t = merged _ _ (between_finer us (b ∷ [])) (between_finer (a ∷ []) (b ∷ [])) (lowest us b (λ c i. rooms c (there i)) p) (room a b (rooms a here)) in
        let m = t.times in
        by_lt_z t.first t.second
        (λ less. record {
          times = m;
          scale = t.scale;
          at = t.first;
          fact = record {
            low = record { each = joined a us (λ c. Beneath (D n c) (ν c) m t.first) ((below_lower (a ∷ []) m t.first t.second t.scale t.second_in.low (omega (arith, ints))).each a here) t.first_in.low.each };
            high = t.first_in.high;
          };
        })
        (λ more. record {
          times = m;
          scale = t.scale;
          at = t.second;
          fact = record {
            low = record { each = joined a us (λ c. Beneath (D n c) (ν c) m t.second) (t.second_in.low.each a here) (below_lower us m t.second t.first t.scale t.first_in.low more).each };
            high = t.second_in.high;
          };
        })

    -- a point between all of us and all of b ∷ ls
    pub highest : (us : List ℕ) (b : ℕ) (ls : List ℕ) → ((a c : ℕ) → ◌∈◌ a us → ◌∈◌ c (b ∷ ls) → Room a c) → ((c : ℕ) → ◌∈◌ c (b ∷ ls) → Point admits k (Over (c ∷ []))) → Point admits k (Between us (b ∷ ls))
    highest us b [] rooms ps = lowest us b (λ a i. rooms a b i here) (ps b here)
    highest us b (c ∷ ls) rooms ps =
        let t = merged _ _ (between_finer us (c ∷ ls)) (between_finer us (b ∷ [])) (highest us c ls (λ a d i j. rooms a d i (there j)) (λ d j. ps d (there j))) (lowest us b (λ a i. rooms a b i here) (ps b here)) in
        let m = t.times in
        by_lt_z t.first t.second
        (λ less. record {
          times = m;
          scale = t.scale;
          at = t.second;
          fact = record {
            low = t.second_in.low;
            high = record { each = joined b (c ∷ ls) (λ d. Above (D d n) (ν d) m t.second) (t.second_in.high.each b here) (over_raise (c ∷ ls) m t.first t.second t.scale t.first_in.high (omega (arith, ints))).each };
          };
        })
        (λ more. record {
          times = m;
          scale = t.scale;
          at = t.first;
          fact = record {
            low = t.first_in.low;
            high = record { each = joined b (c ∷ ls) (λ d. Above (D d n) (ν d) m t.first) ((over_raise (b ∷ []) m t.second t.first t.scale t.second_in.high more).each b here) t.first_in.high.each };
          };
        })
