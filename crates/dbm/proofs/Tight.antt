-- A closed table whose diagonal allows 0 is tight: what an entry allows, a solution of the whole table reaches.
use Rattle.std.proofs.Common.{◌≡◌, ℕ, zero, suc, ◌*◌, ◌<◌, ◌≤◌, Bool, true, false, cond, eqb, ltb, ◌⊎◌, List, [], ◌∷◌, ℤ, pos, ◌+ℤ◌, ◌-ℤ◌, ◌*ℤ◌, neg_ℤ, ◌≤ℤ◌, sym, refl, ap, ◌∙◌, subst, inl, inr, mul_assoc, mul-one, arith, ltb-false, ltb-true, eq-eqb, eqb-true}
use lib.IntN.{zero-*ℤ}
use borrow.Author.Tests.{apart_eqb, eqb-false}
use Rattle.std.proofs.lemmas.Int.{ints, by_lt_z}
use Rattle.bound.specs.Integers.{times_sum, times_neg, times_times, times_mono, times_one}
use Rattle.bound.specs.Time.{Splits}
use Rattle.bound.specs.declared.kind.Bound.{Ghosts as Kind}
use Rattle.dbm.specs.Table.{Closed}
use Rattle.dbm.proofs.Laws.{Laws}
use Rattle.dbm.proofs.Line.{◌∈◌, here, there, nowhere, only, joined, Between, highest, room}

not_in : (n a : ℕ) (s : List ℕ) → (n ≡ a → ⊥) → (◌∈◌ n s → ⊥) → ◌∈◌ n (a ∷ s) → ⊥
not_in n a s ne no_s here = ne refl
not_in n a s ne no_s (there i) = no_s i

seek_step : (n a : ℕ) (s : List ℕ) (t : Bool) → eqb n a ≡ t → ◌∈◌ n s ⊎ (◌∈◌ n s → ⊥) → ◌∈◌ n (a ∷ s) ⊎ (◌∈◌ n (a ∷ s) → ⊥)
seek_step n a s true e r = inl (subst (λ (c : ℕ). ◌∈◌ n (c ∷ s)) (eqb-true n a e) here)
seek_step n a s false e (inl i) = inl (there i)
seek_step n a s false e (inr no_s) = inr (not_in n a s (eqb-false n a e) no_s)

-- is n among s?
pub seek : (n : ℕ) (s : List ℕ) → ◌∈◌ n s ⊎ (◌∈◌ n s → ⊥)
seek n [] = inr nowhere
seek n (a ∷ s) = seek_step n a s (eqb n a) refl (seek n s)

abbrev pub put : ℕ → ℤ → (ℕ → ℤ) → ℕ → ℤ
put n x ν a = cond (eqb a n) x (ν a)

module _ {Bound : Type 0} (kind : Kind Bound) (laws : Laws kind.admits kind.allows) (D : ℕ → ℕ → Bound) (size : ℕ) where
  pub record Keeps (s : List ℕ) (k : ℕ) (ν : ℕ → ℤ) : Type 0 where
    pub within : (a : ℕ) → ◌∈◌ a s → a < size
    pub each : (a b : ℕ) → ◌∈◌ a s → ◌∈◌ b s → kind.allows (D a b) k (ν a -ℤ ν b)

  put_same : (n : ℕ) (x : ℤ) (ν : ℕ → ℤ) → put n x ν n ≡ x
  put_same n x ν = ap (λ (t : Bool). cond t x (ν n)) (eq-eqb n n refl)

  put_other : (n : ℕ) (x : ℤ) (ν : ℕ → ℤ) (a : ℕ) → (a ≡ n → ⊥) → put n x ν a ≡ ν a
  put_other n x ν a ne = ap (λ (t : Bool). cond t x (ν a)) (apart_eqb a n ne)

  abbrev scaled : (ℕ → ℤ) → ℕ → ℕ → ℤ
  scaled ν m a = ν a *ℤ pos m

  -- one more variable
  pub record More (s : List ℕ) (n k : ℕ) (ν : ℕ → ℤ) : Type 0 where
    pub times : ℕ
    pub scale : kind.admits (k * times)
    pub at : ℤ
    pub keeps : Keeps (n ∷ s) (k * times) (put n at (scaled ν times))

  less_self : (x : ℤ) → x -ℤ x ≡ pos 0
  less_self x = omega (arith, ints)

  spread : (x y : ℤ) (m : ℕ) → (x -ℤ y) *ℤ pos m ≡ x *ℤ pos m -ℤ y *ℤ pos m
  spread x y m = times_sum x (neg_ℤ y) m ∙ ap (λ (z : ℤ). x *ℤ pos m +ℤ z) (times_neg y m)

  cc2 : {x x' y y' : ℤ} → x ≡ x' → y ≡ y' → x -ℤ y ≡ x' -ℤ y'
  cc2 {x} {x'} {y} {y'} e f = ap (λ (z : ℤ). z -ℤ y) e ∙ ap (λ (z : ℤ). x' -ℤ z) f

  apart : {n : ℕ} {us : List ℕ} (a : ℕ) → ◌∈◌ a us → (◌∈◌ n us → ⊥) → a ≡ n → ⊥
  apart {n} {us} a i fresh e = fresh (subst (λ (c : ℕ). ◌∈◌ c us) e i)

  module _ (closed : Closed kind D size) where
    -- what the table says of the old variables and of a new one
    each_of : (us : List ℕ) (n k m : ℕ) (ν : ℕ → ℤ) (x : ℤ) → (ok : kind.admits k) → kind.admits (k * m) → n < size → (◌∈◌ n us → ⊥) → Keeps us k ν → Between kind.admits kind.allows laws k ok D n ν us us m x → (a b : ℕ) → ◌∈◌ a (n ∷ us) → ◌∈◌ b (n ∷ us) → kind.allows (D a b) (k * m) (put n x (scaled ν m) a -ℤ put n x (scaled ν m) b)
    each_of us n k m ν x ok okm n_in fresh h w a b here here =
        subst (kind.allows (D n n) (k * m)) (sym (less_self (put n x (scaled ν m) n))) (closed.diagonal n n_in (k * m) okm)
    each_of us n k m ν x ok okm n_in fresh h w a b here (there j) =
        let e : x -ℤ ν b *ℤ pos m ≡ put n x (scaled ν m) n -ℤ put n x (scaled ν m) b = sym (cc2 (put_same n x (scaled ν m)) (put_other n x (scaled ν m) b (apart b j fresh))) in
        subst (kind.allows (D n b) (k * m)) e (w.low.each b j)
    each_of us n k m ν x ok okm n_in fresh h w a b (there i) here =
        let e : ν a *ℤ pos m -ℤ x ≡ put n x (scaled ν m) a -ℤ put n x (scaled ν m) n = sym (cc2 (put_other n x (scaled ν m) a (apart a i fresh)) (put_same n x (scaled ν m))) in
        subst (kind.allows (D a n) (k * m)) e (w.high.each a i)
    each_of us n k m ν x ok okm n_in fresh h w a b (there i) (there j) =
        let e : (ν a -ℤ ν b) *ℤ pos m ≡ put n x (scaled ν m) a -ℤ put n x (scaled ν m) b = spread (ν a) (ν b) m ∙ sym (cc2 (put_other n x (scaled ν m) a (apart a i fresh)) (put_other n x (scaled ν m) b (apart b j fresh))) in
        subst (kind.allows (D a b) (k * m)) e (laws.finer (D a b) k m (ν a -ℤ ν b) ok okm (h.each a b i j))

    extend : (c : ℕ) (s : List ℕ) (n k : ℕ) (ν : ℕ → ℤ) → kind.admits k → n < size → (◌∈◌ n (c ∷ s) → ⊥) → Keeps (c ∷ s) k ν → More (c ∷ s) n k ν
    extend c s n k ν ok n_in fresh h =
        let us : List ℕ = c ∷ s in
        let rooms : (a b : ℕ) → ◌∈◌ a us → ◌∈◌ b us → Splits kind.admits (kind.allows (D b n)) (kind.allows (D n a)) k (ν b -ℤ ν a) = λ a b i j. closed.through b a n (h.within b j) (h.within a i) n_in k (ν b -ℤ ν a) ok (h.each b a j i) in
        let p = highest kind.admits kind.allows laws k ok D n ν us c s rooms (λ b j. let q = room kind.admits kind.allows laws k ok D n ν b b (rooms b b j j) in record { times = q.times; scale = q.scale; at = q.at; fact = q.fact.high }) in
        record {
          times = p.times;
          scale = p.scale;
          at = p.at;
          keeps = record {
            within = joined n us (λ a. a < size) n_in h.within;
            each = each_of us n k p.times ν p.at ok p.scale n_in fresh h p.fact;
          };
        }

    -- a solution on the variables of s, which i and j are among, at least as far apart as v
    pub record Part (i j k : ℕ) (v : ℤ) (s : List ℕ) : Type 0 where
      pub times : ℕ
      pub scale : kind.admits (k * times)
      pub value : ℕ → ℤ
      pub keeps : Keeps s (k * times) value
      pub i_in : ◌∈◌ i s
      pub j_in : ◌∈◌ j s
      pub far : (v *ℤ pos times) ≤ℤ (value i -ℤ value j)

    -- more variables, and one of them is n
    pub record Grown (i j k : ℕ) (v : ℤ) (s : List ℕ) (n : ℕ) : Type 0 where
      pub all : List ℕ
      pub part : Part i j k v all
      pub old : (a : ℕ) → ◌∈◌ a s → ◌∈◌ a all
      pub new : ◌∈◌ n all

    far_on : (i j k : ℕ) (v : ℤ) (s : List ℕ) (n m : ℕ) (x : ℤ) (ν : ℕ → ℤ) (t : ℕ) → (◌∈◌ n s → ⊥) → ◌∈◌ i s → ◌∈◌ j s → (v *ℤ pos t) ≤ℤ (ν i -ℤ ν j) → (v *ℤ pos (t * m)) ≤ℤ (put n x (scaled ν m) i -ℤ put n x (scaled ν m) j)
    far_on i j k v s n m x ν t fresh i_in j_in far =
        let more : (v *ℤ pos t *ℤ pos m) ≤ℤ ((ν i -ℤ ν j) *ℤ pos m) = times_mono _ _ m far in
        let e : (ν i -ℤ ν j) *ℤ pos m ≡ put n x (scaled ν m) i -ℤ put n x (scaled ν m) j = spread (ν i) (ν j) m ∙ sym (cc2 (put_other n x (scaled ν m) i (apart i i_in fresh)) (put_other n x (scaled ν m) j (apart j j_in fresh))) in
        subst (λ (z : ℤ). (v *ℤ pos (t * m)) ≤ℤ z) e (subst (λ (z : ℤ). z ≤ℤ ((ν i -ℤ ν j) *ℤ pos m)) (times_times v t m) more)

    grow_by : (i j k : ℕ) (v : ℤ) (s : List ℕ) (n : ℕ) → n < size → Part i j k v s → ◌∈◌ n s ⊎ (◌∈◌ n s → ⊥) → Grown i j k v s n
    grow_by i j k v s n n_in p (inl there_already) = record { all = s; part = p; old = λ a i. i; new = there_already }
    grow_by i j k v [] n n_in p (inr fresh) = nowhere p.i_in
    grow_by i j k v (c ∷ s) n n_in p (inr fresh) =
        let e = extend c s n (k * p.times) p.value p.scale n_in fresh p.keeps in
        let same : k * p.times * e.times ≡ k * (p.times * e.times) = mul_assoc k p.times e.times in
        record {
          all = n ∷ c ∷ s;
          part = record {
            times = p.times * e.times;
            scale = subst kind.admits same e.scale;
            value = put n e.at (scaled p.value e.times);
            keeps = subst (λ (q : ℕ). Keeps (n ∷ c ∷ s) q (put n e.at (scaled p.value e.times))) same e.keeps;
            i_in = there p.i_in;
            j_in = there p.j_in;
            far = far_on i j k v (c ∷ s) n e.times e.at p.value p.times fresh p.i_in p.j_in p.far;
          };
          old = λ a i. there i;
          new = here;
        }

    -- every variable below n
    pub record Upto (i j k : ℕ) (v : ℤ) (n : ℕ) : Type 0 where
      pub all : List ℕ
      pub part : Part i j k v all
      pub has : (a : ℕ) → a < n → ◌∈◌ a all

    below_suc : (P : ℕ → Type 0) (n : ℕ) → ((a : ℕ) → a < n → P a) → P n → (a : ℕ) → a < suc n → P a
    below_suc P n ps p a h = less_or (ltb a n) refl where
      less_or : (t : Bool) → ltb a n ≡ t → P a
      less_or true e = ps a (ltb-true a n e)
      less_or false e = let q : n ≡ a = omega (arith, ltb-false a n e) in subst P q p

    upto : (i j k : ℕ) (v : ℤ) (s : List ℕ) → Part i j k v s → (n : ℕ) → n ≤ size → Upto i j k v n
    upto i j k v s p zero h = record { all = s; part = p; has = λ a l. absurd (omega arith) }
    upto i j k v s p (suc n) h =
        let u = upto i j k v s p n (omega arith) in
        let g = grow_by i j k v u.all n h u.part (seek n u.all) in
        record { all = g.all; part = g.part; has = below_suc (λ a. ◌∈◌ a g.all) n (λ a l. g.old a (u.has a l)) g.new }

    -- a solution of the whole table, at least as far apart in i and j as v
    pub record Solution (i j k : ℕ) (v : ℤ) : Type 0 where
      pub times : ℕ
      pub scale : kind.admits (k * times)
      pub value : ℕ → ℤ
      pub keeps : (a b : ℕ) → a < size → b < size → kind.allows (D a b) (k * times) (value a -ℤ value b)
      pub far : (v *ℤ pos times) ≤ℤ (value i -ℤ value j)

    whole : (i j k : ℕ) (v : ℤ) (s : List ℕ) → Part i j k v s → Solution i j k v
    whole i j k v s p =
        let u = upto i j k v s p size (omega arith) in
        let q = u.part in
        record { times = q.times; scale = q.scale; value = q.value; keeps = λ a b la lb. q.keeps.each a b (u.has a la) (u.has b lb); far = q.far }

    one_scale : (k : ℕ) → kind.admits k → kind.admits (k * 1)
    one_scale k ok = subst kind.admits (sym (mul-one k)) ok

    -- the diagonal
    alone : (i k : ℕ) (v : ℤ) → i < size → kind.admits k → kind.allows (D i i) k v → Part i i k v (i ∷ [])
    alone i k v i_ok ok h =
        let flat = closed.flat i i_ok k v ok h in
        record {
          times = 1;
          scale = one_scale k ok;
          value = λ a. pos 0;
          keeps = record {
            within = only i (λ a. a < size) i_ok;
            each = λ a b p q. only i (λ c. kind.allows (D c b) (k * 1) (pos 0 -ℤ pos 0)) (only i (λ c. kind.allows (D i c) (k * 1) (pos 0 -ℤ pos 0)) (closed.diagonal i i_ok (k * 1) (one_scale k ok)) b q) a p;
          };
          i_in = here;
          j_in = here;
          far = subst (λ (z : ℤ). z ≤ℤ (pos 0 -ℤ pos 0)) (sym (times_one v)) flat;
        }

    -- i at t, j at 0
    pair_at : (i j k m : ℕ) (v t : ℤ) → i < size → j < size → (j ≡ i → ⊥) → kind.admits (k * m) → kind.allows (D i j) (k * m) t → kind.allows (D j i) (k * m) (neg_ℤ t) → (v *ℤ pos m) ≤ℤ t → Part i j k v (i ∷ j ∷ [])
    pair_at i j k m v t i_ok j_ok ne okm forth back far =
        let ν : ℕ → ℤ = put i t (λ (a : ℕ). pos 0) in
        let at_i : ν i ≡ t = put_same i t (λ (a : ℕ). pos 0) in
        let at_j : ν j ≡ pos 0 = put_other i t (λ (a : ℕ). pos 0) j ne in
        let ij : t ≡ ν i -ℤ ν j = (let e : t ≡ t -ℤ pos 0 = omega (arith, ints) in e) ∙ sym (cc2 at_i at_j) in
        let ji : neg_ℤ t ≡ ν j -ℤ ν i = (let e : neg_ℤ t ≡ pos 0 -ℤ t = omega (arith, ints) in e) ∙ sym (cc2 at_j at_i) in
        let from_i : (b : ℕ) → ◌∈◌ b (i ∷ j ∷ []) → kind.allows (D i b) (k * m) (ν i -ℤ ν b) = joined i (j ∷ []) (λ b. kind.allows (D i b) (k * m) (ν i -ℤ ν b)) (subst (kind.allows (D i i) (k * m)) (sym (less_self (ν i))) (closed.diagonal i i_ok (k * m) okm)) (only j (λ b. kind.allows (D i b) (k * m) (ν i -ℤ ν b)) (subst (kind.allows (D i j) (k * m)) ij forth)) in
        let from_j : (b : ℕ) → ◌∈◌ b (i ∷ j ∷ []) → kind.allows (D j b) (k * m) (ν j -ℤ ν b) = joined i (j ∷ []) (λ b. kind.allows (D j b) (k * m) (ν j -ℤ ν b)) (subst (kind.allows (D j i) (k * m)) ji back) (only j (λ b. kind.allows (D j b) (k * m) (ν j -ℤ ν b)) (subst (kind.allows (D j j) (k * m)) (sym (less_self (ν j))) (closed.diagonal j j_ok (k * m) okm))) in
        record {
          times = m;
          scale = okm;
          value = ν;
          keeps = record {
            within = joined i (j ∷ []) (λ a. a < size) i_ok (only j (λ a. a < size) j_ok);
            each = λ a b p q. joined i (j ∷ []) (λ c. kind.allows (D c b) (k * m) (ν c -ℤ ν b)) (from_i b q) (only j (λ c. kind.allows (D c b) (k * m) (ν c -ℤ ν b)) (from_j b q)) a p;
          };
          i_in = here;
          j_in = there here;
          far = subst (λ (z : ℤ). (v *ℤ pos m) ≤ℤ z) ij far;
        }

    pair : (i j k : ℕ) (v : ℤ) → i < size → j < size → (j ≡ i → ⊥) → kind.admits k → kind.allows (D i j) k v → Part i j k v (i ∷ j ∷ [])
    pair i j k v i_ok j_ok ne ok h =
        let c = closed.through i i j i_ok i_ok j_ok k (pos 0) ok (closed.diagonal i i_ok k ok) in
        let m = c.times in
        let none : c.first +ℤ c.second ≡ pos 0 = c.adds ∙ zero-*ℤ (pos m) in
        let vm_in = laws.finer (D i j) k m v ok c.scale h in
        by_lt_z c.first (v *ℤ pos m)
        (λ less. pair_at i j k m v (v *ℤ pos m) i_ok j_ok ne c.scale vm_in (laws.lower (D j i) (k * m) _ _ c.scale c.second_in (omega (arith, ints))) (omega (arith, ints)))
        (λ more. pair_at i j k m v c.first i_ok j_ok ne c.scale c.first_in (laws.lower (D j i) (k * m) _ _ c.scale c.second_in (omega (arith, ints))) more)

    tight_by : (i j k : ℕ) (v : ℤ) → i < size → j < size → kind.admits k → kind.allows (D i j) k v → (t : Bool) → eqb j i ≡ t → Solution i j k v
    tight_by i j k v i_ok j_ok ok h true e =
        let same : j ≡ i = eqb-true j i e in
        subst (λ (c : ℕ). Solution i c k v) (sym same) (whole i i k v (i ∷ []) (alone i k v i_ok ok (subst (λ (c : ℕ). kind.allows (D i c) k v) same h)))
    tight_by i j k v i_ok j_ok ok h false e = whole i j k v (i ∷ j ∷ []) (pair i j k v i_ok j_ok (eqb-false j i e) ok h)

    pub tight : (i j k : ℕ) (v : ℤ) → i < size → j < size → kind.admits k → kind.allows (D i j) k v → Solution i j k v
    tight i j k v i_ok j_ok ok h = tight_by i j k v i_ok j_ok ok h (eqb j i) refl
