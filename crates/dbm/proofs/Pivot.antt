-- One turn of closing: a table that is closed through every variable below k is, after the turn, closed through k too.
use Rattle.std.proofs.Common.{◌≡◌, ℕ, ◌*◌, ◌<◌, ◌⊎◌, ℤ, pos, ◌+ℤ◌, ◌*ℤ◌, sym, ap, ◌∙◌, subst, ⊎_elim, mul_assoc, mul-one, arith}
use lib.IntN.{zero-*ℤ, +ℤ_idr, +ℤ_idl}
use Rattle.std.proofs.lemmas.Int.{ints}
use Rattle.bound.specs.Integers.{times_sum, times_times, times_one}
use Rattle.bound.specs.Time.{Meaning, Splits, Within}
use Rattle.dbm.proofs.Laws.{Laws}

module _ {Bound : Type 0} (admits : ℕ → Type 0) (allows : Bound → Meaning) (laws : Laws admits allows) where
  abbrev pub Sum : Bound → Bound → Meaning
  Sum a b = Splits admits (allows a) (allows b)

  abbrev pub Inside : Meaning → Meaning → Type 0
  Inside a b = Within admits a b

  refined : (a : Bound) (k m c : ℕ) (v : ℤ) → admits (k * m) → admits (k * (m * c)) → allows a (k * m) v → allows a (k * (m * c)) (v *ℤ pos c)
  refined a k m c v am amc h =
      let amc' : admits (k * m * c) = subst admits (sym (mul_assoc k m c)) amc in
      subst (λ (n : ℕ). allows a n (v *ℤ pos c)) (mul_assoc k m c) (laws.finer a (k * m) c v am amc' h)

  -- at one scale, with no finer one
  pub flat_sum : (a b : Bound) (k : ℕ) (u w : ℤ) → admits k → allows a k u → allows b k w → Sum a b k (u +ℤ w)
  flat_sum a b k u w ok ha hb =
      let up : admits (k * 1) = subst admits (sym (mul-one k)) ok in
      record {
        times = 1;
        scale = up;
        first = u;
        second = w;
        adds = sym (times_one (u +ℤ w));
        first_in = subst (λ (n : ℕ). allows a n u) (sym (mul-one k)) ha;
        second_in = subst (λ (n : ℕ). allows b n w) (sym (mul-one k)) hb;
      }

  wider : (a b c d : Bound) → Inside (allows a) (allows c) → Inside (allows b) (allows d) → Inside (Sum a b) (Sum c d)
  wider a b c d ac bd k v ok s = record { times = s.times; scale = s.scale; first = s.first; second = s.second; adds = s.adds; first_in = ac _ _ s.scale s.first_in; second_in = bd _ _ s.scale s.second_in }

  -- u from x at k*m; w in y + z at k*m : then x + y, z
  regroup_left : (x y z xy : Bound) (k m : ℕ) (u w v : ℤ) → Inside (Sum x y) (allows xy) → admits (k * m) → allows x (k * m) u → Sum y z (k * m) w → u +ℤ w ≡ v *ℤ pos m → Sum xy z k v
  regroup_left x y z xy k m u w v inside okm hx s adds =
      let c = s.times in
      let same = mul_assoc k m c in
      let scale : admits (k * (m * c)) = subst admits same s.scale in
      let hx' : allows x (k * (m * c)) (u *ℤ pos c) = refined x k m c u okm scale hx in
      let hy' : allows y (k * (m * c)) s.first = subst (λ (n : ℕ). allows y n s.first) same s.first_in in
      let total : (u +ℤ w) *ℤ pos c ≡ v *ℤ pos (m * c) = ap (λ (q : ℤ). q *ℤ pos c) adds ∙ times_times v m c in
      let split : u *ℤ pos c +ℤ w *ℤ pos c ≡ v *ℤ pos (m * c) = sym (times_sum u w c) ∙ total in
      let parts : s.first +ℤ s.second ≡ w *ℤ pos c = s.adds in
      record {
        times = m * c;
        scale = scale;
        first = u *ℤ pos c +ℤ s.first;
        second = s.second;
        adds = omega (arith, ints);
        first_in = inside _ _ scale (flat_sum x y _ _ _ scale hx' hy');
        second_in = subst (λ (n : ℕ). allows z n s.second) same s.second_in;
      }

  regroup_right : (x y z yz : Bound) (k m : ℕ) (u w v : ℤ) → Inside (Sum y z) (allows yz) → admits (k * m) → Sum x y (k * m) u → allows z (k * m) w → u +ℤ w ≡ v *ℤ pos m → Sum x yz k v
  regroup_right x y z yz k m u w v inside okm s hz adds =
      let c = s.times in
      let same = mul_assoc k m c in
      let scale : admits (k * (m * c)) = subst admits same s.scale in
      let hz' : allows z (k * (m * c)) (w *ℤ pos c) = refined z k m c w okm scale hz in
      let hy' : allows y (k * (m * c)) s.second = subst (λ (n : ℕ). allows y n s.second) same s.second_in in
      let total : (u +ℤ w) *ℤ pos c ≡ v *ℤ pos (m * c) = ap (λ (q : ℤ). q *ℤ pos c) adds ∙ times_times v m c in
      let split : u *ℤ pos c +ℤ w *ℤ pos c ≡ v *ℤ pos (m * c) = sym (times_sum u w c) ∙ total in
      let parts : s.first +ℤ s.second ≡ u *ℤ pos c = s.adds in
      record {
        times = m * c;
        scale = scale;
        first = s.first;
        second = s.second +ℤ w *ℤ pos c;
        adds = omega (arith, ints);
        first_in = subst (λ (n : ℕ). allows x n s.first) same s.first_in;
        second_in = inside _ _ scale (flat_sum y z _ _ _ scale hy' hz');
      }

  -- 0 put between the two halves
  regroup_both : (x y z w xy zw : Bound) (k m : ℕ) (a b v : ℤ) → Inside (Sum x y) (allows xy) → Inside (Sum z w) (allows zw) → admits (k * m) → allows x (k * m) a → Sum y z (k * m) (pos 0) → allows w (k * m) b → a +ℤ b ≡ v *ℤ pos m → Sum xy zw k v
  regroup_both x y z w xy zw k m a b v in-xy in-zw okm hx s hw adds =
      let c = s.times in
      let same = mul_assoc k m c in
      let scale : admits (k * (m * c)) = subst admits same s.scale in
      let hx' = refined x k m c a okm scale hx in
      let hw' = refined w k m c b okm scale hw in
      let hy' : allows y (k * (m * c)) s.first = subst (λ (n : ℕ). allows y n s.first) same s.first_in in
      let hz' : allows z (k * (m * c)) s.second = subst (λ (n : ℕ). allows z n s.second) same s.second_in in
      let total : (a +ℤ b) *ℤ pos c ≡ v *ℤ pos (m * c) = ap (λ (q : ℤ). q *ℤ pos c) adds ∙ times_times v m c in
      let split : a *ℤ pos c +ℤ b *ℤ pos c ≡ v *ℤ pos (m * c) = sym (times_sum a b c) ∙ total in
      let none : s.first +ℤ s.second ≡ pos 0 = s.adds ∙ zero-*ℤ (pos c) in
      record {
        times = m * c;
        scale = scale;
        first = a *ℤ pos c +ℤ s.first;
        second = s.second +ℤ b *ℤ pos c;
        adds = omega (arith, ints);
        first_in = in-xy _ _ scale (flat_sum x y _ _ _ scale hx' hy');
        second_in = in-zw _ _ scale (flat_sum z w _ _ _ scale hz' hw');
      }

  module _ (size : ℕ) (D E : ℕ → ℕ → Bound) (t : ℕ) (t_in : t < size) where
    -- E is D after the turn of t
    pub record Turned : Type 0 where
      pub smaller : (i j : ℕ) → i < size → j < size → Inside (allows (E i j)) (allows (D i j))
      pub by_way : (i j : ℕ) → i < size → j < size → Inside (allows (E i j)) (Sum (D i t) (D t j))
      pub either : (i j : ℕ) → i < size → j < size → Inside (allows (D i j)) (allows (E i j)) ⊎ Inside (Sum (D i t) (D t j)) (allows (E i j))
      pub loop : (k : ℕ) → admits k → allows (D t t) k (pos 0)

    abbrev pub Through : (ℕ → ℕ → Bound) → ℕ → Type 0
    Through T p = (i j : ℕ) → i < size → j < size → Inside (allows (T i j)) (Sum (T i p) (T p j))

    module _ (turned : Turned) where
      pub old_through : (p : ℕ) → p < size → Through D p → Through E p
      old_through p p_in th i j i_in j_in k v ok h =
          let s = turned.by_way i j i_in j_in k v ok h in
          let whole = th i j i_in j_in k v ok (turned.smaller i j i_in j_in k v ok h) in
          ⊎_elim
          (λ ip. ⊎_elim
          (λ pj. wider (D i p) (D p j) (E i p) (E p j) ip pj k v ok whole)
          (λ pj. regroup_right (E i p) (D p t) (D t j) (E p j) k s.times s.first s.second v pj s.scale (wider (D i p) (D p t) (E i p) (D p t) ip (λ q w o e. e) _ _ s.scale (th i t i_in t_in _ _ s.scale s.first_in)) s.second_in s.adds)
          (turned.either p j p_in j_in))
          (λ ip. ⊎_elim
          (λ pj. regroup_left (D i t) (D t p) (E p j) (E i p) k s.times s.first s.second v ip s.scale s.first_in (wider (D t p) (D p j) (D t p) (E p j) (λ q w o e. e) pj _ _ s.scale (th t j t_in j_in _ _ s.scale s.second_in)) s.adds)
          (λ pj. regroup_both (D i t) (D t p) (D p t) (D t j) (E i p) (E p j) k s.times s.first s.second v ip pj s.scale s.first_in (th t t t_in t_in _ _ s.scale (turned.loop _ s.scale)) s.second_in s.adds)
          (turned.either p j p_in j_in))
          (turned.either i p i_in p_in)

      -- the column and the row of t have not lost anything
      column : (i : ℕ) → i < size → Inside (allows (D i t)) (allows (E i t))
      column i i_in k v ok h =
          ⊎_elim (λ e. e k v ok h) (λ e. e k v ok (subst (Sum (D i t) (D t t) k) (+ℤ_idr v) (flat_sum (D i t) (D t t) k v (pos 0) ok h (turned.loop k ok)))) (turned.either i t i_in t_in)

      row : (j : ℕ) → j < size → Inside (allows (D t j)) (allows (E t j))
      row j j_in k v ok h =
          ⊎_elim (λ e. e k v ok h) (λ e. e k v ok (subst (Sum (D t t) (D t j) k) (+ℤ_idl v) (flat_sum (D t t) (D t j) k (pos 0) v ok (turned.loop k ok) h))) (turned.either t j t_in j_in)

      pub new_through : Through E t
      new_through i j i_in j_in k v ok h = wider (D i t) (D t j) (E i t) (E t j) (column i i_in) (row j j_in) k v ok (turned.by_way i j i_in j_in k v ok h)
