-- The turns of closing: what each keeps, and what they come to. Assumes nothing.
use Rattle.std.proofs.Common.{◌≡◌, ℕ, zero, suc, ◌+◌, ◌*◌, ◌^◌, ◌<◌, ◌≤◌, List, ℤ, pos, ◌+ℤ◌, ◌-ℤ◌, ◌≤ℤ◌, sym, refl, ap, ◌∙◌, subst, ⊎_elim, pow-suc, add-one, arith, pow_mono, below_more}
use lib.IntN.{zero-*ℤ}
use Rattle.std.proofs.lemmas.Int.{ints}
use Rattle.bound.specs.Time.{Splits, Within, Same}
use Rattle.bound.specs.declared.kind.Bound.{Ghosts as Kind}
use Rattle.dbm.specs.Table.{entry, Sat, Tightened, Closed, Solution, Tight, ConsistentTable, SameSolutions, AfterTurns}
use Rattle.dbm.proofs.Laws.{Laws}
use Rattle.dbm.proofs.Pivot.{Turned, flat_sum, old_through, new_through}
use Rattle.dbm.proofs.Tight.{tight}

module _ {B : Type 0} (kind : Kind B) (laws : Laws kind.admits kind.allows) (zero_is : (k : ℕ) (v : ℤ) → kind.admits k → Same (kind.allows kind.ZERO k v) (v ≤ℤ pos 0)) where
  -- zero within a bound: the bound allows 0 at every scale
  pub holds_zero : (b : B) → Within kind.admits (kind.allows kind.ZERO) (kind.allows b) → (k : ℕ) → kind.admits k → kind.allows b k (pos 0)
  holds_zero b within k ok = within k (pos 0) ok ((zero_is k (pos 0) ok).1 (omega (arith, ints)))

  -- a bound that allows 0 at one scale allows it at all, and so all that zero allows
  pub zero_inside : (b : B) (k : ℕ) → kind.admits k → kind.allows b k (pos 0) → Within kind.admits (kind.allows kind.ZERO) (kind.allows b)
  zero_inside b k ok h l v ok-l in-zero =
      let c = laws.common k l ok ok-l in
      let up : kind.allows b (k * c.left) (pos 0) = subst (kind.allows b (k * c.left)) (zero-*ℤ (pos c.left)) (laws.finer b k c.left (pos 0) ok c.scale h) in
      let over : kind.admits (l * c.right) = subst kind.admits c.same c.scale in
      let there : kind.allows b (l * c.right) (pos 0) = subst (λ (s : ℕ). kind.allows b s (pos 0)) c.same up in
      let down : kind.allows b l (pos 0) = laws.coarser b l c.right (pos 0) ok-l over (subst (kind.allows b (l * c.right)) (sym (zero-*ℤ (pos c.right))) there) in
      laws.lower b l v (pos 0) ok-l down ((zero_is l v ok-l).0 in-zero)

  module _ (n : ℕ) where
    abbrev E : List B → ℕ → ℕ → B
    E t i j = entry kind.NONE n t i j

    -- no solution where the diagonal does not allow 0
    pub no_solution : (t : List B) (p : ℕ) → p < n → (Within kind.admits (kind.allows kind.ZERO) (kind.allows (E t p p)) → ⊥) → (k : ℕ) (ν : ℕ → ℤ) → kind.admits k → Sat kind n t k ν → ⊥
    no_solution t p p_in never k ν ok sat = never (zero_inside (E t p p) k ok (subst (kind.allows (E t p p) k) (let e : ν p -ℤ ν p ≡ pos 0 = omega (arith, ints) in e) (sat p p p_in p_in)))

    abbrev Going : List B → List B → ℕ → Type 0
    Going old now k = AfterTurns kind n old now k

    module _ (mid new : List B) (k : ℕ) (k_in : k < n) (turned : (i j : ℕ) → i < n → j < n → Tightened kind (E mid i j) (E mid i k) (E mid k j) (E new i j)) (holds : Within kind.admits (kind.allows kind.ZERO) (kind.allows (E mid k k))) where
      by_turn : Turned kind.admits kind.allows laws n (E mid) (E new) k k_in
      by_turn = record {
        smaller = λ i j a b. (turned i j a b).smaller;
        by_way = λ i j a b. (turned i j a b).by_way;
        either = λ i j a b. (turned i j a b).either;
        loop = holds_zero (E mid k k) holds;
      }

      keeps_solution : (s : ℕ) (ν : ℕ → ℤ) → kind.admits s → Sat kind n mid s ν → Sat kind n new s ν
      keeps_solution s ν ok sat i j a b =
          ⊎_elim (λ w. w s _ ok (sat i j a b))
          (λ w. w s _ ok (subst (Splits kind.admits (kind.allows (E mid i k)) (kind.allows (E mid k j)) s) (let e : (ν i -ℤ ν k) +ℤ (ν k -ℤ ν j) ≡ ν i -ℤ ν j = omega (arith, ints) in e) (flat_sum kind.admits kind.allows laws (E mid i k) (E mid k j) s _ _ ok (sat i k a k_in) (sat k j k_in b))))
          (turned i j a b).either

      loses_none : (s : ℕ) (ν : ℕ → ℤ) → kind.admits s → Sat kind n new s ν → Sat kind n mid s ν
      loses_none s ν ok sat i j a b = (turned i j a b).smaller s _ ok (sat i j a b)

      pub going_more : (old : List B) → Going old mid k → Going old new (k + 1)
      going_more old r = record {
        same = λ s ν ok. (λ h. keeps_solution s ν ok ((r.same s ν ok).0 h), λ h. (r.same s ν ok).1 (loses_none s ν ok h));
        through = below_more _ _ (λ p h. old_through kind.admits kind.allows laws n (E mid) (E new) k k_in by_turn p (omega arith) (r.through p h)) (new_through kind.admits kind.allows laws n (E mid) (E new) k k_in by_turn);
        flat = λ i a s v ok h. r.flat i a s v ok ((turned i i a a).smaller s v ok h);
        small = λ i j a b. let q : 2 ^ (k + 1) ≡ 2 ^ k * 2 = ap (λ (e : ℕ). 2 ^ e) (add-one k) ∙ pow-suc 2 k in (turned i j a b).small (2 ^ 37 * 2 ^ (k + 1)) (omega (arith, r.small i j a b)) (omega (arith, r.small i k a k_in, r.small k j k_in b));
      }

    -- sizes stay far below what sums may have
    pub sum_room : (old now : List B) (k : ℕ) → k ≤ 17 → Going old now k → (i j : ℕ) → i < n → j < n → kind.size (E now i j) ≤ 2 ^ 54
    sum_room old now k le r i j a b = let p : 2 ^ k ≤ 2 ^ 17 = pow_mono le in omega (arith, r.small i j a b)

    -- after all turns, with a diagonal that allows 0
    pub all_closed : (old now : List B) → Going old now n → ((i : ℕ) → i < n → Within kind.admits (kind.allows kind.ZERO) (kind.allows (E now i i))) → Closed kind (E now) n
    all_closed old now r holds = record {
      through = λ i j p a b c k v ok h. r.through p c i j a b k v ok h;
      diagonal = λ i a k ok. holds_zero (E now i i) (holds i a) k ok;
      flat = r.flat;
    }

    pub no_old_solution : (old now : List B) (k : ℕ) → Going old now k → (p : ℕ) → p < n → (Within kind.admits (kind.allows kind.ZERO) (kind.allows (E now p p)) → ⊥) → Solution kind (E old) n → ⊥
    no_old_solution old now k r p p_in never s = no_solution now p p_in never s.scale s.value s.admitted ((r.same s.scale s.value s.admitted).0 s.keeps)

    -- such an entry ends the turns: the solutions are those of before, and there is none
    pub ends_early : (old now : List B) (k : ℕ) → Going old now k → (p : ℕ) → p < n → (Within kind.admits (kind.allows kind.ZERO) (kind.allows (E now p p)) → ⊥) → SameSolutions kind n old now × (Solution kind (E old) n → ⊥)
    ends_early old now k r p p_in never = (r.same, no_old_solution old now k r p p_in never)

    -- a diagonal entry that does not allow 0 is found
    pub some_diagonal : (old now : List B) (k : ℕ) → Going old now k → (((i : ℕ) → i < n → Within kind.admits (kind.allows kind.ZERO) (kind.allows (E now i i))) → ⊥) → Solution kind (E old) n → ⊥
    some_diagonal old now k r never s =
        never (λ i a. zero_inside (E now i i) s.scale s.admitted (subst (kind.allows (E now i i) s.scale) (let e : s.value i -ℤ s.value i ≡ pos 0 = omega (arith, ints) in e) ((r.same s.scale s.value s.admitted).0 s.keeps i i a a)))

    -- what an entry of the closed table allows is reached
    pub all_tight : (now : List B) → Closed kind (E now) n → Tight kind (E now) n
    all_tight now c i j k v a b ok h =
        let s = tight kind laws (E now) n c i j k v a b ok h in
        record { times = s.times; scale = s.scale; value = s.value; keeps = s.keeps; far = s.far }

    first_solution : (now : List B) (k : ℕ) → kind.admits k → Closed kind (E now) n → (m : ℕ) → m ≡ n → Solution kind (E now) n
    first_solution now k ok c zero e = record { scale = k; admitted = ok; value = λ a. pos 0; keeps = λ i j a b. absurd (omega arith) }
    first_solution now k ok c (suc m) e =
        let some : 0 < n = omega arith in
        let s = tight kind laws (E now) n c 0 0 k (pos 0) some some ok (c.diagonal 0 some k ok) in
        record { scale = k * s.times; admitted = s.scale; value = s.value; keeps = s.keeps }

    pub consistent : (old now : List B) (k : ℕ) → n ≤ 17 → kind.admits k → Going old now n → ((i : ℕ) → i < n → Within kind.admits (kind.allows kind.ZERO) (kind.allows (E now i i))) → ConsistentTable kind (E old) (E now) n
    consistent old now k few ok r holds =
        let c = all_closed old now r holds in
        let s = first_solution now k ok c n refl in
        record {
          closed = c;
          tight = all_tight now c;
          small = sum_room old now n few r;
          solution = record { scale = s.scale; admitted = s.admitted; value = s.value; keeps = (r.same s.scale s.value s.admitted).1 s.keeps };
        }
