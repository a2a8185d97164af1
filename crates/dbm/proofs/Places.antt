-- Single entries of a table, written and read. Assumes nothing.
use Rattle.std.proofs.Common.{◌≡◌, ℕ, ◌+◌, ◌*◌, ◌<◌, ◌≤◌, ◌≢◌, List, length, set, ℤ, ◌-ℤ◌, sym, ap, ◌∙◌, subst, ⊎_elim, arith, below_more}
use Rattle.std.proofs.lemmas.List.{get_or-set_same, get_or-set_other}
use Rattle.std.proofs.lemmas.Bool.{cases_eq, cases_order}
use Rattle.bound.specs.Time.{Within}
use Rattle.bound.specs.declared.kind.Bound.{Ghosts as Kind}
use Rattle.dbm.specs.Table.{entry, Sat, Constrained, Tight}
use Rattle.dbm.proofs.Laws.{Laws}
use Rattle.dbm.proofs.Rows.{row_before}

-- two places are one only where row and column are
apart_place : (p q i j n : ℕ) → q < n → j < n → ((p ≡ i) → (q ≡ j) → ⊥) → p * n + q ≢ i * n + j
apart_place p q i j n q_in j_in apart e =
    ⊎_elim (λ same. apart same (omega (arith, ap (λ (m : ℕ). m * n) same)))
    (λ other. ⊎_elim (λ less. omega (arith, row_before p i q n less q_in)) (λ more. omega (arith, row_before i p j n more j_in)) other)
    (cases_order p i)

module _ {B : Type 0} (none : B) (n : ℕ) where
  pub entry_set : (t : List B) (i j : ℕ) (b : B) → i * n + j < length t → entry none n (set t (i * n + j) b) i j ≡ b
  entry_set t i j b within = get_or-set_same t (i * n + j) b none within

  pub entry_other : (t : List B) (i j p q : ℕ) (b : B) → q < n → j < n → ((p ≡ i) → (q ≡ j) → ⊥) → entry none n (set t (i * n + j) b) p q ≡ entry none n t p q
  entry_other t i j p q b q_in j_in apart = let ne : p * n + q ≢ i * n + j = apart_place p q i j n q_in j_in apart in get_or-set_other t (i * n + j) (p * n + q) b none ne

  -- a fact of each entry, after one was written
  pub entries_set : (P : ℕ → ℕ → B → Type 0) (t : List B) (i j : ℕ) (b : B) → i * n + j < length t → j < n → P i j b → ((p q : ℕ) → p < n → q < n → P p q (entry none n t p q)) → (p q : ℕ) → p < n → q < n → P p q (entry none n (set t (i * n + j) b) p q)
  entries_set P t i j b within j_in here others p q p_in q_in =
      ⊎_elim
      (λ same. ⊎_elim
      (λ also. subst (λ (r : ℕ). P r q (entry none n (set t (i * n + j) b) r q)) (sym same) (subst (λ (c : ℕ). P i c (entry none n (set t (i * n + j) b) i c)) (sym also) (subst (P i j) (sym (entry_set t i j b within)) here)))
      (λ other. subst (P p q) (sym (entry_other t i j p q b q_in j_in (λ _ e. other e))) (others p q p_in q_in))
      (cases_eq q j))
      (λ other. subst (P p q) (sym (entry_other t i j p q b q_in j_in (λ e _. other e))) (others p q p_in q_in))
      (cases_eq p i)

module _ {B : Type 0} (none origin : B) (n : ℕ) where
  -- the first i diagonal entries are zero, the others and all beside them are none
  pub record Filling (t : List B) (i : ℕ) : Type 0 where
    pub zeros : (p : ℕ) → p < i → entry none n t p p ≡ origin
    pub beside : (p q : ℕ) → p < n → q < n → (p ≡ q → ⊥) → entry none n t p q ≡ none

  pub filling_more : (t : List B) (i : ℕ) → i < n → i * n + i < length t → Filling t i → Filling (set t (i * n + i) origin) (i + 1)
  filling_more t i i_in within f = record {
    zeros = below_more _ _ (λ p h. entry_other none n t i i p p origin (omega arith) i_in (λ e _. omega arith) ∙ f.zeros p h) (entry_set none n t i i origin within);
    beside = λ p q p_in q_in ne. entry_other none n t i i p q origin q_in i_in (λ e d. ne (e ∙ sym d)) ∙ f.beside p q p_in q_in ne;
  }

module _ {B : Type 0} (kind : Kind B) (n : ℕ) where
  -- the bound takes the entry's place
  pub replaced : (t : List B) (i j : ℕ) (b : B) → i < n → j < n → i * n + j < length t → Within kind.admits (kind.allows b) (kind.allows (entry kind.NONE n t i j)) → Constrained kind n t i j b (set t (i * n + j) b)
  replaced t i j b i_in j_in inside within = record {
    solutions = λ k ν ok. (
      λ sat. (λ p q p_in q_in. smaller_all p q p_in q_in k _ ok (sat p q p_in q_in), subst (λ (e : B). kind.allows e k (ν i -ℤ ν j)) (entry_set kind.NONE n t i j b inside) (sat i j i_in j_in)),
      λ both. entries_set kind.NONE n (λ p q e. kind.allows e k (ν p -ℤ ν q)) t i j b inside j_in both.1 both.0,
    );
    smaller = smaller_all;
    small = λ most all fits. entries_set kind.NONE n (λ p q e. kind.size e ≤ most) t i j b inside j_in fits all;
  } where
    smaller_all : (p q : ℕ) → p < n → q < n → Within kind.admits (kind.allows (entry kind.NONE n (set t (i * n + j) b) p q)) (kind.allows (entry kind.NONE n t p q))
    smaller_all = entries_set kind.NONE n (λ p q e. Within kind.admits (kind.allows e) (kind.allows (entry kind.NONE n t p q))) t i j b inside j_in within (λ p q _ _ k v ok h. h)

  -- in a tight table: an entry is within a bound exactly when every solution keeps the bound
  pub keeps_all : (laws : Laws kind.admits kind.allows) (t : List B) (i j : ℕ) (b : B) → i < n → j < n → Tight kind (entry kind.NONE n t) n → ((k : ℕ) (ν : ℕ → ℤ) → kind.admits k → Sat kind n t k ν → kind.allows b k (ν i -ℤ ν j)) → Within kind.admits (kind.allows (entry kind.NONE n t i j)) (kind.allows b)
  keeps_all laws t i j b i_in j_in tight all k v ok h =
      let r = tight i j k v i_in j_in ok h in
      laws.coarser b k r.times v ok r.scale (laws.lower b (k * r.times) _ _ r.scale (all (k * r.times) r.value r.scale r.keeps) r.far)
