-- Rows of a table while they are tightened. Assumes nothing.
use Rattle.std.proofs.Common.{◌≡◌, ℕ, ◌+◌, ◌*◌, ◌<◌, ◌≤◌, ◌≢◌, List, length, get_or, take, drop, set, sym, ap, ◌∙◌, subst, mul-le-mul_right, suc-mul, add-one, arith, below_more}
use borrow.Rule.Slice.PartMut.{put_mid}
use Rattle.std.proofs.lemmas.List.{get_or-set_same, get_or-set_other, get_or-take, get_or-drop, places, length-drop, length-take-le}
use Rattle.bound.specs.declared.kind.Bound.{Ghosts as Kind}
use Rattle.dbm.specs.Table.{Tightened, entry}

module _ {B : Type 0} (kind : Kind B) where
  -- the first j entries of a row are tightened, the others are as they were
  pub record Rows (old through : List B) (via : B) (row : List B) (j : ℕ) : Type 0 where
    pub done : (q : ℕ) → q < j → Tightened kind (get_or old q kind.NONE) via (get_or through q kind.NONE) (get_or row q kind.NONE)
    pub left : (q : ℕ) → j ≤ q → get_or row q kind.NONE ≡ get_or old q kind.NONE

  pub one_more : (old through row : List B) (via x y z : B) (j : ℕ) → j < length row → x ≡ get_or row j kind.NONE → y ≡ get_or through j kind.NONE → Tightened kind x via y z → Rows old through via row j → Rows old through via (set row j z) (j + 1)
  one_more old through row via x y z j within is_x is_y t r =
      let here : get_or (set row j z) j kind.NONE ≡ z = get_or-set_same row j z kind.NONE within in
      let t1 = subst (λ (b : B). Tightened kind b via y z) (is_x ∙ r.left j (omega arith)) t in
      let t2 = subst (λ (b : B). Tightened kind (get_or old j kind.NONE) via b z) is_y t1 in
      record {
        done = below_more _ _ (λ q h. let apart : q ≢ j = omega arith in subst (λ (b : B). Tightened kind (get_or old q kind.NONE) via (get_or through q kind.NONE) b) (sym (get_or-set_other row j q z kind.NONE apart)) (r.done q h)) (subst (λ (b : B). Tightened kind (get_or old j kind.NONE) via (get_or through j kind.NONE) b) (sym here) t2);
        left = λ q h. let apart : q ≢ j = omega arith in get_or-set_other row j q z kind.NONE apart ∙ r.left q (omega arith);
      }

-- ---- rows in a table

pub row_fits : (i n : ℕ) → i < n → i * n + n ≤ n * n
row_fits i n h = let e = mul-le-mul_right n h in omega (arith, suc-mul i n)

-- the places of row p lie before those of a later row i
pub row_before : (p i j n : ℕ) → p < i → j < n → p * n + j < i * n
row_before p i j n h l = let e = mul-le-mul_right n h in omega (arith, suc-mul p n)

-- a part of a list that was written anew
pub put_inside : {B : Type 0} (a n q : ℕ) (xs ys : List B) (d : B) → length ys ≡ n → a + n ≤ length xs → q < n → get_or (put_mid a n xs ys) (a + q) d ≡ get_or ys q d
put_inside a n q xs ys d long fits l = grind (arith, places)

pub put_before : {B : Type 0} (a n q : ℕ) (xs ys : List B) (d : B) → length ys ≡ n → a + n ≤ length xs → q < a → get_or (put_mid a n xs ys) q d ≡ get_or xs q d
put_before a n q xs ys d long fits l = grind (arith, places)

pub put_after : {B : Type 0} (a n q : ℕ) (xs ys : List B) (d : B) → length ys ≡ n → a + n ≤ length xs → a + n ≤ q → get_or (put_mid a n xs ys) q d ≡ get_or xs q d
put_after a n q xs ys d long fits l = grind (arith, places)

pub part_at : {B : Type 0} (a n q : ℕ) (xs : List B) (d : B) → q < n → get_or (take n (drop a xs)) q d ≡ get_or xs (a + q) d
part_at a n q xs d l = get_or-take n (drop a xs) q d l ∙ get_or-drop a xs q d

module _ {B : Type 0} (kind : Kind B) (n k : ℕ) where
  -- the first i rows are tightened by the way through k, the others are as they were
  pub record Turning (old now : List B) (i : ℕ) : Type 0 where
    pub done : (p j : ℕ) → p < i → j < n → Tightened kind (entry kind.NONE n old p j) (entry kind.NONE n old p k) (entry kind.NONE n old k j) (entry kind.NONE n now p j)
    pub left : (p j : ℕ) → i ≤ p → j < n → entry kind.NONE n now p j ≡ entry kind.NONE n old p j

  next_row : (old now ys copy : List B) (via : B) (i : ℕ) → i < n → length now ≡ n * n → length ys ≡ n → via ≡ entry kind.NONE n old i k → ((j : ℕ) → j < n → get_or copy j kind.NONE ≡ entry kind.NONE n old k j) → ((j : ℕ) → j < n → Tightened kind (get_or (take n (drop (i * n) now)) j kind.NONE) via (get_or copy j kind.NONE) (get_or ys j kind.NONE)) → Turning old now i → Turning old (put_mid (i * n) n now ys) (i + 1)
  next_row old now ys copy via i i_in whole long is-via copied tight r =
      let fits : i * n + n ≤ length now = omega (arith, row_fits i n i_in) in
      record {
        done = λ p j h l. below_more (λ p. (j : ℕ) → j < n → Tightened kind (entry kind.NONE n old p j) (entry kind.NONE n old p k) (entry kind.NONE n old k j) (entry kind.NONE n (put_mid (i * n) n now ys) p j)) i
            (λ p h j l. subst (λ (b : B). Tightened kind (entry kind.NONE n old p j) (entry kind.NONE n old p k) (entry kind.NONE n old k j) b) (sym (put_before (i * n) n (p * n + j) now ys kind.NONE long fits (row_before p i j n h l))) (r.done p j h l))
            (λ j l.
            let t0 = tight j l in
            let t1 = subst (λ (b : B). Tightened kind b via (get_or copy j kind.NONE) (get_or ys j kind.NONE)) (part_at (i * n) n j now kind.NONE l ∙ r.left i j (omega arith) l) t0 in
            let t2 = subst (λ (b : B). Tightened kind (entry kind.NONE n old i j) b (get_or copy j kind.NONE) (get_or ys j kind.NONE)) is-via t1 in
            let t3 = subst (λ (b : B). Tightened kind (entry kind.NONE n old i j) (entry kind.NONE n old i k) b (get_or ys j kind.NONE)) (copied j l) t2 in
            subst (λ (b : B). Tightened kind (entry kind.NONE n old i j) (entry kind.NONE n old i k) (entry kind.NONE n old k j) b) (sym (put_inside (i * n) n j now ys kind.NONE long fits l)) t3) p h j l;
        left = λ p j h l. put_after (i * n) n (p * n + j) now ys kind.NONE long fits (omega (arith, mul-le-mul_right n h, suc-mul i n, add-one i)) ∙ r.left p j (omega arith) l;
      }

  -- the same, with the part's place and length as they were computed
  pub one_row : (old now ys copy : List B) (via : B) (i a m : ℕ) → a ≡ i * n → m ≡ n → i < n → length now ≡ n * n → length ys ≡ n → via ≡ entry kind.NONE n old i k → ((j : ℕ) → j < n → get_or copy j kind.NONE ≡ entry kind.NONE n old k j) → ((j : ℕ) → j < n → Tightened kind (get_or (take m (drop a now)) j kind.NONE) via (get_or copy j kind.NONE) (get_or ys j kind.NONE)) → Turning old now i → Turning old (put_mid a m now ys) (i + 1)
  one_row old now ys copy via i a m ea em i_in whole long is-via copied tight r =
      subst (λ (b : ℕ). Turning old (put_mid b m now ys) (i + 1)) (sym ea)
      (subst (λ (q : ℕ). Turning old (put_mid (i * n) q now ys) (i + 1)) (sym em)
      (next_row old now ys copy via i i_in whole long is-via copied
      (λ j l. subst (λ (q : ℕ). Tightened kind (get_or (take q (drop (i * n) now)) j kind.NONE) via (get_or copy j kind.NONE) (get_or ys j kind.NONE)) em (subst (λ (b : ℕ). Tightened kind (get_or (take m (drop b now)) j kind.NONE) via (get_or copy j kind.NONE) (get_or ys j kind.NONE)) ea (tight j l))) r))

  pub via_row : (old now : List B) (via : B) (i m : ℕ) → k < n → m ≡ n → via ≡ entry kind.NONE m now i k → Turning old now i → via ≡ entry kind.NONE n old i k
  via_row old now via i m k_in em is r = is ∙ ap (λ (q : ℕ). entry kind.NONE q now i k) em ∙ r.left i k (omega arith) k_in

pub part_long : {B : Type 0} (a m n : ℕ) (xs : List B) → m ≡ n → a + n ≤ length xs → length (take m (drop a xs)) ≡ n
part_long a m n xs em fits = let l = length-drop a xs in length-take-le m (drop a xs) (omega arith) ∙ em
