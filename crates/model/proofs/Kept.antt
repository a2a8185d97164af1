-- The records of a kind, word by word. Assumes nothing.
use Rattle.std.proofs.Common.{Bool, ◌==◌, MatchOption, slice_index, nat_lt, subst, ◌≡◌, ℕ, suc, ◌+◌, ◌*◌, ◌<◌, ◌≤◌, true, false, eqb, List, [], ◌∷◌, map, length, take, drop, sym, refl, ap, ◌∙◌, ⊎_elim, arith, length-drop}
use Rattle.std.proofs.lemmas.Bool.{cases_Bool, cond_both, ne_eqb, eq-eqb, eqb-true, eqb-false, ltb-true, ltb-false}
use Rattle.format.specs.Words.{kind, continues, continued}
use Rattle.format.specs.Syntax.{records, of_kind}
use Rattle.std.specs.List.{prefix_len, position, position_or_len}
use Rattle.std.proofs.lemmas.List.{drop-take, drop-drop, length-map}
use Rattle.format.specs.Words.{words}
use Rattle.format.proofs.Cuts.{words_drop, words_take, length_words}
use Rattle.model.specs.Records.{Begins}
use Rattle.model.specs.Records.{having, First, Next}

-- a word of another kind begins no record of this kind
having_skip : (k w : ℕ) (ws : List ℕ) → (kind w ≡ k → ⊥) → having k (w ∷ ws) ≡ having k ws
unfolding records of_kind
having_skip k w ws other =
    ⊎_elim
    (λ more. let e : continues w ≡ true = more in rw e refl)
    (λ begins. let e : continues w ≡ false = begins in let n : eqb (kind w) k ≡ false = ne_eqb _ _ other in rw e (rw n refl))
    (cases_Bool (continues w))

-- a word of this kind that begins a record
having_hit : (k w : ℕ) (ws : List ℕ) → kind w ≡ k → continues w ≡ false → having k (w ∷ ws) ≡ (w ∷ take (continued ws) ws) ∷ having k ws
unfolding records of_kind
having_hit k w ws is begins = let n : eqb (kind w) k ≡ true = eq-eqb _ _ is in rw begins (rw n refl)

-- the words that continue a record begin none
records_past : (ws : List ℕ) → records (drop (continued ws) ws) ≡ records ws
unfolding records continued
records_past [] = refl
records_past (w ∷ ws) =
    ⊎_elim
    (λ more. let e : continues w ≡ true = more in rw e (records_past ws))
    (λ begins. let e : continues w ≡ false = begins in let d : drop (continued (w ∷ ws)) (w ∷ ws) ≡ w ∷ ws = rw e refl in ap records d)
    (cases_Bool (continues w))

-- a word that stands at a place is one of them
standing : (p : ℕ) (ws : List ℕ) (w : ℕ) (more : List ℕ) → drop p ws ≡ w ∷ more → p < length ws
standing p ws w more e = omega (arith, length-drop p ws, ap length e)

-- ---- the first word of this kind, where there is one

module _ (k : ℕ) where
  abbrev is_kind : ℕ → Bool
  is_kind w = kind w == k

  first_here : (w : ℕ) (ws : List ℕ) → kind w ≡ k → First k (w ∷ ws) 0
  first_here w ws is = record { word = w; stands = refl; is = is; before = refl }

  first_later : (w p : ℕ) (ws : List ℕ) → (kind w ≡ k → ⊥) → First k ws p → First k (w ∷ ws) (suc p)
  first_later w p ws other f = record {
    word = f.word;
    stands = let e : suc p + 1 ≡ suc (p + 1) = omega arith in rw e f.stands;
    is = f.is;
    before = having_skip k w ws other ∙ f.before;
  }

  none_of_kind : (ws : List ℕ) → length ws ≤ position_or_len is_kind ws → having k ws ≡ []
  unfolding records of_kind
  none_of_kind [] e = refl
  none_of_kind (w ∷ ws) e =
      ⊎_elim
      (λ (is : is_kind w ≡ true). let here : position_or_len is_kind (w ∷ ws) ≡ 0 = rw is refl in absurd (omega arith))
      (λ (not_is : is_kind w ≡ false). let there : position_or_len is_kind (w ∷ ws) ≡ 1 + position_or_len is_kind ws = rw not_is refl in having_skip k w ws (eqb-false _ _ not_is) ∙ none_of_kind ws (omega arith))
      (cases_Bool (is_kind w))

  first_of_kind : (ws : List ℕ) → position_or_len is_kind ws < length ws → First k ws (position_or_len is_kind ws)
  first_of_kind [] e = absurd (omega arith)
  first_of_kind (w ∷ ws) e =
      ⊎_elim
      (λ (is : is_kind w ≡ true). let here : position_or_len is_kind (w ∷ ws) ≡ 0 = rw is refl in subst (First k (w ∷ ws)) (sym here) (first_here w ws (eqb-true _ _ is)))
      (λ (not_is : is_kind w ≡ false).
      let there : position_or_len is_kind (w ∷ ws) ≡ 1 + position_or_len is_kind ws = rw not_is refl in
      let next : suc (position_or_len is_kind ws) ≡ position_or_len is_kind (w ∷ ws) = omega arith in
      subst (First k (w ∷ ws)) next (first_later w _ ws (eqb-false _ _ not_is) (first_of_kind ws (omega arith))))
      (cases_Bool (is_kind w))

  pub first_is : (ws : List ℕ) → MatchOption (position is_kind ws) (having k ws ≡ []) (λ p. First k ws p)
  first_is ws =
      ⊎_elim
      (λ (some : nat_lt (position_or_len is_kind ws) (length ws) ≡ true). rw some (first_of_kind ws (ltb-true _ _ some)))
      (λ (none : nat_lt (position_or_len is_kind ws) (length ws) ≡ false). rw none (none_of_kind ws (ltb-false _ _ none)))
      (cases_Bool (nat_lt (position_or_len is_kind ws) (length ws)))

-- how many words continue a record, as a chain counts them
pub continued_is : (ws : List ℕ) → prefix_len continues ws ≡ continued ws
unfolding continued
continued_is [] = refl
continued_is (w ∷ ws) = let rest = continued_is ws in grind arith

continued_le : (ws : List ℕ) → continued ws ≤ length ws
unfolding continued
continued_le [] = omega arith
continued_le (w ∷ ws) = let l = continued_le ws in cond_both (continues w) (suc (continued ws)) 0 (λ n. n ≤ suc (length ws)) (λ _. omega arith) (λ _. omega arith)

-- the record that begins at p, and all that follows it, are there
record_there : (k p : ℕ) (ws : List ℕ) → First k ws p → p + 1 + continued (drop (p + 1) ws) ≤ length ws
record_there k p ws f = omega (arith, standing p ws _ _ f.stands, continued_le (drop (p + 1) ws), length-drop (p + 1) ws)

-- the record that begins at p, and all that stands before it, fit the bytes
pub record_fits : (k p n : ℕ) (bs : List ℕ) → First k (words bs) p → n ≡ continued (drop (p + 1) (words bs)) → 4 * (p + 1 + n) ≤ length bs
record_fits k p n bs f is = omega (arith, record_there k p (words bs) f, length_words bs)

-- the words of a record that begins at p and has n words more
part_words : (p n : ℕ) (bs : List ℕ) (w : ℕ) → drop p (words bs) ≡ w ∷ drop (p + 1) (words bs) → words (drop (4 * p) (take (4 * (p + suc n)) bs)) ≡ w ∷ take n (drop (p + 1) (words bs))
part_words p n bs w e = words_drop p (take (4 * (p + suc n)) bs) ∙ ap (drop p) (words_take (p + suc n) bs) ∙ drop-take p (suc n) (words bs) ∙ ap (take (suc n)) e

rest_having : (k p : ℕ) (ws : List ℕ) → having k (drop (p + 1 + continued (drop (p + 1) ws)) ws) ≡ having k (drop (p + 1) ws)
rest_having k p ws = ap (having k) (sym (drop-drop (continued (drop (p + 1) ws)) (p + 1) ws)) ∙ ap (of_kind k) (records_past (drop (p + 1) ws))

module _ (k p n : ℕ) (bs part rest : List ℕ) (begins : Begins k) (f : First k (words bs) p) (is : n ≡ continued (drop (p + 1) (words bs))) where
  pub next_is : part ≡ drop (4 * p) (take (4 * (p + 1 + n)) bs) → rest ≡ drop (4 * (p + 1 + n)) bs → Next k bs part rest
  next_is front back = record {
    splits = f.before ∙ ap (having k) f.stands ∙ having_hit k f.word (drop (p + 1) (words bs)) f.is (begins f.word f.is)
        ∙ (λ i. first_words i ∷ others i);
    shorter = omega (arith, ap length back, length-drop (4 * (p + 1 + n)) bs, record_there k p (words bs) f, length_words bs);
  } where
    place : p + suc n ≡ p + 1 + n
    place = omega arith

    first_words : f.word ∷ take (continued (drop (p + 1) (words bs))) (drop (p + 1) (words bs)) ≡ words part
    first_words = ap (λ (l : ℕ). f.word ∷ take l (drop (p + 1) (words bs))) (sym is) ∙ sym (part_words p n bs f.word f.stands) ∙ ap (λ (l : ℕ). words (drop (4 * p) (take (4 * l) bs))) place ∙ ap words (sym front)

    others : having k (drop (p + 1) (words bs)) ≡ having k (words rest)
    others = sym (rest_having k p (words bs)) ∙ ap (λ (l : ℕ). having k (drop (p + 1 + l) (words bs))) (sym is) ∙ ap (having k) (sym (words_drop (p + 1 + n) bs)) ∙ ap (λ (l : List ℕ). having k (words l)) (sym back)

-- ---- how many they are

few_records : (ws : List ℕ) → length (records ws) ≤ length ws
unfolding records
few_records [] = omega arith
few_records (w ∷ ws) = let l = few_records ws in cond_both (continues w) (records ws) ((w ∷ take (continued ws) ws) ∷ records ws) (λ r. length r ≤ suc (length ws)) (λ _. omega arith) (λ _. omega arith)

few_of_kind : (k : ℕ) (rs : List (List ℕ)) → length (of_kind k rs) ≤ length rs
unfolding of_kind
few_of_kind k [] = omega arith
few_of_kind k (r ∷ rs) = let l = few_of_kind k rs in cond_both (kind (slice_index r 0) == k) (r ∷ of_kind k rs) (of_kind k rs) (λ l. length l ≤ suc (length rs)) (λ _. omega arith) (λ _. omega arith)

-- no more than there are bytes
pub few : {X : Type 0} (said_by : List ℕ → X) (k : ℕ) (bs : List ℕ) {l : List X} → l ≡ map said_by (having k (words bs)) → length l ≤ length bs
few said_by k bs e = omega (arith, ap length e, length-map (having k (words bs)) said_by, few_of_kind k (records (words bs)), few_records (words bs), length_words bs)
