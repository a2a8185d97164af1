-- The words of a part of some bytes. Assumes nothing.
use Rattle.std.proofs.Common.{◌≡◌, ℕ, zero, suc, ◌+◌, ◌*◌, ◌/◌, ◌<◌, ◌≤◌, List, [], ◌∷◌, length, get_or, take, drop, refl, ap, add-zero, add-one, arith}
use Rattle.std.proofs.lemmas.List.{drop_all}
use Rattle.format.specs.Words.{words, big_endian}

four_more : (k : ℕ) → 4 * suc k ≡ suc (suc (suc (suc (4 * k))))
four_more k = omega arith

-- words are cut where bytes are cut in fours
pub words_drop : (k : ℕ) (bs : List ℕ) → words (drop (4 * k) bs) ≡ drop k (words bs)
unfolding words
words_drop zero bs = refl
words_drop (suc k) [] = rw four_more refl
words_drop (suc k) (a ∷ []) = rw four_more refl
words_drop (suc k) (a ∷ b ∷ []) = rw four_more refl
words_drop (suc k) (a ∷ b ∷ c ∷ []) = rw four_more refl
words_drop (suc k) (a ∷ b ∷ c ∷ d ∷ bs) = rw four_more (words_drop k bs)

pub words_take : (k : ℕ) (bs : List ℕ) → words (take (4 * k) bs) ≡ take k (words bs)
unfolding words
words_take zero bs = refl
words_take (suc k) [] = rw four_more refl
words_take (suc k) (a ∷ []) = rw four_more refl
words_take (suc k) (a ∷ b ∷ []) = rw four_more refl
words_take (suc k) (a ∷ b ∷ c ∷ []) = rw four_more refl
words_take (suc k) (a ∷ b ∷ c ∷ d ∷ bs) = rw four_more (ap (λ ws. big_endian a b c d ∷ ws) (words_take k bs))

pub length_words : (bs : List ℕ) → length (words bs) ≡ length bs / 4
unfolding words
length_words [] = refl
length_words (a ∷ []) = refl
length_words (a ∷ b ∷ []) = refl
length_words (a ∷ b ∷ c ∷ []) = refl
length_words (a ∷ b ∷ c ∷ d ∷ bs) = let e = length_words bs in omega arith

four_on : (k j : ℕ) → 4 * suc k + j ≡ suc (suc (suc (suc (4 * k + j))))
four_on k j = omega arith

-- the word at k, by its bytes
abbrev spelled : ℕ → List ℕ → ℕ
spelled k bs = big_endian (get_or bs (4 * k + 0) 0) (get_or bs (4 * k + 1) 0) (get_or bs (4 * k + 2) 0) (get_or bs (4 * k + 3) 0)

pub word_spelled : (k : ℕ) (bs : List ℕ) → 4 * k + 3 < length bs → drop k (words bs) ≡ spelled k bs ∷ drop (suc k) (words bs)
unfolding words
word_spelled zero [] h = absurd (omega arith)
word_spelled zero (a ∷ []) h = absurd (omega arith)
word_spelled zero (a ∷ b ∷ []) h = absurd (omega arith)
word_spelled zero (a ∷ b ∷ c ∷ []) h = absurd (omega arith)
word_spelled zero (a ∷ b ∷ c ∷ d ∷ bs) h = refl
word_spelled (suc k) [] h = absurd (omega arith)
word_spelled (suc k) (a ∷ []) h = absurd (omega arith)
word_spelled (suc k) (a ∷ b ∷ []) h = absurd (omega arith)
word_spelled (suc k) (a ∷ b ∷ c ∷ []) h = absurd (omega arith)
word_spelled (suc k) (a ∷ b ∷ c ∷ d ∷ bs) h = simp four_on (word_spelled k bs (omega arith))

pub word_bytes : (k : ℕ) (bs : List ℕ) → 4 * k + 3 < length bs →
    drop k (words bs) ≡ big_endian (get_or bs (4 * k) 0) (get_or bs (4 * k + 1) 0) (get_or bs (4 * k + 2) 0) (get_or bs (4 * k + 3) 0) ∷ drop (k + 1) (words bs)
word_bytes k bs h = let e = word_spelled k bs h in simp (add-zero, ← add-one) at e

pub no_word : (k : ℕ) (bs : List ℕ) → length bs / 4 ≤ k → drop k (words bs) ≡ []
no_word k bs h = drop_all k (words bs) (omega (arith, length_words bs))
