-- Words written one after another are read again. Assumes nothing.
use Rattle.std.proofs.Common.{◌≡◌, ℕ, ◌^◌, ◌<◌, List, [], ◌∷◌, ◌++◌, ap, sym, ◌∙◌, w32}
use Rattle.std.specs.Int.{to_be_bytes}
use Rattle.std.proofs.lemmas.Nat.{from_be_bytes-to_be_bytes_4}
use Rattle.std.proofs.lemmas.List.{append_assoc, append-nil}
use Rattle.format.specs.Words.{words}

-- these bytes are these words, whatever comes after them
abbrev pub Written : List ℕ → List ℕ → Type 0
Written bs ws = (more : List ℕ) → words (bs ++ more) ≡ ws ++ words more

pub word_read : (w : ℕ) (more : List ℕ) → w < 2 ^ 32 → words (to_be_bytes w32 w ++ more) ≡ w ∷ words more
unfolding words
word_read w more small = ap (λ (n : ℕ). n ∷ words more) (from_be_bytes-to_be_bytes_4 w small)

pub written_more : (bs ws : List ℕ) (w : ℕ) → w < 2 ^ 32 → Written bs ws → Written (bs ++ to_be_bytes w32 w) (ws ++ w ∷ [])
written_more bs ws w small written more =
    ap words (append_assoc bs (to_be_bytes w32 w) more) ∙ written (to_be_bytes w32 w ++ more) ∙ ap (λ (r : List ℕ). ws ++ r) (word_read w more small) ∙ sym (append_assoc ws (w ∷ []) (words more))

pub written_all : (bs ws : List ℕ) → Written bs ws → words bs ≡ ws
unfolding words
written_all bs ws written = ap words (sym (append-nil bs)) ∙ written [] ∙ append-nil ws
