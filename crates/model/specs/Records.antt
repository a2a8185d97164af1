-- Where the records of a kind stand among the words of a file. Assumes nothing.
use Rattle.std.specs.Prelude.{◌≡◌, ℕ, ◌+◌, ◌<◌, false, List, ◌∷◌, length, drop}
use Rattle.format.specs.Words.{words, kind, continues}
use Rattle.format.specs.Syntax.{records, of_kind}

-- the records of a kind, by the words of a file
abbrev pub having : ℕ → List ℕ → List (List ℕ)
having k ws = of_kind k (records ws)

-- a word of kind k begins a record
abbrev pub Begins : ℕ → Type 0
Begins k = (w : ℕ) → kind w ≡ k → continues w ≡ false

-- the first word of kind k stands at p: no record of this kind begins before it
pub record First (k : ℕ) (ws : List ℕ) (p : ℕ) : Type 0 where
  pub word : ℕ
  pub stands : drop p ws ≡ word ∷ drop (p + 1) ws
  pub is : kind word ≡ k
  pub before : having k ws ≡ having k (drop p ws)

-- `part` has the words of the first record of kind k, and `rest` has all the others of this kind
pub record Next (k : ℕ) (bytes part rest : List ℕ) : Type 0 where
  pub splits : having k (words bytes) ≡ words part ∷ having k (words rest)
  pub shorter : length rest < length bytes
