-- A file as 32-bit words, and the parts of a word. Assumes nothing.
use Rattle.std.specs.Prelude.{ℕ, suc, ◌+◌, ◌*◌, ◌/◌, ◌%◌, ◌^◌, Bool, cond, ◌||◌, List, [], ◌∷◌, ℤ, pos, ◌-ℤ◌, ◌==◌}

-- four bytes as one number, the most significant first
abbrev pub big_endian : ℕ → ℕ → ℕ → ℕ → ℕ
big_endian a b c d = a * 16777216 + b * 65536 + c * 256 + d

-- the words of some bytes, four bytes each; one, two or three bytes that are left over make no word
unfoldable pub words : List ℕ → List ℕ
words [] = []
words (a ∷ []) = []
words (a ∷ b ∷ []) = []
words (a ∷ b ∷ c ∷ []) = []
words (a ∷ b ∷ c ∷ d ∷ bs) = big_endian a b c d ∷ words bs

-- the top 4 bits of a word
abbrev pub kind : ℕ → ℕ
kind w = w / 2 ^ 28

-- the low 28 bits of a word
abbrev pub content : ℕ → ℕ
content w = w % 2 ^ 28

-- a head: bits 4 to 0 the count of Booleans, bits 8 to 5 the count of clocks
abbrev pub head_booleans : ℕ → ℕ
head_booleans w = w % 2 ^ 5

abbrev pub head_clocks : ℕ → ℕ
head_clocks w = w / 2 ^ 5 % 2 ^ 4

-- an atom: bits 7 to 4 the clock i, bits 3 to 0 the clock j, bit 8 the strict mark
abbrev pub atom_i : ℕ → ℕ
atom_i w = w / 2 ^ 4 % 2 ^ 4

abbrev pub atom_j : ℕ → ℕ
atom_j w = w % 2 ^ 4

abbrev pub atom_strict : ℕ → Bool
atom_strict w = w / 2 ^ 8 % 2 == 1

-- what a number word stands for: it is stored with 134,217,728 added
abbrev pub value : ℕ → ℤ
value w = pos (content w) -ℤ pos 134217728

-- masks, resets, atoms and numbers continue a record; any other word begins one
abbrev pub continues : ℕ → Bool
continues w = kind w == 4 || kind w == 5 || kind w == 9 || kind w == 10

-- how many words from the front on continue a record
unfoldable pub continued : List ℕ → ℕ
continued [] = 0
continued (w ∷ ws) = cond (continues w) (suc (continued ws)) 0

-- how many words the first record has: the word that begins it, and those that continue it
unfoldable pub record_length : List ℕ → ℕ
record_length [] = 0
record_length (w ∷ ws) = suc (continued ws)
