-- The abstract syntax of a file, by total decoders of its words. Assumes nothing.
use Rattle.std.specs.Prelude.{ℕ, zero, suc, ◌/◌, ◌%◌, Bool, cond, List, [], ◌∷◌, map, take, drop, ℤ, ◌==◌, slice_index}
use Rattle.std.specs.Int.Count.{ones}
use Rattle.format.specs.Words.{kind, content, value, continues, continued, head_booleans, head_clocks, atom_i, atom_j, atom_strict}

-- clock i minus clock j is at most d, or below d if strict; clock 0 is no clock and always 0
pub record Atom : Type 0 where
  pub i : ℕ
  pub j : ℕ
  pub d : ℤ
  pub strict : Bool

-- every Boolean in ones is true, and every one in zeros is false; Boolean n is bit n
pub record Condition : Type 0 where
  pub ones : ℕ
  pub zeros : ℕ

-- this clock gets this number
pub record Reset : Type 0 where
  pub clock : ℕ
  pub number : ℤ

-- an invariant or a bad record
pub record Guarded : Type 0 where
  pub condition : Condition
  pub atoms : List Atom

pub record Command : Type 0 where
  pub urgent : Bool
  pub condition : Condition
  pub sets : ℕ
  pub clears : ℕ
  pub resets : List Reset
  pub atoms : List Atom

pub record Zone : Type 0 where
  pub booleans : ℕ
  pub atoms : List Atom

pub record Model : Type 0 where
  pub booleans : ℕ
  pub clocks : ℕ
  pub start : ℕ
  pub invariants : List Guarded
  pub commands : List Command
  pub bads : List Guarded

-- the words that continue a record, from the front on
abbrev pub body : List ℕ → List ℕ
body ws = take (continued ws) ws

-- the records: each word that begins one, with the words that continue it
unfoldable pub records : List ℕ → List (List ℕ)
records [] = []
records (w ∷ ws) = cond (continues w) (records ws) ((w ∷ body ws) ∷ records ws)

-- the records that begin with a word of this kind
unfoldable pub of_kind : ℕ → List (List ℕ) → List (List ℕ)
of_kind k [] = []
of_kind k (r ∷ rs) = cond (kind (slice_index r 0) == k) (r ∷ of_kind k rs) (of_kind k rs)

-- an atom's word and its number
abbrev pub atom_of_words : ℕ → ℕ → Atom
atom_of_words a n = record { i = atom_i a; j = atom_j a; d = value n; strict = atom_strict a }

unfoldable pub atoms_of : List ℕ → List Atom
atoms_of [] = []
atoms_of (a ∷ []) = []
atoms_of (a ∷ n ∷ ws) = atom_of_words a n ∷ atoms_of ws

-- the resets of a mask from this clock on, lowest clock first, at most so many bits of it
unfoldable pub resets_from : ℕ → ℕ → ℕ → List ℕ → List Reset
resets_from zero clock mask ns = []
resets_from (suc bits) clock mask [] = []
resets_from (suc bits) clock mask (n ∷ ns) =
    cond (mask % 2 == 1)
    (record { clock = clock; number = value n } ∷ resets_from bits (suc clock) (mask / 2) ns)
    (resets_from bits (suc clock) (mask / 2) (n ∷ ns))

-- as many numbers as the mask has ones
abbrev pub resets_of : ℕ → List ℕ → List Reset
resets_of mask ws = resets_from 15 1 mask (take (ones mask) ws)

-- the records by their words
abbrev pub condition_of_words : List ℕ → Condition
condition_of_words r = record { ones = content (slice_index r 1); zeros = content (slice_index r 2) }

abbrev pub guarded_of : List ℕ → Guarded
guarded_of r = record { condition = condition_of_words r; atoms = atoms_of (drop 3 r) }

abbrev pub command_of : List ℕ → Command
command_of r = record {
  urgent = (content (slice_index r 0) == 1);
  condition = condition_of_words r;
  sets = content (slice_index r 3);
  clears = content (slice_index r 4);
  resets = resets_of (content (slice_index r 5)) (drop 6 r);
  atoms = atoms_of (drop (ones (content (slice_index r 5))) (drop 6 r));
}

abbrev pub zone_of : List ℕ → Zone
zone_of r = record { booleans = content (slice_index r 0); atoms = atoms_of (drop 1 r) }

-- the files by their words
abbrev pub model_of : List ℕ → Model
model_of ws = record {
  booleans = head_booleans (slice_index ws 0);
  clocks = head_clocks (slice_index ws 0);
  start = content (slice_index ws 1);
  invariants = map guarded_of (of_kind 6 (records ws));
  commands = map command_of (of_kind 3 (records ws));
  bads = map guarded_of (of_kind 7 (records ws));
}

abbrev pub zones_of : List ℕ → List Zone
zones_of ws = map zone_of (of_kind 8 (records ws))
