-- What may stand at a place of a file: questions 5 to 11, and the walk that puts them to each word, left to right.
-- Assumes nothing.
use Rattle.std.specs.Prelude.{ℕ, zero, suc, ◌^◌, Bool, true, false, cond, not, ◌&&◌, ◌||◌, List, [], ◌∷◌, ℤ, pos, neg_ℤ, ◌==◌, bit_and, count_ones, int_le, nat_le, nat_lt, slice_index}
use Rattle.format.specs.Words.{kind, content, atom_i, atom_j, value}

-- the two files
pub data File : Type 0 where
  model : File
  zones : File

-- the records begun so far
pub record Tally : Type 0 where
  pub invariants : ℕ
  pub commands : ℕ
  pub bads : ℕ
  pub zones : ℕ

-- the record that was begun last
pub data Section : Type 0 where
  head : Section
  start : Section
  invariant : Section
  command : Section
  bad : Section
  zone : Section

-- what the head says: how many Booleans and clocks there are
pub record Head : Type 0 where
  pub booleans : ℕ
  pub clocks : ℕ

-- what the records so far say of the next word
pub record Context : Type 0 where
  pub section : Section
  pub urgent : Bool  -- the record is a command marked urgent
  pub tally : Tally

-- what is still due at a word
pub data Slot : Type 0 where
  opening : File → Slot  -- the head
  starting : Slot  -- the start
  onesMask : Slot  -- the two masks of a condition
  zerosMask : Slot
  setMask : Slot
  clearMask : ℕ → Slot  -- after this set mask
  resetMask : Slot
  owed : ℕ → Slot  -- a number of the reset, and this many more after it
  atomOr : ℕ → Slot  -- after this many atoms: one more, the next record or the end
  atomNumber : ℕ → Slot  -- the number of an atom, the one of this count
  between : Slot  -- the next record or the end

-- the numbers of a reset, then atoms
abbrev pub owing : ℕ → Slot
owing zero = atomOr 0
owing (suc n) = owed n

abbrev pub after_head : File → Slot
after_head model = starting
after_head zones = between

abbrev pub after_condition : Section → Slot
after_condition head = atomOr 0
after_condition start = atomOr 0
after_condition invariant = atomOr 0
after_condition command = setMask
after_condition bad = atomOr 0
after_condition zone = atomOr 0

-- which records may follow which: invariants, commands, bad records in this order; zones
abbrev pub begins : Section → ℕ → Bool
begins head k = k == 8
begins start k = k == 6 || k == 3 || k == 7
begins invariant k = k == 6 || k == 3 || k == 7
begins command k = k == 3 || k == 7
begins bad k = k == 7
begins zone k = k == 8

-- the words that begin a record, and the end
abbrev pub starts_record : ℕ → Bool
starts_record k = k == 1 || k == 2 || k == 3 || k == 6 || k == 7 || k == 8 || k == 15

-- 5. May a word of this kind stand here? An end only last.
abbrev pub may_stand_here : Context → Slot → Bool → ℕ → Bool
may_stand_here x (opening f) last w = kind w == 1
may_stand_here x starting last w = kind w == 2
may_stand_here x onesMask last w = kind w == 4
may_stand_here x zerosMask last w = kind w == 4
may_stand_here x setMask last w = kind w == 4
may_stand_here x (clearMask m) last w = kind w == 4
may_stand_here x resetMask last w = kind w == 5
may_stand_here x (owed n) last w = kind w == 10
may_stand_here x (atomOr a) last w = kind w == 9 || (begins x.section (kind w) || (last && kind w == 15))
may_stand_here x (atomNumber a) last w = kind w == 10
may_stand_here x between last w = begins x.section (kind w) || (last && kind w == 15)

-- how many low bits of its content a word of each kind uses
abbrev pub bits_used : List ℕ
bits_used = 0 ∷ 9 ∷ 24 ∷ 1 ∷ 24 ∷ 15 ∷ 0 ∷ 0 ∷ 24 ∷ 9 ∷ 28 ∷ 0 ∷ 0 ∷ 0 ∷ 0 ∷ 28 ∷ []

-- 6. Are the unused bits zero?
abbrev pub unused_zero : ℕ → Bool
unused_zero w = nat_lt (content w) (2 ^ slice_index bits_used (kind w))

-- 7. Are only Booleans below B and clocks up to C named, and i different from j?
abbrev pub names_known : Head → ℕ → ℕ → Bool
names_known h k w =
    cond (k == 2 || k == 4 || k == 8) (nat_lt (content w) (2 ^ h.booleans))
    (cond (k == 5) (nat_lt (content w) (2 ^ h.clocks))
    (cond (k == 9) (nat_le (atom_i w) h.clocks && nat_le (atom_j w) h.clocks && not (atom_i w == atom_j w))
    true))

abbrev pub least_number : ℤ
least_number = neg_ℤ (pos 1000000)

abbrev pub greatest_number : ℤ
greatest_number = pos 1000000

-- 8. Is the number within -1,000,000 to 1,000,000, for a reset 0 to 1,000,000?
abbrev pub in_range : Slot → ℕ → Bool
in_range (opening f) w = true
in_range starting w = true
in_range onesMask w = true
in_range zerosMask w = true
in_range setMask w = true
in_range (clearMask m) w = true
in_range resetMask w = true
in_range (owed n) w = int_le (pos 0) (value w) && int_le (value w) greatest_number
in_range (atomOr a) w = true
in_range (atomNumber a) w = int_le least_number (value w) && int_le (value w) greatest_number
in_range between w = true

-- 9. At a clear mask: does it share no bit with the set mask?
abbrev pub disjoint : Slot → ℕ → Bool
disjoint (opening f) w = true
disjoint starting w = true
disjoint onesMask w = true
disjoint zerosMask w = true
disjoint setMask w = true
disjoint (clearMask m) w = bit_and (content w) m == 0
disjoint resetMask w = true
disjoint (owed n) w = true
disjoint (atomOr a) w = true
disjoint (atomNumber a) w = true
disjoint between w = true

-- 10. At an atom: is its command not urgent?
abbrev pub may_guard : Context → ℕ → Bool
may_guard x w = not (kind w == 9 && x.urgent)

-- the atoms of this record so far
abbrev pub atoms_so_far : Slot → ℕ
atoms_so_far (opening f) = 0
atoms_so_far starting = 0
atoms_so_far onesMask = 0
atoms_so_far zerosMask = 0
atoms_so_far setMask = 0
atoms_so_far (clearMask m) = 0
atoms_so_far resetMask = 0
atoms_so_far (owed n) = 0
atoms_so_far (atomOr a) = a
atoms_so_far (atomNumber a) = a
atoms_so_far between = 0

-- 11. Is this at most the 32nd invariant, 64th command, 32nd bad record, 512th zone, or 64th atom of its record?
abbrev pub within_limit : Context → Slot → ℕ → Bool
within_limit x s w =
    cond (kind w == 6) (nat_lt x.tally.invariants 32)
    (cond (kind w == 3) (nat_lt x.tally.commands 64)
    (cond (kind w == 7) (nat_lt x.tally.bads 32)
    (cond (kind w == 8) (nat_lt x.tally.zones 512)
    (cond (kind w == 9) (nat_lt (atoms_so_far s) 64)
    true))))

-- the answer to some questions in order: yes to all, or the number of the first no
pub data Verdict : Type 0 where
  yes_to_all : Verdict
  first_no : ℕ → Verdict

abbrev pub asks : Bool → ℕ → Verdict → Verdict
asks true n more = more
asks false n more = first_no n

-- questions 5 to 11 at one word
abbrev pub questions : Head → Context → Slot → Bool → ℕ → Verdict
questions h x s last w =
    asks (may_stand_here x s last w) 5
    (asks (unused_zero w) 6
    (asks (names_known h (kind w) w) 7
    (asks (in_range s w) 8
    (asks (disjoint s w) 9
    (asks (may_guard x w) 10
    (asks (within_limit x s w) 11
    yes_to_all))))))

-- a record that begins with a word of this kind, the others so far being counted
abbrev pub begun : ℕ → Tally → Tally
begun k t = record {
  invariants = cond (k == 6) (suc t.invariants) t.invariants;
  commands = cond (k == 3) (suc t.commands) t.commands;
  bads = cond (k == 7) (suc t.bads) t.bads;
  zones = cond (k == 8) (suc t.zones) t.zones;
}

abbrev pub section_of : ℕ → Section
section_of k = cond (k == 6) invariant (cond (k == 3) command (cond (k == 7) bad zone))

abbrev pub begin : Context → ℕ → Context
begin x w = record {
  section = section_of (kind w);
  urgent = kind w == 3 && (content w == 1);
  tally = begun (kind w) x.tally;
}

-- what the records say after a word that may stand
abbrev pub context_after : Context → Slot → ℕ → Context
context_after x (opening f) w = x
context_after x starting w = record { section = start; urgent = false; tally = x.tally }
context_after x onesMask w = x
context_after x zerosMask w = x
context_after x setMask w = x
context_after x (clearMask m) w = x
context_after x resetMask w = x
context_after x (owed n) w = x
context_after x (atomOr a) w = cond (kind w == 9) x (begin x w)
context_after x (atomNumber a) w = x
context_after x between w = begin x w

-- a zone's atoms follow its word; the other records begin with a condition
abbrev pub after_begin : ℕ → Slot
after_begin w = cond (kind w == 8) (atomOr 0) onesMask

-- what is due after a word that may stand
abbrev pub slot_after : Context → Slot → ℕ → Slot
slot_after x (opening f) w = after_head f
slot_after x starting w = between
slot_after x onesMask w = zerosMask
slot_after x zerosMask w = after_condition x.section
slot_after x setMask w = clearMask (content w)
slot_after x (clearMask m) w = resetMask
slot_after x resetMask w = owing (count_ones (content w))
slot_after x (owed n) w = owing n
slot_after x (atomOr a) w = cond (kind w == 9) (atomNumber (suc a)) (after_begin w)
slot_after x (atomNumber a) w = atomOr a
slot_after x between w = after_begin w

-- what a walk over words comes to: a no, by its number and the word it stands at, or the records that there are
pub data Scan : Type 0 where
  stopped : ℕ → ℕ → Scan
  passed : Tally → Scan

-- a no ends the walk; so does an end that may stand; any other word is followed by the next
abbrev pub goes_on : Verdict → ℕ → Bool → Tally → Scan → Scan
goes_on (first_no n) i end t more = stopped n i
goes_on yes_to_all i true t more = passed t
goes_on yes_to_all i false t more = more

abbrev pub is_empty : List ℕ → Bool
is_empty [] = true
is_empty (w ∷ ws) = false

-- The walk over words from the i-th on, the first of them standing at this context and slot.
-- Where the last word is an end, as question 3 asks, the walk never runs out of words.
unfoldable pub scan : Head → Context → Slot → ℕ → List ℕ → Scan
scan h x s i [] = stopped 5 i
scan h x s i (w ∷ ws) =
    goes_on (questions h x s (is_empty ws) w) i (kind w == 15) x.tally
    (scan h (context_after x s w) (slot_after x s w) (suc i) ws)
