-- The walk over what is left of a file, as the reader of records sees it. Assumes nothing.
use Rattle.std.specs.Prelude.{◌≡◌, ◌≢◌, ℕ, suc, ◌+◌, ◌-◌, ◌*◌, ◌^◌, ◌<◌, ◌≤◌, Bool, true, false, ◌||◌, List, [], ◌∷◌, ◌++◌, length, take, drop, ℤ, pos, Some, None, Option, Result, MatchResult, ◌==◌, int_le, slice_index}
use Rattle.format.specs.Words.{words, kind, content, value, continued, record_length}
use Rattle.format.specs.Places.{Head, Context, Slot, Scan, scan, least_number, greatest_number, File, Section, Tally, after_head, context_after, slot_after, within_limit}
use Rattle.format.specs.Places.Scan.{passed}
use Rattle.format.specs.Places.File.{model, zones}
use Rattle.format.specs.Places.Section.{head, start, invariant, command, bad, zone}
use Rattle.format.specs.Places.Slot.{onesMask, zerosMask, setMask, clearMask, resetMask, owed, atomOr, atomNumber, between, opening, starting}
use Rattle.format.specs.LookOver.{file_walk}
use Rattle.format.specs.Faults.{record_stop}
use Rattle.format.specs.declared.fault.RecordFault.{RecordFault}
use Rattle.format.specs.declared.kind.FirstWord.{FirstWord}
use Rattle.format.specs.declared.scope.Scope.{Scope}
use Rattle.format.specs.declared.scope.Text.{Text}
use Rattle.format.specs.declared.scope.Place.{Place}
use Rattle.format.specs.declared.scope.Record.{Record}
use Rattle.format.specs.declared.scope.Record.TheVariants.{Head as HeadRecord, Start as StartRecord, Invariant as InvariantRecord, Command as CommandRecord, Bad as BadRecord, Zone as ZoneRecord, End as EndRecord}
use Rattle.format.specs.declared.scope.Tally.{Tally as Counted}
use Rattle.format.specs.declared.scope.File.{File as Which}
use Rattle.format.specs.declared.scope.File.TheVariants.{Model, List as ZoneList}
use Rattle.format.specs.declared.kind.RecordKind.{RecordKind}
use Rattle.format.specs.declared.kind.RecordKind.TheVariants.{Head as AfterHead, Start as AfterStart, Invariant as AfterInvariant, Command as AfterCommand, Bad as AfterBad, Zone as AfterZone}

abbrev pub head_of : Scope → Head
head_of p = record { booleans = p.booleans; clocks = p.clocks }

abbrev pub words_of : Text → List ℕ
words_of t = words t.bytes.now

-- the walk over the words that are left
abbrev pub reading : Text → Context → Slot → Scan
reading t x s = scan (head_of t.scope) x s t.next (words_of t)

-- w was taken: it was the first of the words of t, and q has the others
pub record Takes (t : Text) (w : ℕ) (q : Text) : Type 0 where
  pub first : words_of t ≡ w ∷ words_of q
  pub next : q.next ≡ suc t.next
  pub same_scope : q.scope ≡ t.scope

-- the next word is of no such kind
abbrev pub NotNext : Text → ℕ → Type 0
NotNext t n = (w : ℕ) (more : List ℕ) → words_of t ≡ w ∷ more → kind w ≢ n

-- some words of t were taken, and q has the others
pub record Moves (t q : Text) : Type 0 where
  pub later : t.next ≤ q.next
  pub left : words_of q ≡ drop (q.next - t.next) (words_of t)
  pub same_scope : q.scope ≡ t.scope

-- every word that was taken may stand and continues the record
pub record Goes (t : Text) (x : Context) (s : Slot) (q : Text) (r : Slot) : Type 0 where
  pub moves : Moves t q
  pub walks : reading t x s ≡ reading q x r
  pub continues : t.next + continued (words_of t) ≡ q.next + continued (words_of q)

-- the walk over the words that are left stops with this fault
abbrev pub Stops : Text → Context → Slot → RecordFault → Type 0
Stops t x s f = reading t x s ≡ record_stop f

-- at every context of which P holds, what was taken may stand and continues the record, or the walk stops with the fault
abbrev pub Walks : Text → Slot → Text → Slot → (Context → Type 0) → Result (Unit {0}) RecordFault → Type 0
Walks t s q r P res = MatchResult res (λ _. (x : Context) → P x → Goes t x s q r) (λ f. (x : Context) → P x → Stops t x s f)

-- the slots of a mask word
abbrev pub TakesMask : Slot → Type 0
TakesMask (opening f) = ⊥
TakesMask starting = ⊥
TakesMask onesMask = Unit {0}
TakesMask zerosMask = Unit {0}
TakesMask setMask = Unit {0}
TakesMask (clearMask m) = Unit {0}
TakesMask resetMask = ⊥
TakesMask (owed n) = ⊥
TakesMask (atomOr a) = ⊥
TakesMask (atomNumber a) = ⊥
TakesMask between = ⊥

-- a mask that may stand was taken: m
pub record Mask (t : Text) (m : ℕ) (q : Text) : Type 0 where
  pub word : ℕ
  pub taken : Takes t word q
  pub is_mask : kind word ≡ 4
  pub is : content word ≡ m
  pub narrow : m < 2 ^ 24
  pub known : m < 2 ^ t.scope.booleans

-- the slots of a number word, by the least number that may stand there
abbrev pub TakesNumber : ℤ → Slot → Type 0
TakesNumber least (opening f) = ⊥
TakesNumber least starting = ⊥
TakesNumber least onesMask = ⊥
TakesNumber least zerosMask = ⊥
TakesNumber least setMask = ⊥
TakesNumber least (clearMask m) = ⊥
TakesNumber least resetMask = ⊥
TakesNumber least (owed n) = least ≡ pos 0
TakesNumber least (atomOr a) = ⊥
TakesNumber least (atomNumber a) = least ≡ least_number
TakesNumber least between = ⊥

-- where a record may end: what is due there begins a record
abbrev pub BeginsNext : Slot → Type 0
BeginsNext (opening f) = ⊥
BeginsNext starting = Unit {0}
BeginsNext onesMask = ⊥
BeginsNext zerosMask = ⊥
BeginsNext setMask = ⊥
BeginsNext (clearMask m) = ⊥
BeginsNext resetMask = ⊥
BeginsNext (owed n) = ⊥
BeginsNext (atomOr a) = ⊥
BeginsNext (atomNumber a) = ⊥
BeginsNext between = Unit {0}

-- a number that may stand was taken: v
pub record Number (t : Text) (least v : ℤ) (q : Text) : Type 0 where
  pub word : ℕ
  pub taken : Takes t word q
  pub is_number : kind word ≡ 10
  pub is : value word ≡ v
  pub low : int_le least v ≡ true
  pub high : int_le v greatest_number ≡ true

-- an atom and its number were taken after `count` others of their record; or no atom comes next, and none was taken
abbrev pub AtomTaken : Text → Bool → ℕ → Text → Bool → Type 0
AtomTaken t urgent count q true = (count < 64) × ((x : Context) → x.urgent ≡ urgent → Goes t x (atomOr count) q (atomOr (count + 1)))
AtomTaken t urgent count q false = (x : Context) → Goes t x (atomOr count) q between

-- ---- where a reader of records stands

abbrev pub file_of : Which → File
file_of Model = model
file_of ZoneList = zones

abbrev pub section_at : Option RecordKind → Section
section_at None = head
section_at (Some AfterHead) = head
section_at (Some AfterStart) = start
section_at (Some AfterInvariant) = invariant
section_at (Some AfterCommand) = command
section_at (Some AfterBad) = bad
section_at (Some AfterZone) = zone

abbrev pub slot_at : Which → Option RecordKind → Slot
slot_at f None = opening (file_of f)
slot_at f (Some AfterHead) = after_head (file_of f)
slot_at f (Some AfterStart) = between
slot_at f (Some AfterInvariant) = between
slot_at f (Some AfterCommand) = between
slot_at f (Some AfterBad) = between
slot_at f (Some AfterZone) = between

abbrev pub tally_of : Counted → Tally
tally_of t = record { invariants = t.invariants; commands = t.commands; bads = t.bads; zones = t.zones }

abbrev pub context_of : Place → Context
context_of p = record { section = section_at p.last; urgent = false; tally = tally_of p.tally }

abbrev pub slot_of : Place → Slot
slot_of p = slot_at p.file p.last

-- ---- one record

-- at a record's first word: what is due after the whole record
abbrev pub rest_slot : Slot → Slot
rest_slot (opening f) = after_head f
rest_slot starting = between
rest_slot onesMask = between
rest_slot zerosMask = between
rest_slot setMask = between
rest_slot (clearMask m) = between
rest_slot resetMask = between
rest_slot (owed n) = between
rest_slot (atomOr a) = between
rest_slot (atomNumber a) = between
rest_slot between = between

-- the slots at which a record begins
abbrev pub Due : Slot → Type 0
Due (opening f) = Unit {0}
Due starting = Unit {0}
Due onesMask = ⊥
Due zerosMask = ⊥
Due setMask = ⊥
Due (clearMask m) = ⊥
Due resetMask = ⊥
Due (owed n) = ⊥
Due (atomOr a) = ⊥
Due (atomNumber a) = ⊥
Due between = Unit {0}

-- between two records it does not matter whether the last one was urgent
abbrev pub calm : Context → Context
calm x = record { section = x.section; urgent = false; tally = x.tally }

-- w begins the record that is due
abbrev pub Begins : Slot → ℕ → Type 0
Begins (opening f) w = kind w ≡ 1
Begins starting w = kind w ≡ 2
Begins onesMask w = ⊥
Begins zerosMask w = ⊥
Begins setMask w = ⊥
Begins (clearMask m) w = ⊥
Begins resetMask w = ⊥
Begins (owed n) w = ⊥
Begins (atomOr a) w = ⊥
Begins (atomNumber a) w = ⊥
Begins between w = (kind w == 3 || kind w == 6 || kind w == 7 || kind w == 8) ≡ true

-- a reader at the place p that has taken no word of the bytes bs
pub record Reads (p : Place) (bs : List ℕ) (t : Text) : Type 0 where
  pub whole : words_of t ≡ words bs
  pub next : t.next ≡ p.scope.words - length (words bs)
  pub same_scope : t.scope ≡ p.scope

-- w, the first word, was taken; it may stand and begins a record, after which the walk goes on
pub record Begun (p : Place) (t : Text) (w : ℕ) (q : Text) : Type 0 where
  pub taken : Takes t w q
  pub room : within_limit (context_of p) (slot_of p) w ≡ true
  pub begins : Begins (slot_of p) w
  pub goes : reading t (context_of p) (slot_of p) ≡ reading q (context_after (context_of p) (slot_of p) w) (slot_after (context_of p) (slot_of p) w)

-- the first word is the end, and the last; the walk has passed
pub record Ended (p : Place) (t : Text) : Type 0 where
  pub word : ℕ
  pub stands : words_of t ≡ word ∷ []
  pub is_end : kind word ≡ 15
  pub passes : reading t (context_of p) (slot_of p) ≡ passed (tally_of p.tally)

-- the word that begins the next record, or nothing where the file ends
abbrev pub BegunBy : Place → Text → Option FirstWord → Text → Type 0
BegunBy p t None q = Ended p t
BegunBy p t (Some first) q = Begun p t first.word q

-- the words that continue the record that w begins, and after them no other
pub record Continued (t : Text) (w : ℕ) (q : Text) : Type 0 where
  pub goes : (x : Context) (s : Slot) → Begins s w → Goes t (context_after x s w) (slot_after x s w) q (rest_slot s)
  pub whole : continued (words_of q) ≡ 0

-- the place after the record that w begins at p
pub record Past (p : Place) (w : ℕ) (q : Place) : Type 0 where
  pub context : context_of q ≡ calm (context_after (context_of p) (slot_of p) w)
  pub slot : slot_of q ≡ rest_slot (slot_of p)
  pub same_scope : q.scope ≡ p.scope
  pub same_file : q.file ≡ p.file

-- the walk over what is left of a file, from a place on
abbrev pub walk_of : Place → List ℕ → Scan
walk_of p bs = scan (head_of p.scope) (context_of p) (slot_of p) (p.scope.words - length (words bs)) (words bs)

-- the bytes of a record
abbrev pub part_of : Record → List ℕ
part_of (HeadRecord b) = b.now
part_of (StartRecord b) = b.now
part_of (InvariantRecord b) = b.now
part_of (CommandRecord b) = b.now
part_of (BadRecord b) = b.now
part_of (ZoneRecord b) = b.now
part_of (EndRecord b) = b.now

-- the kind of word that begins a record
abbrev pub begun_by : Record → ℕ
begun_by (HeadRecord b) = 1
begun_by (StartRecord b) = 2
begun_by (InvariantRecord b) = 6
begun_by (CommandRecord b) = 3
begun_by (BadRecord b) = 7
begun_by (ZoneRecord b) = 8
begun_by (EndRecord b) = 15

-- after a record the walk goes on from the next place; after the end it has passed, and no word is left
abbrev pub WalksOn : Record → Place → Place → List ℕ → List ℕ → Type 0
WalksOn (HeadRecord b) p q bs rest = walk_of p bs ≡ walk_of q rest
WalksOn (StartRecord b) p q bs rest = walk_of p bs ≡ walk_of q rest
WalksOn (InvariantRecord b) p q bs rest = walk_of p bs ≡ walk_of q rest
WalksOn (CommandRecord b) p q bs rest = walk_of p bs ≡ walk_of q rest
WalksOn (BadRecord b) p q bs rest = walk_of p bs ≡ walk_of q rest
WalksOn (ZoneRecord b) p q bs rest = walk_of p bs ≡ walk_of q rest
WalksOn (EndRecord b) p q bs rest = (walk_of p bs ≡ passed (tally_of p.tally)) × (words rest ≡ []) × (q ≡ p)

-- The record r is handed out from the bytes bs, and rest is still unread: r has the first record's words, rest has the
-- others, and together they are bs. The reader stood at p and stands at q.
pub record Handed (p q : Place) (bs : List ℕ) (r : Record) (rest : List ℕ) : Type 0 where
  pub some : 0 < record_length (words bs)
  pub case : begun_by r ≡ kind (slice_index (words bs) 0)
  pub part : part_of r ≡ take (4 * record_length (words bs)) bs
  pub left : rest ≡ drop (4 * record_length (words bs)) bs
  pub whole : part_of r ++ rest ≡ bs
  pub length_of_part : length (part_of r) ≡ 4 * record_length (words bs)
  pub same_scope : q.scope ≡ p.scope
  pub same_file : q.file ≡ p.file
  pub walks : length (words bs) ≤ p.scope.words → WalksOn r p q bs rest

-- ---- a whole file

-- Questions 1 to 4 have been answered yes: the place before the first record.
pub record Opened (f : Which) (like : Option ℕ) (bs : List ℕ) (p : Place) : Type 0 where
  pub whole : p.scope.words ≡ length (words bs)
  pub walks : file_walk (file_of f) like bs ≡ walk_of p bs
  pub head_word : words bs ≡ slice_index (words bs) 0 ∷ drop 1 (words bs)
