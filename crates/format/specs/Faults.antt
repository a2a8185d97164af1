-- The number, the place and the layer of each fault. Assumes nothing.
use Rattle.std.specs.Prelude.{ℕ, Bool, true, false, ℤ, Ok, Err, Result}
use Rattle.format.specs.Places.{Scan, File}
use Rattle.format.specs.Places.File.{model, zones}
use Rattle.format.specs.LookOver.{Outcome, Counts}
use Rattle.format.specs.LookOver.Outcome.{pass, fault}
use Rattle.format.specs.LookOver.Layer.{file_layer, record_layer, word_layer}
use Rattle.format.specs.Places.Scan.{stopped}
use Rattle.format.specs.declared.fault.WordFault.{WordFault}
use Rattle.format.specs.declared.fault.WordFault.TheVariants.{UnusedBits, UnknownName, OutOfRange}
use Rattle.format.specs.declared.fault.RecordFault.{RecordFault}
use Rattle.format.specs.declared.fault.RecordFault.TheVariants.{Misplaced, SetAndClear, UrgentAtom, Surplus, Word}
use Rattle.format.specs.declared.fault.Fault.{Fault}
use Rattle.format.specs.declared.fault.Fault.TheVariants.{Model, List as ZoneList}
use Rattle.format.specs.declared.look.Summary.{Summary}
use Rattle.format.specs.declared.fault.FileFault.{FileFault}
use Rattle.format.specs.declared.fault.FileFault.TheVariants.{TooLong, WrongLength, WrongEnd, WrongHead, TooManyChecks, Record}

-- each fault's number, file, word and layer
abbrev pub word_told : File → WordFault → Outcome
word_told f (UnusedBits p) = fault 6 f p word_layer
word_told f (UnknownName p) = fault 7 f p word_layer
word_told f (OutOfRange p) = fault 8 f p word_layer

abbrev pub record_told : File → RecordFault → Outcome
record_told f (Misplaced p) = fault 5 f p record_layer
record_told f (SetAndClear p) = fault 9 f p record_layer
record_told f (UrgentAtom p) = fault 10 f p record_layer
record_told f (Surplus p) = fault 11 f p record_layer
record_told f (Word w) = word_told f w

abbrev pub file_told : File → FileFault → Outcome
file_told f TooLong = fault 1 f 0 file_layer
file_told f WrongLength = fault 2 f 0 file_layer
file_told f (WrongEnd p) = fault 3 f p file_layer
file_told f WrongHead = fault 4 f 0 file_layer
file_told f TooManyChecks = fault 12 f 0 file_layer
file_told f (Record r) = record_told f r

abbrev pub told : Fault → Outcome
told (Model f) = file_told model f
told (ZoneList f) = file_told zones f

abbrev pub counts : Summary → Counts
counts s = record { booleans = s.booleans; clocks = s.clocks; invariants = s.invariants; commands = s.commands; bads = s.bads; zones = s.zones; checks = s.checks }

-- the look-over's answer, as its caller gets it
abbrev pub outcome : Result Summary Fault → Outcome
outcome (Ok s) = pass (counts s)
outcome (Err f) = told f

-- a walk that stops with a word's fault: 6, 7 or 8, at the word
abbrev pub word_stop : WordFault → Scan
word_stop (UnusedBits p) = stopped 6 p
word_stop (UnknownName p) = stopped 7 p
word_stop (OutOfRange p) = stopped 8 p

-- with a record's fault: 5, 9, 10 or 11, at the word, or a word's fault
abbrev pub record_stop : RecordFault → Scan
record_stop (Misplaced p) = stopped 5 p
record_stop (SetAndClear p) = stopped 9 p
record_stop (UrgentAtom p) = stopped 10 p
record_stop (Surplus p) = stopped 11 p
record_stop (Word f) = word_stop f

-- with a file's fault: 1, 2, 4 and 12 at word 0, 3 at the last word, or a record's fault
abbrev pub file_stop : FileFault → Scan
file_stop TooLong = stopped 1 0
file_stop WrongLength = stopped 2 0
file_stop (WrongEnd p) = stopped 3 p
file_stop WrongHead = stopped 4 0
file_stop TooManyChecks = stopped 12 0
file_stop (Record f) = record_stop f

-- questions 6 and 7 at the word at p, which then gives v
abbrev pub six_seven : Bool → Bool → ℕ → ℕ → Result ℕ WordFault
six_seven false known p v = Err (UnusedBits p)
six_seven true false p v = Err (UnknownName p)
six_seven true true p v = Ok v

-- question 8 at the word at p, which then gives v
abbrev pub eight : Bool → ℕ → ℤ → Result ℤ WordFault
eight false p v = Err (OutOfRange p)
eight true p v = Ok v
