-- The number of each kind of word. Assumes nothing.
use Rattle.std.specs.Prelude.{ℕ}
use Rattle.format.specs.declared.kind.Kind.{Kind}
use Rattle.format.specs.declared.kind.RecordKind.{RecordKind}
use Rattle.format.specs.declared.kind.RecordKind.TheVariants.{Head as HeadRecord, Start as StartRecord, Invariant as InvariantRecord, Command as CommandRecord, Bad as BadRecord, Zone as ZoneRecord}
use Rattle.format.specs.declared.kind.Kind.TheVariants.{Head, Start, Command, Mask, Reset, Invariant, Bad, Zone, Atom, Number, End}

abbrev pub code : Kind → ℕ
code Head = 1
code Start = 2
code Command = 3
code Mask = 4
code Reset = 5
code Invariant = 6
code Bad = 7
code Zone = 8
code Atom = 9
code Number = 10
code End = 15

-- the number of the kind of word that begins each record
abbrev pub first_code : RecordKind → ℕ
first_code HeadRecord = 1
first_code StartRecord = 2
first_code InvariantRecord = 6
first_code CommandRecord = 3
first_code BadRecord = 7
first_code ZoneRecord = 8
