-- The records of a file as the code has them, and what they are in the syntax. Assumes nothing.
use Rattle.std.specs.Prelude.{ℕ, ◌+◌, ◌-◌, ◌/◌, ◌^◌, ◌<◌, List, [], ◌∷◌}
use Rattle.std.specs.List.{AllByRecursion}
use Rattle.format.specs.Words.{words}
use Rattle.format.specs.Syntax.{Atom, Condition, Reset, Guarded, Command, Zone, atoms_of, resets_from, guarded_of, command_of, zone_of}
use Rattle.model.specs.declared.words.Words.{Words}
use Rattle.bound.specs.declared.atom.Atom.{Atom as AtomRead}
use Rattle.model.specs.declared.atoms.Atoms.{Atoms}
use Rattle.model.specs.declared.resets.Reset.{Reset as ResetRead}
use Rattle.model.specs.declared.resets.Resets.{Resets}
use Rattle.model.specs.declared.views.Condition.{Condition as ConditionRead}
use Rattle.model.specs.declared.views.Guarded.{Guarded as GuardedPart}
use Rattle.model.specs.declared.views.Command.{Command as CommandPart}
use Rattle.model.specs.declared.views.Zone.{Zone as ZonePart}

-- the words that a reader of words has left
abbrev pub words_left : Words → List ℕ
words_left l = words l.bytes.now

abbrev pub atom_is : AtomRead → Atom
atom_is a = record { i = a.i; j = a.j; d = a.d; strict = a.strict }

abbrev pub atoms_in : Atoms → List Atom
atoms_in l = atoms_of (words_left l.words)

abbrev pub reset_is : ResetRead → Reset
reset_is r = record { clock = r.clock; number = r.number }

-- the resets from a bit on: the mask's bits from this bit on, and the numbers for them
abbrev pub resets_in : Resets → List Reset
resets_in l = resets_from (15 - l.bit) (l.bit + 1) (l.mask / 2 ^ l.bit) (words_left l.numbers)

-- a clock of a state gets a number
abbrev pub IsOfClock : Reset → Type 0
IsOfClock r = (0 < r.clock) × (r.clock < 16)

-- each reset that comes later is of a higher clock
abbrev pub Rise : List Reset → Type 0
Rise [] = Unit {0}
Rise (r ∷ rs) = AllByRecursion (λ later. r.clock < later.clock) rs × Rise rs

abbrev pub condition_is : ConditionRead → Condition
condition_is c = record { ones = c.ones; zeros = c.zeros }

abbrev pub guarded_in : GuardedPart → Guarded
guarded_in g = guarded_of (words g.bytes.now)

abbrev pub command_in : CommandPart → Command
command_in c = command_of (words c.bytes.now)

abbrev pub zone_in : ZonePart → Zone
zone_in z = zone_of (words z.bytes.now)
