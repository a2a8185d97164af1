-- The model and the zones of two files, and their records in order. Assumes nothing.
use Rattle.std.specs.Prelude.{ℕ, List, map}
use Rattle.format.specs.Words.{words}
use Rattle.format.specs.Kinds.{code}
use Rattle.format.specs.Syntax.{Guarded, Command, Zone, Model, guarded_of, command_of, zone_of, model_of, zones_of}
use Rattle.model.specs.Records.{having}
use Rattle.model.specs.declared.files.Files.{Files}
use Rattle.model.specs.declared.records.Records.{Records}
use Rattle.model.specs.declared.views.Guarded.{Guarded as GuardedPart}
use Rattle.model.specs.declared.views.Command.{Command as CommandPart}
use Rattle.model.specs.declared.views.Zone.{Zone as ZonePart}

-- the model and the zones that two files say
abbrev pub model_in : Files → Model
model_in p = model_of (words p.model.now)

abbrev pub zones_in : Files → List Zone
zones_in p = zones_of (words p.zones.now)

-- the records that are still to come, each as what its words say
abbrev pub left : {R S : Type 0} → (List ℕ → S) → Records R → List S
left said_by l = map said_by (having (code l.kind.kind) (words l.bytes.now))

abbrev pub invariants_left : Records GuardedPart → List Guarded
invariants_left = left guarded_of

abbrev pub commands_left : Records CommandPart → List Command
commands_left = left command_of

abbrev pub bads_left : Records GuardedPart → List Guarded
bads_left = left guarded_of

abbrev pub zones_left : Records ZonePart → List Zone
zones_left = left zone_of
