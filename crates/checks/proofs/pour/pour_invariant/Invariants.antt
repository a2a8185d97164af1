use Rattle.std.specs.List.{AllByRecursion}
use Rattle.model.specs.Files.{invariants_left}
use Rattle.checks.specs.Frames.{shape}
use Rattle.checks.specs.Pouring.{PlaceableRecord}
use Rattle.checks.specs.Systems.{PlacedRecord}
use Rattle.checks.proofs.Pours.{Pouring}
use Rattle.checks.proofs.pour.pour_invariant.Given as goal

abbrev pub invariant-loop-record : goal.invariant-loop-record
invariant-loop-record g l =
    Pouring (λ k ν r. PlacedRecord (shape l.frame) k ν l.booleans r) (invariants_left l.fn.invariants) (invariants_left l.record-iterator) l.initial.table l.table
    × AllByRecursion (PlaceableRecord (shape l.frame) l.table.square.n) (invariants_left l.record-iterator)
