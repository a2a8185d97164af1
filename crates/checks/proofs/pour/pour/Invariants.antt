use Rattle.std.specs.List.{AllByRecursion}
use Rattle.model.specs.Views.{atoms_in}
use Rattle.checks.specs.Frames.{shape, Placeable}
use Rattle.checks.specs.Systems.{Placed}
use Rattle.checks.proofs.Pours.{Pouring}
use Rattle.checks.proofs.pour.pour.Given as goal

abbrev pub invariant-loop-atom : goal.invariant-loop-atom
invariant-loop-atom g l =
    Pouring (Placed (shape l.frame)) (atoms_in l.fn.atoms) (atoms_in l.atom-iterator) l.initial.table l.table
    × AllByRecursion (Placeable (shape l.frame) l.table.square.n) (atoms_in l.atom-iterator)
