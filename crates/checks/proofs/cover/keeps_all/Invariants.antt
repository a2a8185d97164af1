use Rattle.std.specs.List.{AllByRecursion}
use Rattle.model.specs.Views.{atoms_in}
use Rattle.checks.specs.Frames.{shape, Placeable}
use Rattle.checks.proofs.Alls.{Left}
use Rattle.checks.proofs.Keeping.{KeepsPlaced}
use Rattle.checks.proofs.cover.keeps_all.Given as goal

abbrev pub invariant-loop-atom : goal.invariant-loop-atom
invariant-loop-atom g l =
    Left (KeepsPlaced l.table (shape l.frame)) (atoms_in l.fn.atoms) (atoms_in l.atom-iterator)
    × AllByRecursion (Placeable (shape l.frame) l.table.square.n) (atoms_in l.atom-iterator)
