use Rattle.std.proofs.Common.{ℕ, List, sym, subst}
use Rattle.std.specs.List.{AllByRecursion}
use Rattle.format.specs.Syntax.{Atom}
use Rattle.model.specs.Views.{atom_is, atoms_in}
use Rattle.checks.specs.Systems.{Placed}
use Rattle.checks.specs.Frames.{shape, Placeable}
use Rattle.checks.proofs.Pours.{adds_atom, pouring_more, pouring_all}
use Rattle.checks.proofs.pour.pour.Goals as goal

pub loop-atom-preserved : goal.loop-atom-preserved
loop-atom-preserved g c =
    let f = shape c.args.frame.now in
    let first = c.in-Some.ensures.steps in
    let left = subst (λ (l : List Atom). AllByRecursion (Placeable f c.loop-atom.table.square.n) l) first c.loop-atom.invariant.1 in (
      pouring_more (Placed f) (atoms_in c.args.atoms) _ _ (atom_is c.in-Some.atom) _ c.loop-atom.table c.constrain.new.self first c.loop-atom.invariant.0
          (adds_atom f (atom_is c.in-Some.atom) c.place.result _ _ c.place.ensures c.constrain.ensures),
      subst (λ (n : ℕ). AllByRecursion (Placeable f n) (atoms_in c.next.new.self)) (sym c.constrain.ensures.same_rows) left.1,
    )

pub returns : goal.returns
returns g c = pouring_all (Placed (shape c.args.frame.now)) (atoms_in c.args.atoms) _ _ c.loop-atom.table c.in-None.ensures.steps.0 c.loop-atom.invariant.0
