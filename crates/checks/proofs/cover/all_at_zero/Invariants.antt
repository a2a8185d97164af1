use Rattle.model.specs.Views.{atoms_in}
use Rattle.checks.specs.Reaching.{AtZero}
use Rattle.checks.proofs.Alls.{Left}
use Rattle.checks.proofs.cover.all_at_zero.Given as goal

abbrev pub invariant-loop-atom : goal.invariant-loop-atom
invariant-loop-atom l = Left AtZero (atoms_in l.fn.atoms) (atoms_in l.atom-iterator)
