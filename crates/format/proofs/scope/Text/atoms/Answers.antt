use Rattle.std.proofs.Common.{arith}
use Rattle.format.proofs.Learned.{goes_trans}
use Rattle.format.proofs.scope.Text.atoms.Goals as goal

pub loop-count-preserved : goal.loop-count-preserved
loop-count-preserved c =
    let told = rw c.if-branch.true at c.in_ok-atom.ensures in
    (omega (arith, told.0), λ x u. goes_trans c.args.self.now x _ _ _ _ _ (c.loop-count.invariant.1 x u) (told.1 x u))

pub returns : goal.returns
returns c x u =
    let told = rw c.if-branch.false at c.in_ok-atom.ensures in
    goes_trans c.args.self.now x _ _ _ _ _ (c.loop-count.invariant.1 x u) (told x)
