use Rattle.format.proofs.Learned.{owing_more, owing_none, owing_goes}
use Rattle.format.proofs.scope.Text.resets.Goals as goal

pub loop-preserved : goal.loop-preserved
loop-preserved c x = owing_goes c.args.self.now x _ _ _ _ _ (owing_more c.args.self.now x _ _ _ _ c.loop-test.true (c.loop.invariant x)) c.in_ok-number.ensures

pub returns : goal.returns
returns c x = owing_none c.args.self.now x _ _ _ _ c.loop-test.false (c.loop.invariant x)
