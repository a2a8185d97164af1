use Rattle.std.proofs.Common.{◌+◌, ◌-◌, ◌/◌, ◌^◌, arith}
use Rattle.model.specs.Views.{reset_is}
use Rattle.model.specs.Views.{words_left}
use Rattle.checks.proofs.Shapes.{writing_none, writing_more, writing_all, resets_rise}
use Rattle.checks.proofs.frame.Frame.after.Goals as goal

pub loop-reset-init : goal.loop-reset-init
loop-reset-init c = rw c.into_iter-reset-iterator.ensures.into_iter_gives (writing_none _ c.same-frame.result c.same-frame.ensures)

pub reset-requires : goal.reset-requires
reset-requires c =
    let i = c.loop-reset.reset-iterator in
    let rise = resets_rise (15 - i.bit) (i.bit + 1) (i.mask / 2 ^ i.bit) (words_left i.numbers) (reset_is c.in-Some.reset) _ c.in-Some.ensures.steps in
    omega (arith, rise.some, rise.known)

pub loop-reset-preserved : goal.loop-reset-preserved
loop-reset-preserved c =
    let i = c.loop-reset.reset-iterator in
    let rise = resets_rise (15 - i.bit) (i.bit + 1) (i.mask / 2 ^ i.bit) (words_left i.numbers) (reset_is c.in-Some.reset) _ c.in-Some.ensures.steps in
    writing_more _ _ _ (reset_is c.in-Some.reset) c.loop-reset.frame c.reset.new.self c.loop-reset.invariant c.in-Some.ensures.steps rise.higher c.reset.ensures

pub returns : goal.returns
returns c = writing_all _ _ c.loop-reset.frame c.loop-reset.invariant c.in-None.ensures.steps.0
