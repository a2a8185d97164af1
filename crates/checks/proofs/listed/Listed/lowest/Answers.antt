use Rattle.std.proofs.Common.{◌+◌, arith}
use Rattle.model.specs.Files.{zones_left}
use Rattle.checks.proofs.Lowest.{Tried, here, left_next, tried_other, tried_struck, found, none_left, names_none}
use Rattle.checks.proofs.listed.Listed.lowest.Goals.{else-not-mark-via-then-not-mark+else-holds, else-not-mark-via-else-not-mark}
use Rattle.checks.proofs.listed.Listed.lowest.Goals as goal

pub returns-in_err-zone : goal.returns-in_err-zone
returns-in_err-zone g c = rw c.from_residual.ensures (none_left (goal.F-post g c.args.holds) c.args.self.struck.now (zones_left c.args.self.zones) c.loop-n.n _ c.loop-n.invariant.0 c.in_err-zone.ensures.steps.0 c.loop-n.invariant.1)

pub holds-requires : goal.holds-requires
holds-requires g c =
    let l = c.args.self in
    c.requires c.loop-n.n c.in_ok-zone.zone (here (goal.F-post g c.args.holds) l.struck.now (zones_left l.zones) c.loop-n.n _ c.loop-n.invariant.0 _ c.in_ok-zone.zone c.in_ok-zone.ensures.steps)

pub returns-then-holds : goal.returns-then-holds
returns-then-holds g c =
    let l = c.args.self in
    found (goal.F-post g c.args.holds) l.struck.now (zones_left l.zones) c.loop-n.n _ c.loop-n.invariant.0 _ c.in_ok-zone.zone c.in_ok-zone.ensures.steps c.loop-n.invariant.1 c.if-not-mark.true c.if-holds.ensures

pub loop-n-preserved : goal.loop-n-preserved
loop-n-preserved g c =
    let l = c.args.self in
    let says = goal.F-post g c.args.holds in
    let steps = c.in_ok-zone.ensures.steps in
    let tried : Tried says l.struck.now (zones_left l.zones) (c.loop-n.n + 1) = elim c.else-not-mark.branch [
      | else-not-mark-via-then-not-mark+else-holds w ↦ tried_other says l.struck.now (zones_left l.zones) c.loop-n.n _ c.loop-n.invariant.0 _ c.in_ok-zone.zone steps c.loop-n.invariant.1 w.if-holds.ensures
      | else-not-mark-via-else-not-mark w ↦ tried_struck says l.struck.now (zones_left l.zones) c.loop-n.n _ c.loop-n.invariant.0 _ c.in_ok-zone.zone steps c.loop-n.invariant.1 w.if-not-mark.false
    ] in
    (left_next says l.struck.now (zones_left l.zones) c.loop-n.n _ c.loop-n.invariant.0 _ c.in_ok-zone.zone steps, tried)

pub returns : goal.returns
returns g c = names_none (goal.F-post g c.args.holds) c.args.self.struck.now (zones_left c.args.self.zones) c.loop-n.n c.loop-n.invariant.1 (omega (arith, c.args.self.few, c.loop-n-test.false))
