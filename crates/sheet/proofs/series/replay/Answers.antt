use Rattle.std.proofs.Common.{ℕ, ◌+◌, length, sym, subst}
use Rattle.std.proofs.lemmas.List.{drop_more}
use Rattle.sheet.proofs.Replaying.{Replayed, replayed_none, replayed_more, replayed_all, marks_all, marks_of_files, of_the_files}
use Rattle.sheet.proofs.series.replay.Goals as goal

pub loop-call-preserved : goal.loop-call-preserved
loop-call-preserved g c =
    let k = g.B.Bound.admits in
    subst (λ (n : ℕ). Replayed k c.args.model.now c.args.zones.now n c.args.calls.now (c.loop-call.call-index + 1) c.make.new.self) (sym c.make.auto.area)
    (replayed_more k c.args.model.now c.args.zones.now (length c.loop-call.area) c.args.calls.now c.loop-call.call-index c.loop-call.sheet c.make.new.self _ (drop_more c.args.calls.now c.loop-call.call-index _ c.loop-call-test.true) c.make.ensures c.loop-call.invariant)

pub returns : goal.returns
returns g c =
    let k = g.B.Bound.admits in
    let all = subst (λ (n : ℕ). Replayed k c.args.model.now c.args.zones.now n c.args.calls.now c.loop-call.call-index c.loop-call.sheet) c.loop-call.auto.area c.loop-call.invariant in
    record {
      files = (all.model, all.zones);
      marks = marks_of_files k c.args.model.now c.args.zones.now (length c.args.area.now) c.args.calls.now c.loop-call.sheet all.model all.zones (marks_all k c.args.model.now c.args.zones.now (length c.args.area.now) c.args.calls.now c.loop-call.call-index c.loop-call.sheet c.loop-call-test.false all);
      promise = of_the_files k c.args.model.now c.args.zones.now (length c.args.area.now) c.args.calls.now c.loop-call.sheet all.model all.zones (replayed_all k c.args.model.now c.args.zones.now (length c.args.area.now) c.args.calls.now c.loop-call.call-index c.loop-call.sheet c.loop-call-test.false all);
    }

pub loop-call-init : goal.loop-call-init
loop-call-init g c = replayed_none g.B.Bound.admits c.args.model.now c.args.zones.now (length c.args.area.now) c.args.calls.now c.open-sheet.result c.open-sheet.ensures
