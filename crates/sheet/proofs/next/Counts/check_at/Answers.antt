use Rattle.std.proofs.Common.{ℕ, ◌+◌, ◌-◌, sym, ap, ◌∙◌}
use Rattle.std.specs.List.{slice_get}
use Rattle.sheet.specs.Order.{checks_from}
use Rattle.sheet.proofs.Nexts.{passed_over, among, beyond, none_beyond, after_start, past_all}
use Rattle.sheet.proofs.next.Counts.check_at.Goals.{then-not-marks-zone+else-left-each, else-not-marks-zone}
use Rattle.sheet.proofs.next.Counts.check_at.Goals as goal

pub returns-then-number-self : goal.returns-then-number-self
returns-then-number-self c =
    let k = c.args.self in
    sym (past_all k.bads k.commands c.args.marks.now.struck k.zones c.args.number c.if-number-self.true)

pub loop-zone-init : goal.loop-zone-init
loop-zone-init c = after_start c.args.self.bads c.args.self.commands c.args.marks.now.struck c.args.self.zones c.args.number c.if-number-eq0.false

pub loop-zone-preserved : goal.loop-zone-preserved
loop-zone-preserved c =
    let k = c.args.self in
    let struck = c.args.marks.now.struck in
    let n = c.loop-zone.zone in
    let to = λ (left : ℕ). slice_get (checks_from k.bads k.commands struck (n + 1) (k.zones - (n + 1))) left in
    elim c.if-not-marks-zone.branch [
      | then-not-marks-zone+else-left-each w ↦ c.loop-zone.invariant ∙ beyond k.bads k.commands struck n k.zones c.loop-zone-test.true c.loop-zone.left w.if-not-marks-zone.true w.if-left-each.false ∙ ap to (sym w.left-is)
      | else-not-marks-zone w ↦ c.loop-zone.invariant ∙ passed_over k.bads k.commands struck n k.zones c.loop-zone-test.true c.loop-zone.left w.if-not-marks-zone.false ∙ ap to (sym w.left-is)
    ]

pub returns-then-left-each : goal.returns-then-left-each
returns-then-left-each c =
    let k = c.args.self in
    let struck = c.args.marks.now.struck in
    sym (c.loop-zone.invariant ∙ among k.bads k.commands struck c.loop-zone.zone k.zones c.loop-zone-test.true c.loop-zone.left c.if-not-marks-zone.true c.if-left-each.true ∙ c.within.ensures)

pub returns : goal.returns
returns c =
    let k = c.args.self in
    sym (c.loop-zone.invariant ∙ none_beyond k.bads k.commands c.args.marks.now.struck c.loop-zone.zone k.zones c.loop-zone.left c.loop-zone-test.false)
