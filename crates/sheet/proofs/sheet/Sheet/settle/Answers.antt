use Rattle.std.proofs.Common.{length, arith}
use Rattle.checks.proofs.Ranging.{ranged}
use Rattle.sheet.specs.Sheets.{model_on, zones_on, struck_on}
use Rattle.sheet.proofs.Deciding.{some_none, listed_made}
use Rattle.sheet.proofs.Nexts.{count_small}
use Rattle.sheet.proofs.sheet.Sheet.settle.Goals as goal

pub unreachable-requires : goal.unreachable-requires
unreachable-requires g c =
    let s = c.args.self.now in
    let asked = c.in_ok-check.ensures in
    some_none _ _ (listed_made s.files asked.passed (length c.args.area.now) asked.enough (struck_on s) s.count c.in_ok-check.check asked.next) c.in_default.ensures.0

pub overflow_add-self : goal.overflow_add-self
overflow_add-self g c =
    let s = c.args.self.now in
    let asked = c.in_ok-check.ensures in
    let r = ranged s.files asked.passed in
    omega (arith, count_small (length (model_on s).bads) (length (model_on s).commands) (struck_on s) (length (zones_on s)) s.count _ r.model.few_bads r.model.few_commands r.zones.few_zones asked.next)
