use Rattle.std.proofs.Common.{◌≡◌, ◌-◌}
use Rattle.std.specs.List.{slice_get}
use Rattle.sheet.specs.Order.{order, checks_from}
use Rattle.sheet.proofs.next.Counts.check_at.Given as goal

abbrev pub invariant-loop-zone : goal.invariant-loop-zone
invariant-loop-zone l = slice_get (order l.self.bads l.self.commands l.marks.struck l.self.zones) l.number ≡ slice_get (checks_from l.self.bads l.self.commands l.marks.struck l.zone (l.self.zones - l.zone)) l.left
