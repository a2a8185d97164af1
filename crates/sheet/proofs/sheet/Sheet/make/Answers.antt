use Rattle.std.proofs.Common.{length, sym, ◌∙◌, subst, arith}
use Rattle.std.proofs.lemmas.List.{length-take-le}
use Rattle.sheet.specs.declared.call.Call.{Call}
use Rattle.sheet.specs.Tracking.{Makes}
use Rattle.sheet.proofs.Tracking.{makes_settle, makes_strike, makes_restore}
use Rattle.sheet.proofs.sheet.Sheet.make.Goals as goal

pub returns-in-Settle : goal.returns-in-Settle
returns-in-Settle g c =
    let brought = length-take-le c.min-brought.result c.args.area.now (omega (arith, c.min-brought.ensures)) ∙ c.min-brought.ensures in
    subst (λ (k : Call). Makes g.B.Bound.admits (length c.args.area.now) c.args.self.now k c.settle.new.self) (sym c.in-Settle.is)
    (makes_settle g.B.Bound.admits c.settle.result c.args.self.now c.settle.new.self c.in-Settle.bounds (length c.args.area.now) _ _ brought c.settle.ensures)

pub returns-in-Strike : goal.returns-in-Strike
returns-in-Strike g c =
    subst (λ (k : Call). Makes g.B.Bound.admits (length c.args.area.now) c.args.self.now k c.strike.new.self) (sym c.in-Strike.is)
    (makes_strike g.B.Bound.admits c.strike.result c.args.self.now c.strike.new.self c.in-Strike.zone (length c.args.area.now) c.strike.ensures)

pub returns-in-Restore : goal.returns-in-Restore
returns-in-Restore g c =
    subst (λ (k : Call). Makes g.B.Bound.admits (length c.args.area.now) c.args.self.now k c.restore.new.self) (sym c.in-Restore.is)
    (makes_restore g.B.Bound.admits c.restore.result c.args.self.now c.restore.new.self c.in-Restore.zone (length c.args.area.now) c.restore.ensures)
