use Rattle.std.proofs.Common.{sym, subst}
use Rattle.format.specs.Ranges.{CommandFits}
use Rattle.model.specs.Views.{command_in, zone_in}
use Rattle.model.specs.Files.{model_in, zones_in}
use Rattle.model.specs.declared.files.Files.{Files}
use Rattle.checks.specs.Meanings.{CoversCommand, Names}
use Rattle.checks.specs.Passed.{head_in}
use Rattle.checks.proofs.Asking.{of_listed, record_there}
use Rattle.checks.proofs.Lowest.{all_nth}
use Rattle.checks.proofs.Ranging.{ranged_of}
use Rattle.checks.proofs.calls.command_check.Goals as goal

pub returns : goal.returns
returns g c =
    let asked = c.in_ok-origin.ensures in
    let p = c.args.files.now in
    let m = model_in p in
    let z₀ = zone_in c.in_ok-origin.origin.zone in
    let c₀ = command_in c.in-Some.record in
    let names = subst (λ (q : Files). Names (CoversCommand g.B.Bound.admits (model_in q) z₀ c₀) c.args.struck.now (zones_in q) c.cover_command.result) asked.files c.cover_command.ensures in (
      record_there p _ c.args.zone m.commands c.args.command c₀ asked.unrefused c.in-Some.ensures,
      λ z k listed named. of_listed (λ q. Names (CoversCommand g.B.Bound.admits m q k) c.args.struck.now (zones_in p) c.cover_command.result) (zones_in p) c.args.zone z₀ z asked.listed listed
          (of_listed (λ q. Names (CoversCommand g.B.Bound.admits m z₀ q) c.args.struck.now (zones_in p) c.cover_command.result) m.commands c.args.command c₀ k c.in-Some.ensures named names),
    )

pub cover_command-requires-clause-fits : goal.cover_command-requires-clause-fits
cover_command-requires-clause-fits g c =
    let asked = c.in_ok-origin.ensures in
    subst (λ (q : Files). CommandFits (head_in q) (command_in c.in-Some.record)) (sym asked.files) (all_nth _ _ c.args.command (command_in c.in-Some.record) (ranged_of c.in_ok-origin.origin c.args.files.now asked.files).model.commands c.in-Some.ensures)
