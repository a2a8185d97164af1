use Rattle.std.proofs.Common.{subst}
use Rattle.model.specs.Views.{zone_in}
use Rattle.model.specs.Files.{model_in, zones_in}
use Rattle.model.specs.declared.files.Files.{Files}
use Rattle.checks.specs.Meanings.{CoversTime, Names}
use Rattle.checks.proofs.Asking.{of_listed}
use Rattle.checks.proofs.calls.time_check.Goals as goal

pub returns : goal.returns
returns g c =
    let asked = c.in_ok-origin.ensures in
    let p = c.args.files.now in
    let names = subst (λ (q : Files). Names (CoversTime g.B.Bound.admits (model_in q) (zone_in c.in_ok-origin.origin.zone)) c.args.struck.now (zones_in q) c.cover_time.result) asked.files c.cover_time.ensures in
    (asked.unrefused, λ z listed. of_listed (λ q. Names (CoversTime g.B.Bound.admits (model_in p) q) c.args.struck.now (zones_in p) c.cover_time.result) (zones_in p) c.args.zone _ z asked.listed listed names)
