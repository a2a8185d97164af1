use Rattle.std.proofs.Common.{Decides, sym, subst}
use Rattle.format.specs.Ranges.{GuardedFits}
use Rattle.model.specs.Views.{guarded_in, zone_in}
use Rattle.model.specs.Files.{model_in, zones_in}
use Rattle.model.specs.declared.files.Files.{Files}
use Rattle.checks.specs.Meanings.{BadCheck}
use Rattle.checks.specs.Passed.{head_in}
use Rattle.checks.proofs.Asking.{of_listed, record_there}
use Rattle.checks.proofs.Lowest.{all_nth}
use Rattle.checks.proofs.Ranging.{ranged_of}
use Rattle.checks.proofs.calls.bad_check.Goals as goal

pub returns : goal.returns
returns g c =
    let asked = c.in_ok-origin.ensures in
    let p = c.args.files.now in
    let m = model_in p in
    let z₀ = zone_in c.in_ok-origin.origin.zone in
    let g₀ = guarded_in c.in-Some.record in
    let decides = subst (λ (q : Files). Decides c.none_meets.result (BadCheck g.B.Bound.admits (model_in q) z₀ g₀)) asked.files c.none_meets.ensures in (
      record_there p _ c.args.zone m.bads c.args.bad g₀ asked.unrefused c.in-Some.ensures,
      λ z r listed named. of_listed (λ q. Decides c.none_meets.result (BadCheck g.B.Bound.admits m q r)) (zones_in p) c.args.zone z₀ z asked.listed listed
          (of_listed (λ q. Decides c.none_meets.result (BadCheck g.B.Bound.admits m z₀ q)) m.bads c.args.bad g₀ r c.in-Some.ensures named decides),
    )

pub none_meets-requires-clause-fits : goal.none_meets-requires-clause-fits
none_meets-requires-clause-fits g c =
    let asked = c.in_ok-origin.ensures in
    subst (λ (q : Files). GuardedFits (head_in q) (guarded_in c.in-Some.record)) (sym asked.files) (all_nth _ _ c.args.bad (guarded_in c.in-Some.record) (ranged_of c.in_ok-origin.origin c.args.files.now asked.files).model.bads c.in-Some.ensures)
