use Rattle.std.proofs.Common.{ℕ, subst, rules}
use Rattle.model.specs.Files.{model_in, zones_in}
use Rattle.checks.specs.Meanings.{HoldsStart, Names}
use Rattle.checks.specs.Reaching.{HoldsZero}
use Rattle.checks.proofs.Lowest.{names_by, names_same, listed_as}
use Rattle.checks.proofs.Steps.{start_system}
use Rattle.checks.proofs.calls.start_check.Goals as goal

pub returns : goal.returns
returns g c =
    let m = model_in c.args.files.now in
    let l = zones_in c.args.files.now in
    let zero = names_by _ (HoldsZero c.start-booleans.result) _ _ c.lowest.result c.lowest.ensures (λ n p b listed says. search rules) in
    let listed = listed_as (HoldsZero c.start-booleans.result) _ c.args.struck.now _ l c.lowest.result c.of-listed.ensures.marks c.of-listed.ensures.zones zero in
    let names = subst (λ (q : ℕ). Names (HoldsZero q) c.args.struck.now l c.lowest.result) c.start-booleans.ensures listed in (
      c.in_ok-passed.ensures.0,
      names_same (HoldsStart g.B.Bound.admits m) (HoldsZero m.start) c.args.struck.now l c.lowest.result (λ i y listed. start_system g.B.Bound.admits m y g.met.B.Bound.some_scale g.met.B.Bound.positive) names,
    )
