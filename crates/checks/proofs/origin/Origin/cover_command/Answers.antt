use Rattle.std.proofs.Common.{◌+◌, sym, ap, refl, ◌∙◌, arith, rules}
use Rattle.std.proofs.lemmas.Bool.{true≢false}
use Rattle.model.specs.Steps.{booleans_after_command}
use Rattle.model.specs.Views.{command_in, zone_in}
use Rattle.model.specs.Files.{model_in, zones_in}
use Rattle.checks.specs.Meanings.{CoversCommand}
use Rattle.checks.specs.Passed.{head_in}
use Rattle.checks.specs.Systems.{same, after}
use Rattle.checks.specs.Reaching.{Covered}
use Rattle.checks.proofs.Lowest.{all_nth, names_same, names_by, listed_as}
use Rattle.checks.proofs.Placing.{roomy_same, roomy_after, fit_atoms, fit_records, fit_closed}
use Rattle.checks.proofs.Ranging.{ranged}
use Rattle.checks.proofs.Steps.{command_idle}
use Rattle.checks.proofs.Answering.{condition_as, poured_as, invariant_as, named_as, rows_closed}
use Rattle.checks.proofs.Poured.{poured_command, command_covered}
use Rattle.checks.proofs.origin.Origin.cover_command.Goals as goal

pub returns-then-not-holds : goal.returns-then-not-holds
returns-then-not-holds g c =
    let o = c.args.self in
    let m = model_in o.files.now in
    let z = zone_in o.zone in
    let k = command_in c.args.command in
    let all = names_by _ (λ y. Unit {0}) _ _ c.lowest.result c.lowest.ensures (λ n p b listed says. search rules) in
    let names = listed_as (λ y. Unit {0}) _ c.args.struck.now _ (zones_in o.files.now) c.lowest.result c.of-listed.ensures.marks c.of-listed.ensures.zones all in
    names_same (CoversCommand g.B.Bound.admits m z k) (λ y. Unit {0}) c.args.struck.now (zones_in o.files.now) c.lowest.result
    (λ i y listed. (λ _. tt, λ _. command_idle g.B.Bound.admits m z k y (λ holds. true≢false (sym (c.holds.ensures.1 (condition_as _ _ _ _ (sym c.condition.ensures) (sym c.booleans-before.ensures) holds)) ∙ c.if-not-holds.true)))) names

pub returns : goal.returns
returns g c =
    let o = c.args.self in
    let m = model_in o.files.now in
    let r = ranged o.files.now o.passed in
    let z = zone_in o.zone in
    let k = command_in c.args.command in
    let to = c.after-to.ensures ∙ ap after c.resets.ensures in
    let booleans = c.booleans_after-booleans.ensures ∙ ap (booleans_after_command k) c.booleans-before.ensures in
    let holds = condition_as _ _ _ _ c.condition.ensures c.booleans-before.ensures (c.holds.ensures.0 c.if-not-holds.false) in
    let zone = poured_as _ same _ z.atoms c.table_in-table.result c.pour.new.table c.same-from.ensures c.atoms.ensures c.pour.ensures in
    let guard = poured_as _ same _ k.atoms c.pour.new.table c.pour-2.new.table c.same-from.ensures c.atoms-2.ensures c.pour-2.ensures in
    let invariant = invariant_as _ (after k.resets) _ (booleans_after_command k z.booleans) _ m.invariants c.pour-2.new.table c.pour_invariant.new.table to booleans c.invariants.ensures c.pour_invariant.ensures in
    let adds = poured_command m z k _ _ _ _ zone guard invariant in
    let names = listed_as _ _ c.args.struck.now _ (zones_in o.files.now) c.cover.result c.of-listed.ensures.marks c.of-listed.ensures.zones (named_as c.close.result _ (after k.resets) _ (booleans_after_command k z.booleans) _ _ _ c.cover.result to booleans refl c.cover.ensures) in
    names_same (CoversCommand g.B.Bound.admits m z k) (Covered c.close.result (after k.resets) (booleans_after_command k z.booleans)) c.args.struck.now (zones_in o.files.now) c.cover.result
    (λ i y listed. command_covered m z r.model o.fits _ _ _ c.close.result c.table_in-table.ensures c.close.ensures k c.requires.fits holds adds y (all_nth _ _ i y r.zones.zones listed)) names

pub pour-requires : goal.pour-requires
pour-requires g c =
    let h = head_in c.args.self.files.now in
    let n = c.clocks.result in
    fit_atoms h (ranged c.args.self.files.now c.args.self.passed).model.few_clocks (n + 1) _ _ same (roomy_same h.clocks (n + 1) (omega (arith, c.clocks.ensures))) c.same-from.ensures c.table_in-table.ensures.rows_are _ _ c.atoms.ensures c.args.self.fits.atoms.each

pub pour-requires-2 : goal.pour-requires-2
pour-requires-2 g c =
    let h = head_in c.args.self.files.now in
    let n = c.clocks.result in
    fit_atoms h (ranged c.args.self.files.now c.args.self.passed).model.few_clocks (n + 1) _ _ same (roomy_same h.clocks (n + 1) (omega (arith, c.clocks.ensures))) c.same-from.ensures (c.pour.ensures.same_rows ∙ c.table_in-table.ensures.rows_are) _ _ c.atoms-2.ensures c.requires.fits.atoms.each

pub pour_invariant-requires : goal.pour_invariant-requires
pour_invariant-requires g c =
    let h = head_in c.args.self.files.now in
    let n = c.clocks.result in
    let k = command_in c.args.command in
    let r = ranged c.args.self.files.now c.args.self.passed in
    fit_records h r.model.few_clocks (n + 1) _ _ (after k.resets) (roomy_after h h.clocks (n + 1) k.resets (omega (arith, c.clocks.ensures)) c.requires.fits.resets) (c.after-to.ensures ∙ ap after c.resets.ensures) (c.pour-2.ensures.same_rows ∙ c.pour.ensures.same_rows ∙ c.table_in-table.ensures.rows_are) _ _ c.invariants.ensures r.model.invariants

pub cover-requires : goal.cover-requires
cover-requires g c =
    let h = head_in c.args.self.files.now in
    let n = c.clocks.result in
    let k = command_in c.args.command in
    let r = ranged c.args.self.files.now c.args.self.passed in
    let rows = c.pour_invariant.ensures.same_rows ∙ c.pour-2.ensures.same_rows ∙ c.pour.ensures.same_rows ∙ c.table_in-table.ensures.rows_are in
    fit_closed h r.model.few_clocks (n + 1) (n + 1) _ (after k.resets) (roomy_after h h.clocks (n + 1) k.resets (omega (arith, c.clocks.ensures)) c.requires.fits.resets) (c.after-to.ensures ∙ ap after c.resets.ensures) refl c.close.result (rows_closed _ c.close.result c.close.ensures (n + 1) rows) _ _ c.of-listed.ensures.zones r.zones.zones
