use Rattle.std.proofs.Common.{◌≡◌, ℕ, suc, ◌+◌, List, Decides, ap, refl, ◌∙◌, subst, arith}
use Rattle.format.specs.Syntax.{Command}
use Rattle.model.specs.Steps.{Urgent}
use Rattle.model.specs.Views.{zone_in}
use Rattle.model.specs.Files.{model_in, zones_in, commands_left}
use Rattle.checks.specs.Meanings.{CoversTime}
use Rattle.checks.specs.Passed.{head_in}
use Rattle.checks.specs.Systems.{same, before}
use Rattle.checks.specs.Pouring.{Adds}
use Rattle.checks.specs.Reaching.{Covered}
use Rattle.checks.proofs.Lowest.{all_nth, names_same, listed_as}
use Rattle.checks.proofs.Placing.{roomy_same, roomy_before, fit_atoms, fit_records, fit_closed}
use Rattle.checks.proofs.Ranging.{ranged}
use Rattle.checks.proofs.Answering.{poured_as, invariant_as, named_as, rows_closed}
use Rattle.checks.proofs.Poured.{DelayBounds, poured_time, time_covered}
use Rattle.checks.proofs.origin.Origin.cover_time.Goals as goal

pub returns : goal.returns
returns g c =
    let o = c.args.self in
    let m = model_in o.files.now in
    let r = ranged o.files.now o.passed in
    let z = zone_in o.zone in
    let n = c.clocks-second.result in
    let second : n + 1 ≡ suc m.clocks = omega (arith, c.clocks-second.ensures) in
    let from = c.before-from.ensures ∙ ap before second in
    let urgent = subst (λ (l : List Command). Decides c.is_urgent.result (Urgent l z.booleans)) c.commands.ensures (subst (λ (q : ℕ). Decides c.is_urgent.result (Urgent (commands_left c.commands.result) q)) c.booleans-booleans.ensures c.is_urgent.ensures) in
    let zone = poured_as _ (before (suc m.clocks)) _ z.atoms c.table_in-table.result c.pour.new.table from c.atoms.ensures c.pour.ensures in
    let begins = invariant_as _ (before (suc m.clocks)) _ z.booleans _ m.invariants c.pour.new.table c.pour_invariant.new.table from c.booleans-booleans.ensures c.invariants.ensures c.pour_invariant.ensures in
    let ends = invariant_as _ same _ z.booleans _ m.invariants c.pour_invariant.new.table c.pour_invariant-2.new.table c.same-to.ensures c.booleans-booleans.ensures c.invariants-2.ensures c.pour_invariant-2.ensures in
    let delay = subst (λ (s : ℕ). Adds (DelayBounds s c.is_urgent.result) c.pour_invariant-2.new.table c.delay.new.table) second c.delay.ensures in
    let adds = poured_time m z (suc m.clocks) c.is_urgent.result _ _ _ _ _ urgent zone begins ends delay in
    let names = listed_as _ _ c.args.struck.now _ (zones_in o.files.now) c.cover.result c.of-listed.ensures.marks c.of-listed.ensures.zones (named_as c.close.result _ same _ z.booleans _ _ _ c.cover.result c.same-to.ensures c.booleans-booleans.ensures refl c.cover.ensures) in
    names_same (CoversTime g.B.Bound.admits m z) (Covered c.close.result same z.booleans) c.args.struck.now (zones_in o.files.now) c.cover.result
    (λ i y listed. time_covered m z r.model o.fits _ _ _ c.close.result c.table_in-table.ensures c.close.ensures adds y (all_nth _ _ i y r.zones.zones listed)) names

pub pour-requires : goal.pour-requires
pour-requires g c =
    let h = head_in c.args.self.files.now in
    let n = c.clocks-second.result in
    let r = ranged c.args.self.files.now c.args.self.passed in
    fit_atoms h r.model.few_clocks (n + 1 + 1) _ _ (before (n + 1)) (roomy_before h.clocks (n + 1 + 1) (n + 1) (omega (arith, c.clocks-second.ensures)) (omega arith)) c.before-from.ensures c.table_in-table.ensures.rows_are _ _ c.atoms.ensures c.args.self.fits.atoms.each

pub pour_invariant-requires : goal.pour_invariant-requires
pour_invariant-requires g c =
    let h = head_in c.args.self.files.now in
    let n = c.clocks-second.result in
    let r = ranged c.args.self.files.now c.args.self.passed in
    fit_records h r.model.few_clocks (n + 1 + 1) _ _ (before (n + 1)) (roomy_before h.clocks (n + 1 + 1) (n + 1) (omega (arith, c.clocks-second.ensures)) (omega arith)) c.before-from.ensures (c.pour.ensures.same_rows ∙ c.table_in-table.ensures.rows_are) _ _ c.invariants.ensures r.model.invariants

pub pour_invariant-requires-2 : goal.pour_invariant-requires-2
pour_invariant-requires-2 g c =
    let h = head_in c.args.self.files.now in
    let n = c.clocks-second.result in
    let r = ranged c.args.self.files.now c.args.self.passed in
    fit_records h r.model.few_clocks (n + 1 + 1) _ _ same (roomy_same h.clocks (n + 1 + 1) (omega (arith, c.clocks-second.ensures))) c.same-to.ensures (c.pour_invariant.ensures.same_rows ∙ c.pour.ensures.same_rows ∙ c.table_in-table.ensures.rows_are) _ _ c.invariants-2.ensures r.model.invariants

pub cover-requires : goal.cover-requires
cover-requires g c =
    let h = head_in c.args.self.files.now in
    let n = c.clocks-second.result in
    let r = ranged c.args.self.files.now c.args.self.passed in
    let rows = c.delay.ensures.same_rows ∙ c.pour_invariant-2.ensures.same_rows ∙ c.pour_invariant.ensures.same_rows ∙ c.pour.ensures.same_rows ∙ c.table_in-table.ensures.rows_are in
    fit_closed h r.model.few_clocks (n + 1 + 1) (n + 1 + 1) _ same (roomy_same h.clocks (n + 1 + 1) (omega (arith, c.clocks-second.ensures))) c.same-to.ensures refl c.close.result (rows_closed _ c.close.result c.close.ensures (n + 1 + 1) rows) _ _ c.of-listed.ensures.zones r.zones.zones
