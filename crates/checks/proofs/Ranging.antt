-- All that passed files name is in its range. Assumes nothing.
use Rattle.std.proofs.Common.{◌≡◌, true, sym, refl, subst}
use Rattle.std.proofs.lemmas.Bool.{true≢false}
use Rattle.format.specs.LookOver.{look_over_answer, Outcome}
use Rattle.format.specs.LookOver.Outcome.{pass, fault}
use Rattle.format.proofs.Within.{ranges_stand}
use Rattle.model.specs.Passing.{passes}
use Rattle.model.specs.declared.files.Files.{Files}
use Rattle.checks.specs.declared.origin.Origin.{Origin}
use Rattle.checks.specs.Passed.{Ranged}
use Rattle.checks.specs.Passed.{pass_over}

by_outcome : (p : Files) (o : Outcome) → look_over_answer p.model.now p.zones.now ≡ o → passes o ≡ true → Ranged p
by_outcome p (pass c) e h = let r = ranges_stand p.model.now p.zones.now c e in record { model = r.model; zones = r.zones }
by_outcome p (fault n f q l) e h = absurd (true≢false (sym h))

pub ranged : (p : Files) → pass_over p ≡ true → Ranged p
ranged p h = by_outcome p (look_over_answer p.model.now p.zones.now) refl h

-- so are the files of a check's origin
pub ranged_of : (o : Origin) (p : Files) → o.files.now ≡ p → Ranged p
ranged_of o p same = subst Ranged same (ranged o.files.now o.passed)
