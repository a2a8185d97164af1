-- From the answers of a time check and a command check to what a check by number answers. Assumes nothing.
use Rattle.std.proofs.Common.{◌≡◌, ℕ, Bool, List, Some, None, Option, refl, arith}
use Rattle.std.specs.List.{slice_get}
use Rattle.format.specs.Syntax.{Zone}
use Rattle.model.specs.Files.{model_in, zones_in}
use Rattle.model.specs.declared.files.Files.{Files}
use Rattle.checks.specs.Calls.{missing, or_else, refused_zone, refused_record, TimeAnswer, CommandAnswer}
use Rattle.checks.specs.Decisions.{Decided, settled_by_zone, refused_check}
use Rattle.checks.specs.declared.calls.Refusal.{Refusal}
use Rattle.checks.specs.declared.check.Check.{Check}
use Rattle.checks.specs.declared.check.Check.TheVariants.{Time, Command}
use Rattle.checks.specs.declared.check.Settled.{Settled}

-- where two refusals are both none, so is the second
pub second_none : (o more : Option Refusal) → or_else o more ≡ None → more ≡ None
second_none None more e = e
second_none (Some f) more e = cc

pub first_none : (o more : Option Refusal) → or_else o more ≡ None → o ≡ None
first_none None more e = refl
first_none (Some f) more e = cc

-- what is not missing is there
pub not_missing : {X : Type 0} (o : Option X) (f : Refusal) → missing o f ≡ None → (x : X) × (o ≡ Some x)
not_missing (Some x) f e = (x, refl)
not_missing None f e = let z : ◌≡◌ {A = ℕ} 0 1 = cc in absurd (omega arith)

module _ (p : Files) (area n : ℕ) where
  pub zone_there : refused_zone p area n ≡ None → (z : Zone) × (slice_get (zones_in p) n ≡ Some z)
  zone_there e = not_missing _ _ (second_none _ _ (second_none _ _ e))

  pub record_there : {X : Type 0} (l : List X) (k : ℕ) → refused_record p area n l k ≡ None → (x : X) × (slice_get l k ≡ Some x)
  record_there l k e = not_missing _ _ (second_none _ _ e)

module _ (admits : ℕ → Type 0) (p : Files) (struck : List Bool) (area n : ℕ) where
  -- that a check was not refused, and what it answered
  abbrev pub Answers : Check → Settled → Type 0
  Answers c answer = (refused_check p area c ≡ None) × Decided admits (model_in p) (zones_in p) struck c answer

  pub decided_time : (zone : Option ℕ) → refused_zone p area n ≡ None → TimeAnswer admits p struck n zone → Answers (Time n) (settled_by_zone zone)
  decided_time (Some k) made names = (made, (λ y e. let found = names y e in record { number = k; zone = found.zone; is_unstruck = found.is_unstruck; has = found.has }, names))
  decided_time None made names = let z = zone_there p area n made in (made, λ h. let y = h z.0 z.1 in names z.0 z.1 y.number y.zone y.is_unstruck y.has)

  pub decided_command : (k : ℕ) (zone : Option ℕ) → refused_record p area n (model_in p).commands k ≡ None → CommandAnswer admits p struck n k zone → Answers (Command n k) (settled_by_zone zone)
  decided_command k (Some i) made names = (made, (λ y d e f. let found = names y d e f in record { number = i; zone = found.zone; is_unstruck = found.is_unstruck; has = found.has }, names))
  decided_command k None made names =
      let z = zone_there p area n (first_none _ _ made) in
      let c = record_there p area n (model_in p).commands k made in
      (made, λ h. let y = h z.0 c.0 z.1 c.1 in names z.0 c.0 z.1 c.1 y.number y.zone y.is_unstruck y.has)
