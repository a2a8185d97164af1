-- When a check is refused, and what it answers otherwise. Assumes nothing.
use Rattle.std.specs.Prelude.{◌≡◌, ℕ, ◌≤◌, Bool, cond, List, Some, None, Decides, Option, nat_le}
use Rattle.std.specs.List.{slice_get}
use Rattle.format.specs.Syntax.{Guarded, Command, Zone}
use Rattle.model.specs.Views.{zone_in}
use Rattle.model.specs.Files.{model_in, zones_in}
use Rattle.model.specs.declared.files.Files.{Files}
use Rattle.checks.specs.Passed.{pass_over}
use Rattle.checks.specs.Meanings.{HoldsStart, BadCheck, CoversTime, CoversCommand, Names}
use Rattle.checks.specs.declared.origin.Origin.{Origin}
use Rattle.checks.specs.declared.calls.Refusal.{Refusal}
use Rattle.checks.specs.declared.calls.Refusal.TheVariants.{NotPassed, ShortArea, NoSuchZone, NoSuchRecord}

-- there is none, and that is refused
abbrev pub missing : {X : Type 0} → Option X → Refusal → Option Refusal
missing (Some x) f = None
missing None f = Some f

-- the first of two refusals, or none
abbrev pub or_else : Option Refusal → Option Refusal → Option Refusal
or_else (Some f) more = Some f
or_else None more = more

-- the start check
abbrev pub refused_start : Files → Option Refusal
refused_start p = cond (pass_over p) None (Some NotPassed)

-- a check of zone n in an area of so many bounds
abbrev pub refused_zone : Files → ℕ → ℕ → Option Refusal
refused_zone p area n = or_else (refused_start p) (or_else (cond (nat_le 578 area) None (Some ShortArea)) (missing (slice_get (zones_in p) n) NoSuchZone))

-- a check of zone n and of the k-th of some records
abbrev pub refused_record : {X : Type 0} → Files → ℕ → ℕ → List X → ℕ → Option Refusal
refused_record p area n l k = or_else (refused_zone p area n) (missing (slice_get l k) NoSuchRecord)

-- ---- what a check answers that is not refused

module _ (admits : ℕ → Type 0) (p : Files) where
  -- yes exactly when no state of zone n meets bad record k
  abbrev pub BadAnswer : ℕ → ℕ → Bool → Type 0
  BadAnswer n k answer = (z : Zone) (g : Guarded) → slice_get (zones_in p) n ≡ Some z → slice_get (model_in p).bads k ≡ Some g → Decides answer (BadCheck admits (model_in p) z g)

  module _ (struck : List Bool) where
    -- the lowest numbered unstruck zone that holds the start
    abbrev pub StartAnswer : Option ℕ → Type 0
    StartAnswer answer = Names (HoldsStart admits (model_in p)) struck (zones_in p) answer

    -- the lowest numbered unstruck zone that holds all that a timed step reaches from zone n
    abbrev pub TimeAnswer : ℕ → Option ℕ → Type 0
    TimeAnswer n answer = (z : Zone) → slice_get (zones_in p) n ≡ Some z → Names (CoversTime admits (model_in p) z) struck (zones_in p) answer

    -- the lowest numbered unstruck zone that holds all that command k reaches from zone n
    abbrev pub CommandAnswer : ℕ → ℕ → Option ℕ → Type 0
    CommandAnswer n k answer = (z : Zone) (c : Command) → slice_get (zones_in p) n ≡ Some z → slice_get (model_in p).commands k ≡ Some c → Names (CoversCommand admits (model_in p) z c) struck (zones_in p) answer

-- a check of zone n in an area of so many bounds is not refused, and starts there
pub record Asked (p : Files) (area n : ℕ) (o : Origin) : Type 0 where
  pub unrefused : refused_zone p area n ≡ None
  pub enough : 578 ≤ area
  pub files : o.files.now ≡ p
  pub listed : slice_get (zones_in p) n ≡ Some (zone_in o.zone)
