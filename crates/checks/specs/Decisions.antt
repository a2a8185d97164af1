-- The checks of a list by number: what each means, when it is refused, and what it answers. Assumes nothing.
use Rattle.std.specs.Prelude.{◌≡◌, ℕ, Bool, true, false, List, ◌++◌, Some, None, Option, codes, decimal}
use Rattle.std.specs.List.{slice_get}
use Rattle.format.specs.Syntax.{Guarded, Command as CommandOf, Zone, Model}
use Rattle.model.specs.Files.{model_in}
use Rattle.model.specs.declared.files.Files.{Files}
use Rattle.checks.specs.Meanings.{HoldsStart, BadCheck, CoversTime, CoversCommand, SomeUnstruck, Names}
use Rattle.checks.specs.Calls.{refused_start, refused_zone, refused_record}
use Rattle.checks.specs.declared.calls.Refusal.{Refusal}
use Rattle.checks.specs.declared.calls.Refusal.TheVariants.{NotPassed, ShortArea, NoSuchZone, NoSuchRecord}
use Rattle.checks.specs.declared.check.Check.{Check}
use Rattle.checks.specs.declared.check.Check.TheVariants.{Start, Bad, Time, Command}
use Rattle.checks.specs.declared.check.Settled.{Settled}
use Rattle.checks.specs.declared.check.Settled.TheVariants.{Holds as Held, Fails}

-- start, or the zone and bad or command with its number, or time
abbrev pub check_printed : Check → List ℕ
check_printed Start = codes "start"
check_printed (Bad z b) = codes "zone " ++ (decimal z ++ (codes " bad " ++ decimal b))
check_printed (Time z) = codes "zone " ++ (decimal z ++ codes " time")
check_printed (Command z c) = codes "zone " ++ (decimal z ++ (codes " command " ++ decimal c))

-- why a check is not made
abbrev pub refusal_printed : Refusal → List ℕ
refusal_printed NotPassed = codes "not passed"
refusal_printed ShortArea = codes "short area"
refusal_printed NoSuchZone = codes "no such zone"
refusal_printed NoSuchRecord = codes "no such record"

-- a zone that was found, or none, as the answer of a check
abbrev pub settled_by_zone : Option ℕ → Settled
settled_by_zone (Some n) = Held (Some n)
settled_by_zone None = Fails

abbrev pub by_answer : Bool → Settled
by_answer true = Held None
by_answer false = Fails

-- a check in an area of so many bounds; the start check takes none
abbrev pub refused_check : Files → ℕ → Check → Option Refusal
refused_check p area Start = refused_start p
refused_check p area (Bad n k) = refused_record p area n (model_in p).bads k
refused_check p area (Time n) = refused_zone p area n
refused_check p area (Command n k) = refused_record p area n (model_in p).commands k

module _ (admits : ℕ → Type 0) (m : Model) (l : List Zone) (struck : List Bool) where
  -- what it means that a check holds
  abbrev pub Holds : Check → Type 0
  Holds Start = SomeUnstruck (HoldsStart admits m) struck l
  Holds (Bad n k) = (z : Zone) (g : Guarded) → slice_get l n ≡ Some z → slice_get m.bads k ≡ Some g → BadCheck admits m z g
  Holds (Time n) = (z : Zone) → slice_get l n ≡ Some z → SomeUnstruck (CoversTime admits m z) struck l
  Holds (Command n k) = (z : Zone) (c : CommandOf) → slice_get l n ≡ Some z → slice_get m.commands k ≡ Some c → SomeUnstruck (CoversCommand admits m z c) struck l

  -- the zone that the answer names: the lowest numbered unstruck one that holds the start, or what is reached; none for a bad check
  abbrev pub ZoneNamed : Check → Option ℕ → Type 0
  ZoneNamed Start zone = Names (HoldsStart admits m) struck l zone
  ZoneNamed (Bad n k) zone = zone ≡ None
  ZoneNamed (Time n) zone = (z : Zone) → slice_get l n ≡ Some z → Names (CoversTime admits m z) struck l zone
  ZoneNamed (Command n k) zone = (z : Zone) (c : CommandOf) → slice_get l n ≡ Some z → slice_get m.commands k ≡ Some c → Names (CoversCommand admits m z c) struck l zone

  -- holds exactly when the check's meaning is true, fails exactly when it is false
  abbrev pub Decided : Check → Settled → Type 0
  Decided c (Held zone) = Holds c × ZoneNamed c zone
  Decided c Fails = Holds c → ⊥
