-- The lowest numbered unstruck zone, by what a function answers of each. Assumes nothing.
use Rattle.std.specs.Prelude.{◌≡◌, ℕ, ◌<◌, Bool, true, false, List, Some, None, Option}
use Rattle.format.specs.Syntax.{Zone}
use Rattle.model.specs.Views.{zone_in}
use Rattle.model.specs.declared.views.Zone.{Zone as ZonePart}
use Rattle.checks.specs.Meanings.{Unstruck}

-- n is the lowest number of an unstruck zone of which it answers yes: of each unstruck one below it answered no
pub record LowestBy (says : ZonePart → Bool → Type 0) (struck : List Bool) (l : List Zone) (n : ℕ) : Type 0 where
  pub part : ZonePart
  pub is_unstruck : Unstruck struck l n (zone_in part)
  pub said_yes : says part true
  pub no_lower : (i : ℕ) (y : Zone) → i < n → Unstruck struck l i y → (p : ZonePart) × ((zone_in p ≡ y) × says p false)

-- The answer names that zone, or no zone, and then it answered no of each unstruck one.
abbrev pub NamesBy : (ZonePart → Bool → Type 0) → List Bool → List Zone → Option ℕ → Type 0
NamesBy says struck l (Some n) = LowestBy says struck l n
NamesBy says struck l None = (i : ℕ) (y : Zone) → Unstruck struck l i y → (p : ZonePart) × ((zone_in p ≡ y) × says p false)

pub record Found (says : ZonePart → Bool → Type 0) (struck : List Bool) (l : List Zone) (answer : Option ℕ) : Type 0 where
  pub names : NamesBy says struck l answer
