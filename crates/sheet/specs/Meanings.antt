-- When the checks of a list hold, and what it is that all hold. Assumes nothing.
use Rattle.std.specs.Prelude.{◌≡◌, ℕ, Bool, List, Some}
use Rattle.std.specs.List.{slice_get}
use Rattle.format.specs.Syntax.{Guarded, Command as CommandOf, Zone, Model}
use Rattle.checks.specs.Meanings.{HoldsStart, BadCheck, CoversTime, CoversCommand, Unstruck, SomeUnstruck}

module _ (admits : ℕ → Type 0) (m : Model) (l : List Zone) (struck : List Bool) where
  -- the list is closed zone by zone: every time check and every command check of its unstruck zones holds
  pub record Closed : Type 0 where
    pub time : (n : ℕ) (z : Zone) → Unstruck struck l n z → SomeUnstruck (CoversTime admits m z) struck l
    pub command : (n k : ℕ) (z : Zone) (c : CommandOf) → Unstruck struck l n z → slice_get m.commands k ≡ Some c → SomeUnstruck (CoversCommand admits m z c) struck l

  -- the start check holds, every bad check of an unstruck zone holds, and the list is closed zone by zone
  pub record AllHold : Type 0 where
    pub start : SomeUnstruck (HoldsStart admits m) struck l
    pub bads : (n k : ℕ) (z : Zone) (g : Guarded) → Unstruck struck l n z → slice_get m.bads k ≡ Some g → BadCheck admits m z g
    pub closed : Closed
