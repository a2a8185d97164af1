-- What the four checks mean, over the states of a model at every scale that a kind of time admits. Assumes nothing.
use Rattle.std.specs.Prelude.{◌≡◌, ℕ, ◌<◌, Bool, false, List, Some, None, Option, slice_index_or}
use Rattle.std.specs.List.{slice_get}
use Rattle.format.specs.Syntax.{Guarded, Command, Zone, Model}
use Rattle.model.specs.States.{State, start_state, LiesIn, Meets}
use Rattle.model.specs.Steps.{Fires, after_command, Delays, later}

module _ (admits : ℕ → Type 0) (m : Model) where
  -- the zone holds the start
  abbrev pub HoldsStart : Zone → Type 0
  HoldsStart y = (K : ℕ) → admits K → LiesIn K (start_state m) y

  -- the bad check of a zone and a bad record: no state of the zone meets the record
  abbrev pub BadCheck : Zone → Guarded → Type 0
  BadCheck z g = (K : ℕ) (s : State) → admits K → LiesIn K s z → Meets K s g → ⊥

  -- the zone y holds every state that a timed step reaches from the zone z
  abbrev pub CoversTime : Zone → Zone → Type 0
  CoversTime z y = (K : ℕ) (s : State) (δ : ℕ) → admits K → LiesIn K s z → Delays K m δ s → LiesIn K (later δ s) y

  -- the zone y holds every state that the command reaches from the zone z
  abbrev pub CoversCommand : Zone → Command → Zone → Type 0
  CoversCommand z c y = (K : ℕ) (s : State) → admits K → LiesIn K s z → Fires K m c s → LiesIn K (after_command K c s) y

-- zone n of the list is y, and it is not struck
pub record Unstruck (struck : List Bool) (l : List Zone) (n : ℕ) (y : Zone) : Type 0 where
  pub listed : slice_get l n ≡ Some y
  pub unstruck : slice_index_or struck n false ≡ false

-- some unstruck zone has P
pub record SomeUnstruck (P : Zone → Type 0) (struck : List Bool) (l : List Zone) : Type 0 where
  pub number : ℕ
  pub zone : Zone
  pub is_unstruck : Unstruck struck l number zone
  pub has : P zone

-- n is the lowest number of an unstruck zone with P
pub record Lowest (P : Zone → Type 0) (struck : List Bool) (l : List Zone) (n : ℕ) : Type 0 where
  pub zone : Zone
  pub is_unstruck : Unstruck struck l n zone
  pub has : P zone
  pub no_lower : (i : ℕ) (y : Zone) → i < n → Unstruck struck l i y → P y → ⊥

-- The answer names the lowest numbered unstruck zone with P, or no zone, and then no unstruck zone has P.
abbrev pub Names : (Zone → Type 0) → List Bool → List Zone → Option ℕ → Type 0
Names P struck l (Some n) = Lowest P struck l n
Names P struck l None = (i : ℕ) (y : Zone) → Unstruck struck l i y → P y → ⊥
