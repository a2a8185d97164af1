-- Where all checks hold, no run ever stands in a bad state. Assumes nothing.
use Rattle.std.proofs.Common.{ℕ, Bool, List}
use Rattle.format.specs.Syntax.{Zone, Model}
use Rattle.model.specs.States.{State, LiesIn}
use Rattle.model.specs.Steps.{Stands, Bad}
use Rattle.model.specs.Steps.Stands.{at_start, fired, delayed}
use Rattle.checks.specs.Meanings.{SomeUnstruck}
use Rattle.sheet.specs.Meanings.{AllHold}

module _ (admits : ℕ → Type 0) (m : Model) (l : List Zone) (struck : List Bool) (all : AllHold admits m l struck) (K : ℕ) (ok : admits K) where
  -- a run stands in an unstruck zone
  pub inside : (s : State) → Stands K m s → SomeUnstruck (LiesIn K s) struck l
  inside s at_start = let y = all.start in record { number = y.number; zone = y.zone; is_unstruck = y.is_unstruck; has = y.has K ok }
  inside s (fired r n c stands listed fires) =
      let z = inside r stands in
      let y = all.closed.command z.number n z.zone c z.is_unstruck listed in
      record { number = y.number; zone = y.zone; is_unstruck = y.is_unstruck; has = y.has K r ok z.has fires }
  inside s (delayed r δ stands delays) =
      let z = inside r stands in
      let y = all.closed.time z.number z.zone z.is_unstruck in
      record { number = y.number; zone = y.zone; is_unstruck = y.is_unstruck; has = y.has K r δ ok z.has delays }

  pub never_bad : (s : State) → Stands K m s → Bad K m s → ⊥
  never_bad s stands bad = let z = inside s stands in all.bads z.number bad.number z.zone bad.bad z.is_unstruck bad.in_model K s ok z.has bad.meets
