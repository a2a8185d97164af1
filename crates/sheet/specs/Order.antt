-- The checks of a list in order, and how many they are. Assumes nothing.
use Rattle.std.specs.Prelude.{ℕ, zero, suc, ◌+◌, ◌*◌, Bool, false, cond, List, [], ◌∷◌, ◌++◌, map, slice_index_or}
use Rattle.checks.specs.declared.check.Check.{Check}
use Rattle.checks.specs.declared.check.Check.TheVariants.{Start, Bad, Time, Command}

-- so many numbers, from k on
unfoldable pub counting : ℕ → ℕ → List ℕ
counting k zero = []
counting k (suc n) = k ∷ counting (suc k) n

module _ (bads commands : ℕ) where
  -- a zone's bad checks, its time check and its command checks, each in model order
  unfoldable pub checks_of : ℕ → List Check
  checks_of n = map (Bad n) (counting 0 bads) ++ (Time n ∷ map (Command n) (counting 0 commands))

  module _ (struck : List Bool) where
    -- those of the unstruck zones among so many, from zone n on
    unfoldable pub checks_from : ℕ → ℕ → List Check
    checks_from n zero = []
    checks_from n (suc more) = cond (slice_index_or struck n false) (checks_from (suc n) more) (checks_of n ++ checks_from (suc n) more)

    -- the start check, then for each unstruck zone in list order its checks
    abbrev pub order : ℕ → List Check
    order zones = Start ∷ checks_from 0 zones

-- how many of so many zones from zone n on are not struck
unfoldable pub unstruck_from : List Bool → ℕ → ℕ → ℕ
unstruck_from struck n zero = 0
unstruck_from struck n (suc more) = cond (slice_index_or struck n false) (unstruck_from struck (suc n) more) (suc (unstruck_from struck (suc n) more))

-- how many checks there are
abbrev pub total : ℕ → ℕ → List Bool → ℕ → ℕ
total bads commands struck zones = 1 + unstruck_from struck 0 zones * (bads + 1 + commands)
