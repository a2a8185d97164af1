-- What is known of a file that passed: the ranges of all that it names. Assumes nothing.
use Rattle.std.specs.Prelude.{◌≡◌, ℕ, ◌+◌, ◌*◌, ◌^◌, ◌<◌, ◌≤◌, true, List, [], length, pos, ◌≤ℤ◌, bit_and}
use Rattle.std.specs.List.{AllByRecursion}
use Rattle.format.specs.Words.{words}
use Rattle.format.specs.Places.{Head, least_number, greatest_number}
use Rattle.format.specs.LookOver.{Counts, look_over_answer}
use Rattle.format.specs.LookOver.Outcome.{pass}
use Rattle.format.specs.Syntax.{Atom, Condition, Reset, Guarded, Command, Zone, Model, model_of, zones_of}

module _ (h : Head) where
  -- clocks up to C, two different ones, and a number of at most a million either way
  pub record AtomFits (a : Atom) : Type 0 where
    pub i_known : a.i ≤ h.clocks
    pub j_known : a.j ≤ h.clocks
    pub apart : a.i ≡ a.j → ⊥
    pub low : least_number ≤ℤ a.d
    pub high : a.d ≤ℤ greatest_number

  pub record AtomsFit (l : List Atom) : Type 0 where
    pub each : AllByRecursion AtomFits l
    pub few : length l ≤ 64

  -- Booleans below B
  pub record ConditionFits (c : Condition) : Type 0 where
    pub ones_known : c.ones < 2 ^ h.booleans
    pub zeros_known : c.zeros < 2 ^ h.booleans

  pub record ResetFits (r : Reset) : Type 0 where
    pub a_clock : 1 ≤ r.clock
    pub known : r.clock ≤ h.clocks
    pub low : pos 0 ≤ℤ r.number
    pub high : r.number ≤ℤ greatest_number

  pub record GuardedFits (g : Guarded) : Type 0 where
    pub condition : ConditionFits g.condition
    pub atoms : AtomsFit g.atoms

  pub record CommandFits (c : Command) : Type 0 where
    pub condition : ConditionFits c.condition
    pub sets_known : c.sets < 2 ^ h.booleans
    pub clears_known : c.clears < 2 ^ h.booleans
    pub disjoint : bit_and c.clears c.sets ≡ 0
    pub resets : AllByRecursion ResetFits c.resets
    pub atoms : AtomsFit c.atoms
    pub urgent_without : c.urgent ≡ true → c.atoms ≡ []

  pub record ZoneFits (z : Zone) : Type 0 where
    pub known : z.booleans < 2 ^ h.booleans
    pub atoms : AtomsFit z.atoms

abbrev pub head_of_model : Model → Head
head_of_model m = record { booleans = m.booleans; clocks = m.clocks }

pub record ModelFits (m : Model) : Type 0 where
  pub few_booleans : m.booleans ≤ 24
  pub few_clocks : m.clocks ≤ 15
  pub start_known : m.start < 2 ^ m.booleans
  pub invariants : AllByRecursion (GuardedFits (head_of_model m)) m.invariants
  pub commands : AllByRecursion (CommandFits (head_of_model m)) m.commands
  pub bads : AllByRecursion (GuardedFits (head_of_model m)) m.bads
  pub few_invariants : length m.invariants ≤ 32
  pub few_commands : length m.commands ≤ 64
  pub few_bads : length m.bads ≤ 32

pub record ZonesFit (h : Head) (l : List Zone) : Type 0 where
  pub zones : AllByRecursion (ZoneFits h) l
  pub few_zones : length l ≤ 512

-- what was read is what the files say
pub record Read (m : Model) (l : List Zone) (c : Counts) : Type 0 where
  pub booleans : c.booleans ≡ m.booleans
  pub clocks : c.clocks ≡ m.clocks
  pub invariants : c.invariants ≡ length m.invariants
  pub commands : c.commands ≡ length m.commands
  pub bads : c.bads ≡ length m.bads
  pub zones : c.zones ≡ length l
  pub checks : c.checks ≡ 1 + length l * (length m.bads + 1 + length m.commands)

-- Of two files that passed: the model and the zones are within their ranges, and the counts are theirs.
pub record PassedFiles (ms zs : List ℕ) (c : Counts) : Type 0 where
  pub model : ModelFits (model_of (words ms))
  pub zones : ZonesFit (head_of_model (model_of (words ms))) (zones_of (words zs))
  pub counts : Read (model_of (words ms)) (zones_of (words zs)) c

abbrev pub RangesStand : Type 0
RangesStand = (ms zs : List ℕ) (c : Counts) → look_over_answer ms zs ≡ pass c → PassedFiles ms zs c
