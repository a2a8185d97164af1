-- What the checks ask of their files. Assumes nothing.
use Rattle.std.specs.Prelude.{Bool}
use Rattle.std.proofs.Props.{props}
use Rattle.std.specs.List.{AllByRecursion-prop}
use Rattle.format.specs.LookOver.{look_over_answer}
use Rattle.format.specs.Syntax.{Atom, Zone}
use Rattle.format.specs.Ranges.{AtomFits, ModelFits, ZoneFits, ZonesFit, head_of_model}
use Rattle.model.specs.Passing.{passes}
use Rattle.format.specs.Places.{Head}
use Rattle.model.specs.Files.{model_in, zones_in}
use Rattle.model.specs.declared.files.Files.{Files}

-- the look-over passes the two files
abbrev pub pass_over : Files → Bool
pass_over p = passes (look_over_answer p.model.now p.zones.now)

-- how many Booleans and clocks there are
abbrev pub head_in : Files → Head
head_in p = head_of_model (model_in p)

-- all that the files name is in its range
pub record Ranged (p : Files) : Type 0 where
  pub model : ModelFits (model_in p)
  pub zones : ZonesFit (head_in p) (zones_in p)

-- what a zone names is in its range: a fact with at most one proof
atom_fits_prop : (h : Head) (a : Atom) → IsProp (AtomFits h a)
atom_fits_prop h a = Prim.hlevel props

pub zone_fits_prop : (h : Head) (z : Zone) → IsProp (ZoneFits h z)
zone_fits_prop h z = Prim.hlevel (AllByRecursion-prop (AtomFits h) (atom_fits_prop h) z.atoms, props)
