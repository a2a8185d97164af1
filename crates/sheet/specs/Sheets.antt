-- What a sheet holds. Assumes nothing.
use Rattle.std.specs.Prelude.{◌≡◌, ℕ, Bool, false, List, length, replicate, Option}
use Rattle.std.specs.List.{slice_get}
use Rattle.format.specs.Syntax.{Zone, Model}
use Rattle.model.specs.Files.{model_in, zones_in}
use Rattle.sheet.specs.Order.{order}
use Rattle.checks.specs.declared.check.Check.{Check}
use Rattle.sheet.specs.declared.sheet.Sheet.{Sheet}

-- the model and the zones of a sheet's files, and its marks
abbrev pub model_on : Sheet → Model
model_on s = model_in s.files

abbrev pub zones_on : Sheet → List Zone
zones_on s = zones_in s.files

abbrev pub struck_on : Sheet → List Bool
struck_on s = s.marks.struck

-- its checks in order, and the next one
abbrev pub checks_on : Sheet → List Check
checks_on s = order (length (model_on s).bads) (length (model_on s).commands) (struck_on s) (length (zones_on s))

abbrev pub next_on : Sheet → Option Check
next_on s = slice_get (checks_on s) s.count

-- both files are kept, nothing is struck, nothing is settled
pub record Opened (ms zs : List ℕ) (s : Sheet) : Type 0 where
  pub model : s.files.model.now ≡ ms
  pub zones : s.files.zones.now ≡ zs
  pub unstruck : struck_on s ≡ replicate 512 false
  pub count : s.count ≡ 0
  pub going : s.failing ≡ false
