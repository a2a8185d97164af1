-- The counts of files. Assumes nothing.
use Rattle.std.specs.Prelude.{◌≡◌, true, length}
use Rattle.model.specs.Files.{model_in, zones_in}
use Rattle.model.specs.declared.files.Files.{Files}
use Rattle.checks.specs.Passed.{pass_over}
use Rattle.sheet.specs.declared.next.Counts.{Counts}

-- those of files that passed
pub record CountsOf (p : Files) (k : Counts) : Type 0 where
  pub passed : pass_over p ≡ true
  pub bads : k.bads ≡ length (model_in p).bads
  pub commands : k.commands ≡ length (model_in p).commands
  pub zones : k.zones ≡ length (zones_in p)
