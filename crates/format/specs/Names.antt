-- How the two files are called. Assumes nothing.
use Rattle.std.specs.Prelude.{ℕ, List, codes}
use Rattle.format.specs.Places.{File}
use Rattle.format.specs.Places.File.{model, zones}

abbrev pub file_name : File → List ℕ
file_name model = codes "model"
file_name zones = codes "list"
