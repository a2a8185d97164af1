-- The printed line of a program that settles the checks of a list. Assumes nothing.
use Rattle.std.specs.Prelude.{ℕ, List, ◌++◌, codes, decimal}
use Rattle.format.specs.Faults.{told}
use Rattle.checks.specs.Decisions.{check_printed}
use Rattle.report.specs.Line.{printed}
use Rattle.ended.specs.declared.Ended.{Ended}
use Rattle.ended.specs.declared.Ended.TheVariants.{Accepted, Failing, Unfinished, Refused}

abbrev pub ended : Ended → List ℕ
ended (Accepted n) = codes "accepted " ++ decimal n
ended (Failing n c) = codes "failing " ++ (decimal n ++ (codes " " ++ check_printed c))
ended (Unfinished n) = codes "unfinished " ++ decimal n
ended (Refused f) = printed (told f)
