-- The numbers of refusals, and a verdict as it is printed. Assumes nothing.
use Rattle.std.specs.Prelude.{ℕ, List, ◌++◌, codes, decimal}
use Rattle.sheet.specs.declared.answers.Verdict.{Verdict}
use Rattle.sheet.specs.declared.answers.Verdict.TheVariants.{Accepted, Failing, Unfinished}
use Rattle.sheet.specs.declared.answers.Refused.{Refused}
use Rattle.sheet.specs.declared.answers.Refused.TheVariants.{Void, ShortArea, NothingLeft, NoSuchZone, AlreadySo}

-- the number of each refusal
abbrev pub number_of : Refused → ℕ
number_of Void = 13
number_of ShortArea = 14
number_of NothingLeft = 15
number_of NoSuchZone = 16
number_of AlreadySo = 17

abbrev pub verdict_printed : Verdict → List ℕ
verdict_printed (Accepted n) = codes "accepted " ++ decimal n
verdict_printed (Failing n) = codes "failing " ++ decimal n
verdict_printed (Unfinished n) = codes "unfinished " ++ decimal n
