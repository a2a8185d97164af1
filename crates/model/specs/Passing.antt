-- Whether the look-over passes two files. Assumes nothing.
use Rattle.std.specs.Prelude.{Bool, true, false}
use Rattle.format.specs.LookOver.{Outcome}
use Rattle.format.specs.LookOver.Outcome.{pass, fault}

abbrev pub passes : Outcome → Bool
passes (pass c) = true
passes (fault n f p l) = false
