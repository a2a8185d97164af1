-- What is known of files by the look-over's answer. Assumes nothing.
use Rattle.std.proofs.Common.{◌≡◌, ℕ, List, Ok, Err, Result, IfOk, sym}
use Rattle.format.specs.LookOver.{look_over_answer}
use Rattle.format.specs.Faults.{outcome, counts}
use Rattle.format.specs.Ranges.{PassedFiles}
use Rattle.format.specs.declared.look.Summary.{Summary}
use Rattle.format.specs.declared.fault.Fault.{Fault}
use Rattle.format.proofs.Within.{ranges_stand}

pub within : (ms zs : List ℕ) (r : Result Summary Fault) → outcome r ≡ look_over_answer ms zs → IfOk r (λ s. PassedFiles ms zs (counts s))
within ms zs (Ok s) e = ranges_stand ms zs (counts s) (sym e)
within ms zs (Err f) e = tt
