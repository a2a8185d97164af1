use Rattle.std.proofs.Common.{◌≡◌, List, ℕ, IfOk, Ok, Err, Result, sym, ◌∙◌}
use Rattle.format.specs.Faults.{counts, outcome}
use Rattle.format.specs.LookOver.{look_over_answer}
use Rattle.format.specs.Ranges.{PassedFiles}
use Rattle.format.specs.declared.fault.Fault.{Fault}
use Rattle.format.specs.declared.look.Summary.{Summary}
use Rattle.format.proofs.Files.{model_passes, model_read, model_faulty, outcome_fault, list_told}
use Rattle.format.proofs.Within.{ranges_stand}
use Rattle.format.proofs.look.look_over.Goals as goal

pub returns-in_err-tally-clause-answer : goal.returns-in_err-tally-clause-answer
returns-in_err-tally-clause-answer c =
    outcome_fault c.from_residual.result _ c.from_residual.ensures.1
    ∙ model_faulty c.args.model.now c.args.zones.now c.look_file.result c.map_err.result _ c.look_file.ensures c.map_err.ensures.cases c.in_err-tally.was

within_answer : (ms zs : List ℕ) (r : Result Summary Fault) → outcome r ≡ look_over_answer ms zs → IfOk r (λ s. PassedFiles ms zs (counts s))
within_answer ms zs (Ok s) e = ranges_stand ms zs (counts s) (sym e)
within_answer ms zs (Err f) e = tt

pub returns : goal.returns
returns c =
    let read = model_read c.look_file.result c.map_err.result _ _ c.look_file.ensures c.map_err.ensures.cases c.in_ok-tally.was in
    let answer = list_told c.look_list.result c.map_err-2.result _ c.look_list.ensures c.map_err-2.ensures.cases ∙ sym (model_passes c.args.model.now c.args.zones.now _ _ _ read c.in-Some.ensures) in
    record { answer = answer; within = within_answer c.args.model.now c.args.zones.now c.map_err-2.result answer }
