use Rattle.bound.specs.Time.{Same}
use Rattle.model.specs.Steps.{Urgent}
use Rattle.model.specs.Files.{commands_left}
use Rattle.checks.proofs.time.is_urgent.Given as goal

abbrev pub invariant-loop-command : goal.invariant-loop-command
invariant-loop-command l = Same (Urgent (commands_left l.fn.commands) l.booleans) (Urgent (commands_left l.command-iterator) l.booleans)
