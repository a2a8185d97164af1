use Rattle.std.proofs.Common.{length}
use Rattle.checks.proofs.Deciding.{decided_time, decided_command}
use Rattle.checks.proofs.calls.decide.Goals as goal

pub returns-in_ok-time_check-in-Time : goal.returns-in_ok-time_check-in-Time
returns-in_ok-time_check-in-Time g c =
    rw (c.in-Time.is, c.into-in-Time.ensures) (decided_time g.B.Bound.admits c.args.files.now c.args.struck.now (length c.args.area.now) c.in-Time.zone c.in_ok-time_check-in-Time.field-0 c.in_ok-time_check-in-Time.ensures.0 c.in_ok-time_check-in-Time.ensures.1)

pub returns-in_ok-command_check-in-Command : goal.returns-in_ok-command_check-in-Command
returns-in_ok-command_check-in-Command g c =
    rw (c.in-Command.is, c.into-in-Command.ensures) (decided_command g.B.Bound.admits c.args.files.now c.args.struck.now (length c.args.area.now) c.in-Command.zone c.in-Command.command c.in_ok-command_check-in-Command.field-0 c.in_ok-command_check-in-Command.ensures.0 c.in_ok-command_check-in-Command.ensures.1)
