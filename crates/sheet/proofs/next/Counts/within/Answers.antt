use Rattle.std.proofs.Common.{arith}
use Rattle.sheet.proofs.Nexts.{of_bad, of_time, of_command}
use Rattle.sheet.proofs.next.Counts.within.Goals as goal

pub returns-then-place-self : goal.returns-then-place-self
returns-then-place-self c = of_bad c.args.self.bads c.args.self.commands c.args.zone c.args.place (omega arith)

pub returns-then-place-self-2 : goal.returns-then-place-self-2
returns-then-place-self-2 c = of_time c.args.self.bads c.args.self.commands c.args.zone c.args.place (omega arith)

pub returns-else-place-self-2 : goal.returns-else-place-self-2
returns-else-place-self-2 c = of_command c.args.self.bads c.args.self.commands c.args.zone c.args.place (omega arith) (omega arith)
