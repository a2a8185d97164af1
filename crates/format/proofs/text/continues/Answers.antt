use Rattle.std.proofs.Common.{sym}
use Rattle.format.proofs.NoKind.{none_continues}
use Rattle.format.proofs.text.continues.Goals as goal

pub returns-in_default-2 : goal.returns-in_default-2
returns-in_default-2 c = sym (none_continues c.args.word (rw c.in_default.is at c.of.ensures))
