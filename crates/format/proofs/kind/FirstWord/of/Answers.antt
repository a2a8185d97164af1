use Rattle.format.proofs.NoKind.{none_starts}
use Rattle.format.proofs.kind.FirstWord.of.Goals as goal

pub returns-in_err-of : goal.returns-in_err-of
returns-in_err-of c = rw c.from_residual.ensures (none_starts c.args.word c.in_err-of.ensures)
