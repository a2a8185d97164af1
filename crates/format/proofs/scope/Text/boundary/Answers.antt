use Rattle.format.proofs.Learned.{no_boundary, at_boundary}
use Rattle.format.proofs.scope.Text.boundary.Goals as goal

pub returns-then-is_some_and : goal.returns-then-is_some_and
returns-then-is_some_and c = no_boundary c.args.self.now c.word_at.result c.is_some_and.result c.word_at.ensures c.is_some_and.ensures c.if-is_some_and.true

pub returns : goal.returns
returns c = at_boundary c.args.self.now c.word_at.result c.is_some_and.result c.word_at.ensures c.is_some_and.ensures c.if-is_some_and.false
