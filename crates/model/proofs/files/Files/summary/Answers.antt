use Rattle.model.proofs.Answered.{within}
use Rattle.model.proofs.files.Files.summary.Goals as goal

pub returns-clause-within : goal.returns-clause-within
returns-clause-within c = within c.args.self.now.model.now c.args.self.now.zones.now c.args.self.now.answer c.args.self.now.told
