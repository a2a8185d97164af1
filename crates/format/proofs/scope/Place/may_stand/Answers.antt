use Rattle.std.proofs.Common.{sym}
use Rattle.format.proofs.Firsts.{none_stands}
use Rattle.format.proofs.scope.Place.may_stand.Goals as goal

pub returns-in_default : goal.returns-in_default
returns-in_default c = sym (none_stands c.args.self.now c.args.last c.args.word c.in_default.ensures)
