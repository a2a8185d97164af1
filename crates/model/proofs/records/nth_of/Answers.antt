use Rattle.std.proofs.Common.{refl}
use Rattle.model.specs.Files.{left}
use Rattle.model.proofs.Giving.{nth_is}
use Rattle.model.proofs.records.nth_of.Goals as goal

pub returns : goal.returns
returns g c = nth_is g.R.Record.says (left g.R.Record.said_by) c.args.n c.nth.result c.nth.new.self c.nth.ensures.ran refl
