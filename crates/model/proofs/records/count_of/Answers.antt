use Rattle.std.proofs.Common.{inl, refl, arith}
use Rattle.format.specs.Kinds.{code}
use Rattle.model.proofs.Kept.{few}
use Rattle.model.proofs.records.count_of.Goals as goal

pub count-requires-clause-fits : goal.count-requires-clause-fits
count-requires-clause-fits g c = inl (omega (arith, few g.R.Record.said_by (code c.args.records.kind.kind) c.args.records.bytes.now refl))
