use Rattle.std.proofs.Common.{refl, arith}
use Rattle.format.proofs.Cuts.{length_words}
use Rattle.format.proofs.scope.Place.reader.Goals as goal

pub returns : goal.returns
returns c = record { whole = refl; next = omega (arith, length_words c.args.bytes.now, c.saturating_sub.ensures); same_scope = refl }
