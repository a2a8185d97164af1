use Rattle.std.proofs.Common.{w64, SFits, rules}
use Rattle.std.proofs.lemmas.Int.{to_z-of_z}
use Rattle.bound.specs.TickLaws.{decide}
use Rattle.bound.proofs.ticks.TickLimitLimit.not_greater.Goals as goal

pub returns : goal.returns
returns c =
    let p : SFits w64 c.args.self.number = search rules in
    let q : SFits w64 c.args.other.number = search rules in
    simp to_z-of_z (decide _ _)
