use Rattle.std.proofs.Common.{w64, SFits, ◌+ℤ◌, rules}
use Rattle.std.proofs.lemmas.Int.{to_z-of_z}
use Rattle.bound.specs.TickLaws.{sum_is, sum_tells}
use Rattle.bound.proofs.ticks.TickLimitLimit.sum.Goals as goal

pub returns-clause-meaning : goal.returns-clause-meaning
returns-clause-meaning c k v ok =
    let p : SFits w64 c.args.self.number = search rules in
    let q : SFits w64 c.args.other.number = search rules in
    let r : SFits w64 (c.args.self.number +ℤ c.args.other.number) = search rules in
    simp to_z-of_z (sum_is _ _ k v ok, sum_tells _ _ k v ok)
