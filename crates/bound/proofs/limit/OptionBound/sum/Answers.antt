use Rattle.std.proofs.Common.{rules, ◌≡◌, None}
use Rattle.bound.specs.Lifted.{none_first, none_second}
use Rattle.bound.proofs.limit.OptionBound.sum.Goals as goal

pub returns-in_err-a-clause-meaning : goal.returns-in_err-a-clause-meaning
returns-in_err-a-clause-meaning g c k v ok =
    let e : c.args.self ≡ None = search rules in
    let f : c.from_residual.result ≡ None = search rules in
    rw (e, f) (λ _. none_first g.L.Limit.admits g.L.Limit.allows g.met.L.Limit.some_allowed _ k v ok, λ _. tt)

pub returns-in_err-b-clause-meaning : goal.returns-in_err-b-clause-meaning
returns-in_err-b-clause-meaning g c k v ok =
    let e : c.args.other ≡ None = search rules in
    let f : c.from_residual-in_err-b.result ≡ None = search rules in
    rw (e, f) (λ _. none_second g.L.Limit.admits g.L.Limit.allows g.met.L.Limit.some_allowed _ k v ok, λ _. tt)
