use Rattle.std.proofs.Common.{sym}
use Rattle.std.proofs.lemmas.Bool.{true≢false}
use Rattle.bound.specs.Lifted.{none_not}
use Rattle.bound.proofs.limit.OptionBound.not_greater.Goals as goal

pub returns-in-None-Some : goal.returns-in-None-Some
returns-in-None-Some g c =
    let t = g.met.L.Limit in
    rw (c.in-None-Some.is-0, c.in-None-Some.is-1) (λ e. absurd (true≢false (sym e)), λ w. absurd (none_not g.L.Limit.admits g.L.Limit.allows t.some_scale t.some_refused _ w))

pub returns-in-Some-Some : goal.returns-in-Some-Some
returns-in-Some-Some g c = rw (c.in-Some-Some.is-0, c.in-Some-Some.is-1) c.not_greater.ensures
