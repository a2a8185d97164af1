use Rattle.std.proofs.Common.{◌<◌, arith, rules, tests}
use Rattle.table_cases.proofs.bounds.differences.Goals as goal

pub returns : goal.returns
returns c k d l =
    let within : k < 272 = omega (arith, l, c.from_fn.ensures.items.long) in
    let called = (c.from_fn.ensures.items.at k d within).2 in
    search (rules, tests)
