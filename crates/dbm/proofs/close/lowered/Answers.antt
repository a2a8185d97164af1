use Rattle.std.proofs.Common.{sym, ◌∙◌, inr, ⊎_elim, arith}
use Rattle.std.proofs.lemmas.Bool.{true≢false}
use Rattle.dbm.proofs.close.lowered.Goals as goal

pub returns-else-not_greater : goal.returns-else-not_greater
returns-else-not_greater g c =
    let sum = c.sum-sum.ensures in
    ⊎_elim
    (λ within. absurd (true≢false (sym (c.not_greater.ensures.1 within) ∙ c.if-not_greater.false)))
    (λ smaller. record {
      smaller = smaller;
      by_way = λ k v ok h. (sum.meaning k v ok).0 h;
      either = inr (λ k v ok h. (sum.meaning k v ok).1 h);
      small = λ most a b. omega (arith, sum.small);
    })
    (g.met.B.Bound.total c.args.old c.sum-sum.result)
