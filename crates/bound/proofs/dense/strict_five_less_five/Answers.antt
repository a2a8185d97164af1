use Rattle.std.proofs.Common.{true, false, pos, negsuc}
use Rattle.bound.specs.DenseLaws.{sum_of_made, not_below_zero, below_sum, below_none}
use Rattle.bound.proofs.dense.strict_five_less_five.Goals as goal

-- negsuc 4 is -5
pub returns : goal.returns
returns c = record {
  zero = λ k ok h. not_below_zero k (sum_of_made c.make-below.result c.make-at_most.result c.sum.result (pos 5) (negsuc 4) true false c.make-below.ensures.meaning c.make-at_most.ensures.meaning c.sum.ensures.meaning k (pos 0) ok h);
  below = λ k v ok h. below_sum c.make-below.result c.make-at_most.result c.sum.result (pos 5) (negsuc 4) true false c.make-below.ensures.meaning c.make-at_most.ensures.meaning c.sum.ensures.meaning k v ok (below_none k v h);
}
