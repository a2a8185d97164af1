use Rattle.std.proofs.Common.{Bool, true, false, ◌||◌, ℕ, ℤ, ◌+ℤ◌, w64, SFits, of_z, to_z, rules}
use Rattle.std.proofs.lemmas.Int.{to_z-of_z}
use Rattle.bound.specs.Time.{Made, Same, Splits}
use Rattle.bound.specs.DenseLaws.{every, sum_is, sum_tells}
use Rattle.bound.proofs.dense.DenseLimitLimit.sum.Goals as goal

sum_of_numbers : (a b : ℤ) (s r : Bool) → SFits w64 a → SFits w64 b → SFits w64 (a +ℤ b) → (k : ℕ) (v : ℤ) → every k → Same (Made (to_z w64 (of_z w64 (to_z w64 (of_z w64 a) +ℤ to_z w64 (of_z w64 b)))) (s || r) k v) (Splits every (Made a s) (Made b r) k v)
sum_of_numbers a b s r p q both k v ok = simp to_z-of_z (sum_is a b s r k v ok, sum_tells a b s r k v)

pub returns-in-Below-Below-clause-meaning : goal.returns-in-Below-Below-clause-meaning
returns-in-Below-Below-clause-meaning c = rw (c.in-Below-Below.is-0, c.in-Below-Below.is-1) (sum_of_numbers c.in-Below-Below.a c.in-Below-Below.b true true (search rules) (search rules) (search rules))

pub returns-in-Below-AtMost-clause-meaning : goal.returns-in-Below-AtMost-clause-meaning
returns-in-Below-AtMost-clause-meaning c = rw (c.in-Below-AtMost.is-0, c.in-Below-AtMost.is-1) (sum_of_numbers c.in-Below-AtMost.a c.in-Below-AtMost.b true false (search rules) (search rules) (search rules))

pub returns-in-AtMost-Below-clause-meaning : goal.returns-in-AtMost-Below-clause-meaning
returns-in-AtMost-Below-clause-meaning c = rw (c.in-AtMost-Below.is-0, c.in-AtMost-Below.is-1) (sum_of_numbers c.in-AtMost-Below.a c.in-AtMost-Below.b false true (search rules) (search rules) (search rules))

pub returns-in-AtMost-AtMost-clause-meaning : goal.returns-in-AtMost-AtMost-clause-meaning
returns-in-AtMost-AtMost-clause-meaning c = rw (c.in-AtMost-AtMost.is-0, c.in-AtMost-AtMost.is-1) (sum_of_numbers c.in-AtMost-AtMost.a c.in-AtMost-AtMost.b false false (search rules) (search rules) (search rules))
