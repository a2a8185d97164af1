use Rattle.std.proofs.Common.{Bool, true, false, ◌≡◌, ℤ, refl, Decides, int_le, w64, SFits, of_z, to_z, rules}
use Rattle.std.proofs.lemmas.Int.{to_z-of_z}
use Rattle.bound.specs.Time.{Within, Made}
use Rattle.bound.specs.DenseLaws.{every, decide}
use Rattle.bound.proofs.dense.DenseLimitLimit.not_greater.Goals as goal

by_numbers : (a b : ℤ) (s r : Bool) → ((r ≡ true) → s ≡ true) → SFits w64 a → SFits w64 b → Decides (int_le (to_z w64 (of_z w64 a)) (to_z w64 (of_z w64 b))) (Within every (Made a s) (Made b r))
by_numbers a b s r strict p q = simp to_z-of_z (decide a b s r strict)

pub returns-in-Below-Below : goal.returns-in-Below-Below
returns-in-Below-Below c = rw (c.in-Below-Below.is-0, c.in-Below-Below.is-1) (by_numbers c.in-Below-Below.a c.in-Below-Below.b true true (λ e. refl) (search rules) (search rules))

pub returns-in-Below-AtMost : goal.returns-in-Below-AtMost
returns-in-Below-AtMost c = rw (c.in-Below-AtMost.is-0, c.in-Below-AtMost.is-1) (by_numbers c.in-Below-AtMost.a c.in-Below-AtMost.b true false (λ e. refl) (search rules) (search rules))

pub returns-in-AtMost-AtMost : goal.returns-in-AtMost-AtMost
returns-in-AtMost-AtMost c = rw (c.in-AtMost-AtMost.is-0, c.in-AtMost-AtMost.is-1) (by_numbers c.in-AtMost-AtMost.a c.in-AtMost-AtMost.b false false (λ e. e) (search rules) (search rules))
