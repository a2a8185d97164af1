use Rattle.std.proofs.Common.{◌≡◌, ◌+◌, ◌-◌, ◌∷◌, sym, ap, ◌∙◌, arith}
use Rattle.model.specs.Views.{words_left}
use Rattle.model.specs.Views.{reset_is, resets_in}
use Rattle.model.proofs.Giving.{one_fewer}
use Rattle.model.proofs.Resetting.{resets_at, resets_none, resets_missing, resets_found, found_within}
use Rattle.model.proofs.resets.ResetsIterator.next.Goals as goal

pub returns-in_err-bit-clause-steps : goal.returns-in_err-bit-clause-steps
returns-in_err-bit-clause-steps c =
    let s = c.args.self.now in
    let none = resets_missing s.mask (15 - s.bit) s.bit (words_left s.numbers) (sym c.in_err-bit.ensures) in
    rw c.from_residual.ensures (none, none)

pub returns-in_err-number-clause-steps : goal.returns-in_err-number-clause-steps
returns-in_err-number-clause-steps c =
    let s = c.args.self.now in
    let none = resets_none s.mask (15 - s.bit) s.bit in
    rw c.from_residual-in_err-number.ensures (ap (resets_at s.mask (15 - s.bit) s.bit) c.in_err-number.ensures.steps.0 ∙ none, ap (resets_at s.mask (15 - s.bit) s.bit) c.in_err-number.ensures.steps.1 ∙ none)

pub overflow_add-self : goal.overflow_add-self
overflow_add-self c =
    let s = c.args.self.now in
    let within = found_within s.mask (15 - s.bit) s.bit c.in_ok-bit.bit (sym c.in_ok-bit.ensures) in
    omega arith

first : goal.returns-clause-steps
first c =
    let s = c.args.self.now in
    let within = found_within s.mask (15 - s.bit) s.bit c.in_ok-bit.bit (sym c.in_ok-bit.ensures) in
    let left : s.bit + (15 - s.bit) - (c.in_ok-bit.bit + 1) ≡ 15 - (c.in_ok-bit.bit + 1) = omega arith in
    ap (resets_at s.mask (15 - s.bit) s.bit) c.in_ok-number.ensures.steps
    ∙ resets_found s.mask (15 - s.bit) s.bit c.in_ok-bit.bit c.in_ok-number.number (words_left c.next.new.self) (sym c.in_ok-bit.ensures)
    ∙ (λ i. sym c.reset_of.ensures i ∷ resets_at s.mask (left i) (c.in_ok-bit.bit + 1) (words_left c.next.new.self))

pub returns-clause-steps : goal.returns-clause-steps
returns-clause-steps c = first c

pub returns-clause-goes : goal.returns-clause-goes
returns-clause-goes c = one_fewer resets_in (reset_is c.reset_of.result) tt (first c)
