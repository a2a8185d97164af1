use Rattle.std.proofs.Common.{sym, ◌∙◌}
use Rattle.format.proofs.Exits.{exit}
use Rattle.format.proofs.Begins.{no_end}
use Rattle.format.proofs.Firsts.{none_left, first_misplaced, first_wrong, first_surplus, first_stands, first_ends, what_stood}
use Rattle.format.proofs.scope.Place.begin.Goals as goal

pub returns-in_default : goal.returns-in_default
returns-in_default c = none_left c.args.text.now _ _ c.in_default.ensures.0

pub returns-then-not-may_stand : goal.returns-then-not-may_stand
returns-then-not-may_stand c = first_misplaced c.args.self.now c.args.text.now _ _ c.in-Some.ensures (sym c.if-not-may_stand.ensures)

pub returns-in_default-of : goal.returns-in_default-of
returns-in_default-of c =
    let stands = sym c.if-not-may_stand.ensures in
    first_ends c.args.self.now c.args.text.now _ _ c.in-Some.ensures stands (c.in_default-of.ensures (what_stood c.args.self.now c.args.text.now _ _ c.in-Some.ensures stands).starts)

pub returns-in_err-begins : goal.returns-in_err-begins
returns-in_err-begins c =
    let here = rw (← c.in-Some-of.ensures) at c.in-Some.ensures in
    let stands = rw (← c.in-Some-of.ensures) at (sym c.if-not-may_stand.ensures) in
    exit _ _ _ _ c.from_residual.ensures.1
    (first_wrong c.args.self.now c.args.text.now _ _ here stands c.in_err-begins.field-0.0 (sym c.begins.ensures ∙ c.in_err-begins.was))

pub returns-then-not-has_room : goal.returns-then-not-has_room
returns-then-not-has_room c =
    let here = rw (← c.in-Some-of.ensures) at c.in-Some.ensures in
    let stands = rw (← c.in-Some-of.ensures) at (sym c.if-not-may_stand.ensures) in
    first_surplus c.args.self.now c.args.text.now _ _ here stands c.in_ok-begins.field-0 (sym c.begins.ensures ∙ c.in_ok-begins.was) (sym c.if-not-has_room.ensures)

pub returns : goal.returns
returns c =
    let here = rw (← c.in-Some-of.ensures) at c.in-Some.ensures in
    let stands = rw (← c.in-Some-of.ensures) at (sym c.if-not-may_stand.ensures) in
    first_stands c.args.self.now c.args.text.now _ _ here stands c.in_ok-begins.field-0 (sym c.begins.ensures ∙ c.in_ok-begins.was) (sym c.if-not-has_room.ensures) (no_end c.in-Some-of.first)
