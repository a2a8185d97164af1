use Rattle.std.proofs.Common.{◌∙◌, arith}
use Rattle.format.proofs.Begins.{no_end}
use Rattle.format.proofs.Hands.{handed_record, handed_end, end_length, record_fits, taken_length}
use Rattle.format.proofs.scope.Place.next_record.Goals as goal

pub split_at-requires : goal.split_at-requires
split_at-requires c =
    let ended = rw c.in_default.is at c.in_ok-first.ensures in
    omega (arith, record_fits c.args.bytes.now, end_length c.args.self.now c.args.bytes.now _ c.reader-text.ensures ended)

pub returns-in_default : goal.returns-in_default
returns-in_default c =
    let ended = rw c.in_default.is at c.in_ok-first.ensures in
    handed_end c.args.self.now c.args.bytes.now _ c.reader-text.ensures c.split_at.result.0 c.split_at.result.1 ended c.split_at.ensures.front c.split_at.ensures.back

pub overflow_mul-words : goal.overflow_mul-words
overflow_mul-words c =
    let b = rw c.in-Some.is at c.in_ok-first.ensures in
    omega (arith, record_fits c.args.bytes.now, taken_length c.args.self.now c.args.bytes.now _ c.reader-text.ensures _ _ b _ c.in_ok-rest_of.ensures)

pub split_at-requires-2 : goal.split_at-requires-2
split_at-requires-2 c =
    let b = rw c.in-Some.is at c.in_ok-first.ensures in
    omega (arith, record_fits c.args.bytes.now, taken_length c.args.self.now c.args.bytes.now _ c.reader-text.ensures _ _ b _ c.in_ok-rest_of.ensures)

pub returns : goal.returns
returns c =
    let b = rw c.in-Some.is at c.in_ok-first.ensures in
    handed_record c.args.self.now c.args.bytes.now _ c.reader-text.ensures _ _ b _ c.in_ok-rest_of.ensures c.past.result c.record.result _ c.record.ensures.case (c.record.ensures.bytes ∙ c.split_at-2.ensures.front) c.split_at-2.ensures.back c.past.ensures (no_end c.in-Some.first)
