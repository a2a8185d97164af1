use Rattle.std.proofs.Common.{◌*◌, drop, ap, ◌∙◌}
use Rattle.std.proofs.lemmas.List.{take_rest}
use Rattle.format.specs.Kinds.{code}
use Rattle.model.proofs.Kept.{next_is}
use Rattle.model.proofs.records.next_of.Goals as goal

pub returns : goal.returns
returns c =
    let p = c.in_ok-first.first in
    next_is (code c.args.kind.kind) p c.continued_from.result c.args.bytes.now _ c.split_at.result.1.now c.args.kind.begins c.in_ok-first.ensures c.continued_from.ensures
    (take_rest c.split_at.result.0.now (4 * p) ∙ ap (drop (4 * p)) c.split_at.ensures.front) c.split_at.ensures.back
