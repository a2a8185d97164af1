use Rattle.std.proofs.Common.{◌<◌, length, sym, ◌∙◌, arith}
use Rattle.std.proofs.lemmas.List.{get_or_read}
use Rattle.dbm.proofs.Rows.{one_more}
use Rattle.dbm.proofs.close.tighten.Goals as goal

pub loop-j-preserved : goal.loop-j-preserved
loop-j-preserved g c =
    let b = g.B.Bound in
    let within : c.loop-j.j < length c.loop-j.row = omega arith in
    one_more b c.args.row.now c.args.through.now c.loop-j.row c.args.via _ c.index-through-j.result c.lowered.result c.loop-j.j within
    (sym c.index-row-j.is ∙ get_or_read c.loop-j.row c.loop-j.j c.index-row-j.result within c.index-row-j.is b.NONE)
    (get_or_read c.args.through.now c.loop-j.j c.index-through-j.result (omega (arith, c.requires.same_length)) c.index-through-j.is b.NONE)
    c.lowered.ensures c.loop-j.invariant
