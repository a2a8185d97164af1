use Rattle.std.proofs.Common.{List, ℕ, subst, arith}
use Rattle.std.proofs.lemmas.List.{take_more, take_all}
use Rattle.written.proofs.Writing.{Written, written_more, written_all}
use Rattle.written.proofs.bytes.Goals as goal

pub loop-word-preserved : goal.loop-word-preserved
loop-word-preserved c =
    rw (c.in_ok-extend_from_slice.ensures.items, c.to_be_bytes.ensures, take_more c.args.words.now c.loop-word.word-index 0 c.loop-word-test.true)
    (written_more _ _ _ (omega (arith, c.type_inv.words c.loop-word.word-index)) c.loop-word.invariant)

pub returns : goal.returns
returns c =
    let all = subst (λ (ws : List ℕ). Written c.loop-word.bytes.items ws) (take_all c.loop-word.word-index c.args.words.now (omega (arith, c.loop-word-test.false))) c.loop-word.invariant in
    written_all _ _ (rw (c.in_ok-extend_from_slice-2.ensures.items, c.to_be_bytes-2.ensures) (written_more _ _ c.args.end (omega (arith, c.ranges.end)) all))
