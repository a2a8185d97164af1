use Rattle.std.proofs.Common.{◌≡◌, ℕ, ◌*◌, length, ap, ◌∙◌, arith}
use Rattle.dbm.proofs.Rows.{row_fits}
use Rattle.dbm.proofs.Places.{filling_more}
use Rattle.dbm.proofs.square.Square.filled.Goals as goal

pub loop-i-preserved : goal.loop-i-preserved
loop-i-preserved g c =
    let b = g.B.Bound in
    let inv = c.loop-i.invariant in
    let s = c.loop-i.square in
    let whole : length s.bounds.now ≡ c.args.n * c.args.n = s.whole ∙ ap (λ (m : ℕ). m * m) inv.0 in (
      c.set.ensures.rows ∙ inv.0,
      rw (c.set.ensures.bounds, inv.0, c.ZERO.ensures)
          (filling_more b.NONE b.ZERO c.args.n s.bounds.now c.loop-i.i c.loop-i-test.true (omega (arith, row_fits c.loop-i.i c.args.n c.loop-i-test.true)) inv.1),
    )
