use Rattle.std.proofs.Common.{◌≡◌, ℕ, ◌+◌, ◌*◌, ◌-◌, List, length, get_or, ap, ◌∙◌, arith}
use Rattle.dbm.proofs.Rows.{one_row, via_row, part_long, row_fits}
use Rattle.dbm.proofs.square.Square.turn.Goals as goal

pub loop-i-preserved : goal.loop-i-preserved
loop-i-preserved g c =
    let b = g.B.Bound in
    let s = c.args.self.now in
    let now = c.loop-i.self in
    let inv = c.loop-i.invariant in
    let start = c.place-start.result in
    let at : start ≡ c.loop-i.i * s.n = omega (arith, c.place-start.ensures.at, ap (λ (m : ℕ). c.loop-i.i * m) inv.0) in
    let whole : length now.bounds.now ≡ s.n * s.n = now.whole ∙ ap (λ (m : ℕ). m * m) inv.0 in
    let long = part_long start (start + now.n - start) s.n now.bounds.now (omega arith) (omega (arith, row_fits c.loop-i.i s.n c.loop-i-test.true)) in
    let via = via_row b s.n c.args.k s.bounds.now now.bounds.now c.at-via.result c.loop-i.i now.n c.requires.in_table inv.0 c.at-via.ensures inv.1 in (
      inv.0,
      one_row b s.n c.args.k s.bounds.now now.bounds.now c.tighten.new.row c.copy_from_slice.new.self c.at-via.result c.loop-i.i start (start + now.n - start)
          at (omega arith) c.loop-i-test.true whole (c.tighten.auto.row ∙ long) via
          (λ j l. ap (λ (xs : List g.row.B.Denot). get_or xs j b.NONE) c.copy_from_slice.ensures.after ∙ c.row.ensures.bounds j l)
          (λ j l. c.tighten.ensures j (omega (arith, long))) inv.1,
    )

pub returns-clause-tightened : goal.returns-clause-tightened
returns-clause-tightened g c i j i_in j_in = c.loop-i.invariant.1.done i j (omega (arith, c.loop-i-test.false)) j_in
