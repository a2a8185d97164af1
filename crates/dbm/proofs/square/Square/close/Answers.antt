use Rattle.std.proofs.Common.{◌≡◌, sym, ◌∙◌, arith}
use Rattle.std.proofs.lemmas.Bool.{true≢false}
use Rattle.dbm.proofs.Laws.{laws_from}
use Rattle.dbm.proofs.Turns.{going_more, ends_early, consistent, some_diagonal}
use Rattle.dbm.proofs.square.Square.close.Goals as goal

pub returns-then-not-keeps_zero-clause-none : goal.returns-then-not-keeps_zero-clause-none
returns-then-not-keeps_zero-clause-none g c _ =
    let b = g.B.Bound in
    let m = g.met.B.Bound in
    let s = c.args.self.now in
    let inv = c.loop-k.invariant in
    let decides = rw inv.0 at c.keeps_zero.ensures in
    (ends_early b (laws_from m.positive m.common m.lower m.finer) m.zero_allows s.n s.bounds.now c.loop-k.self.bounds.now c.loop-k.k inv.1 c.loop-k.k c.loop-k-test.true
    (λ within. true≢false (sym (decides.1 within) ∙ c.if-not-keeps_zero.true))).1

pub loop-k-preserved : goal.loop-k-preserved
loop-k-preserved g c =
    let b = g.B.Bound in
    let m = g.met.B.Bound in
    let s = c.args.self.now in
    let inv = c.loop-k.invariant in
    let decides = rw inv.0 at c.keeps_zero.ensures in
    let tightened = rw inv.0 at c.turn.ensures.tightened in
    (c.turn.ensures.rows ∙ inv.0, going_more b (laws_from m.positive m.common m.lower m.finer) m.zero_allows s.n c.loop-k.self.bounds.now c.turn.new.self.bounds.now c.loop-k.k c.loop-k-test.true tightened (decides.0 c.if-not-keeps_zero.false) s.bounds.now inv.1)

pub returns-clause-closed : goal.returns-clause-closed
returns-clause-closed g c is_true =
    let b = g.B.Bound in
    let m = g.met.B.Bound in
    let s = c.args.self.now in
    let inv = c.loop-k.invariant in
    let some = m.some_scale in
    let ended : c.loop-k.k ≡ s.n = omega (arith, c.loop-k-test.false, c.loop-k.auto.k-end) in
    let decides = rw inv.0 at c.diagonal_keeps_zero.ensures in
    consistent b (laws_from m.positive m.common m.lower m.finer) m.zero_allows s.n s.bounds.now c.loop-k.self.bounds.now some.0 s.few some.1 (rw ended at inv.1) (decides.0 is_true)

pub returns-clause-none : goal.returns-clause-none
returns-clause-none g c is_false =
    let b = g.B.Bound in
    let m = g.met.B.Bound in
    let s = c.args.self.now in
    let inv = c.loop-k.invariant in
    let decides = rw inv.0 at c.diagonal_keeps_zero.ensures in
    some_diagonal b (laws_from m.positive m.common m.lower m.finer) m.zero_allows s.n s.bounds.now c.loop-k.self.bounds.now c.loop-k.k inv.1 (λ all. true≢false (sym (decides.1 all) ∙ is_false))
