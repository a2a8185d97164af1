use Rattle.std.proofs.Common.{sym, ◌∙◌, subst, ⊎_elim, arith}
use Rattle.std.proofs.lemmas.Bool.{true≢false}
use Rattle.bound.specs.Time.{Within}
use Rattle.dbm.proofs.Rows.{row_fits}
use Rattle.dbm.proofs.Places.{replaced}
use Rattle.dbm.proofs.square.Square.lower.Goals as goal

pub returns-then-not-not_greater-clause-lowered : goal.returns-then-not-not_greater-clause-lowered
returns-then-not-not_greater-clause-lowered g c =
    let b = g.B.Bound in
    let s = c.args.self.now in
    ⊎_elim
    (λ within. absurd (true≢false (sym (c.not_greater.ensures.1 within) ∙ c.if-not-not_greater.true)))
    (λ smaller. rw c.set.ensures.bounds
    (replaced b s.n s.bounds.now c.args.i c.args.j c.args.bound c.requires.row c.requires.column
    (omega (arith, s.whole, row_fits c.args.i s.n c.requires.row, c.requires.column))
    (subst (λ e. Within b.admits (b.allows c.args.bound) (b.allows e)) c.at.ensures smaller)))
    (g.met.B.Bound.total c.at.result c.args.bound)
