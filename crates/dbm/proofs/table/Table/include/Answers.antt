use Rattle.std.proofs.Common.{ℕ, ℤ, ◌-ℤ◌, sym, subst, rules}
use Rattle.bound.specs.Time.{Within, Same, Made}
use Rattle.dbm.proofs.Laws.{laws_from}
use Rattle.dbm.proofs.Places.{keeps_all}
use Rattle.dbm.proofs.table.Table.include.Goals as goal

pub returns : goal.returns
returns g c =
    let b = g.B.Bound in
    let m = g.met.B.Bound in
    let s = c.args.self.now.square in
    let a = c.args.atom in
    let bound = c.make.result in
    let means : (k : ℕ) (v : ℤ) → b.admits k → Same (b.allows bound k v) (Made a.d a.strict k v) = λ k v ok. search rules in
    let laws = laws_from m.positive m.common m.lower m.finer in (
      λ less k ν ok sat. (means k (ν a.i -ℤ ν a.j) ok).0 (c.not_greater.ensures.0 less k (ν a.i -ℤ ν a.j) ok (subst (λ e. b.allows e k (ν a.i -ℤ ν a.j)) (sym c.at-entry.ensures) (sat a.i a.j c.requires.row c.requires.column))),
      λ all. c.not_greater.ensures.1 (subst (λ e. Within b.admits (b.allows e) (b.allows bound)) (sym c.at-entry.ensures)
          (keeps_all b s.n laws s.bounds.now a.i a.j bound c.requires.row c.requires.column c.requires.tight (λ k ν ok sat. (means k (ν a.i -ℤ ν a.j) ok).1 (all k ν ok sat)))),
    )
