use Rattle.std.proofs.Common.{◌≡◌, ℕ, ◌-◌, ◌<◌, get_or, sym, refl, subst, arith, rules, tests}
use Rattle.std.specs.List.{range_with_len}
use Rattle.std.proofs.lemmas.Bool.{MatchBool-at_true}
use Rattle.std.proofs.lemmas.Iterator.{cases_from_all, YieldsList-from_range}
use Rattle.std.proofs.lemmas.Iterator.Search.{true_from_All}
use Rattle.std.proofs.lemmas.List.FromFn.{length-range_with_len, get_or-range_with_len}
use Rattle.bound.specs.Time.{Within}
use Rattle.dbm.specs.Table.{entry}
use Rattle.dbm.proofs.square.Square.diagonal_keeps_zero.Goals as goal

pub returns : goal.returns
returns g c =
    let b = g.B.Bound in
    let s = c.args.self.now in
    let long = length-range_with_len 0 (s.n - 0) in
    let at : (i d : ℕ) → i < s.n → get_or (range_with_len 0 (s.n - 0)) i d ≡ i = λ i d i_in. omega (arith, get_or-range_with_len 0 (s.n - 0) i d (omega arith)) in
    let Holds : ℕ → Type 0 = λ (i : ℕ). Within b.admits (b.allows b.ZERO) (b.allows (entry b.NONE s.n s.bounds.now i i)) in
    let r = cases_from_all _ _ _ Holds (λ (i : ℕ). Holds i → ⊥) c.all.ensures.ran (YieldsList-from_range 0 s.n (s.n - 0) refl refl) (λ x q k. search (rules, tests)) (λ x q k. search (rules, tests)) in (
      λ e i i_in. subst Holds (at i 0 i_in) (MatchBool-at_true _ _ e r i 0 (omega arith) (omega (arith, long))),
      λ all. true_from_All Holds (λ i. Holds i → ⊥) _ _ (λ x p q. q p) r (λ i d l. let i_in : i < s.n = omega (arith, long) in subst Holds (sym (at i d i_in)) (all i i_in)),
    )
