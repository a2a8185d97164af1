use Rattle.std.proofs.Common.{◌≡◌, ◌==◌, inl, [], length, subst, sym, ap, arith, rules, tests, MatchOption}
use Rattle.std.proofs.lemmas.Iterator.Consumers.{YieldsList-from_first}
use Rattle.std.proofs.lemmas.Iterator.Search.{position_from_yields_List}
use Rattle.format.specs.Words.{words, kind}
use Rattle.format.specs.Kinds.{code}
use Rattle.format.proofs.Cuts.{length_words}
use Rattle.model.specs.Records.{having, First}
use Rattle.model.specs.Views.{words_left}
use Rattle.model.proofs.Kept.{first_is}
use Rattle.model.proofs.records.first_of.Goals as goal

pub position-requires-clause-fits : goal.position-requires-clause-fits
position-requires-clause-fits c = inl (omega (arith, ap length c.of.ensures, length_words c.args.bytes.now))

pub returns : goal.returns
returns c =
    let k = code c.args.kind.kind in
    let ws = words c.args.bytes.now in
    let is = position_from_yields_List (λ w. kind w == k) c.position.new.self _ c.position.result c.position.ensures.ran
    (YieldsList-from_first (λ x. x) words_left ws c.of.ensures) (λ x b q k. search (rules, tests)) in
    subst (λ o. MatchOption o (having k ws ≡ []) (λ p. First k ws p)) (sym is) (first_is k ws)
