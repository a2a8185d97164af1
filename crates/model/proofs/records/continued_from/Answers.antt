use Rattle.std.proofs.Common.{inl, drop, length, ap, ◌∙◌, arith, length-drop, rules}
use Rattle.std.proofs.lemmas.Iterator.Consumers.{YieldsList-from_first, count_from_yields_List}
use Rattle.std.proofs.lemmas.Iterator.Search.{YieldsList-from_take_while}
use Rattle.std.proofs.lemmas.List.Folds.{length-prefix_len}
use borrow.Author.Tests.{tests}
use Rattle.format.specs.Words.{words, continues}
use Rattle.format.proofs.Cuts.{length_words}
use Rattle.model.specs.Views.{words_left}
use Rattle.model.proofs.Kept.{continued_is}
use Rattle.model.proofs.records.continued_from.Goals as goal

pub count-requires-clause-fits : goal.count-requires-clause-fits
count-requires-clause-fits c =
    inl (omega (arith, ap (λ w. length (words_left w)) c.take_while.ensures.source, ap length (c.past.ensures ∙ ap (drop c.args.from) c.of.ensures), length-drop c.args.from (words c.args.bytes.now), length_words c.args.bytes.now))

pub returns : goal.returns
returns c =
    let ws = drop c.args.from (words c.args.bytes.now) in
    count_from_yields_List c.take_while.result c.count.result c.count.ensures.ran
    (YieldsList-from_take_while _ continues
    (YieldsList-from_first (λ x. x) words_left ws (ap words_left c.take_while.ensures.source ∙ c.past.ensures ∙ ap (drop c.args.from) c.of.ensures))
    c.take_while.ensures.closure c.take_while.ensures.done (λ x b q k. search (rules, tests)))
    ∙ length-prefix_len continues ws ∙ continued_is ws
