use Rattle.std.proofs.Common.{◌≡◌, ◌*◌, min, length, take, drop, ap, ◌∙◌, arith}
use Rattle.std.proofs.lemmas.List.{take_min, drop_min}
use Rattle.format.specs.Words.{words}
use Rattle.format.proofs.Cuts.{words_take, words_drop}
use Rattle.model.proofs.words.Words.split_at.Goals as goal

pub returns-clause-front : goal.returns-clause-front
returns-clause-front c =
    let k = c.args.k in
    let bs = c.args.self.bytes.now in
    let cut : c.min-cut.result ≡ min (4 * k) (length bs) = omega arith in
    ap words (c.split_at.ensures.front ∙ (λ i. take (cut i) bs) ∙ take_min (4 * k) bs) ∙ words_take k bs

pub returns-clause-rest : goal.returns-clause-rest
returns-clause-rest c =
    let k = c.args.k in
    let bs = c.args.self.bytes.now in
    let cut : c.min-cut.result ≡ min (4 * k) (length bs) = omega arith in
    ap words (c.split_at.ensures.back ∙ (λ i. drop (cut i) bs) ∙ drop_min (4 * k) bs) ∙ words_drop k bs
