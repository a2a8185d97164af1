use Rattle.std.proofs.Common.{ℕ, List, ◌∷◌, length, sym, refl, ap, ◌∙◌, add-one, arith}
use Rattle.format.specs.Words.{words}
use Rattle.format.proofs.Cuts.{length_words, words_drop}
use Rattle.format.proofs.scope.Text.take_word.Goals as goal

pub split_at-requires : goal.split_at-requires
split_at-requires c = omega (arith, ap length c.in_ok-word.ensures, length_words c.args.self.now.bytes.now)

pub returns : goal.returns
returns c = record {
  first = c.in_ok-word.ensures ∙ ap (λ (l : List ℕ). c.in_ok-word.word ∷ l) (sym (words_drop 1 c.args.self.now.bytes.now) ∙ ap words (sym c.split_at.ensures.back));
  next = add-one c.args.self.now.next;
  same_scope = refl;
}
