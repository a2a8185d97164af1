use Rattle.std.proofs.Common.{ℕ, ◌+◌, ◌∷◌, drop, sym, ap, ◌∙◌, arith}
use Rattle.format.specs.Words.{words}
use Rattle.format.proofs.Cuts.{no_word, word_bytes}
use Rattle.format.proofs.text.word_at.Goals as goal

pub returns-then-k-bytes : goal.returns-then-k-bytes
returns-then-k-bytes c = no_word _ _ c.if-k-bytes.true

pub returns : goal.returns
returns c =
    word_bytes c.args.k c.args.bytes.now (omega arith)
    ∙ ap (λ (w : ℕ). w ∷ drop (c.args.k + 1) (words c.args.bytes.now)) (sym c.from_be_bytes.ensures)
