-- A word of no kind. Assumes nothing.
use Rattle.std.proofs.Common.{◌≡◌, ℕ, true, false, arith}
use Rattle.std.proofs.lemmas.Bool.Decides.{nat_tests}
use Rattle.format.specs.Words.{kind, continues}
use Rattle.format.specs.Places.{starts_record}
use Rattle.format.specs.Kinds.{code}
use Rattle.format.specs.declared.kind.Kind.{Kind}
use Rattle.format.specs.declared.kind.Kind.TheVariants.{Head, Start, Command, Mask, Reset, Invariant, Bad, Zone, Atom, Number}

module _ (w : ℕ) (never : (k : Kind) → code k ≡ kind w → ⊥) where
  pub none_continues : continues w ≡ false
  none_continues =
      let mask : kind w ≡ 4 → ⊥ = λ e. never Mask (omega arith) in
      let reset : kind w ≡ 5 → ⊥ = λ e. never Reset (omega arith) in
      let atom : kind w ≡ 9 → ⊥ = λ e. never Atom (omega arith) in
      let number : kind w ≡ 10 → ⊥ = λ e. never Number (omega arith) in
      grind (arith, nat_tests)

  pub none_starts : starts_record (kind w) ≡ true → kind w ≡ 15
  none_starts starts =
      let head : kind w ≡ 1 → ⊥ = λ e. never Head (omega arith) in
      let start : kind w ≡ 2 → ⊥ = λ e. never Start (omega arith) in
      let command : kind w ≡ 3 → ⊥ = λ e. never Command (omega arith) in
      let invariant : kind w ≡ 6 → ⊥ = λ e. never Invariant (omega arith) in
      let bad : kind w ≡ 7 → ⊥ = λ e. never Bad (omega arith) in
      let zone : kind w ≡ 8 → ⊥ = λ e. never Zone (omega arith) in
      grind (arith, nat_tests)
