-- What a function that leaves by `?` returns. Assumes nothing.
use Rattle.std.proofs.Common.{◌≡◌, IsErrAnd, Ok, Err, Result, sym, subst, MatchResult}

pub exit : {T E : Type 0} (r : Result T E) (e : E) (P : T → Type 0) (Q : E → Type 0) → IsErrAnd r (λ y. y ≡ e) → Q e → MatchResult r P Q
exit (Ok x) e P Q h q = absurd h
exit (Err y) e P Q h q = subst Q (sym h) q
