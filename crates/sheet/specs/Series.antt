-- A series of calls: which zones it strikes, how many adequate settle calls it makes, and the promise on it. Assumes nothing.
use Rattle.std.specs.Prelude.{◌≡◌, ℕ, ◌+◌, ◌<◌, ◌≤◌, min, Bool, true, false, cond, not, ◌&&◌, List, [], ◌∷◌, length, replicate, Some, nat_le, nat_lt, slice_index_or, slice_set}
use Rattle.bound.specs.Time.{Same}
use Rattle.format.specs.Syntax.{Zone, Model}
use Rattle.model.specs.States.{State}
use Rattle.model.specs.Steps.{Stands, Bad}
use Rattle.std.specs.List.{slice_get}
use Rattle.checks.specs.Decisions.{Holds}
use Rattle.sheet.specs.Meanings.{AllHold}
use Rattle.sheet.specs.Order.{order, total}
use Rattle.checks.specs.declared.check.Check.{Check}
use Rattle.sheet.specs.declared.answers.Verdict.{Verdict}
use Rattle.sheet.specs.declared.answers.Verdict.TheVariants.{Accepted, Failing, Unfinished}
use Rattle.sheet.specs.declared.call.Call.{Call}
use Rattle.sheet.specs.declared.call.Call.TheVariants.{Settle, Strike, Restore, Verdict as Ask}

-- what the calls so far come to: which zones are struck, and how many settle calls brought 578 bounds or more since the opening
-- or the last unrefused strike or restore
pub record History : Type 0 where
  pub struck : List Bool
  pub adequate : ℕ

abbrev pub at_opening : History
at_opening = record { struck = replicate 512 false; adequate = 0 }

-- a strike asks for a zone that is not struck, a restore for one that is
abbrev pub fresh : Bool → Bool → Bool
fresh true was = not was
fresh false was = was

-- a strike or restore: refused unless the zone is in the list and has not this mark already
abbrev pub marking : ℕ → History → ℕ → Bool → History
marking zones h n mark = cond (nat_lt n zones && fresh mark (slice_index_or h.struck n false)) (record { struck = slice_set h.struck n mark; adequate = 0 }) h

-- one call, where the list has so many zones and the area so many bounds
abbrev pub after_call : ℕ → ℕ → History → Call → History
after_call zones area h (Settle b) = record { struck = h.struck; adequate = cond (nat_le 578 (min b area)) (h.adequate + 1) h.adequate }
after_call zones area h (Strike n) = marking zones h n true
after_call zones area h (Restore n) = marking zones h n false
after_call zones area h Ask = h

-- a series of calls
unfoldable pub after_calls : ℕ → ℕ → History → List Call → History
after_calls zones area h [] = h
after_calls zones area h (c ∷ cs) = after_calls zones area (after_call zones area h c) cs

-- the checks before number n hold
abbrev pub HoldBelow : (ℕ → Type 0) → Model → List Zone → List Bool → ℕ → Type 0
HoldBelow admits m l struck n = (k : ℕ) (c : Check) → k < n → slice_get (order (length m.bads) (length m.commands) struck (length l)) k ≡ Some c → Holds admits m l struck c

-- check number n does not hold, and those before it do
pub record FailsAt (admits : ℕ → Type 0) (m : Model) (l : List Zone) (struck : List Bool) (n : ℕ) : Type 0 where
  pub check : Check
  pub listed : slice_get (order (length m.bads) (length m.commands) struck (length l)) n ≡ Some check
  pub fails : Holds admits m l struck check → ⊥
  pub before : HoldBelow admits m l struck n

-- What a verdict says after a series of calls under one kind of time. If it is accepted, no run at any admitted scale ever
-- stands in a bad state. It is accepted exactly when the start check holds, every bad check of an unstruck zone holds, the list
-- is closed zone by zone, and there were at least as many adequate settle calls as there are checks; and the count that it gives
-- is the number of checks. If it is failing, the check with that number does not hold and all before it do. If it is unfinished,
-- there were so many adequate calls, fewer than checks, and so many checks hold.
pub record Promise (admits : ℕ → Type 0) (m : Model) (l : List Zone) (h : History) (said : Verdict) : Type 0 where
  pub safe : (n : ℕ) → said ≡ Accepted n → (K : ℕ) → admits K → (s : State) → Stands K m s → Bad K m s → ⊥
  pub exact : Same ((n : ℕ) × (said ≡ Accepted n)) (AllHold admits m l h.struck × (total (length m.bads) (length m.commands) h.struck (length l) ≤ h.adequate))
  pub count : (n : ℕ) → said ≡ Accepted n → n ≡ total (length m.bads) (length m.commands) h.struck (length l)
  pub failing : (n : ℕ) → said ≡ Failing n → FailsAt admits m l h.struck n
  pub unfinished : (n : ℕ) → said ≡ Unfinished n → (n ≡ h.adequate) × (n < total (length m.bads) (length m.commands) h.struck (length l)) × HoldBelow admits m l h.struck n
