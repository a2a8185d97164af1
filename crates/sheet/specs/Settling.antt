-- What settle answers, and what the sheet then holds. Assumes nothing.
use Rattle.std.specs.Prelude.{◌≡◌, ℕ, ◌+◌, ◌≤◌, Bool, true, false, Some, None, Option, nat_le}
use Rattle.checks.specs.Passed.{pass_over}
use Rattle.checks.specs.Decisions.{Decided}
use Rattle.sheet.specs.Sheets.{model_on, zones_on, struck_on, next_on}
use Rattle.checks.specs.declared.check.Check.{Check}
use Rattle.sheet.specs.declared.sheet.Sheet.{Sheet}
use Rattle.checks.specs.declared.check.Settled.{Settled}
use Rattle.checks.specs.declared.check.Settled.TheVariants.{Holds as Held, Fails}
use Rattle.sheet.specs.declared.answers.Refused.{Refused}
use Rattle.sheet.specs.declared.answers.Refused.TheVariants.{Void, ShortArea, NothingLeft}

-- a no to a question refuses by its number
abbrev pub unless : Bool → Refused → Option Refused → Option Refused
unless true f more = more
unless false f more = Some f

-- 15: there is a check left
abbrev pub left_over : Option Check → Option Refused
left_over (Some c) = None
left_over None = Some NothingLeft

-- 15: the sheet is not failing
abbrev pub while_going : Bool → Option Refused → Option Refused
while_going true more = Some NothingLeft
while_going false more = more

-- questions 13, 14 and 15 to settle with a work area of so many bounds
abbrev pub settle_refused : Sheet → ℕ → Option Refused
settle_refused s area = unless (pass_over s.files) Void (unless (nat_le 578 area) ShortArea (while_going s.failing (left_over (next_on s))))

-- settle is not refused, and c is the next check
pub record AskedFor (s : Sheet) (area : ℕ) (c : Check) : Type 0 where
  pub unrefused : settle_refused s area ≡ None
  pub passed : pass_over s.files ≡ true
  pub enough : 578 ≤ area
  pub going : s.failing ≡ false
  pub next : next_on s ≡ Some c

-- the same files and marks, with this count, failing or not
pub record Moved (old new : Sheet) (count : ℕ) (failing : Bool) : Type 0 where
  pub files : new.files ≡ old.files
  pub marks : struck_on new ≡ struck_on old
  pub counted : new.count ≡ count
  pub fails : new.failing ≡ failing

-- the count rises by one if the check holds; if not, the sheet is failing there
abbrev pub Moves : Settled → Sheet → Sheet → Type 0
Moves (Held _) old new = Moved old new (old.count + 1) false
Moves Fails old new = Moved old new old.count true

-- the next check was settled
pub record Settles (admits : ℕ → Type 0) (old : Sheet) (answer : Settled) (new : Sheet) : Type 0 where
  pub check : Check
  pub next : next_on old ≡ Some check
  pub decided : Decided admits (model_on old) (zones_on old) (struck_on old) check answer
  pub moved : Moves answer old new
