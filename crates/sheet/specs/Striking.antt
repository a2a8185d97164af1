-- What strike, restore and verdict answer, and what the sheet then holds. Assumes nothing.
use Rattle.std.specs.Prelude.{◌≡◌, ℕ, Bool, true, false, not, length, Some, None, Option, nat_lt, slice_index_or, slice_set}
use Rattle.std.specs.List.{slice_get}
use Rattle.checks.specs.Passed.{pass_over}
use Rattle.sheet.specs.Sheets.{zones_on, struck_on, checks_on, next_on}
use Rattle.sheet.specs.Settling.{unless}
use Rattle.checks.specs.declared.check.Check.{Check}
use Rattle.sheet.specs.declared.sheet.Sheet.{Sheet}
use Rattle.sheet.specs.declared.answers.Refused.{Refused}
use Rattle.sheet.specs.declared.answers.Refused.TheVariants.{Void, NoSuchZone, AlreadySo}
use Rattle.sheet.specs.declared.answers.Verdict.{Verdict}
use Rattle.sheet.specs.declared.answers.Verdict.TheVariants.{Accepted, Failing, Unfinished}

-- questions 13, 16 and 17 to strike or restore zone n: a strike asks for a zone that is not struck, a restore for one that is
abbrev pub mark_refused : Bool → Sheet → ℕ → Option Refused
mark_refused fit s n = unless (pass_over s.files) Void (unless (nat_lt n (length (zones_on s))) NoSuchZone (unless fit AlreadySo None))

abbrev pub strike_refused : Sheet → ℕ → Option Refused
strike_refused s n = mark_refused (not (slice_index_or (struck_on s) n false)) s n

abbrev pub restore_refused : Sheet → ℕ → Option Refused
restore_refused s n = mark_refused (slice_index_or (struck_on s) n false) s n

-- zone n has this mark, nothing is settled, and the sheet is not failing
pub record Marked (old : Sheet) (n : ℕ) (mark : Bool) (new : Sheet) : Type 0 where
  pub files : new.files ≡ old.files
  pub marks : struck_on new ≡ slice_set (struck_on old) n mark
  pub counted : new.count ≡ 0
  pub going : new.failing ≡ false

-- what a verdict says: failing at the next check, all settled, or so many settled
abbrev pub by_next : ℕ → Option Check → Verdict
by_next count None = Accepted count
by_next count (Some c) = Unfinished count

abbrev pub by_failing : Bool → ℕ → Option Check → Verdict
by_failing true count next = Failing count
by_failing false count next = by_next count next

abbrev pub verdict_of : Sheet → Verdict
verdict_of s = by_failing s.failing s.count (next_on s)

-- question 13 to verdict
abbrev pub verdict_refused : Sheet → Option Refused
verdict_refused s = unless (pass_over s.files) Void None

-- the check with a number; none on a void sheet
abbrev pub if_passed : Bool → Option Check → Option Check
if_passed true c = c
if_passed false c = None

abbrev pub check_on : Sheet → ℕ → Option Check
check_on s number = if_passed (pass_over s.files) (slice_get (checks_on s) number)
