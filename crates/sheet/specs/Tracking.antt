-- What a sheet knows of the calls made on it so far, under one kind of time. Assumes nothing.
use Rattle.std.specs.Prelude.{◌≡◌, ℕ, ◌<◌, min, Bool, true, false, List, length, Some}
use Rattle.std.specs.List.{slice_get}
use Rattle.model.specs.declared.files.Files.{Files}
use Rattle.model.specs.Files.{model_in, zones_in}
use Rattle.checks.specs.Passed.{pass_over}
use Rattle.checks.specs.Decisions.{Holds}
use Rattle.sheet.specs.Order.{order}
use Rattle.sheet.specs.Sheets.{zones_on, struck_on}
use Rattle.sheet.specs.Series.{History, after_call}
use Rattle.sheet.specs.declared.sheet.Sheet.{Sheet}
use Rattle.sheet.specs.declared.call.Call.{Call}

-- The first `count` of some checks hold. Where none has failed these are as many as there were adequate calls, up to all; where
-- one has, it is the next one, it does not hold, and a call was spent on it.
pub record Progress {X : Type 0} (P : X → Type 0) (l : List X) (count : ℕ) (failing : Bool) (adequate : ℕ) : Type 0 where
  pub below : (k : ℕ) (x : X) → k < count → slice_get l k ≡ Some x → P x
  pub going : failing ≡ false → count ≡ min adequate (length l)
  pub stopped : failing ≡ true → (x : X) × (slice_get l count ≡ Some x) × (P x → ⊥) × (count < adequate)

module _ (admits : ℕ → Type 0) where
  -- so far are the checks of two files settled
  abbrev pub SoFar : Files → List Bool → ℕ → Bool → ℕ → Type 0
  SoFar p struck count failing adequate = Progress (Holds admits (model_in p) (zones_in p) struck) (order (length (model_in p).bads) (length (model_in p).commands) struck (length (zones_in p))) count failing adequate

  -- the sheet is what the calls so far come to
  pub record Tracks (s : Sheet) (h : History) : Type 0 where
    pub marks : struck_on s ≡ h.struck
    pub settled : SoFar s.files (struck_on s) s.count s.failing h.adequate

  -- one call was made with an area of so many bounds
  pub record Makes (area : ℕ) (old : Sheet) (c : Call) (new : Sheet) : Type 0 where
    pub files : new.files ≡ old.files
    pub tracks : pass_over old.files ≡ true → (h : History) → Tracks old h → Tracks new (after_call (length (zones_on old)) area h c)
