-- The frames of the code, and the atoms that can be placed in them. Assumes nothing.
use Rattle.std.specs.Prelude.{◌≡◌, ℕ, ◌<◌, ℤ, pos, ◌+ℤ◌, ◌-ℤ◌, ◌≤ℤ◌, ◌≢◌, slice_index_or}
use Rattle.format.specs.Places.{least_number, greatest_number}
use Rattle.format.specs.Syntax.{Atom, Reset}
use Rattle.checks.specs.Systems.{Frame}
use Rattle.checks.specs.declared.frame.Frame.{Frame as FrameCode}
use Rattle.checks.specs.declared.frame.Spot.{Spot}

-- where a clock is; past the end of the array it is in its own row
abbrev pub spot_of : FrameCode → ℕ → Spot
spot_of f i = slice_index_or f.spots i (record { row = i; offset = pos 0 })

-- the frame that an array says
abbrev pub shape : FrameCode → Frame
shape f = record { row = λ i. (spot_of f i).row; offset = λ i. (spot_of f i).offset }

-- an atom as the table has it: the rows of its clocks, and its number less the offset of i and plus that of j
abbrev pub place : Frame → Atom → Atom
place f a = record { i = f.row a.i; j = f.row a.j; d = (a.d -ℤ f.offset a.i) +ℤ f.offset a.j; strict = a.strict }

-- a number from 0 to a million
pub record OffsetFits (o : ℤ) : Type 0 where
  pub low : pos 0 ≤ℤ o
  pub high : o ≤ℤ greatest_number

-- the atom can be placed in the frame, in a table with n rows
pub record Placeable (f : Frame) (n : ℕ) (a : Atom) : Type 0 where
  pub i_known : a.i < 16
  pub j_known : a.j < 16
  pub row_in : f.row a.i < n
  pub column_in : f.row a.j < n
  pub low : least_number ≤ℤ a.d
  pub high : a.d ≤ℤ greatest_number
  pub i_offset : OffsetFits (f.offset a.i)
  pub j_offset : OffsetFits (f.offset a.j)

-- one reset was written into a frame
pub record Written (old : FrameCode) (r : Reset) (new : FrameCode) : Type 0 where
  pub row : (shape new).row r.clock ≡ 0
  pub offset : (shape new).offset r.clock ≡ r.number
  pub other_rows : (j : ℕ) → (j ≢ r.clock) → (shape new).row j ≡ (shape old).row j
  pub other_offsets : (j : ℕ) → (j ≢ r.clock) → (shape new).offset j ≡ (shape old).offset j
