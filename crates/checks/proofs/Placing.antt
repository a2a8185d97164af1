-- The atoms of passed files can be placed in every frame that the checks use. Assumes nothing.
use Rattle.std.proofs.Common.{◌≡◌, ℕ, zero, suc, ◌<◌, ◌≤◌, eqb, List, [], ◌∷◌, Some, None, Option, pos, sym, refl, subst, arith}
use Rattle.std.specs.List.{AllByRecursion}
use Rattle.std.proofs.ByRecursion.{All-weaker}
use Rattle.std.proofs.lemmas.Int.{ints}
use Rattle.std.proofs.lemmas.Bool.{cond_both}
use Rattle.format.specs.Places.{Head}
use Rattle.format.specs.Syntax.{Atom, Reset, Guarded, Zone}
use Rattle.format.specs.Ranges.{AtomFits, GuardedFits, ResetFits, ZoneFits}
use Rattle.checks.specs.Systems.{Frame, same, before, row_before, after, row_after, offset_after}
use Rattle.checks.specs.Frames.{OffsetFits, Placeable}
use Rattle.checks.specs.Pouring.{PlaceableRecord}
use Rattle.checks.specs.Reaching.{PlaceableZone, PlaceableIn}
use Rattle.dbm.specs.declared.table.Closed.{Closed}
use Rattle.bound.specs.declared.kind.Bound.{Ghosts as Kind}

-- a frame that has the clocks up to C in the first n rows, with offsets in their range
pub record Roomy (C n : ℕ) (f : Frame) : Type 0 where
  pub rows : (i : ℕ) → i ≤ C → f.row i < n
  pub offsets : (i : ℕ) → OffsetFits (f.offset i)

module _ (h : Head) (few : h.clocks ≤ 15) (n : ℕ) (f : Frame) (roomy : Roomy h.clocks n f) where
  pub placeable : (a : Atom) → AtomFits h a → Placeable f n a
  placeable a fits = record {
    i_known = omega (arith, fits.i_known);
    j_known = omega (arith, fits.j_known);
    row_in = roomy.rows a.i fits.i_known;
    column_in = roomy.rows a.j fits.j_known;
    low = fits.low;
    high = fits.high;
    i_offset = roomy.offsets a.i;
    j_offset = roomy.offsets a.j;
  }

  pub placeable_atoms : (l : List Atom) → AllByRecursion (AtomFits h) l → AllByRecursion (Placeable f n) l
  placeable_atoms l fits = All-weaker (AtomFits h) (Placeable f n) placeable l fits

  pub placeable_records : (l : List Guarded) → AllByRecursion (GuardedFits h) l → AllByRecursion (PlaceableRecord f n) l
  placeable_records l fits = All-weaker (GuardedFits h) (PlaceableRecord f n) (λ g fit. placeable_atoms g.atoms fit.atoms.each) l fits

nothing_off : OffsetFits (pos 0)
nothing_off = record { low = omega (arith, ints); high = omega (arith, ints) }

pub roomy_same : (C n : ℕ) → C < n → Roomy C n same
roomy_same C n less = record { rows = λ i le. omega arith; offsets = λ i. nothing_off }

pub roomy_before : (C n second : ℕ) → C < n → second < n → Roomy C n (before second)
roomy_before C n second less in_table = record { rows = row; offsets = λ i. nothing_off } where
  row : (i : ℕ) → i ≤ C → row_before second i < n
  row zero le = in_table
  row (suc i) le = omega arith

row_after_in : (h : Head) (n : ℕ) (l : List Reset) (i : ℕ) → 0 < n → i < n → row_after l i < n
unfolding row_after
row_after_in h n [] i some less = less
row_after_in h n (r ∷ rs) i some less = cond_both (eqb r.clock i) 0 (row_after rs i) (λ k. k < n) (λ _. some) (λ _. row_after_in h n rs i some less)

offset_after_in : (h : Head) (l : List Reset) (i : ℕ) → AllByRecursion (ResetFits h) l → OffsetFits (offset_after l i)
unfolding offset_after
offset_after_in h [] i fits = nothing_off
offset_after_in h (r ∷ rs) i fits = cond_both (eqb r.clock i) r.number (offset_after rs i) OffsetFits (λ _. record { low = fits.0.low; high = fits.0.high }) (λ _. offset_after_in h rs i fits.1)

pub roomy_after : (h : Head) (C n : ℕ) (l : List Reset) → C < n → AllByRecursion (ResetFits h) l → Roomy C n (after l)
roomy_after h C n l less fits = record { rows = λ i le. row_after_in h n l i (omega arith) (omega arith); offsets = λ i. offset_after_in h l i fits }

-- ---- as the code has them: the same frame, rows and atoms by other names

module _ (h : Head) (few : h.clocks ≤ 15) (n rows : ℕ) (f g : Frame) (roomy : Roomy h.clocks n g) (same_frame : f ≡ g) (same_rows : rows ≡ n) where
  pub fit_atoms : (l r : List Atom) → l ≡ r → AllByRecursion (AtomFits h) r → AllByRecursion (Placeable f rows) l
  fit_atoms l r same_atoms fits = subst (λ (q : Frame). AllByRecursion (Placeable q rows) l) (sym same_frame) (subst (λ (k : ℕ). AllByRecursion (Placeable g k) l) (sym same_rows) (subst (λ (q : List Atom). AllByRecursion (Placeable g n) q) (sym same_atoms) (placeable_atoms h few n g roomy r fits)))

  pub fit_records : (l r : List Guarded) → l ≡ r → AllByRecursion (GuardedFits h) r → AllByRecursion (PlaceableRecord f rows) l
  fit_records l r same_records fits = subst (λ (q : Frame). AllByRecursion (PlaceableRecord q rows) l) (sym same_frame) (subst (λ (k : ℕ). AllByRecursion (PlaceableRecord g k) l) (sym same_rows) (subst (λ (q : List Guarded). AllByRecursion (PlaceableRecord g n) q) (sym same_records) (placeable_records h few n g roomy r fits)))

  pub fit_zones : (l r : List Zone) → l ≡ r → AllByRecursion (ZoneFits h) r → AllByRecursion (PlaceableZone f rows) l
  fit_zones l r same_zones fits = subst (λ (q : Frame). AllByRecursion (PlaceableZone q rows) l) (sym same_frame) (subst (λ (k : ℕ). AllByRecursion (PlaceableZone g k) l) (sym same_rows) (subst (λ (q : List Zone). AllByRecursion (PlaceableZone g n) q) (sym same_zones) (All-weaker (ZoneFits h) (PlaceableZone g n) (λ y fit. placeable_atoms h few n g roomy y.atoms fit.atoms.each) r fits)))

  -- whatever closing answers
  pub fit_closed : {B : Type 0} {kind : Kind B} (o : Option (Closed B kind)) → ((t : Closed B kind) → o ≡ Some t → t.square.n ≡ rows) → (l r : List Zone) → l ≡ r → AllByRecursion (ZoneFits h) r → PlaceableIn o f l
  fit_closed {kind = kind} (Some t) same_closed l r same_zones fits = subst (λ (k : ℕ). AllByRecursion (PlaceableZone f k) l) (sym (same_closed t refl)) (fit_zones l r same_zones fits)
  fit_closed {kind = kind} None same_closed l r same_zones fits = tt
