-- A check in the order of checks is not refused where the files passed and the area is long enough. Assumes nothing.
use Rattle.std.proofs.Common.{◌≡◌, ℕ, zero, suc, ◌<◌, ◌≤◌, Bool, true, leb, List, [], ◌∷◌, length, Some, None, Option, refl, arith}
use Rattle.std.specs.List.{slice_get}
use Rattle.std.proofs.lemmas.Bool.{le-leb}
use Rattle.format.specs.Syntax.{Zone}
use Rattle.model.specs.declared.files.Files.{Files}
use Rattle.model.specs.Files.{model_in, zones_in}
use Rattle.checks.specs.Passed.{pass_over}
use Rattle.checks.specs.Calls.{refused_start, refused_zone, refused_record}
use Rattle.checks.proofs.Lowest.{all_nth}
use Rattle.sheet.specs.Order.{order}
use Rattle.checks.specs.Decisions.{refused_check}
use Rattle.checks.specs.declared.check.Check.{Check}
use Rattle.checks.specs.declared.check.Check.TheVariants.{Start, Bad, Time, Command}
use Rattle.sheet.proofs.Ordering.{all_in_order}

pub nth_there : {X : Type 0} (l : List X) (n : ℕ) → n < length l → (x : X) × (slice_get l n ≡ Some x)
nth_there [] n less = absurd (omega arith)
nth_there (x ∷ l) zero less = (x, refl)
nth_there (x ∷ l) (suc n) less = nth_there l n (omega arith)

-- ---- the zone and the record of a check in the order are there

abbrev pub InRange : ℕ → ℕ → ℕ → Check → Type 0
InRange bads commands zones Start = Unit {0}
InRange bads commands zones (Bad n k) = (n < zones) × (k < bads)
InRange bads commands zones (Time n) = n < zones
InRange bads commands zones (Command n k) = (n < zones) × (k < commands)

pub in_range : (bads commands : ℕ) (struck : List Bool) (zones number : ℕ) (c : Check) → slice_get (order bads commands struck zones) number ≡ Some c → InRange bads commands zones c
in_range bads commands struck zones number c e = all_nth (InRange bads commands zones) (order bads commands struck zones) number c (all_in_order (InRange bads commands zones) bads commands struck zones tt (λ i less. record { bad = λ k small. (less, small); time = less; command = λ k small. (less, small) })) e

-- not refused, and refused
pub some_none : {X : Type 0} (o : Option X) (x : X) → o ≡ None → o ≡ Some x → ⊥
some_none o x e d = let z : ◌≡◌ {A = ℕ} 0 1 = cc in omega arith

-- ---- a check that is there is not refused

module _ (p : Files) (passed : pass_over p ≡ true) where
  pub start_made : refused_start p ≡ None
  start_made = rw passed refl

  module _ (area n : ℕ) (enough : leb 578 area ≡ true) (z : Zone) (listed : slice_get (zones_in p) n ≡ Some z) where
    pub zone_made : refused_zone p area n ≡ None
    zone_made = rw passed (rw enough (rw listed refl))

    pub record_made : {X : Type 0} (l : List X) (k : ℕ) (x : X) → slice_get l k ≡ Some x → refused_record p area n l k ≡ None
    record_made l k x e = rw zone_made (rw e refl)

  -- the zone and the record of a check are there, and the area is long enough
  pub check_made : (area : ℕ) → 578 ≤ area → (c : Check) → InRange (length (model_in p).bads) (length (model_in p).commands) (length (zones_in p)) c → refused_check p area c ≡ None
  check_made area enough Start r = start_made
  check_made area enough (Bad n k) r =
      let z = nth_there (zones_in p) n r.0 in
      let g = nth_there (model_in p).bads k r.1 in
      record_made area n (le-leb _ _ enough) z.0 z.1 (model_in p).bads k g.0 g.1
  check_made area enough (Time n) r =
      let z = nth_there (zones_in p) n r in
      zone_made area n (le-leb _ _ enough) z.0 z.1
  check_made area enough (Command n k) r =
      let z = nth_there (zones_in p) n r.0 in
      let d = nth_there (model_in p).commands k r.1 in
      record_made area n (le-leb _ _ enough) z.0 z.1 (model_in p).commands k d.0 d.1

  pub listed_made : (area : ℕ) → 578 ≤ area → (struck : List Bool) (number : ℕ) (c : Check) → slice_get (order (length (model_in p).bads) (length (model_in p).commands) struck (length (zones_in p))) number ≡ Some c → refused_check p area c ≡ None
  listed_made area enough struck number c e = check_made area enough c (in_range _ _ struck _ number c e)
