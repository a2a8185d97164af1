-- The zone and the record that a check is asked about. Assumes nothing.
use Rattle.std.proofs.Common.{◌≡◌, ℕ, List, Some, None, refl, subst}
use Rattle.std.specs.List.{slice_get}
use Rattle.checks.specs.declared.calls.Refusal.TheVariants.{NoSuchRecord}
use Rattle.checks.specs.Calls.{refused_zone, refused_record}
use Rattle.model.specs.declared.files.Files.{Files}

-- a fact of the member that was found is one of the member that is there
pub of_listed : {X : Type 0} (P : X → Type 0) (l : List X) (n : ℕ) (x y : X) → slice_get l n ≡ Some x → slice_get l n ≡ Some y → P x → P y
of_listed P l n x y e d p = let same : x ≡ y = cc in subst P same p

module _ {X : Type 0} (p : Files) (area n : ℕ) (l : List X) (k : ℕ) where
  pub record_there : (x : X) → refused_zone p area n ≡ None → slice_get l k ≡ Some x → refused_record p area n l k ≡ None
  record_there x e d = rw e (rw d refl)

  pub record_missing : refused_zone p area n ≡ None → slice_get l k ≡ None → refused_record p area n l k ≡ Some NoSuchRecord
  record_missing e d = rw e (rw d refl)
