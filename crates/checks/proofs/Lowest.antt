-- The lowest zone by one property is the lowest by another that is true of the same zones. Assumes nothing.
use Rattle.std.proofs.Common.{◌≡◌, ℕ, zero, suc, ◌+◌, ◌<◌, ◌≤◌, Bool, true, false, List, [], ◌∷◌, length, get_or, drop, Some, None, Decides, Option, refl, sym, ap, ◌∙◌, subst, ⊎_elim, add-one, arith, length-drop, below_more}
use Rattle.std.specs.List.{slice_get, AllByRecursion}
use Rattle.std.proofs.lemmas.Option.{slice_get_past}
use Rattle.std.proofs.lemmas.Bool.{cases_lt, true≢false}
use Rattle.bound.specs.Time.{Same}
use Rattle.format.specs.Syntax.{Zone}
use Rattle.model.specs.Views.{zone_in}
use Rattle.model.specs.declared.views.Zone.{Zone as ZonePart}
use Rattle.checks.specs.Meanings.{Unstruck, Names}
use Rattle.checks.specs.Finding.{Found}

pub all_nth : {X : Type 0} (P : X → Type 0) (l : List X) (n : ℕ) (x : X) → AllByRecursion P l → slice_get l n ≡ Some x → P x
all_nth P [] n x all e = absurd (let z : ◌≡◌ {A = ℕ} 0 1 = cc in omega arith)
all_nth P (y ∷ l) zero x all e = let same : y ≡ x = cc in subst P same all.0
all_nth P (y ∷ l) (suc n) x all e = all_nth P l n x all.1 e

pub names_same : (P Q : Zone → Type 0) (struck : List Bool) (l : List Zone) (r : Option ℕ) → ((n : ℕ) (y : Zone) → slice_get l n ≡ Some y → Same (P y) (Q y)) → Names Q struck l r → Names P struck l r
names_same P Q struck l (Some n) both names = record {
  zone = names.zone;
  is_unstruck = names.is_unstruck;
  has = (both n names.zone names.is_unstruck.listed).1 names.has;
  no_lower = λ i y less u p. names.no_lower i y less u ((both i y u.listed).0 p);
}
names_same P Q struck l None both names = λ i y u p. names i y u ((both i y u.listed).0 p)

-- the same marks and the same zones, by other names
pub listed_as : (P : Zone → Type 0) (struck marks : List Bool) (l r : List Zone) (answer : Option ℕ) → struck ≡ marks → l ≡ r → Names P struck l answer → Names P marks r answer
listed_as P struck marks l r answer same_marks same_zones names = subst (λ (q : List Bool). Names P q r answer) same_marks (subst (λ (q : List Zone). Names P struck q answer) same_zones names)

-- ---- by what a function answers of each zone

-- what it answers decides P: then the zone that it names is the lowest with P
pub names_by : (says : ZonePart → Bool → Type 0) (P : Zone → Type 0) (struck : List Bool) (l : List Zone) (r : Option ℕ) → Found says struck l r → ((n : ℕ) (p : ZonePart) (b : Bool) → slice_get l n ≡ Some (zone_in p) → says p b → Decides b (P (zone_in p))) → Names P struck l r
names_by says P struck l (Some n) found_by decides = let names = found_by.names in record {
  zone = zone_in names.part;
  is_unstruck = names.is_unstruck;
  has = (decides n names.part true names.is_unstruck.listed names.said_yes).0 refl;
  no_lower = λ i y less u p. let below = names.no_lower i y less u in true≢false (sym ((decides i below.0 false (u.listed ∙ ap Some (sym below.1.0)) below.1.1).1 (subst P (sym below.1.0) p)));
}
names_by says P struck l None found_by decides = λ i y u p. let one = found_by.names i y u in true≢false (sym ((decides i one.0 false (u.listed ∙ ap Some (sym one.1.0)) one.1.1).1 (subst P (sym one.1.0) p)))

-- of none of the unstruck zones below n it answered yes
abbrev pub Tried : (ZonePart → Bool → Type 0) → List Bool → List Zone → ℕ → Type 0
Tried says struck l n = (i : ℕ) (y : Zone) → i < n → Unstruck struck l i y → (p : ZonePart) × ((zone_in p ≡ y) × says p false)

module _ (says : ZonePart → Bool → Type 0) (struck : List Bool) (l : List Zone) where
  pub tried_none : Tried says struck l 0
  tried_none i y less u = absurd (omega arith)

  tried_more : (n : ℕ) → Tried says struck l n → ((y : Zone) → Unstruck struck l n y → (p : ZonePart) × ((zone_in p ≡ y) × says p false)) → Tried says struck l (n + 1)
  tried_more n tried here i y less = below_more (λ (k : ℕ). (y : Zone) → Unstruck struck l k y → (p : ZonePart) × ((zone_in p ≡ y) × says p false)) n (λ k below z. tried k z below) here i less y

  pub names_none : (n : ℕ) → Tried says struck l n → length l ≤ n → Found says struck l None
  names_none n tried past = record {
    names = λ i y u.
        ⊎_elim
        (λ below. tried i y below u)
        (λ beyond. let none = slice_get_past l i (omega arith) in let listed = u.listed in let z : ◌≡◌ {A = ℕ} 0 1 = cc in absurd (omega arith))
        (cases_lt i n);
  }

-- ---- the zones that are left, from the n-th on

pub nth_left : {X : Type 0} (l : List X) (n : ℕ) (x : X) (rest : List X) → drop n l ≡ x ∷ rest → slice_get l n ≡ Some x
nth_left [] zero x rest e = let z : ◌≡◌ {A = ℕ} 0 1 = cc in absurd (omega arith)
nth_left [] (suc n) x rest e = let z : ◌≡◌ {A = ℕ} 0 1 = cc in absurd (omega arith)
nth_left (y ∷ ys) zero x rest e = let same : y ≡ x = cc in ap Some same
nth_left (y ∷ ys) (suc n) x rest e = nth_left ys n x rest e

drop_suc : {X : Type 0} (l : List X) (n : ℕ) (x : X) (rest : List X) → drop n l ≡ x ∷ rest → rest ≡ drop (suc n) l
drop_suc [] zero x rest e = let z : ◌≡◌ {A = ℕ} 0 1 = cc in absurd (omega arith)
drop_suc [] (suc n) x rest e = let z : ◌≡◌ {A = ℕ} 0 1 = cc in absurd (omega arith)
drop_suc (y ∷ ys) zero x rest e = let same : ys ≡ rest = cc in sym same
drop_suc (y ∷ ys) (suc n) x rest e = drop_suc ys n x rest e

drop_next : {X : Type 0} (l : List X) (n : ℕ) (x : X) (rest : List X) → drop n l ≡ x ∷ rest → rest ≡ drop (n + 1) l
drop_next l n x rest e = drop_suc l n x rest e ∙ ap (λ (m : ℕ). drop m l) (sym (add-one n))

module _ (says : ZonePart → Bool → Type 0) (struck : List Bool) (all : List Zone) (n : ℕ) (left : List Zone) (is : left ≡ drop n all) where
  module _ (rest : List Zone) (z : ZonePart) (splits : left ≡ zone_in z ∷ rest) where
    pub here : slice_get all n ≡ Some (zone_in z)
    here = nth_left all n (zone_in z) rest (sym is ∙ splits)

    pub left_next : rest ≡ drop (n + 1) all
    left_next = drop_next all n (zone_in z) rest (sym is ∙ splits)

    pub tried_other : Tried says struck all n → says z false → Tried says struck all (n + 1)
    tried_other tried said_no = tried_more says struck all n tried (λ y u. let listed = u.listed in let one = here in let same : zone_in z ≡ y = cc in (z, (same, said_no)))

    pub tried_struck : Tried says struck all n → get_or struck n false ≡ true → Tried says struck all (n + 1)
    tried_struck tried mark = tried_more says struck all n tried (λ y u. absurd (true≢false (sym mark ∙ u.unstruck)))

    pub found : Tried says struck all n → get_or struck n false ≡ false → says z true → Found says struck all (Some n)
    found tried mark said = record { names = record { part = z; is_unstruck = record { listed = here; unstruck = mark }; said_yes = said; no_lower = tried } }

  pub none_left : left ≡ [] → Tried says struck all n → Found says struck all None
  none_left e tried = names_none says struck all n tried (omega (arith, length-drop n all, ap length (sym is ∙ e)))
