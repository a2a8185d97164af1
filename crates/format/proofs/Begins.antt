-- The first word of a record: what it makes of the context. Assumes nothing.
use Rattle.std.proofs.Common.{◌≡◌, ℕ, ◌-◌, ◌<◌, ◌≤◌, Bool, true, false, eqb, ◌⊎◌, Ok, Err, Result, sym, refl, ap, ◌∙◌, subst, inl, inr, ⊎_elim, arith, MatchResult}
use Rattle.std.proofs.lemmas.Bool.{true≢false, cases_eq}
use Rattle.std.proofs.lemmas.Bool.Decides.{nat_tests}
use Rattle.format.specs.Words.{kind, content, continued, record_length}
use Rattle.format.specs.Places.{Context, Slot, File, starts_record, begin, after_begin, after_condition, after_head, context_after, slot_after}
use Rattle.format.specs.Places.File.{model, zones}
use Rattle.format.specs.Places.Slot.{onesMask, zerosMask, setMask, clearMask, resetMask, owed, atomOr, atomNumber, between, opening, starting}
use Rattle.format.specs.Reading.{Takes, Goes, Stops, Begins, BeginsNext, rest_slot, words_of}
use Rattle.format.specs.Kinds.{first_code}
use Rattle.format.specs.declared.kind.FirstWord.{FirstWord}
use Rattle.format.specs.declared.kind.RecordKind.{RecordKind}
use Rattle.format.specs.declared.kind.RecordKind.TheVariants.{Head as HeadRecord, Start as StartRecord, Invariant as InvariantRecord, Command as CommandRecord, Bad as BadRecord, Zone as ZoneRecord}
use Rattle.format.specs.declared.fault.RecordFault.{RecordFault}
use Rattle.format.specs.declared.scope.Text.{Text}
use Rattle.format.proofs.Learned.{moves_none}

-- the records that begin with other words than a head or a start stand between two others
only_between : (w : ℕ) → 3 ≤ kind w → (Q : Slot → Type 0) → Q between → (s : Slot) → Begins s w → Q s
only_between w h Q q (opening f) b = absurd (omega arith)
only_between w h Q q starting b = absurd (omega arith)
only_between w h Q q onesMask b = absurd b
only_between w h Q q zerosMask b = absurd b
only_between w h Q q setMask b = absurd b
only_between w h Q q (clearMask m) b = absurd b
only_between w h Q q resetMask b = absurd b
only_between w h Q q (owed n) b = absurd b
only_between w h Q q (atomOr a) b = absurd b
only_between w h Q q (atomNumber a) b = absurd b
only_between w h Q q between b = q

-- what is told of every context holds of the one that a first word makes
pub begun : (t : Text) (w : ℕ) (q : Text) (s : Slot) (r : Result (Unit {0}) RecordFault) (P : Context → Type 0) → 3 ≤ kind w → ((x : Context) → P (begin x w)) → after_begin w ≡ s →
    MatchResult r (λ _. (x : Context) → P x → Goes t x s q between) (λ f. (x : Context) → P x → Stops t x s f) →
    MatchResult r (λ _. (x : Context) (s : Slot) → Begins s w → Goes t (context_after x s w) (slot_after x s w) q (rest_slot s)) (λ f. (x : Context) (s : Slot) → Begins s w → Stops t (context_after x s w) (slot_after x s w) f)
begun t w q s (Ok k) P h p e told = λ x. only_between w h (λ s. Goes t (context_after x s w) (slot_after x s w) q (rest_slot s)) (subst (λ r. Goes t (begin x w) r q between) (sym e) (told (begin x w) (p x)))
begun t w q s (Err f) P h p e told = λ x. only_between w h (λ s. Stops t (context_after x s w) (slot_after x s w) f) (subst (λ r. Stops t (begin x w) r f) (sym e) (told (begin x w) (p x)))

-- a head or a start is one word
pub alone : (t : Text) (w : ℕ) → kind w < 3 → (x : Context) (s : Slot) → Begins s w → Goes t (context_after x s w) (slot_after x s w) t (rest_slot s)
alone t w h x (opening f) b = record { moves = moves_none t; walks = refl; continues = refl }
alone t w h x starting b = record { moves = moves_none t; walks = refl; continues = refl }
alone t w h x onesMask b = absurd b
alone t w h x zerosMask b = absurd b
alone t w h x setMask b = absurd b
alone t w h x (clearMask m) b = absurd b
alone t w h x resetMask b = absurd b
alone t w h x (owed n) b = absurd b
alone t w h x (atomOr a) b = absurd b
alone t w h x (atomNumber a) b = absurd b
alone t w h x between b = let no : ◌≡◌ {A = Bool} true false = sym b ∙ grind (arith, nat_tests) in absurd (true≢false no)

next_begins : (f : File) → BeginsNext (after_head f)
next_begins model = tt
next_begins zones = tt

-- after a record the next one is due
pub rest_begins : (s : Slot) → BeginsNext (rest_slot s)
rest_begins (opening f) = next_begins f
rest_begins starting = tt
rest_begins onesMask = tt
rest_begins zerosMask = tt
rest_begins setMask = tt
rest_begins (clearMask m) = tt
rest_begins resetMask = tt
rest_begins (owed n) = tt
rest_begins (atomOr a) = tt
rest_begins (atomNumber a) = tt
rest_begins between = tt

-- how long a record is, its words taken
pub long : (t : Text) (w : ℕ) (q : Text) (x : Context) (s : Slot) (u : Text) (r : Slot) → Takes t w q → Goes q x s u r → continued (words_of u) ≡ 0 → record_length (words_of t) ≡ u.next - t.next
unfolding record_length
long t w q x s u r here goes none = ap record_length here.first ∙ omega (arith, here.next, goes.continues, none)

never_end : (k : RecordKind) → first_code k ≡ 15 → ⊥
never_end HeadRecord e = omega arith
never_end StartRecord e = omega arith
never_end InvariantRecord e = omega arith
never_end CommandRecord e = omega arith
never_end BadRecord e = omega arith
never_end ZoneRecord e = omega arith

-- a word that begins a record is no end
pub no_end : (first : FirstWord) → kind first.word ≡ 15 → ⊥
no_end first e = never_end first.kind (first.begins ∙ e)

-- each word that begins a record does so at some slot
pub some_slot : (w : ℕ) → starts_record (kind w) ≡ true → (kind w ≡ 15 → ⊥) → (s : Slot) × Begins s w
some_slot w b no15 = ⊎_elim (λ e. (opening model, e)) (λ no1. ⊎_elim (λ e. (starting, e)) (λ no2. (between, grind (arith, nat_tests))) (cases_eq (kind w) 2)) (cases_eq (kind w) 1)

pub command_begun : (w : ℕ) → kind w ≡ 3 → (after_begin w ≡ onesMask) × ((x : Context) → (after_condition (begin x w).section ≡ setMask) × ((begin x w).urgent ≡ eqb (content w) 1))
command_begun w e = (simp e, λ x. (simp e, simp e))

pub zone_begun : (w : ℕ) → kind w ≡ 8 → (after_begin w ≡ atomOr 0) × ((x : Context) → (begin x w).urgent ≡ false)
zone_begun w e = (simp e, λ x. simp e)

-- the number of a first word's kind, by the kind of its record
pub kind_is : (first : FirstWord) (k : RecordKind) → first.kind ≡ k → kind first.word ≡ first_code k
kind_is first k e = sym first.begins ∙ ap first_code e

guarded_at : (w k : ℕ) → kind w ≡ k → (k ≡ 6) ⊎ (k ≡ 7) → (after_begin w ≡ onesMask) × ((x : Context) → (after_condition (begin x w).section ≡ atomOr 0) × ((begin x w).urgent ≡ false))
guarded_at w k e (inl i) = let f = e ∙ i in (simp f, λ x. (simp f, simp f))
guarded_at w k e (inr i) = let f = e ∙ i in (simp f, λ x. (simp f, simp f))

pub guarded_begun : (first : FirstWord) → (first.kind ≡ InvariantRecord) ⊎ (first.kind ≡ BadRecord) → (3 ≤ kind first.word) × (after_begin first.word ≡ onesMask) × ((x : Context) → (after_condition (begin x first.word).section ≡ atomOr 0) × ((begin x first.word).urgent ≡ false))
guarded_begun first (inl e) = let k = kind_is first InvariantRecord e in let g = guarded_at first.word 6 k (inl refl) in (omega (arith, k), g.0, g.1)
guarded_begun first (inr e) = let k = kind_is first BadRecord e in let g = guarded_at first.word 7 k (inr refl) in (omega (arith, k), g.0, g.1)
