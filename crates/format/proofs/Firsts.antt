-- The first word that is left: questions 5 to 11 where a record begins. Assumes nothing.
use Rattle.std.proofs.Common.{◌≡◌, ℕ, suc, ◌/◌, Bool, true, false, ◌&&◌, ◌||◌, eqb, ◌⊎◌, List, [], ◌∷◌, length, Some, None, Option, Ok, Err, sym, refl, ap, ◌∙◌, inl, inr, ⊎_elim, arith}
use Rattle.std.proofs.lemmas.Bool.{eqb-true, or_cases, true≢false, and_right, and_parts, ne_eqb, eq-eqb, cases_Bool}
use Rattle.std.proofs.lemmas.Bool.Decides.{nat_tests}
use Rattle.format.specs.Words.{kind, content}
use Rattle.format.specs.Places.{Head, Context, Slot, Section, File, scan, questions, asks, is_empty, may_stand_here, unused_zero, names_known, within_limit, starts_record, begins, after_head}
use Rattle.format.specs.Places.File.{model, zones}
use Rattle.format.specs.Places.Verdict.{yes_to_all, first_no}
use Rattle.format.specs.Places.Scan.{stopped}
use Rattle.format.specs.Places.Section.{head, start, invariant, command, bad, zone}
use Rattle.format.specs.Places.Slot.{onesMask, zerosMask, setMask, clearMask, resetMask, owed, atomOr, atomNumber, between, opening, starting}
use Rattle.format.specs.Faults.{six_seven, word_stop}
use Rattle.format.specs.Reading.{Takes, Begins, Begun, Ended, Due, reading, slot_at, file_of, words_of, head_of, context_of, slot_of}
use Rattle.format.specs.declared.fault.WordFault.{WordFault}
use Rattle.format.specs.declared.fault.WordFault.TheVariants.{UnusedBits, UnknownName}
use Rattle.format.specs.declared.scope.Text.{Text}
use Rattle.format.specs.declared.scope.Place.{Place}
use Rattle.format.specs.declared.scope.File.{File as Which}
use Rattle.format.specs.declared.kind.RecordKind.{RecordKind}
use Rattle.format.specs.declared.kind.RecordKind.TheVariants.{Head as AfterHead, Start as AfterStart, Invariant as AfterInvariant, Command as AfterCommand, Bad as AfterBad, Zone as AfterZone}
use Rattle.format.specs.Kinds.{code}
use Rattle.format.specs.declared.kind.Kind.{Kind}
use Rattle.format.specs.declared.kind.Kind.TheVariants.{End}
use Rattle.format.proofs.NoKind.{none_starts}
use Rattle.format.proofs.Steps.{stop_at, go_on, finish, full, same_scan}
use Rattle.format.proofs.Cuts.{length_words}
use Rattle.format.proofs.Learned.{six_seven_yes}

due_after : (f : File) → Due (after_head f)
due_after model = tt
due_after zones = tt

pub due_at : (f : Which) (last : Option RecordKind) → Due (slot_at f last)
due_at f None = tt
due_at f (Some AfterHead) = due_after (file_of f)
due_at f (Some AfterStart) = tt
due_at f (Some AfterInvariant) = tt
due_at f (Some AfterCommand) = tt
due_at f (Some AfterBad) = tt
due_at f (Some AfterZone) = tt

-- where a record begins, questions 8 to 10 ask nothing
pub questions_begin : (h : Head) (x : Context) (s : Slot) (last : Bool) (w : ℕ) → Due s → x.urgent ≡ false → questions h x s last w ≡ asks (may_stand_here x s last w) 5 (asks (unused_zero w) 6 (asks (names_known h (kind w) w) 7 (asks (within_limit x s w) 11 yes_to_all)))
questions_begin h x (opening f) last w d u = let no : (eqb (kind w) 9 && x.urgent) ≡ false = and_right _ _ u in rw no refl
questions_begin h x starting last w d u = let no : (eqb (kind w) 9 && x.urgent) ≡ false = and_right _ _ u in rw no refl
questions_begin h x onesMask last w d u = absurd d
questions_begin h x zerosMask last w d u = absurd d
questions_begin h x setMask last w d u = absurd d
questions_begin h x (clearMask m) last w d u = absurd d
questions_begin h x resetMask last w d u = absurd d
questions_begin h x (owed n) last w d u = absurd d
questions_begin h x (atomOr a) last w d u = absurd d
questions_begin h x (atomNumber a) last w d u = absurd d
questions_begin h x between last w d u = let no : (eqb (kind w) 9 && x.urgent) ≡ false = and_right _ _ u in rw no refl

begins_starts : (s : Section) (k : ℕ) → begins s k ≡ true → (starts_record k ≡ true) × ((eqb k 3 || eqb k 6 || eqb k 7 || eqb k 8) ≡ true) × (k ≡ 15 → ⊥)
begins_starts head k e = (grind (arith, nat_tests), grind (arith, nat_tests), λ i. grind (arith, nat_tests))
begins_starts start k e = (grind (arith, nat_tests), grind (arith, nat_tests), λ i. grind (arith, nat_tests))
begins_starts invariant k e = (grind (arith, nat_tests), grind (arith, nat_tests), λ i. grind (arith, nat_tests))
begins_starts command k e = (grind (arith, nat_tests), grind (arith, nat_tests), λ i. grind (arith, nat_tests))
begins_starts bad k e = (grind (arith, nat_tests), grind (arith, nat_tests), λ i. grind (arith, nat_tests))
begins_starts zone k e = (grind (arith, nat_tests), grind (arith, nat_tests), λ i. grind (arith, nat_tests))

-- what may stand where a record begins: such a record, or last the end
pub record Stood (s : Slot) (last : Bool) (w : ℕ) : Type 0 where
  pub starts : starts_record (kind w) ≡ true
  pub record_begins : (kind w ≡ 15 → ⊥) → Begins s w
  pub end_last : kind w ≡ 15 → last ≡ true

stood_between : (x : Context) (last : Bool) (w : ℕ) → (begins x.section (kind w) ≡ true) ⊎ ((last && eqb (kind w) 15) ≡ true) → Stood between last w
stood_between x last w (inl b) = let y = begins_starts x.section (kind w) b in record { starts = y.0; record_begins = λ _. y.1; end_last = λ e. absurd (y.2 e) }
stood_between x last w (inr e) =
    let y = and_parts last (eqb (kind w) 15) e in
    let is : kind w ≡ 15 = eqb-true _ _ y.1 in
    record { starts = simp is; record_begins = λ no. absurd (no is); end_last = λ _. y.0 }

pub stood : (x : Context) (s : Slot) (last : Bool) (w : ℕ) → Due s → may_stand_here x s last w ≡ true → Stood s last w
stood x (opening f) last w d e = let is : kind w ≡ 1 = eqb-true _ _ e in record { starts = simp is; record_begins = λ _. is; end_last = λ i. absurd (omega arith) }
stood x starting last w d e = let is : kind w ≡ 2 = eqb-true _ _ e in record { starts = simp is; record_begins = λ _. is; end_last = λ i. absurd (omega arith) }
stood x onesMask last w d e = absurd d
stood x zerosMask last w d e = absurd d
stood x setMask last w d e = absurd d
stood x (clearMask m) last w d e = absurd d
stood x resetMask last w d e = absurd d
stood x (owed n) last w d e = absurd d
stood x (atomOr a) last w d e = absurd d
stood x (atomNumber a) last w d e = absurd d
stood x between last w d e = stood_between x last w (or_cases _ _ e)

-- a word of no kind
pub none_stands : (p : Place) (last : Bool) (w : ℕ) → ((k : Kind) → code k ≡ kind w → ⊥) → may_stand_here (context_of p) (slot_of p) last w ≡ false
none_stands p last w never =
    ⊎_elim
    (λ yes. absurd (never End (sym (none_starts w never (stood (context_of p) (slot_of p) last w (due_at p.file p.last) yes).starts))))
    (λ no. no)
    (cases_Bool (may_stand_here (context_of p) (slot_of p) last w))

-- of an end, questions 6, 7 and 11 ask nothing
end_asked : (h : Head) (x : Context) (s : Slot) (w : ℕ) → kind w ≡ 15 → asks (unused_zero w) 6 (asks (names_known h (kind w) w) 7 (asks (within_limit x s w) 11 yes_to_all)) ≡ yes_to_all
end_asked h x s w is = simp (is, full)

empty_length : (ws : List ℕ) → is_empty ws ≡ eqb (suc (length ws)) 1
empty_length [] = refl
empty_length (w ∷ ws) = sym (ne_eqb _ _ (λ e. omega arith))

is_empty_true : (ws : List ℕ) → is_empty ws ≡ true → ws ≡ []
is_empty_true [] e = refl
is_empty_true (w ∷ ws) e = absurd (true≢false (sym e))

pub none_left : (t : Text) (x : Context) (s : Slot) → words_of t ≡ [] → reading t x s ≡ stopped 5 t.next
unfolding scan
none_left t x s e = rw e refl

module _ (p : Place) (t : Text) (w : ℕ) (q : Text) (here : Takes t w q) where
  -- whether the first word that is left is the last of the file
  abbrev pub only_word : Bool
  only_word = eqb (length t.bytes.now / 4) 1

  last_is : is_empty (words_of q) ≡ only_word
  last_is = empty_length (words_of q) ∙ ap (λ (n : ℕ). eqb n 1) (sym (ap length here.first) ∙ length_words t.bytes.now)

  due : Due (slot_of p)
  due = due_at p.file p.last

  asked : questions (head_of t.scope) (context_of p) (slot_of p) (is_empty (words_of q)) w ≡ asks (may_stand_here (context_of p) (slot_of p) only_word w) 5 (asks (unused_zero w) 6 (asks (names_known (head_of t.scope) (kind w) w) 7 (asks (within_limit (context_of p) (slot_of p) w) 11 yes_to_all)))
  asked = questions_begin _ (context_of p) (slot_of p) _ w due refl ∙ ap (λ l. asks (may_stand_here (context_of p) (slot_of p) l w) 5 (asks (unused_zero w) 6 (asks (names_known (head_of t.scope) (kind w) w) 7 (asks (within_limit (context_of p) (slot_of p) w) 11 yes_to_all)))) last_is

  first_stops : (n : ℕ) → questions (head_of t.scope) (context_of p) (slot_of p) (is_empty (words_of q)) w ≡ first_no n → reading t (context_of p) (slot_of p) ≡ stopped n t.next
  first_stops n e = ap (scan (head_of t.scope) (context_of p) (slot_of p) t.next) here.first ∙ stop_at _ (context_of p) (slot_of p) _ n w _ e

  pub first_misplaced : may_stand_here (context_of p) (slot_of p) only_word w ≡ false → reading t (context_of p) (slot_of p) ≡ stopped 5 t.next
  first_misplaced e = first_stops 5 (asked ∙ rw e refl)

  module _ (stands : may_stand_here (context_of p) (slot_of p) only_word w ≡ true) where
    pub what_stood : Stood (slot_of p) only_word w
    what_stood = stood (context_of p) (slot_of p) only_word w due stands

    asked_on : (a b : Bool) (f : WordFault) (v : ℕ) → questions (head_of t.scope) (context_of p) (slot_of p) (is_empty (words_of q)) w ≡ asks a 6 (asks b 7 (asks (within_limit (context_of p) (slot_of p) w) 11 yes_to_all)) → six_seven a b t.next v ≡ Err f → reading t (context_of p) (slot_of p) ≡ word_stop f
    asked_on false b f v ask e = let same : UnusedBits t.next ≡ f = cc in first_stops 6 ask ∙ ap word_stop same
    asked_on true false f v ask e = let same : UnknownName t.next ≡ f = cc in first_stops 7 ask ∙ ap word_stop same
    asked_on true true f v ask e = let no : ◌≡◌ {A = ℕ} 0 1 = cc in absurd (omega arith)

    pub first_wrong : (f : WordFault) → six_seven (unused_zero w) (names_known (head_of q.scope) (kind w) w) t.next (content w) ≡ Err f → reading t (context_of p) (slot_of p) ≡ word_stop f
    first_wrong f e = asked_on (unused_zero w) (names_known (head_of t.scope) (kind w) w) f (content w) (asked ∙ rw stands refl) (rw here.same_scope at e)

    module _ (v : ℕ) (fine : six_seven (unused_zero w) (names_known (head_of q.scope) (kind w) w) t.next (content w) ≡ Ok v) where
      room_asked : questions (head_of t.scope) (context_of p) (slot_of p) (is_empty (words_of q)) w ≡ asks (within_limit (context_of p) (slot_of p) w) 11 yes_to_all
      room_asked = let y = six_seven_yes (unused_zero w) (names_known (head_of t.scope) (kind w) w) t.next (content w) v (rw here.same_scope at fine) in asked ∙ rw (stands, y.0, y.1) refl

      pub first_surplus : within_limit (context_of p) (slot_of p) w ≡ false → reading t (context_of p) (slot_of p) ≡ stopped 11 t.next
      first_surplus e = first_stops 11 (room_asked ∙ rw e refl)

      pub first_stands : within_limit (context_of p) (slot_of p) w ≡ true → (kind w ≡ 15 → ⊥) → Begun p t w q
      first_stands room no_end =
          let yes : questions (head_of t.scope) (context_of p) (slot_of p) (is_empty (words_of q)) w ≡ yes_to_all = room_asked ∙ rw room refl in
          record {
            taken = here;
            room = room;
            begins = what_stood.record_begins no_end;
            goes = ap (scan (head_of t.scope) (context_of p) (slot_of p) t.next) here.first ∙ go_on _ (context_of p) (slot_of p) _ w _ yes (ne_eqb _ _ no_end) ∙ same_scan _ _ _ _ _ _ _ _ _ _ (ap head_of (sym here.same_scope)) refl refl (sym here.next) refl;
          }

    pub first_ends : kind w ≡ 15 → Ended p t
    first_ends is =
        let yes : questions (head_of t.scope) (context_of p) (slot_of p) (is_empty (words_of q)) w ≡ yes_to_all = asked ∙ rw stands (end_asked _ (context_of p) (slot_of p) w is) in
        record {
          word = w;
          stands = here.first ∙ ap (λ (l : List ℕ). w ∷ l) (is_empty_true _ (last_is ∙ what_stood.end_last is));
          is_end = is;
          passes = ap (scan (head_of t.scope) (context_of p) (slot_of p) t.next) here.first ∙ finish _ (context_of p) (slot_of p) _ w _ yes (eq-eqb _ _ is);
        }
