-- A whole file: questions 1 to 4, and the walk over its records. Assumes nothing.
use Rattle.std.proofs.Common.{◌≡◌, ℕ, ◌-◌, ◌%◌, ◌<◌, ◌≤◌, true, false, ◌&&◌, eqb, leb, List, ◌∷◌, length, get_or, Some, None, Option, Ok, Err, Result, IsErrAnd, MatchResult, sym, refl, ap, ◌∙◌, subst, arith, Bor}
use Rattle.std.proofs.lemmas.List.{drop_more, length-append}
use Rattle.std.proofs.lemmas.Bool.{le-leb, eq-eqb, and_from}
use Rattle.format.specs.Words.{words}
use Rattle.format.specs.Places.{Tally, Scan, scan}
use Rattle.format.specs.Places.File.{model, zones}
use Rattle.format.specs.Faults.{counts, file_stop, file_told, outcome, told}
use Rattle.format.specs.declared.fault.WordFault.TheVariants.{UnusedBits, UnknownName, OutOfRange}
use Rattle.format.specs.declared.fault.RecordFault.TheVariants.{Misplaced, SetAndClear, UrgentAtom, Surplus, Word}
use Rattle.format.specs.declared.fault.FileFault.{FileFault}
use Rattle.format.specs.declared.fault.FileFault.TheVariants.{TooLong, WrongLength, WrongEnd, WrongHead, TooManyChecks, Record as RecordFaulty}
use Rattle.format.specs.declared.fault.Fault.{Fault}
use Rattle.format.specs.declared.fault.Fault.TheVariants.{Model, List as ZoneList}
use Rattle.format.specs.declared.look.Summary.{Summary}
use Rattle.format.specs.declared.scope.Tally.{Tally as Counted}
use Rattle.format.specs.LookOver.{Outcome}
use Rattle.format.specs.LookOver.Outcome.{pass}
use Rattle.format.specs.Places.Scan.{stopped, passed}
use Rattle.format.specs.Places.Slot.{opening}
use Rattle.format.specs.LookOver.{look_over_answer, look_model_answer, look_list_answer, file_walk, refuse, ends_right, head_right, head_at, at_opening}
use Rattle.format.specs.Reading.{Opened, Handed, WalksOn, walk_of, head_of, file_of, tally_of}
use Rattle.format.specs.declared.scope.Scope.{Scope}
use Rattle.format.specs.declared.scope.Place.{Place}
use Rattle.format.specs.declared.scope.File.{File as Which}
use Rattle.format.specs.declared.scope.Record.{Record}
use Rattle.format.specs.declared.scope.Record.TheVariants.{Head as HeadRecord, Start as StartRecord, Invariant as InvariantRecord, Command as CommandRecord, Bad as BadRecord, Zone as ZoneRecord, End as EndRecord}
use Rattle.format.proofs.Cuts.{length_words}

module _ (f : Which) (like : Option ℕ) (bs : List ℕ) (short : length bs ≤ 65532) (whole : length bs % 4 ≡ 0) (some : 8 ≤ length bs) where
  four_asked : (more : Scan) → refuse (leb (length bs) 65532) 1 0 (refuse (eqb (length bs % 4) 0 && leb 8 (length bs)) 2 0 more) ≡ more
  four_asked more = let a : leb (length bs) 65532 ≡ true = le-leb _ _ short in let b : (eqb (length bs % 4) 0 && leb 8 (length bs)) ≡ true = and_from _ _ (eq-eqb _ _ whole) (le-leb _ _ some) in rw (a, b) refl

  pub wrong_end : ends_right (words bs) ≡ false → file_walk (file_of f) like bs ≡ stopped 3 (length (words bs) - 1)
  wrong_end e = four_asked _ ∙ rw e refl

  pub opened : (s : Scope) → ends_right (words bs) ≡ true → head_right like (get_or (words bs) 0 0) ≡ true → head_of s ≡ head_at (get_or (words bs) 0 0) → s.words ≡ length (words bs) →
      Opened f like bs (record { scope = s; file = f; last = None; tally = record { invariants = 0; commands = 0; bads = 0; zones = 0 } })
  opened s e h head count =
      let none : 0 ≡ s.words - length (words bs) = omega arith in
      record {
        whole = count;
        walks = four_asked _ ∙ rw (e, h) (λ i. scan (sym head i) at_opening (opening (file_of f)) (none i) (words bs));
        head_word = drop_more (words bs) 0 0 (omega (arith, length_words bs));
      }

pub end_passes : (b : Bor (List ℕ)) (p q : Place) (bs rest : List ℕ) → WalksOn (EndRecord b) p q bs rest → walk_of p bs ≡ passed (tally_of q.tally)
end_passes b p q bs rest w = w.0 ∙ ap (λ (l : Place). passed (tally_of l.tally)) (sym w.2)

pub record_goes : (r : Record) (p q : Place) (bs rest : List ℕ) → ((b : Bor (List ℕ)) → r ≡ EndRecord b → ⊥) → WalksOn r p q bs rest → walk_of p bs ≡ walk_of q rest
record_goes (HeadRecord b) p q bs rest no_end w = w
record_goes (StartRecord b) p q bs rest no_end w = w
record_goes (InvariantRecord b) p q bs rest no_end w = w
record_goes (CommandRecord b) p q bs rest no_end w = w
record_goes (BadRecord b) p q bs rest no_end w = w
record_goes (ZoneRecord b) p q bs rest no_end w = w
record_goes (EndRecord b) p q bs rest no_end w = absurd (no_end b refl)

-- what is left is shorter
pub rest_shorter : (p q : Place) (bs : List ℕ) (r : Record) (rest : List ℕ) → Handed p q bs r rest → length rest < length bs
rest_shorter p q bs r rest h = omega (arith, h.some, h.length_of_part, simp length-append at (ap length h.whole))

pub rest_within : (p q : Place) (bs : List ℕ) (r : Record) (rest : List ℕ) → Handed p q bs r rest → length (words bs) ≤ p.scope.words → length (words rest) ≤ q.scope.words
rest_within p q bs r rest h enough = omega (arith, rest_shorter p q bs r rest h, length_words bs, length_words rest, ap (λ (c : Scope). c.words) h.same_scope)

-- ---- the two files together

-- a fault of the model is the answer
pub model_told : (x : FileFault) (w : ℕ) (more : Option ℕ → Scan) → look_model_answer w (file_stop x) more ≡ file_told model x
model_told TooLong w more = refl
model_told WrongLength w more = refl
model_told (WrongEnd p) w more = refl
model_told WrongHead w more = refl
model_told TooManyChecks w more = refl
model_told (RecordFaulty (Misplaced p)) w more = refl
model_told (RecordFaulty (SetAndClear p)) w more = refl
model_told (RecordFaulty (UrgentAtom p)) w more = refl
model_told (RecordFaulty (Surplus p)) w more = refl
model_told (RecordFaulty (Word (UnusedBits p))) w more = refl
model_told (RecordFaulty (Word (UnknownName p))) w more = refl
model_told (RecordFaulty (Word (OutOfRange p))) w more = refl

pub model_stops : (ms zs : List ℕ) (x : FileFault) → file_walk model None ms ≡ file_stop x → look_over_answer ms zs ≡ file_told model x
unfolding look_over_answer
model_stops ms zs x e = ap (λ (s : Scan). look_model_answer (get_or (words ms) 0 0) s (λ like. file_walk zones like zs)) e ∙ model_told x _ _

-- a model that passed leaves the answer to the list
pub model_passes : (ms zs : List ℕ) (t : Tally) (w : ℕ) (more : List ℕ) → file_walk model None ms ≡ passed t → words ms ≡ w ∷ more → look_over_answer ms zs ≡ look_list_answer w t (file_walk zones (Some w) zs)
unfolding look_over_answer
model_passes ms zs t w more e first = ap (λ (s : Scan). look_model_answer (get_or (words ms) 0 0) s (λ like. file_walk zones like zs)) e ∙ ap (λ (l : List ℕ). look_list_answer (get_or l 0 0) t (file_walk zones (Some (get_or l 0 0)) zs)) first

-- ---- faults handed on with their file

-- the model passed, and what was read of it is handed on
pub model_read : (r : Result Counted FileFault) (m : Result Counted Fault) (t : Counted) (walk : Scan) → MatchResult r (λ x. walk ≡ passed (tally_of x)) (λ f. walk ≡ file_stop f) → MatchResult r (λ x. m ≡ Ok x) (λ f. IsErrAnd m (λ d. d ≡ Model f)) → m ≡ Ok t → walk ≡ passed (tally_of t)
model_read (Ok x) m t walk told handed e = let same : x ≡ t = cc in told ∙ ap (λ (l : Counted). passed (tally_of l)) same
model_read (Err f) m t walk told handed e = absurd (subst (λ (l : Result Counted Fault). IsErrAnd l (λ d. d ≡ Model f)) e handed)

pub model_faulty : (ms zs : List ℕ) (r : Result Counted FileFault) (m : Result Counted Fault) (d : Fault) → MatchResult r (λ x. file_walk model None ms ≡ passed (tally_of x)) (λ f. file_walk model None ms ≡ file_stop f) → MatchResult r (λ x. m ≡ Ok x) (λ f. IsErrAnd m (λ d. d ≡ Model f)) → m ≡ Err d → told d ≡ look_over_answer ms zs
model_faulty ms zs (Ok x) m d stops handed e = let no : ◌≡◌ {A = ℕ} 0 1 = cc in absurd (omega arith)
model_faulty ms zs (Err f) m d stops handed e =
    let same : d ≡ Model f = subst (λ (l : Result Counted Fault). IsErrAnd l (λ d. d ≡ Model f)) e handed in
    ap told same ∙ sym (model_stops ms zs f stops)

-- of an answer that is a fault
pub outcome_fault : (r : Result Summary Fault) (d : Fault) → IsErrAnd r (λ y. y ≡ d) → outcome r ≡ told d
outcome_fault (Ok s) d h = absurd h
outcome_fault (Err y) d h = ap told h

pub list_told : (r : Result Summary FileFault) (m : Result Summary Fault) (a : Outcome) → MatchResult r (λ s. a ≡ pass (counts s)) (λ f. a ≡ file_told zones f) → MatchResult r (λ s. m ≡ Ok s) (λ f. IsErrAnd m (λ d. d ≡ ZoneList f)) → outcome m ≡ a
list_told (Ok s) m a is handed = ap outcome handed ∙ sym is
list_told (Err f) m a is handed = outcome_fault m (ZoneList f) handed ∙ sym is
