-- What a reader of records hands out. Assumes nothing.
use Rattle.std.proofs.Common.{◌≡◌, ℕ, suc, ◌-◌, ◌*◌, ◌<◌, ◌≤◌, true, false, eqb, List, [], ◌∷◌, ◌++◌, length, get_or, take, drop, sym, refl, ap, ◌∙◌, ⊎_elim, arith, length-drop, take-append-drop, Bor}
use Rattle.std.proofs.lemmas.List.{length-take-le}
use Rattle.std.proofs.lemmas.Bool.{cases_Bool, eqb-true, cond_both}
use Rattle.format.specs.Words.{kind, words, continues, continued, record_length}
use Rattle.format.specs.Places.{Head, Context, Slot, scan, is_empty, context_after, slot_after}
use Rattle.format.specs.Places.Slot.{onesMask, zerosMask, setMask, clearMask, resetMask, owed, atomOr, atomNumber, between, opening, starting}
use Rattle.format.specs.Reading.{Begun, Continued, Ended, Goes, Moves, Past, Reads, BeginsNext, Handed, WalksOn, calm, reading, words_of, head_of, context_of, slot_of, rest_slot, walk_of, begun_by, part_of}
use Rattle.format.specs.declared.scope.Text.{Text}
use Rattle.format.specs.declared.scope.Scope.{Scope}
use Rattle.format.specs.declared.scope.Place.{Place}
use Rattle.format.specs.declared.scope.Record.{Record}
use Rattle.format.specs.declared.scope.Record.TheVariants.{Head as HeadRecord, Start as StartRecord, Invariant as InvariantRecord, Command as CommandRecord, Bad as BadRecord, Zone as ZoneRecord, End as EndRecord}
use Rattle.format.proofs.Steps.{stop_at, not_due, same_scan}
use Rattle.format.proofs.Cuts.{length_words, words_drop}
use Rattle.format.proofs.Begins.{rest_begins, long}
use Rattle.format.proofs.Learned.{moves_one, moves_trans}

-- between two records it does not matter whether the last one was urgent
pub calm_walk : (h : Head) (x : Context) (s : Slot) (i : ℕ) (ws : List ℕ) → BeginsNext s → scan h x s i ws ≡ scan h (calm x) s i ws
unfolding scan
calm_walk h x (opening f) i ws b = absurd b
calm_walk h x starting i [] b = refl
calm_walk h x starting i (w ∷ ws) b =
    ⊎_elim
    (λ atom. let more : continues w ≡ true = let is : kind w ≡ 9 = eqb-true _ _ atom in simp is in stop_at h x starting i 5 w ws (rw (not_due x starting (is_empty ws) w tt more) refl) ∙ sym (stop_at h (calm x) starting i 5 w ws (rw (not_due (calm x) starting (is_empty ws) w tt more) refl)))
    (λ other. let e : eqb (kind w) 9 ≡ false = other in simp e)
    (cases_Bool (eqb (kind w) 9))
calm_walk h x onesMask i ws b = absurd b
calm_walk h x zerosMask i ws b = absurd b
calm_walk h x setMask i ws b = absurd b
calm_walk h x (clearMask m) i ws b = absurd b
calm_walk h x resetMask i ws b = absurd b
calm_walk h x (owed n) i ws b = absurd b
calm_walk h x (atomOr a) i ws b = absurd b
calm_walk h x (atomNumber a) i ws b = absurd b
calm_walk h x between i [] b = refl
calm_walk h x between i (w ∷ ws) b =
    ⊎_elim
    (λ atom. let more : continues w ≡ true = let is : kind w ≡ 9 = eqb-true _ _ atom in simp is in stop_at h x between i 5 w ws (rw (not_due x between (is_empty ws) w tt more) refl) ∙ sym (stop_at h (calm x) between i 5 w ws (rw (not_due (calm x) between (is_empty ws) w tt more) refl)))
    (λ other. let e : eqb (kind w) 9 ≡ false = other in simp e)
    (cases_Bool (eqb (kind w) 9))

continued_le : (ws : List ℕ) → continued ws ≤ length ws
unfolding continued
continued_le [] = omega arith
continued_le (w ∷ ws) = let l = continued_le ws in cond_both (continues w) (suc (continued ws)) 0 (λ n. n ≤ suc (length ws)) (λ _. omega arith) (λ _. omega arith)

pub record_length_le : (ws : List ℕ) → record_length ws ≤ length ws
unfolding record_length
record_length_le [] = omega arith
record_length_le (w ∷ ws) = let l = continued_le ws in omega arith

-- a record's bytes are there
pub record_fits : (bs : List ℕ) → 4 * record_length (words bs) ≤ length bs
record_fits bs = omega (arith, record_length_le (words bs), length_words bs)

record_some : (ws : List ℕ) (w : ℕ) (more : List ℕ) → ws ≡ w ∷ more → 0 < record_length ws
unfolding record_length
record_some ws w more e = rw e (omega arith)

end_alone : (ws : List ℕ) (w : ℕ) → ws ≡ w ∷ [] → record_length ws ≡ 1
unfolding record_length continued
end_alone ws w e = rw e refl

walks_on : (r : Record) (p q : Place) (bs rest : List ℕ) → (begun_by r ≡ 15 → ⊥) → walk_of p bs ≡ walk_of q rest → WalksOn r p q bs rest
walks_on (HeadRecord b) p q bs rest no_end e = e
walks_on (StartRecord b) p q bs rest no_end e = e
walks_on (InvariantRecord b) p q bs rest no_end e = e
walks_on (CommandRecord b) p q bs rest no_end e = e
walks_on (BadRecord b) p q bs rest no_end e = e
walks_on (ZoneRecord b) p q bs rest no_end e = e
walks_on (EndRecord b) p q bs rest no_end e = absurd (no_end refl)

module _ (p : Place) (bs : List ℕ) (t : Text) (reads : Reads p bs t) where
  -- the walk over what is left, as the reader sees it
  pub walk_read : reading t (context_of p) (slot_of p) ≡ walk_of p bs
  walk_read = same_scan _ _ _ _ _ _ _ _ _ _ (ap head_of reads.same_scope) refl refl reads.next reads.whole

  module _ (w n : ℕ) (more : List ℕ) (stands : words_of t ≡ w ∷ more) (is : record_length (words bs) ≡ n) (q : Place) (r : Record) (rest : List ℕ) (case : begun_by r ≡ kind w) (front : part_of r ≡ take (4 * n) bs) (back : rest ≡ drop (4 * n) bs) where
    first_is : words bs ≡ w ∷ more
    first_is = sym reads.whole ∙ stands

    handed : q.scope ≡ p.scope → q.file ≡ p.file → (length (words bs) ≤ p.scope.words → WalksOn r p q bs rest) → Handed p q bs r rest
    handed scope file walks = record {
      some = record_some _ w _ first_is;
      case = case ∙ ap (λ (l : List ℕ). kind (get_or l 0 0)) (sym first_is);
      part = front ∙ ap (λ (k : ℕ). take (4 * k) bs) (sym is);
      left = back ∙ ap (λ (k : ℕ). drop (4 * k) bs) (sym is);
      whole = (λ i. front i ++ back i) ∙ take-append-drop (4 * n) bs;
      length_of_part = ap length front ∙ length-take-le (4 * n) bs (omega (arith, record_fits bs)) ∙ ap (λ (k : ℕ). 4 * k) (sym is);
      same_scope = scope;
      same_file = file;
      walks = walks;
    }

  -- the end is one word, and the last
  pub end_length : Ended p t → record_length (words bs) ≡ 1
  end_length b = end_alone _ b.word (sym reads.whole ∙ b.stands)

  pub handed_end : (part rest : Bor (List ℕ)) → Ended p t → part.now ≡ take 4 bs → rest.now ≡ drop 4 bs → Handed p p bs (EndRecord part) rest.now
  handed_end part rest b front back =
      handed b.word 1 [] b.stands (end_length b) p (EndRecord part) rest.now (sym b.is_end) front back refl refl
      (λ _. (sym walk_read ∙ b.passes, ap words back ∙ words_drop 1 bs ∙ ap (drop 1) (sym reads.whole ∙ b.stands), refl))

  module _ (w : ℕ) (q : Text) (b : Begun p t w q) (u : Text) (told : Continued q w u) where
    goes_on_from : Goes q (context_after (context_of p) (slot_of p) w) (slot_after (context_of p) (slot_of p) w) u (rest_slot (slot_of p))
    goes_on_from = told.goes (context_of p) (slot_of p) b.begins

    moved : Moves t u
    moved = moves_trans t q u (moves_one t w q b.taken) goes_on_from.moves

    pub later : t.next ≤ u.next
    later = moved.later

    pub taken_length : record_length (words bs) ≡ u.next - t.next
    taken_length = ap record_length (sym reads.whole) ∙ long t w q _ _ u _ b.taken goes_on_from told.whole

    pub handed_record : (g : Place) (r : Record) (rest : List ℕ) → begun_by r ≡ kind w → part_of r ≡ take (4 * (u.next - t.next)) bs → rest ≡ drop (4 * (u.next - t.next)) bs → Past p w g → (kind w ≡ 15 → ⊥) → Handed p g bs r rest
    handed_record g r rest case front back past no_end =
        let n = u.next - t.next in
        let left : words rest ≡ words_of u = ap words back ∙ words_drop n bs ∙ ap (drop n) (sym reads.whole) ∙ sym moved.left in
        let within = record_length_le (words bs) in
        let walks : length (words bs) ≤ p.scope.words → walk_of p bs ≡ walk_of g rest = λ enough.
        let here : u.next ≡ g.scope.words - length (words rest) = omega (arith, later, reads.next, taken_length, ap length back, ap (λ (c : Scope). c.words) past.same_scope, length_words rest, length_words bs, length-drop (4 * n) bs) in
        sym walk_read ∙ b.goes ∙ goes_on_from.walks
        ∙ calm_walk _ _ _ _ _ (rest_begins (slot_of p))
        ∙ same_scan _ _ _ _ _ _ _ _ _ _ (ap head_of (moved.same_scope ∙ reads.same_scope ∙ sym past.same_scope)) (sym past.context) (sym past.slot) here (sym left) in
        handed w n _ b.taken.first taken_length g r rest case front back past.same_scope past.same_file (λ enough. walks_on r p g bs rest (λ e. no_end (sym case ∙ e)) (walks enough))
