-- Two files that passed are within their ranges. Assumes nothing.
use Rattle.std.proofs.Common.{◌≡◌, ℕ, suc, ◌+◌, ◌-◌, ◌*◌, ◌%◌, ◌^◌, ◌<◌, Bool, true, false, ◌&&◌, eqb, ltb, leb, List, [], ◌∷◌, length, get_or, Some, None, Option, sym, refl, ap, ◌∙◌, subst, ⊎_elim, zero-add, arith}
use Rattle.std.proofs.ByRecursion.{All-map}
use Rattle.std.proofs.lemmas.List.{length-map}
use Rattle.std.proofs.lemmas.Bool.{eqb-true, ltb-true, leb-true, and_parts, cases_Bool}
use Rattle.format.specs.Words.{words, kind, content}
use Rattle.format.specs.Places.{File, Head, Context, Slot, Tally, Scan, begin, after_begin, after_condition}
use Rattle.format.specs.Places.File.{model, zones}
use Rattle.format.specs.Places.Scan.{stopped, passed}
use Rattle.format.specs.Places.Slot.{onesMask, atomOr, opening, starting}
use Rattle.format.specs.LookOver.{ends_right, Counts, look_over_answer, look_model_answer, look_list_answer, file_walk, refuse, head_right, head_at, at_opening, checks_of, counts_of}
use Rattle.format.specs.LookOver.Outcome.{pass, fault}
use Rattle.format.specs.Syntax.{body, guarded_of, command_of, zone_of, model_of, zones_of}
use Rattle.format.specs.Ranges.{GuardedFits, CommandFits, ZoneFits, ModelFits, ZonesFit, Read, RangesStand, head_of_model}
use Rattle.format.proofs.Begins.{command_begun, zone_begun}
use Rattle.format.proofs.Bodies.{guarded_fits, command_fits, zone_fits}
use Rattle.format.proofs.Passed.{Passes, never_empty, one, goes}
use Rattle.format.proofs.Counted.{CountedKind, Run, run}

module _ (h : Head) (t : Tally) where
  guarded_at : (k : ℕ) (x : Context) (i w : ℕ) (ws : List ℕ) → kind w ≡ k → (after_condition (begin x w).section ≡ atomOr 0) → (after_begin w ≡ onesMask) → Passes h t (begin x w) (after_begin w) i ws → GuardedFits h (guarded_of (w ∷ body ws))
  guarded_at k x i w ws e section slot on = guarded_fits h t (begin x w) i w ws section (subst (λ (s : Slot). Passes h t (begin x w) s i ws) slot on)

  invariants : CountedKind h t 6 32 (λ u. u.invariants) (λ r. GuardedFits h (guarded_of r))
  invariants = record {
    no_head = omega arith;
    no_end = λ e. omega arith;
    counts = λ n u. refl;
    room = λ x s w e r. let inside : ltb x.tally.invariants 32 ≡ true = simp e at r in ltb-true _ _ inside;
    fits = λ x i w ws e known on. guarded_at 6 x i w ws e (simp e) (simp e) on;
  }

  bads : CountedKind h t 7 32 (λ u. u.bads) (λ r. GuardedFits h (guarded_of r))
  bads = record {
    no_head = omega arith;
    no_end = λ e. omega arith;
    counts = λ n u. refl;
    room = λ x s w e r. let inside : ltb x.tally.bads 32 ≡ true = simp e at r in ltb-true _ _ inside;
    fits = λ x i w ws e known on. guarded_at 7 x i w ws e (simp e) (simp e) on;
  }

  commands : CountedKind h t 3 64 (λ u. u.commands) (λ r. CommandFits h (command_of r))
  commands = record {
    no_head = omega arith;
    no_end = λ e. omega arith;
    counts = λ n u. refl;
    room = λ x s w e r. let inside : ltb x.tally.commands 64 ≡ true = simp e at r in ltb-true _ _ inside;
    fits = λ x i w ws e known on.
        let b = command_begun w e in
        command_fits h t (begin x w) i w ws (b.1 x).0 (b.1 x).1 (subst (λ (s : Slot). Passes h t (begin x w) s i ws) b.0 on);
  }

  zones_kind : CountedKind h t 8 512 (λ u. u.zones) (λ r. ZoneFits h (zone_of r))
  zones_kind = record {
    no_head = omega arith;
    no_end = λ e. omega arith;
    counts = λ n u. refl;
    room = λ x s w e r. let inside : ltb x.tally.zones 512 ≡ true = simp e at r in ltb-true _ _ inside;
    fits = λ x i w ws e known on.
        let b = zone_begun w e in
        let inside : ltb (content w) (2 ^ h.booleans) ≡ true = simp e at known in
        zone_fits h t (begin x w) i w ws (ltb-true _ _ inside) (subst (λ (s : Slot). Passes h t (begin x w) s i ws) b.0 on);
  }

  -- the second word of a model is its start
  pub start_known : (x : Context) (i : ℕ) (ws : List ℕ) → Passes h t x (opening model) i ws → content (get_or ws 1 0) < 2 ^ h.booleans
  start_known x i [] e = never_empty h t x (opening model) i e
  start_known x i (a ∷ []) e =
      let o = one h t x (opening model) i a [] e in
      let is : kind a ≡ 1 = eqb-true _ _ o.yes.stands in
      never_empty h t _ _ _ (goes h t x (opening model) i a [] o (λ f. omega arith))
  start_known x i (a ∷ b ∷ ws) e =
      let o = one h t x (opening model) i a (b ∷ ws) e in
      let is : kind a ≡ 1 = eqb-true _ _ o.yes.stands in
      let q = one h t x starting (suc i) b ws (goes h t x (opening model) i a (b ∷ ws) o (λ f. omega arith)) in
      let two : kind b ≡ 2 = eqb-true _ _ q.yes.stands in
      let known : ltb (content b) (2 ^ h.booleans) ≡ true = simp two at q.yes.known in
      ltb-true _ _ known

-- ---- questions 1 to 4

refuse_passed : (b : Bool) (n p : ℕ) (s : Scan) (t : Tally) → refuse b n p s ≡ passed t → (b ≡ true) × (s ≡ passed t)
refuse_passed true n p s t e = (refl, e)
refuse_passed false n p s t e = let no : ◌≡◌ {A = ℕ} 0 1 = cc in absurd (omega arith)

file_passed : (f : File) (like : Option ℕ) (bs : List ℕ) (t : Tally) → file_walk f like bs ≡ passed t → (head_right like (get_or (words bs) 0 0) ≡ true) × Passes (head_at (get_or (words bs) 0 0)) t at_opening (opening f) 0 (words bs)
file_passed f like bs t e =
    let a = refuse_passed (leb (length bs) 65532) 1 0 _ t e in
    let b = refuse_passed (eqb (length bs % 4) 0 && leb 8 (length bs)) 2 0 _ t a.1 in
    let c = refuse_passed (ends_right (words bs)) 3 (length (words bs) - 1) _ t b.1 in
    refuse_passed (head_right like (get_or (words bs) 0 0)) 4 0 _ t c.1

-- ---- the look-over

-- two files that passed, by their walks
pub record Both (ms zs : List ℕ) (c : Counts) : Type 0 where
  pub tally : Tally
  pub list_tally : Tally
  pub model_walk : file_walk model None ms ≡ passed tally
  pub list_walk : file_walk zones (Some (get_or (words ms) 0 0)) zs ≡ passed list_tally
  pub counts : counts_of (get_or (words ms) 0 0) tally list_tally ≡ c

list_passed : (w : ℕ) (m : Tally) (s : Scan) (c : Counts) → look_list_answer w m s ≡ pass c → (l : Tally) × (s ≡ passed l) × (counts_of w m l ≡ c)
list_passed w m (stopped n p) c e = let no : ◌≡◌ {A = ℕ} 0 1 = cc in absurd (omega arith)
list_passed w m (passed l) c e =
    ⊎_elim
    (λ few. let yes_few : leb (checks_of m l) 65535 ≡ true = few in let same : pass (counts_of w m l) ≡ pass c = simp yes_few at e in let is : counts_of w m l ≡ c = cc in (l, refl, is))
    (λ many. let too_many : leb (checks_of m l) 65535 ≡ false = many in let never : fault 12 zones 0 _ ≡ pass c = simp too_many at e in let no : ◌≡◌ {A = ℕ} 0 1 = cc in absurd (omega arith))
    (cases_Bool (leb (checks_of m l) 65535))

model_passed : (w : ℕ) (s : Scan) (list_walk : Option ℕ → Scan) (c : Counts) → look_model_answer w s list_walk ≡ pass c → (m : Tally) × (s ≡ passed m) × (look_list_answer w m (list_walk (Some w)) ≡ pass c)
model_passed w (stopped n p) list_walk c e = let no : ◌≡◌ {A = ℕ} 0 1 = cc in absurd (omega arith)
model_passed w (passed m) list_walk c e = (m, refl, e)

both : (ms zs : List ℕ) (c : Counts) → look_over_answer ms zs ≡ pass c → Both ms zs c
unfolding look_over_answer
both ms zs c e =
    let m = model_passed _ (file_walk model None ms) (λ like. file_walk zones like zs) c e in
    let l = list_passed _ m.0 _ c m.2 in
    record { tally = m.0; list_tally = l.0; model_walk = m.1; list_walk = l.1; counts = l.2 }

module _ (h : Head) (t : Tally) (f : File) (ws : List ℕ) (on : Passes h t at_opening (opening f) 0 ws) where
  invariants_run : Run h t 6 32 (λ u. u.invariants) (λ r. GuardedFits h (guarded_of r)) (invariants h t) at_opening.tally ws
  invariants_run = run h t 6 32 _ _ (invariants h t) at_opening (opening f) 0 ws on

  commands_run : Run h t 3 64 (λ u. u.commands) (λ r. CommandFits h (command_of r)) (commands h t) at_opening.tally ws
  commands_run = run h t 3 64 _ _ (commands h t) at_opening (opening f) 0 ws on

  bads_run : Run h t 7 32 (λ u. u.bads) (λ r. GuardedFits h (guarded_of r)) (bads h t) at_opening.tally ws
  bads_run = run h t 7 32 _ _ (bads h t) at_opening (opening f) 0 ws on

  zones_run : Run h t 8 512 (λ u. u.zones) (λ r. ZoneFits h (zone_of r)) (zones_kind h t) at_opening.tally ws
  zones_run = run h t 8 512 _ _ (zones_kind h t) at_opening (opening f) 0 ws on

module _ (ms zs : List ℕ) (c : Counts) (b : Both ms zs c) where
  model_told : (head_right None (get_or (words ms) 0 0) ≡ true) × Passes (head_at (get_or (words ms) 0 0)) b.tally at_opening (opening model) 0 (words ms)
  model_told = file_passed model None ms b.tally b.model_walk

  list_told : (head_right (Some (get_or (words ms) 0 0)) (get_or (words zs) 0 0) ≡ true) × Passes (head_at (get_or (words zs) 0 0)) b.list_tally at_opening (opening zones) 0 (words zs)
  list_told = file_passed zones (Some (get_or (words ms) 0 0)) zs b.list_tally b.list_walk

  -- the list's head is the model's
  list_on : Passes (head_at (get_or (words ms) 0 0)) b.list_tally at_opening (opening zones) 0 (words zs)
  list_on =
      let same : get_or (words zs) 0 0 ≡ get_or (words ms) 0 0 = eqb-true _ _ (and_parts _ _ list_told.0).1 in
      subst (λ (w : ℕ). Passes (head_at w) b.list_tally at_opening (opening zones) 0 (words zs)) same list_told.1

  model_within : ModelFits (model_of (words ms))
  model_within =
      let h = head_at (get_or (words ms) 0 0) in
      let on = model_told.1 in
      let i = invariants_run h b.tally model (words ms) on in
      let o = commands_run h b.tally model (words ms) on in
      let d = bads_run h b.tally model (words ms) on in
      record {
        few_booleans = leb-true _ _ (and_parts _ _ model_told.0).1;
        few_clocks = omega arith;
        start_known = start_known h b.tally at_opening 0 (words ms) on;
        invariants = All-map (GuardedFits h) guarded_of _ i.each;
        commands = All-map (CommandFits h) command_of _ o.each;
        bads = All-map (GuardedFits h) guarded_of _ d.each;
        few_invariants = rw length-map (omega (arith, i.counted, i.few (omega arith)));
        few_commands = rw length-map (omega (arith, o.counted, o.few (omega arith)));
        few_bads = rw length-map (omega (arith, d.counted, d.few (omega arith)));
      }

  zones_within : ZonesFit (head_of_model (model_of (words ms))) (zones_of (words zs))
  zones_within =
      let h = head_at (get_or (words ms) 0 0) in
      let z = zones_run h b.list_tally zones (words zs) list_on in
      record {
        zones = All-map (ZoneFits h) zone_of _ z.each;
        few_zones = rw length-map (omega (arith, z.counted, z.few (omega arith)));
      }

  counts_read : Read (model_of (words ms)) (zones_of (words zs)) c
  counts_read =
      let h = head_at (get_or (words ms) 0 0) in
      let on = model_told.1 in
      let i : b.tally.invariants ≡ length (model_of (words ms)).invariants = rw length-map ((invariants_run h b.tally model (words ms) on).counted ∙ zero-add _) in
      let o : b.tally.commands ≡ length (model_of (words ms)).commands = rw length-map ((commands_run h b.tally model (words ms) on).counted ∙ zero-add _) in
      let d : b.tally.bads ≡ length (model_of (words ms)).bads = rw length-map ((bads_run h b.tally model (words ms) on).counted ∙ zero-add _) in
      let z : b.list_tally.zones ≡ length (zones_of (words zs)) = rw length-map ((zones_run h b.list_tally zones (words zs) list_on).counted ∙ zero-add _) in
      record {
        booleans = ap (λ (k : Counts). k.booleans) (sym b.counts);
        clocks = ap (λ (k : Counts). k.clocks) (sym b.counts);
        invariants = ap (λ (k : Counts). k.invariants) (sym b.counts) ∙ i;
        commands = ap (λ (k : Counts). k.commands) (sym b.counts) ∙ o;
        bads = ap (λ (k : Counts). k.bads) (sym b.counts) ∙ d;
        zones = ap (λ (k : Counts). k.zones) (sym b.counts) ∙ z;
        checks = ap (λ (k : Counts). k.checks) (sym b.counts) ∙ (λ l. 1 + z l * (d l + 1 + o l));
      }

pub ranges_stand : RangesStand
ranges_stand ms zs c e = let b = both ms zs c e in record { model = model_within ms zs c b; zones = zones_within ms zs c b; counts = counts_read ms zs c b }
