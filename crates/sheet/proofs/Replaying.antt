-- A series of calls, one after another. Assumes nothing.
use Rattle.std.proofs.Common.{◌≡◌, ℕ, ◌+◌, ◌≤◌, true, List, ◌∷◌, length, drop, sym, refl, ap, ◌∙◌, subst}
use Rattle.std.proofs.lemmas.List.{drop_all}
use Rattle.model.specs.declared.files.Files.{Files}
use Rattle.model.specs.Files.{zones_in}
use Rattle.format.specs.Words.{words}
use Rattle.format.specs.Syntax.{model_of, zones_of}
use Rattle.format.specs.LookOver.{look_over_answer}
use Rattle.model.specs.Passing.{passes}
use Rattle.checks.specs.Passed.{pass_over}
use Rattle.sheet.specs.Sheets.{Opened, model_on, zones_on, struck_on}
use Rattle.sheet.specs.Striking.{verdict_of}
use Rattle.sheet.specs.Series.{History, at_opening, after_call, after_calls, Promise}
use Rattle.sheet.specs.Tracking.{Tracks, Makes}
use Rattle.sheet.specs.declared.sheet.Sheet.{Sheet}
use Rattle.sheet.specs.declared.call.Call.{Call}
use Rattle.sheet.proofs.Tracking.{tracks_opened}
use Rattle.sheet.proofs.Promising.{promised}

module _ (admits : ℕ → Type 0) (ms zs : List ℕ) (area : ℕ) (calls : List Call) where
  -- what the calls so far come to, with those that are left, is what all of them come to
  pub record SoMany (i : ℕ) (s : Sheet) : Type 0 where
    pub history : History
    pub tracks : Tracks admits s history
    pub left : after_calls (length (zones_on s)) area history (drop i calls) ≡ after_calls (length (zones_on s)) area at_opening calls

  pub record Replayed (i : ℕ) (s : Sheet) : Type 0 where
    pub model : s.files.model.now ≡ ms
    pub zones : s.files.zones.now ≡ zs
    pub so_far : pass_over s.files ≡ true → SoMany i s

  pub replayed_none : (s : Sheet) → Opened ms zs s → Replayed 0 s
  replayed_none s o = record { model = o.model; zones = o.zones; so_far = λ _. record { history = at_opening; tracks = tracks_opened admits ms zs s o; left = refl } }

  pub replayed_more : (i : ℕ) (old new : Sheet) (c : Call) → drop i calls ≡ c ∷ drop (i + 1) calls → Makes admits area old c new → Replayed i old → Replayed (i + 1) new
  unfolding after_calls
  replayed_more i old new c next makes r = record {
    model = ap (λ (p : Files). p.model.now) makes.files ∙ r.model;
    zones = ap (λ (p : Files). p.zones.now) makes.files ∙ r.zones;
    so_far = λ passed.
        let before = subst (λ (p : Files). pass_over p ≡ true) makes.files passed in
        let so = r.so_far before in
        record {
          history = after_call (length (zones_on old)) area so.history c;
          tracks = makes.tracks before so.history so.tracks;
          left = subst (λ (p : Files). after_calls (length (zones_in p)) area (after_call (length (zones_on old)) area so.history c) (drop (i + 1) calls) ≡ after_calls (length (zones_in p)) area at_opening calls) (sym makes.files) (sym (ap (after_calls (length (zones_on old)) area so.history) next) ∙ so.left);
        };
  }

  pub replayed_all : (i : ℕ) (s : Sheet) → length calls ≤ i → Replayed i s → pass_over s.files ≡ true → Promise admits (model_on s) (zones_on s) (after_calls (length (zones_on s)) area at_opening calls) (verdict_of s)
  unfolding after_calls
  replayed_all i s past r passed =
      let so = r.so_far passed in
      let all : so.history ≡ after_calls (length (zones_on s)) area at_opening calls = sym (ap (after_calls (length (zones_on s)) area so.history) (drop_all i calls past)) ∙ so.left in
      subst (λ (h : History). Promise admits (model_on s) (zones_on s) h (verdict_of s)) all (promised admits s so.history so.tracks)

  pub marks_all : (i : ℕ) (s : Sheet) → length calls ≤ i → Replayed i s → pass_over s.files ≡ true → struck_on s ≡ (after_calls (length (zones_on s)) area at_opening calls).struck
  unfolding after_calls
  marks_all i s past r passed =
      let so = r.so_far passed in
      so.tracks.marks ∙ ap (λ (h : History). h.struck) (sym (ap (after_calls (length (zones_on s)) area so.history) (drop_all i calls past)) ∙ so.left)

  pub marks_of_files : (s : Sheet) → s.files.model.now ≡ ms → s.files.zones.now ≡ zs → (pass_over s.files ≡ true → struck_on s ≡ (after_calls (length (zones_on s)) area at_opening calls).struck) → passes (look_over_answer ms zs) ≡ true → struck_on s ≡ (after_calls (length (zones_of (words zs))) area at_opening calls).struck
  marks_of_files s model zones h =
      subst (λ (a : List ℕ). passes (look_over_answer a zs) ≡ true → struck_on s ≡ (after_calls (length (zones_of (words zs))) area at_opening calls).struck) model
      (subst (λ (b : List ℕ). passes (look_over_answer s.files.model.now b) ≡ true → struck_on s ≡ (after_calls (length (zones_of (words b))) area at_opening calls).struck) zones h)

  -- the same, of the two files by their bytes
  pub of_the_files : (s : Sheet) → s.files.model.now ≡ ms → s.files.zones.now ≡ zs → (pass_over s.files ≡ true → Promise admits (model_on s) (zones_on s) (after_calls (length (zones_on s)) area at_opening calls) (verdict_of s)) →
      passes (look_over_answer ms zs) ≡ true → Promise admits (model_of (words ms)) (zones_of (words zs)) (after_calls (length (zones_of (words zs))) area at_opening calls) (verdict_of s)
  of_the_files s model zones h =
      subst (λ (a : List ℕ). passes (look_over_answer a zs) ≡ true → Promise admits (model_of (words a)) (zones_of (words zs)) (after_calls (length (zones_of (words zs))) area at_opening calls) (verdict_of s)) model
      (subst (λ (b : List ℕ). passes (look_over_answer s.files.model.now b) ≡ true → Promise admits (model_on s) (zones_of (words b)) (after_calls (length (zones_of (words b))) area at_opening calls) (verdict_of s)) zones h)
