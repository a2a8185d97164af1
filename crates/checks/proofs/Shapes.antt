-- The frames of the code, one write after another. Assumes nothing.
use Rattle.std.proofs.Common.{◌≡◌, ℕ, zero, suc, ◌+◌, ◌/◌, ◌%◌, ◌<◌, ◌≤◌, true, false, cond, eqb, List, [], ◌∷◌, length, get_or, set, ℤ, pos, sym, refl, ap, ◌∙◌, subst, ⊎_elim, arith}
use Rattle.std.specs.List.{AllByRecursion}
use Rattle.std.proofs.lemmas.List.{get_or_past, get_or-set_same, get_or-set_other}
use Rattle.std.proofs.ByRecursion.{All-weaker}
use Rattle.std.proofs.lemmas.Bool.{cases_lt, cases_eq, cases_Bool, eq-eqb, ne_eqb}
use Rattle.format.specs.Words.{value}
use Rattle.format.specs.Syntax.{Reset, resets_from}
use Rattle.checks.specs.Systems.{Frame, same, before, row_before, after, row_after, offset_after}
use Rattle.checks.specs.Frames.{spot_of, shape, Written}
use Rattle.checks.specs.declared.frame.Frame.{Frame as FrameCode}
use Rattle.checks.specs.declared.frame.Spot.{Spot}

-- each clock in its own row
pub shape_same : (f : FrameCode) → length f.spots ≡ 16 → ((i : ℕ) (e : Spot) → i < 16 → get_or f.spots i e ≡ record { row = i; offset = pos 0 }) → shape f ≡ same
shape_same f long each = λ t. record { row = λ i. (spot i t).row; offset = λ i. (spot i t).offset } where
  spot : (i : ℕ) → spot_of f i ≡ record { row = i; offset = pos 0 }
  spot i = ⊎_elim (each i _) (λ past. get_or_past f.spots i _ (omega (arith, long))) (cases_lt i 16)

-- before a delay: the first row is written
pub shape_before : (f : FrameCode) (first : Spot) (second : ℕ) → shape f ≡ same → 0 < length f.spots → first.row ≡ second → first.offset ≡ pos 0 → shape (record { spots = set f.spots 0 first }) ≡ before second
shape_before f first second e some row_is offset_is = λ t. record { row = λ i. row i t; offset = λ i. offset i t } where
  row : (i : ℕ) → (spot_of (record { spots = set f.spots 0 first }) i).row ≡ row_before second i
  row zero = ap (λ (s : Spot). s.row) (get_or-set_same f.spots 0 first _ some) ∙ row_is
  row (suc i) = ap (λ (s : Spot). s.row) (get_or-set_other f.spots 0 (suc i) first _ (λ h. omega arith)) ∙ ap (λ (q : Frame). q.row (suc i)) e

  offset : (i : ℕ) → (spot_of (record { spots = set f.spots 0 first }) i).offset ≡ pos 0
  offset zero = ap (λ (s : Spot). s.offset) (get_or-set_same f.spots 0 first _ some) ∙ offset_is
  offset (suc i) = ap (λ (s : Spot). s.offset) (get_or-set_other f.spots 0 (suc i) first _ (λ h. omega arith)) ∙ ap (λ (q : Frame). q.offset (suc i)) e

-- ---- resets, one after another

-- a reset clock has v of its reset, and any other what g says
unfoldable pub over : {X : Type 0} → (Reset → X) → List Reset → (ℕ → X) → ℕ → X
over v [] g i = g i
over v (r ∷ rs) g i = cond (eqb r.clock i) (v r) (over v rs g i)

over_others : {X : Type 0} (v : Reset → X) (l : List Reset) (g h : ℕ → X) (i : ℕ) → g i ≡ h i → over v l g i ≡ over v l h i
unfolding over
over_others v [] g h i e = e
over_others v (r ∷ rs) g h i e = ap (λ x. cond (eqb r.clock i) (v r) x) (over_others v rs g h i e)

over_past : {X : Type 0} (v : Reset → X) (l : List Reset) (g : ℕ → X) (i : ℕ) → AllByRecursion (λ q. i < q.clock) l → over v l g i ≡ g i
unfolding over
over_past v [] g i past = refl
over_past v (r ∷ rs) g i past = let e : eqb r.clock i ≡ false = ne_eqb _ _ (λ s. omega (arith, past.0)) in rw e (over_past v rs g i past.1)

-- the first reset written: the others are of higher clocks
over_more : {X : Type 0} (v : Reset → X) (r : Reset) (rs : List Reset) (g h : ℕ → X) (i : ℕ) → AllByRecursion (λ q. r.clock < q.clock) rs → h r.clock ≡ v r → ((j : ℕ) → (j ≡ r.clock → ⊥) → h j ≡ g j) → over v (r ∷ rs) g i ≡ over v rs h i
unfolding over
over_more v r rs g h i higher here others =
    ⊎_elim
    (λ e. let same_clock : eqb r.clock i ≡ true = eq-eqb _ _ (sym e) in rw same_clock (sym (over_past v rs h i (subst (λ (k : ℕ). AllByRecursion (λ q. k < q.clock) rs) (sym e) higher) ∙ ap h e ∙ here)))
    (λ apart. let other : eqb r.clock i ≡ false = ne_eqb _ _ (λ e. apart (sym e)) in rw other (over_others v rs g h i (sym (others i apart))))
    (cases_eq i r.clock)

row_over : (l : List Reset) (i : ℕ) → row_after l i ≡ over (λ _. 0) l (λ j. j) i
unfolding over row_after
row_over [] i = refl
row_over (r ∷ rs) i = ap (λ (x : ℕ). cond (eqb r.clock i) 0 x) (row_over rs i)

offset_over : (l : List Reset) (i : ℕ) → offset_after l i ≡ over (λ r. r.number) l (λ _. pos 0) i
unfolding over offset_after
offset_over [] i = refl
offset_over (r ∷ rs) i = ap (λ (x : ℤ). cond (eqb r.clock i) r.number x) (offset_over rs i)

-- the resets of a mask are of the clocks from the first on
pub resets_higher : (bits clock mask : ℕ) (ns : List ℕ) → AllByRecursion (λ q. clock ≤ q.clock) (resets_from bits clock mask ns)
unfolding resets_from
resets_higher zero clock mask ns = tt
resets_higher (suc bits) clock mask [] = tt
resets_higher (suc bits) clock mask (n ∷ ns) =
    ⊎_elim
    (λ t. let odd : eqb (mask % 2) 1 ≡ true = t in rw odd (omega arith, All-weaker _ _ (λ q h. omega arith) _ (resets_higher bits (suc clock) (mask / 2) ns)))
    (λ f. let even : eqb (mask % 2) 1 ≡ false = f in rw even (All-weaker _ _ (λ q h. omega arith) _ (resets_higher bits (suc clock) (mask / 2) (n ∷ ns))))
    (cases_Bool (eqb (mask % 2) 1))

-- the first of some resets is of a clock within the bits, and the others are of higher clocks
pub record Rises (bits clock : ℕ) (r : Reset) (rest : List Reset) : Type 0 where
  pub some : 0 < bits
  pub known : r.clock < clock + bits
  pub higher : AllByRecursion (λ q. r.clock < q.clock) rest

pub resets_rise : (bits clock mask : ℕ) (ns : List ℕ) (r : Reset) (rest : List Reset) → resets_from bits clock mask ns ≡ r ∷ rest → Rises bits clock r rest
unfolding resets_from
resets_rise zero clock mask ns r rest e = let z : ◌≡◌ {A = ℕ} 0 1 = cc in absurd (omega arith)
resets_rise (suc bits) clock mask [] r rest e = let z : ◌≡◌ {A = ℕ} 0 1 = cc in absurd (omega arith)
resets_rise (suc bits) clock mask (n ∷ ns) r rest e =
    ⊎_elim
    (λ t.
    let odd : eqb (mask % 2) 1 ≡ true = t in
    let split : record { clock = clock; number = value n } ∷ resets_from bits (suc clock) (mask / 2) ns ≡ r ∷ rest = rw odd at e in
    let first : record { clock = clock; number = value n } ≡ r = cc in
    let others : resets_from bits (suc clock) (mask / 2) ns ≡ rest = cc in
    let here : clock ≡ r.clock = ap (λ (q : Reset). q.clock) first in
    record { some = omega arith; known = omega (arith, here); higher = All-weaker _ _ (λ q h. omega (arith, here)) _ (subst (AllByRecursion (λ q. suc clock ≤ q.clock)) others (resets_higher bits (suc clock) (mask / 2) ns)) })
    (λ f.
    let even : eqb (mask % 2) 1 ≡ false = f in
    let later = resets_rise bits (suc clock) (mask / 2) (n ∷ ns) r rest (rw even at e) in
    record { some = omega arith; known = omega (arith, later.known); higher = later.higher })
    (cases_Bool (eqb (mask % 2) 1))

-- a frame, while the resets of a list are written into it: those that are left, over what is written, make the whole
module _ (all : List Reset) where
  pub record Writing (left : List Reset) (f : FrameCode) : Type 0 where
    pub rows : (i : ℕ) → row_after all i ≡ over (λ _. 0) left (shape f).row i
    pub offsets : (i : ℕ) → offset_after all i ≡ over (λ r. r.number) left (shape f).offset i

  pub writing_none : (f : FrameCode) → shape f ≡ same → Writing all f
  writing_none f e = record {
    rows = λ i. row_over all i ∙ ap (λ (g : Frame). over (λ _. 0) all g.row i) (sym e);
    offsets = λ i. offset_over all i ∙ ap (λ (g : Frame). over (λ r. r.number) all g.offset i) (sym e);
  }

  pub writing_more : (left rest : List Reset) (r : Reset) (f g : FrameCode) → Writing left f → left ≡ r ∷ rest → AllByRecursion (λ q. r.clock < q.clock) rest → Written f r g → Writing rest g
  writing_more left rest r f g w e higher written = record {
    rows = λ i. w.rows i ∙ ap (λ (l : List Reset). over (λ _. 0) l (shape f).row i) e ∙ over_more (λ _. 0) r rest (shape f).row (shape g).row i higher written.row written.other_rows;
    offsets = λ i. w.offsets i ∙ ap (λ (l : List Reset). over (λ q. q.number) l (shape f).offset i) e ∙ over_more (λ q. q.number) r rest (shape f).offset (shape g).offset i higher written.offset written.other_offsets;
  }

  pub writing_all : (left : List Reset) (f : FrameCode) → Writing left f → left ≡ [] → shape f ≡ after all
  unfolding over
  writing_all left f w e = λ t. record {
    row = λ i. sym (w.rows i ∙ ap (λ (l : List Reset). over (λ _. 0) l (shape f).row i) e) t;
    offset = λ i. sym (w.offsets i ∙ ap (λ (l : List Reset). over (λ r. r.number) l (shape f).offset i) e) t;
  }
