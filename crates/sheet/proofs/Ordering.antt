-- The checks in order: how many they are, and what it means that all hold. Assumes nothing.
use Rattle.std.proofs.Common.{◌≡◌, ℕ, zero, suc, ◌+◌, ◌*◌, ◌<◌, ◌≤◌, Bool, true, false, cond, List, [], ◌∷◌, ◌++◌, map, length, get_or, sym, refl, ap, ◌∙◌, subst, ⊎_elim, add-mul, one-mul, arith}
use Rattle.std.specs.List.{AllByRecursion}
use Rattle.std.proofs.lemmas.List.{length-append, length-map}
use Rattle.std.proofs.ByRecursion.{All-append, All-map}
use Rattle.std.proofs.lemmas.Bool.{cases_Bool, cases_eq, true≢false}
use Rattle.format.specs.Syntax.{Zone, Model}
use Rattle.checks.specs.Meanings.{Unstruck}
use Rattle.checks.specs.Decisions.{Holds}
use Rattle.sheet.specs.Meanings.{AllHold}
use Rattle.sheet.proofs.Counting.{nth_in}
use Rattle.checks.specs.declared.check.Check.{Check}
use Rattle.checks.specs.declared.check.Check.TheVariants.{Start, Bad, Time, Command}
use Rattle.sheet.specs.Order.{counting, checks_of, checks_from, order, unstruck_from, total}

pub length_counting : (k n : ℕ) → length (counting k n) ≡ n
unfolding counting
length_counting k zero = refl
length_counting k (suc n) = ap suc (length_counting (suc k) n)

module _ (bads commands : ℕ) where
  pub length_of : (n : ℕ) → length (checks_of bads commands n) ≡ bads + 1 + commands
  unfolding checks_of
  length_of n =
      let a = length-append (map (Bad n) (counting 0 bads)) (Time n ∷ map (Command n) (counting 0 commands)) in
      omega (arith, a, length-map (counting 0 bads) (Bad n), length-map (counting 0 commands) (Command n), length_counting 0 bads, length_counting 0 commands)

  module _ (struck : List Bool) where
    pub length_from : (n more : ℕ) → length (checks_from bads commands struck n more) ≡ unstruck_from struck n more * (bads + 1 + commands)
    unfolding checks_from unstruck_from
    length_from n zero = omega arith
    length_from n (suc more) =
        ⊎_elim
        (λ t. let e : get_or struck n false ≡ true = t in rw e (length_from (suc n) more))
        (λ f. let e : get_or struck n false ≡ false = f in
        let a = length-append (checks_of bads commands n) (checks_from bads commands struck (suc n) more) in
        let u = unstruck_from struck (suc n) more in
        rw e (omega (arith, a, length_of n, length_from (suc n) more, add-mul 1 u (bads + 1 + commands), one-mul (bads + 1 + commands))))
        (cases_Bool (get_or struck n false))

    pub length_order : (zones : ℕ) → length (order bads commands struck zones) ≡ total bads commands struck zones
    length_order zones = omega (arith, length_from 0 zones)

-- ---- a fact of all checks

all_split : {X : Type 0} (P : X → Type 0) (xs ys : List X) → AllByRecursion P (xs ++ ys) → AllByRecursion P xs × AllByRecursion P ys
all_split P [] ys all = (tt, all)
all_split P (x ∷ xs) ys all = let more = all_split P xs ys all.1 in ((all.0, more.0), more.1)

all_unmap : {X Y : Type 0} (P : X → Type 0) (f : Y → X) (ys : List Y) → AllByRecursion P (map f ys) → AllByRecursion (λ y. P (f y)) ys
all_unmap P f [] all = tt
all_unmap P f (y ∷ ys) all = (all.0, all_unmap P f ys all.1)

counted_all : (P : ℕ → Type 0) (k n : ℕ) → AllByRecursion P (counting k n) → (i : ℕ) → k ≤ i → i < k + n → P i
unfolding counting
counted_all P k zero all i low high = absurd (omega arith)
counted_all P k (suc n) all i low high = ⊎_elim (λ e. subst P (sym e) all.0) (λ other. counted_all P (suc k) n all.1 i (omega arith) (omega arith)) (cases_eq i k)

all_counted : (P : ℕ → Type 0) (k n : ℕ) → ((i : ℕ) → k ≤ i → i < k + n → P i) → AllByRecursion P (counting k n)
unfolding counting
all_counted P k zero h = tt
all_counted P k (suc n) h = (h k (omega arith) (omega arith), all_counted P (suc k) n (λ i low high. h i (omega arith) (omega arith)))

module _ (P : Check → Type 0) (bads commands : ℕ) where
  -- all checks of zone n
  pub record OfZone (n : ℕ) : Type 0 where
    pub bad : (k : ℕ) → k < bads → P (Bad n k)
    pub time : P (Time n)
    pub command : (k : ℕ) → k < commands → P (Command n k)

  of_all : (n : ℕ) → AllByRecursion P (checks_of bads commands n) → OfZone n
  unfolding checks_of
  of_all n all =
      let parts = all_split P (map (Bad n) (counting 0 bads)) (Time n ∷ map (Command n) (counting 0 commands)) all in
      record {
        bad = λ k less. counted_all (λ i. P (Bad n i)) 0 bads (all_unmap P (Bad n) (counting 0 bads) parts.0) k (omega arith) (omega arith);
        time = parts.1.0;
        command = λ k less. counted_all (λ i. P (Command n i)) 0 commands (all_unmap P (Command n) (counting 0 commands) parts.1.1) k (omega arith) (omega arith);
      }

  all_of : (n : ℕ) → OfZone n → AllByRecursion P (checks_of bads commands n)
  unfolding checks_of
  all_of n o = All-append P (map (Bad n) (counting 0 bads)) (Time n ∷ map (Command n) (counting 0 commands))
      (All-map P (Bad n) (counting 0 bads) (all_counted (λ i. P (Bad n i)) 0 bads (λ i low high. o.bad i (omega arith))))
      (o.time, All-map P (Command n) (counting 0 commands) (all_counted (λ i. P (Command n i)) 0 commands (λ i low high. o.command i (omega arith))))

  module _ (struck : List Bool) where
    from_all : (n more : ℕ) → AllByRecursion P (checks_from bads commands struck n more) → (i : ℕ) → n ≤ i → i < n + more → get_or struck i false ≡ false → OfZone i
    unfolding checks_from
    from_all n zero all i low high u = absurd (omega arith)
    from_all n (suc more) all i low high u =
        ⊎_elim
        (λ t. let e : get_or struck n false ≡ true = t in
        let rest = subst (λ (b : Bool). AllByRecursion P (cond b (checks_from bads commands struck (suc n) more) (checks_of bads commands n ++ checks_from bads commands struck (suc n) more))) e all in
        ⊎_elim (λ same. absurd (true≢false (sym e ∙ ap (λ (j : ℕ). get_or struck j false) (sym same) ∙ u))) (λ other. from_all (suc n) more rest i (omega arith) (omega arith) u) (cases_eq i n))
        (λ f. let e : get_or struck n false ≡ false = f in
        let both = all_split P (checks_of bads commands n) (checks_from bads commands struck (suc n) more) (subst (λ (b : Bool). AllByRecursion P (cond b (checks_from bads commands struck (suc n) more) (checks_of bads commands n ++ checks_from bads commands struck (suc n) more))) e all) in
        ⊎_elim (λ same. subst OfZone (sym same) (of_all n both.0)) (λ other. from_all (suc n) more both.1 i (omega arith) (omega arith) u) (cases_eq i n))
        (cases_Bool (get_or struck n false))

    all_from : (n more : ℕ) → ((i : ℕ) → n ≤ i → i < n + more → get_or struck i false ≡ false → OfZone i) → AllByRecursion P (checks_from bads commands struck n more)
    unfolding checks_from
    all_from n zero h = tt
    all_from n (suc more) h =
        let rest = all_from (suc n) more (λ i low high u. h i (omega arith) (omega arith) u) in
        ⊎_elim
        (λ t. let e : get_or struck n false ≡ true = t in rw e rest)
        (λ f. let e : get_or struck n false ≡ false = f in rw e (All-append P (checks_of bads commands n) (checks_from bads commands struck (suc n) more) (all_of n (h n (omega arith) (omega arith) e)) rest))
        (cases_Bool (get_or struck n false))

    -- a fact of the start check and of all checks of each zone
    pub all_in_order : (zones : ℕ) → P Start → ((i : ℕ) → i < zones → OfZone i) → AllByRecursion P (order bads commands struck zones)
    all_in_order zones start each = (start, all_from 0 zones (λ i low high u. each i (omega arith)))

-- all checks of a list hold exactly when its start check holds, the bad checks of its unstruck zones hold and it is closed
module _ (admits : ℕ → Type 0) (m : Model) (l : List Zone) (struck : List Bool) where
  abbrev pub in_order : List Check
  in_order = order (length m.bads) (length m.commands) struck (length l)

  pub hold_all : AllHold admits m l struck → AllByRecursion (Holds admits m l struck) in_order
  hold_all all = (
    all.start,
    all_from (Holds admits m l struck) (length m.bads) (length m.commands) struck 0 (length l) (λ i low high u. record {
      bad = λ k less z g listed named. all.bads i k z g (record { listed = listed; unstruck = u }) named;
      time = λ z listed. all.closed.time i z (record { listed = listed; unstruck = u });
      command = λ k less z c listed named. all.closed.command i k z c (record { listed = listed; unstruck = u }) named;
    }),
  )

  pub all_hold : AllByRecursion (Holds admits m l struck) in_order → AllHold admits m l struck
  all_hold all = record {
    start = all.0;
    bads = λ n k z g u named. (zone n z u).bad k (nth_in m.bads k g named) z g u.listed named;
    closed = record {
      time = λ n z u. (zone n z u).time z u.listed;
      command = λ n k z c u named. (zone n z u).command k (nth_in m.commands k c named) z c u.listed named;
    };
  } where
    zone : (n : ℕ) (z : Zone) → Unstruck struck l n z → OfZone (Holds admits m l struck) (length m.bads) (length m.commands) n
    zone n z u = from_all (Holds admits m l struck) (length m.bads) (length m.commands) struck 0 (length l) all.1 n (omega arith) (omega (arith, nth_in l n z u.listed)) u.unstruck
