use Rattle.std.proofs.Common.{ℕ, List, sym, ◌∙◌, subst}
use Rattle.std.specs.List.{AllByRecursion}
use Rattle.std.proofs.lemmas.Bool.{true≢false}
use Rattle.format.specs.Syntax.{Atom, Condition, Guarded}
use Rattle.model.specs.States.{ConditionHolds}
use Rattle.model.specs.Views.{guarded_in}
use Rattle.model.specs.Files.{invariants_left}
use Rattle.checks.specs.Systems.{Placed, PlacedRecord}
use Rattle.checks.specs.Frames.{shape}
use Rattle.checks.specs.Pouring.{PlaceableRecord, Adds}
use Rattle.checks.proofs.Pours.{adds_same, pouring_more, pouring_idle, pouring_all}
use Rattle.checks.proofs.pour.pour_invariant.Goals as goal

pub loop-record-preserved : goal.loop-record-preserved
loop-record-preserved g c =
    let f = shape c.args.frame.now in
    let first = c.in-Some.ensures.steps in
    let left = subst (λ (l : List Guarded). AllByRecursion (PlaceableRecord f c.loop-record.table.square.n) l) first c.loop-record.invariant.1 in (
      pouring_idle (λ k ν r. PlacedRecord f k ν c.args.booleans r) (invariants_left c.args.invariants) _ _ (guarded_in c.in-Some.record) _ c.loop-record.table first c.loop-record.invariant.0
          (λ k ν holds. absurd (true≢false (sym (c.holds.ensures.1 (subst (λ (d : Condition). ConditionHolds d c.args.booleans) (sym c.condition.ensures) holds)) ∙ c.if-holds.false))),
      left.1,
    )

pub loop-record-preserved-then-holds : goal.loop-record-preserved-then-holds
loop-record-preserved-then-holds g c =
    let f = shape c.args.frame.now in
    let first = c.in-Some.ensures.steps in
    let left = subst (λ (l : List Guarded). AllByRecursion (PlaceableRecord f c.loop-record.table.square.n) l) first c.loop-record.invariant.1 in
    let here = subst (λ (d : Condition). ConditionHolds d c.args.booleans) c.condition.ensures (c.holds.ensures.0 c.if-holds.true) in
    let poured = subst (λ (l : List Atom). Adds (λ k ν. AllByRecursion (Placed f k ν) l) c.loop-record.table c.pour.new.table) c.atoms.ensures c.pour.ensures in (
      pouring_more (λ k ν r. PlacedRecord f k ν c.args.booleans r) (invariants_left c.args.invariants) _ _ (guarded_in c.in-Some.record) _ c.loop-record.table c.pour.new.table first c.loop-record.invariant.0
          (adds_same (λ k ν. AllByRecursion (Placed f k ν) (guarded_in c.in-Some.record).atoms) (λ k ν. PlacedRecord f k ν c.args.booleans (guarded_in c.in-Some.record)) _ _ (λ k ν ok. (λ all holds. all, λ when. when here)) poured),
      subst (λ (n : ℕ). AllByRecursion (PlaceableRecord f n) (invariants_left c.next.new.self)) (sym poured.same_rows) left.1,
    )

pub returns : goal.returns
returns g c = pouring_all (λ k ν r. PlacedRecord (shape c.args.frame.now) k ν c.args.booleans r) (invariants_left c.args.invariants) _ _ c.loop-record.table c.in-None.ensures.steps.0 c.loop-record.invariant.0
