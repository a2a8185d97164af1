use Rattle.std.proofs.Common.{ℕ, sym, subst}
use Rattle.dbm.specs.Table.{entry, Closed, Tight}
use Rattle.dbm.proofs.table.Table.close.Goals as goal

pub invariant_of-result : goal.invariant_of-result
invariant_of-result g c =
    let e = c.close.ensures in
    let t = e.closed c.if-not-close.false in
    let s = t.solution in
    rw e.rows record {
      closed = ∣ t.closed ∣₁;
      tight = ∣ t.tight ∣₁;
      small = t.small;
      solution = ∣ record { scale = s.scale; admitted = s.admitted; value = s.value; keeps = (e.same s.scale s.value s.admitted).0 s.keeps } ∣₁;
    }

pub returns : goal.returns
returns g c =
    let b = g.B.Bound in
    let now = c.close.new.self.bounds.now in
    let e = c.close.ensures in
    let t = e.closed c.if-not-close.false in
    record {
      same_rows = e.rows;
      solutions = λ k ν ok. rw e.rows ((e.same k ν ok).1, (e.same k ν ok).0);
      solution = t.solution;
      closed = subst (λ (m : ℕ). Closed b (entry b.NONE m now) m) (sym e.rows) t.closed;
      tight = subst (λ (m : ℕ). Tight b (entry b.NONE m now) m) (sym e.rows) t.tight;
    }
