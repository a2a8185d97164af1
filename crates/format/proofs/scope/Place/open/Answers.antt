use Rattle.std.proofs.Common.{sym, ◌∙◌, arith}
use Rattle.format.proofs.Cuts.{length_words}
use Rattle.format.proofs.Files.{wrong_end, opened}
use Rattle.format.proofs.scope.Place.open.Goals as goal

pub ends_at-requires : goal.ends_at-requires
ends_at-requires c = omega (arith, length_words c.args.bytes.now)

pub returns-then-not-ends_at : goal.returns-then-not-ends_at
returns-then-not-ends_at c =
    rw (← length_words c.args.bytes.now) (wrong_end c.args.file c.args.like c.args.bytes.now (omega arith) (omega arith) (omega arith) (sym c.if-not-ends_at.ensures))

pub returns : goal.returns
returns c =
    let told = rw c.in_ok-scope.ensures.ok_part at c.right_head.ensures in
    opened c.args.file c.args.like c.args.bytes.now (omega arith) (omega arith) (omega arith) c.in_ok-scope.scope (sym c.if-not-ends_at.ensures) told.0 told.1 (told.2 ∙ sym (length_words c.args.bytes.now))
