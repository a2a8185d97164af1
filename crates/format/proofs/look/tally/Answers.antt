use Rattle.std.proofs.Common.{◌∙◌, subst}
use Rattle.format.specs.Reading.{WalksOn}
use Rattle.format.specs.declared.scope.Record.{Record}
use Rattle.format.proofs.Files.{end_passes, record_goes, rest_within}
use Rattle.format.proofs.look.tally.Goals as goal

pub loop-record-preserved : goal.loop-record-preserved
loop-record-preserved c =
    let h = c.in_ok-record.ensures in
    (c.loop-record.invariant.0 ∙ record_goes _ _ _ _ _ c.in_default.not-End (h.walks c.loop-record.invariant.1), rest_within _ _ _ _ _ h c.loop-record.invariant.1)

pub returns-in-End : goal.returns-in-End
returns-in-End c =
    let h = c.in_ok-record.ensures in
    let ended = subst (λ (r : Record). WalksOn r c.loop-record.place c.next_record.new.self c.loop-record.rest.now c.in_ok-record.unread.now) c.in-End.is (h.walks c.loop-record.invariant.1) in
    c.loop-record.invariant.0 ∙ end_passes c.in-End.field-0 _ _ _ _ ended
