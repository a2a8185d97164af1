use Rattle.std.proofs.Common.{take}
use Rattle.written.proofs.Writing.{Written}
use Rattle.written.proofs.bytes.Given as goal

abbrev pub invariant-loop-word : goal.invariant-loop-word
invariant-loop-word l = Written l.bytes.items (take l.word-index l.words)
