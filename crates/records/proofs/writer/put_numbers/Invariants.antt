-- `writer::put_numbers` meets its contract: the loop has laid the first i numbers. Assumes nothing.
use Rattle.std.proofs.Common.{◌≡◌, take}
use Rattle.spans.specs.Spans.{splice}
use Rattle.records.specs.Record.{four_each}
use Rattle.records.proofs.writer.put_numbers.Given as goal

abbrev pub invariant-loop-i : goal.invariant-loop-i
invariant-loop-i l = l.buffer ≡ splice l.initial.buffer 7 (four_each (take l.i l.named))
