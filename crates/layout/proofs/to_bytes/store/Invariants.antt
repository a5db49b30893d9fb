-- `to_bytes::store` meets its contract: first, next and the slots, each right after the one before. Assumes nothing.
use Rattle.std.proofs.Common.{take}
use Rattle.spans.proofs.Laws.{Over}
use Rattle.layout.specs.Layout.{slots_bytes}
use Rattle.layout.proofs.to_bytes.store.Given as goal

abbrev pub invariant-loop-i : goal.invariant-loop-i
invariant-loop-i l = Over l.initial.bytes 8 (slots_bytes (take l.i l.slot-items)) l.bytes
