-- Between crates, need not be believed: what `hand_out` gives, for any slots, any patches to be taken back and buffers of any size. For a block's
-- patches left behind, in a sound table and with buffers of their sizes, it is handed_out of `rules` (proofs/Handed.antt).
use Rattle.std.specs.Prelude.{ℕ, Bool, ◌&&◌, not, List}
use Rattle.masks.specs.Sets.{has}
use Rattle.spans.specs.Spans.{splice, part}
use Rattle.rules.specs.declared.Slot.{Slot}
use Rattle.rules.specs.Sizes.{block_bytes, block_start}
use Rattle.rules.specs.Write.{back_down}

-- slot i waits and does not go
abbrev pub staying : ℕ → ℕ → ℕ → Bool
staying waiting set i = has waiting i && not (has set i)

-- the working block b laid over the bytes `out`, and the patches of `left` with a number below `top` taken back, highest number first
unfoldable pub handed : List Slot → (ℕ → Bool) → ℕ → ℕ → List ℕ → List ℕ → List ℕ → List ℕ
handed ss left b top image undo out = back_down ss left undo 0 top (splice out 0 (part image (block_start b) block_bytes))
