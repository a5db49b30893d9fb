-- A block handed out: where the table is sound, the buffers have their sizes and the patches taken back are those that the block leaves behind, it is
-- what document 01 says.
use Prim.Native.Nat.{ℕ, ◌+◌, ◌-◌, ◌<◌}
use mathlib.Core.Path.{◌≡◌, sym, ap, ◌∙◌}
use mathlib.Core.Bool.{Bool, true, ◌&&◌, not}
use mathlib.Core.List.{List}
use native.Mathlib.Omega.{arith}
use lib.ListN.{length}
use Rattle.masks.specs.Sets.{has, set_of}
use Rattle.ground.proofs.Decided.{and-true}
use Rattle.masks.proofs.Laws.{has_of}
use Rattle.spans.specs.Spans.{part}
use Rattle.spans.proofs.Laws.{splice_whole, length_part}
use Rattle.rules.specs.declared.Setting.{Setting}
use Rattle.rules.specs.declared.Slot.{Slot}
use Rattle.rules.specs.Sizes.{blocks, block_bytes, block_start, image_bytes}
use Rattle.rules.specs.Table.{Sound, table_of, used, waits_on}
use Rattle.rules.specs.Write.{left_behind, back_down, handed_out}
use Rattle.rules.proofs.TakenBack.{from_first, down_ext}
use Rattle.rules.proofs.Words.{waits_on_used}
use Rattle.send.specs.Handed.{handed, staying}

module _ (g : Setting) (first next b s : ℕ) (ss : List Slot) (image undo out : List ℕ) where
  pub handed_out_lem : {waiting : ℕ} → Sound (table_of g first next ss) → b < blocks → length image ≡ image_bytes → length out ≡ block_bytes
      → waiting ≡ set_of (waits_on ss b) → handed ss (staying waiting s) b next image undo out ≡ handed_out (table_of g first next ss) b s image undo
  unfolding handed handed_out
  handed_out_lem {waiting} z l ei eo ew =
      ap (back_down ss (staying waiting s) undo 0 next) (splice_whole out block (length_part image (block_start b) block_bytes (omega arith) ∙ sym eo))
      ∙ down_ext ss (staying waiting s) left undo 0 next block (λ i k. ap (λ (x : Bool). x && not (has s i)) (has_of (waits_on ss b) waiting i ew k))
      ∙ ap (λ (n : ℕ). back_down ss left undo 0 n block) (let e : next ≡ first + (next - first) = omega (arith, z.next_least) in e)
      ∙ from_first ss left undo first (next - first) block (λ i k e n. let m = z.number_least i k (left_used i e) in omega arith)
    where
      block : List ℕ
      block = part image (block_start b) block_bytes

      left : ℕ → Bool
      left = left_behind ss b s

      left_used : (i : ℕ) → left i ≡ true → used ss i ≡ true
      left_used i e = waits_on_used ss b i (and-true (waits_on ss b i) (not (has s i)) e).0
