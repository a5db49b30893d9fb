-- `send::hand_out::hand_out` meets its contract: the working block is laid over `out`, and what is waiting and does not go is taken back.
-- Assumes nothing.
use Prim.Native.Nat.{ℕ, ◌*◌}
use mathlib.Core.Path.{◌≡◌, ap, ◌∙◌}
use native.Mathlib.Omega.{arith}
use Rattle.masks.proofs.Laws.{has_of}
use Rattle.spans.specs.Spans.{splice, part}
use Rattle.rules.specs.Sizes.{block_start}
use Rattle.rules.specs.Write.{back_down}
use Rattle.rules.proofs.TakenBack.{down_ext}
use Rattle.send.specs.Handed.{handed, staying}
use Rattle.send.proofs.hand_out.hand_out.Goals as goal

pub returns : goal.returns
unfolding handed
returns c =
    let a = c.args in
    let left = staying a.waiting a.set in
    let e : a.block * 256 ≡ block_start a.block = omega arith in
    c.take_all_back.ensures
    ∙ down_ext a.slots.now _ left a.undo.now 0 a.next _ (λ i l. has_of left _ i c.without.ensures l)
    ∙ ap (back_down a.slots.now left a.undo.now 0 a.next)
    (c.copy.ensures ∙ ap (λ (x : ℕ). splice a.out.now 0 (part a.image.now x 256)) e)
