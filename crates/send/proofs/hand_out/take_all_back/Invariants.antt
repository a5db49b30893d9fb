-- `send::hand_out::take_all_back` meets its contract. The loop's invariant: what is left to do to the block now gives what all gives to the block
-- as it came, below the `top` that was asked for (the edit `same_number_kept` changes it). The measure is how many patches are left. Assumes nothing.
use Prim.Native.Nat.{◌<◌, ◌^◌}
use mathlib.Core.Path.{◌≡◌}
use lib.ListN.{length}
use Rattle.masks.specs.Sets.{has, how_many}
use Rattle.rules.specs.Write.{back_down}
use Rattle.send.proofs.hand_out.take_all_back.Given as goal

abbrev pub invariant-loop-i : goal.invariant-loop-i
invariant-loop-i l =
    (length l.out ≡ length l.initial.out)
    × (l.rest < 2 ^ 64)
    × (back_down l.slots (has l.rest) l.undo 0 l.top l.out ≡ back_down l.slots (has l.left) l.undo 0 l.initial.top l.initial.out)

abbrev pub decreases-loop-i : goal.decreases-loop-i
decreases-loop-i l = how_many (has l.rest) 64
