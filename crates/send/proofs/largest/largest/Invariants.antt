-- `send::largest::largest` meets its contract. The invariant of the rounds: the search from the set that a round begins with ends where the search
-- from the first one does. That of the walk in a round: what the round has kept so far. A round that strikes makes the set smaller. Assumes nothing.
use Prim.Native.Nat.{◌^◌, ◌<◌}
use mathlib.Core.Path.{◌≡◌}
use Rattle.masks.specs.Sets.{has, how_many}
use Rattle.rules.specs.Rounds.{searched}
use Rattle.send.proofs.Striking.{Walked}
use Rattle.send.proofs.largest.largest.Given as goal

abbrev pub invariant-walk : goal.invariant-walk
invariant-walk l = Walked l.slots l.on.hard l.began l.i l.kept

abbrev pub invariant-loop-i : goal.invariant-loop-i
invariant-loop-i l = (l.began < 2 ^ 64) × (searched l.slots l.on.hard l.began ≡ searched l.slots l.on.hard l.initial.began)

abbrev pub decreases-loop-i : goal.decreases-loop-i
decreases-loop-i l = how_many (has l.began) 64
