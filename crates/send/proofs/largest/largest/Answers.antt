-- `send::largest::largest` meets its contract. The invariant of the rounds: the search from the set that a round begins with ends where the search
-- from the first one does. That of the walk in a round: what the round has kept so far. A round that strikes makes the set smaller. Assumes nothing.
use Prim.Native.Nat.{ℕ, ◌+◌}
use mathlib.Core.Path.{◌≡◌, sym, ◌∙◌, subst}
use native.Mathlib.Omega.{arith}
use Rattle.masks.proofs.Laws.{size_less}
use Rattle.rules.specs.Rounds.{round}
use Rattle.rules.proofs.Rounds.{round_lt, round_sub, searched_settled, searched_round}
use Rattle.send.proofs.Striking.{Walked, walk_starts, walk_passes, walk_strikes, walk_ends, walk_breaks}
use Rattle.send.proofs.largest.largest.Goals as goal
use Rattle.send.proofs.largest.largest.Goals.{Left-walk, else-has, else-walk-test}
use Rattle.send.proofs.largest.largest.Goals.{then-has+then-not-within+else-has-2, else-has-via-then-has+else-not-within}
use Rattle.send.proofs.largest.largest.Goals.{else-has-via-else-has, then-walk-test+then-has+then-not-within+then-has-2}

pub walk-init : goal.walk-init
walk-init c = walk_starts _ _ _ c.loop-i.invariant.0

pub walk-preserved : goal.walk-preserved
walk-preserved c =
    let s = c.loop-i.began in
    let ss = c.args.slots.now in
    let hard = c.args.on.hard in
    let w = c.walk.invariant in
    let here = sym c.has.ensures in
    elim c.if-has.branch [
      | then-has+then-not-within+else-has-2 v ↦
          subst (Walked ss hard s (c.walk.i + 1)) (sym v.kept-is)
          (walk_strikes ss hard s w (rw (here ∙ v.if-has.true, sym v.within.ensures ∙ v.if-not-within.true))
          (sym v.has-then-not-within.ensures ∙ v.if-has-2.false) v.with.ensures v.without-kept.ensures)
      | else-has v ↦
          subst (Walked ss hard s (c.walk.i + 1)) (sym v.kept-is)
          (walk_passes ss hard s w (elim v.else-has.branch [
            | else-has-via-then-has+else-not-within u ↦ rw (here ∙ u.if-has.true, sym u.within.ensures ∙ u.if-not-within.false)
            | else-has-via-else-has u ↦ rw (here ∙ u.if-has.false)
          ]))
    ]

-- the walk left, at its end or at a hard patch, has made a round
made : (c : Left-walk) → c.walk-test.kept ≡ round c.args.slots.now c.args.on.hard c.loop-i.began
made c =
    let s = c.loop-i.began in
    let ss = c.args.slots.now in
    let hard = c.args.on.hard in
    elim c.walk-test.branch [
      | else-walk-test w ↦
          w.kept-is ∙ walk_ends ss hard s (subst (λ (k : ℕ). Walked ss hard s k c.walk.kept) (omega arith) c.walk.invariant)
      | then-walk-test+then-has+then-not-within+then-has-2 w ↦
          w.kept-is ∙ walk_breaks ss hard s w.walk-test.true (sym w.has-then-not-within.ensures ∙ w.if-has-2.true)
          (rw (sym w.has.ensures ∙ w.if-has.true, sym w.within.ensures ∙ w.if-not-within.true))
    ]

pub loop-i-smaller : goal.loop-i-smaller
loop-i-smaller c =
    let r = made c.before in
    let s = c.loop-i.began in
    rw r (size_less _ s (round_lt _ _ s) c.loop-i.invariant.0 (round_sub _ _ s) (λ e. c.if-kept-began.false (r ∙ e)))

pub loop-i-preserved : goal.loop-i-preserved
loop-i-preserved c =
    let s = c.loop-i.began in
    rw (made c.before) (round_lt _ _ s, searched_round _ _ s c.loop-i.invariant.0 ∙ c.loop-i.invariant.1)

pub returns : goal.returns
returns c =
    let s = c.loop-i.began in
    c.if-kept-began.true ∙ sym (searched_settled _ _ s (sym (made c.before) ∙ c.if-kept-began.true)) ∙ c.loop-i.invariant.1
