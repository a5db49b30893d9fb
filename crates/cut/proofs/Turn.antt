-- A write that landed, a write that failed, and a call that changes nothing keep the invariant. In all three the
-- changes of one block turn alike and those of other blocks stay; what differs is where a change in flight turns to.
use Prim.Native.Nat.{ℕ}
use mathlib.Core.Path.{◌≡◌, refl, sym, ◌∙◌, ap}
use mathlib.Core.Bool.{Bool, true, false, cond}
use mathlib.Core.List.{Memᴰ}
use mathlib.Core.Logic.{◌≢◌}
use lib.Dec.{eqb}
use Rattle.cut.specs.Changes.{Store, Logged}
use Rattle.cut.specs.World.{World, Stage, waiting, in_flight, committed, settled, fallen, KeepsUndo, KeepsTies, AddsNoAsk, LandStep, FailStep, RestStep}
use Rattle.cut.specs.Cut.{reached}
use borrow.Author.Tests.{eq-eqb, eqb-true}
use Rattle.ground.proofs.Decided.{clash}
use Rattle.cut.proofs.Facts.{by_block}
use Rattle.cut.proofs.TakeBack.{kept_fewer}
use Rattle.cut.proofs.Invariant.{Invariant, carried, carried_same}
use Rattle.cut.proofs.Order.{Moves, ordered_still}

-- What the three have in common.
record Turned (b : ℕ) (turn : Stage → Stage) (w w' : World) : Type 1 where
  waits_still : turn waiting ≡ waiting
  done_still : turn committed ≡ committed
  its : (x : Logged) → Memᴰ x w.log → x.block ≡ b → w'.state x ≡ turn (w.state x)
  other : (x : Logged) → Memᴰ x w.log → x.block ≢ b → w'.state x ≡ w.state x
  working : (d i : ℕ) → w'.working d i ≡ w.working d i
  log : w'.log ≡ w.log
  undo : KeepsUndo w w'
  ties : KeepsTies w w'
  asks : AddsNoAsk w w'

-- only the changes of block b turn
turn_in : ℕ → (Stage → Stage) → ℕ → Stage → Stage
turn_in b turn d r = cond (eqb d b) (turn r) r

module _ (b : ℕ) (turn : Stage → Stage) (w w' : World) (h : Turned b turn w w') (opening : Store) where
  block_moves : Moves (turn_in b turn) w w'
  unfolding turn_in
  block_moves = record { waits_still = λ d. at d waiting h.waits_still; done_still = λ d. at d committed h.done_still; moves = to }
    where
      at : (d : ℕ) (r : Stage) → turn r ≡ r → cond (eqb d b) (turn r) r ≡ r
      at d r e = by (eqb d b)
        where
          by : (v : Bool) → cond v (turn r) r ≡ r
          by true = e
          by false = refl

      to : (x : Logged) → Memᴰ x w.log → w'.state x ≡ cond (eqb x.block b) (turn (w.state x)) (w.state x)
      to x m = by (eqb x.block b) refl
        where
          by : (v : Bool) → eqb x.block b ≡ v → w'.state x ≡ cond v (turn (w.state x)) (w.state x)
          by true e = h.its x m (eqb-true x.block b e)
          by false e = h.other x m (λ s. clash (eq-eqb x.block b s) e)

  -- the bytes of the block, when its changes are as far after the turn as before
  carried_here : (new new' : Bool) → ((r : Stage) → reached new r ≡ reached new' (turn r)) → (i : ℕ)
      → carried new w opening b i ≡ carried new' w' opening b i
  carried_here new new' far i = carried_same w w' opening h.log new new' b i
      (λ x m s. far (w.state x) ∙ ap (reached new') (sym (h.its x m s)))

  -- the bytes of every other block
  carried_there : (new : Bool) (d : ℕ) → d ≢ b → (i : ℕ) → carried new w opening d i ≡ carried new w' opening d i
  carried_there new d n i = carried_same w w' opening h.log new new d i
      (λ x m s. ap (reached new) (sym (h.other x m (λ p. n (sym s ∙ p)))))

  -- both
  carried_still : (new : Bool) → ((r : Stage) → reached new r ≡ reached new (turn r)) → (d i : ℕ)
      → carried new w opening d i ≡ carried new w' opening d i
  carried_still new far = by_block (λ d. (i : ℕ) → carried new w opening d i ≡ carried new w' opening d i) b
      (carried_here new new far) (carried_there new)

  -- all of the invariant but the store
  turned_keeps : Invariant opening w
      → ((d i : ℕ) → w'.store d i ≡ carried false w' opening d i)
      → ((d i : ℕ) → w'.sent d i ≡ carried true w' opening d i)
      → Invariant opening w'
  turned_keeps v store sent = record {
    image = λ d i. rw h.log (h.working d i ∙ v.image d i);
    on_store = store;
    on_way = sent;
    kept = rw h.log (kept_fewer _ _ _ _ _ _ h.undo v.kept);
    order = ordered_still w w' (turn_in b turn) block_moves h.ties h.log h.asks v.order;
  }

-- What counts as reached, before a turn and after it.

sent_is_there : (r : Stage) → reached true r ≡ reached false (settled r)
unfolding reached settled
sent_is_there waiting = refl
sent_is_there in_flight = refl
sent_is_there committed = refl

sent_is_sent : (r : Stage) → reached true r ≡ reached true (settled r)
unfolding reached settled
sent_is_sent waiting = refl
sent_is_sent in_flight = refl
sent_is_sent committed = refl

there_is_sent : (r : Stage) → reached false r ≡ reached true (fallen r)
unfolding reached fallen
there_is_sent waiting = refl
there_is_sent in_flight = refl
there_is_sent committed = refl

there_is_there : (r : Stage) → reached false r ≡ reached false (fallen r)
unfolding reached fallen
there_is_there waiting = refl
there_is_there in_flight = refl
there_is_there committed = refl

module _ (b : ℕ) (w w' : World) (h : LandStep b w w') (opening : Store) (v : Invariant opening w) where
  land_turns : Turned b settled w w'
  unfolding settled
  land_turns = record {
    waits_still = refl;
    done_still = refl;
    its = h.its_state;
    other = h.other_state;
    working = h.working;
    log = h.log;
    undo = h.old_undo;
    ties = h.old_ties;
    asks = h.asks;
  }

  pub land_keeps : Invariant opening w'
  land_keeps = turned_keeps b settled w w' land_turns opening v
      (by_block (λ d. (i : ℕ) → w'.store d i ≡ carried false w' opening d i) b
      (λ i. h.bytes i ∙ (v.on_way b i ∙ carried_here b settled w w' land_turns opening true false sent_is_there i))
      (λ d n i. h.others d i n ∙ (v.on_store d i ∙ carried_there b settled w w' land_turns opening false d n i)))
      (λ d i. h.sent d i ∙ (v.on_way d i ∙ carried_still b settled w w' land_turns opening true sent_is_sent d i))

module _ (b : ℕ) (w w' : World) (h : FailStep b w w') (opening : Store) (v : Invariant opening w) where
  fail_turns : Turned b fallen w w'
  unfolding fallen
  fail_turns = record {
    waits_still = refl;
    done_still = refl;
    its = h.its_state;
    other = h.other_state;
    working = h.working;
    log = h.log;
    undo = h.old_undo;
    ties = h.old_ties;
    asks = h.asks;
  }

  pub fail_keeps : Invariant opening w'
  fail_keeps = turned_keeps b fallen w w' fail_turns opening v
      (λ d i. h.store d i ∙ (v.on_store d i ∙ carried_still b fallen w w' fail_turns opening false there_is_there d i))
      (by_block (λ d. (i : ℕ) → w'.sent d i ≡ carried true w' opening d i) b
      (λ i. h.bytes i ∙ (v.on_store b i ∙ carried_here b fallen w w' fail_turns opening false true there_is_sent i))
      (λ d n i. h.others d i n ∙ (v.on_way d i ∙ carried_there b fallen w w' fail_turns opening true d n i)))

-- A call that changes nothing turns no block; the turn that leaves every state is taken at block 0.
module _ (w w' : World) (h : RestStep w w') (opening : Store) (v : Invariant opening w) where
  rest_turns : Turned 0 (λ r. r) w w'
  rest_turns = record {
    waits_still = refl;
    done_still = refl;
    its = λ x m s. h.state x m;
    other = λ x m n. h.state x m;
    working = h.working;
    log = h.log;
    undo = h.old_undo;
    ties = h.old_ties;
    asks = h.asks;
  }

  pub rest_keeps : Invariant opening w'
  rest_keeps = turned_keeps 0 (λ r. r) w w' rest_turns opening v
      (λ d i. h.store d i ∙ (v.on_store d i ∙ carried_still 0 (λ r. r) w w' rest_turns opening false (λ r. refl) d i))
      (λ d i. h.sent d i ∙ (v.on_way d i ∙ carried_still 0 (λ r. r) w w' rest_turns opening true (λ r. refl) d i))
