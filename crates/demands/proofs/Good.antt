-- A history as the world of `cut` sees it, and what holds of it between two calls.
use Prim.Native.Nat.{ℕ, ◌+◌, ◌-◌, ◌≤◌, ◌<◌}
use mathlib.Core.Path.{◌≡◌, refl, sym, ◌∙◌, ap}
use mathlib.Core.Bool.{Bool, true, false, cond}
use borrow.Author.Tests.{eq-eqb, lt-ltb, ltb-true}
use native.Mathlib.Omega.{arith}
use lib.Dec.{ltb}
use mathlib.Core.List.Memᴰ
use mathlib.Core.List.{List, ◌∷◌, ◌++◌, map, Memᴰ}
use mathlib.Core.Logic.{◌≢◌, ◌⊎◌, inl, inr}
use mathlib.Core.Option.{Option, none, some}
use lib.ListN.{length, get_or}
use Rattle.rules.specs.declared.Slot.{Slot}
use Rattle.rules.specs.Sizes.{image_bytes, room_start, room_bytes}
use Rattle.rules.specs.Table.{slot_at, Flies, Sound}
use Rattle.rules.specs.Create.{is_in}
use Rattle.rules.proofs.StaysSound.{Like}
use Rattle.ground.proofs.Decided.{true_and}
use Rattle.cut.specs.Changes.{Logged}
use Rattle.cut.specs.World.{World, in_flight, committed}
use Rattle.cut.proofs.Invariant.{Invariant}
use Rattle.demands.specs.History.{History, Accepted, Sent}
use Rattle.demands.specs.Demand3.{written, sent_in, times_sent, Earlier}
use Rattle.demands.proofs.Log.{plain, Numbered, NamesOlder, block_one}
use Rattle.demands.proofs.Views.{view, Within}
use Rattle.demands.proofs.Notes.{AllWhole}
use Rattle.demands.proofs.Lookup.{slot_of, slot_carries}
use Rattle.demands.proofs.AtSlot.{state_at, word_of, roomed_of, room_for, Tied, is_done, is_out, word_flying}
use Rattle.demands.proofs.Linked.{Linked, room_stays}

-- y's caller named the number of x, which was accepted earlier: what AskedFor of specs/Demand3.antt says, of the log that `cut` sees
pub record Names (l : List Accepted) (y x : Logged) : Type 0 where
  pub asker : Accepted
  pub asked_for : Accepted
  pub earlier : Earlier l asker asked_for
  pub named : is_in asked_for.number asker.change.named ≡ true
  pub is : plain asker ≡ y
  pub its_is : plain asked_for ≡ x

-- who asks in a log with one more change, and did not before, is that change
pub newly_asked : (a : Accepted) (older : List Accepted) (y x : Logged) → Names (a ∷ older) y x → Names older y x ⊎ (y ≡ plain a)
newly_asked a older y x n = go n.earlier n.named n.is n.its_is
  where
    go : {p q : Accepted} → Earlier (a ∷ older) p q → is_in q.number p.change.named ≡ true → plain p ≡ y → plain q ≡ x
        → Names older y x ⊎ (y ≡ plain a)
    go (Earlier.here m) e same its = inr (sym same)
    go {p} {q} (Earlier.there f) e same its = inl (record { asker = p; asked_for = q; earlier = f; named = e; is = same; its_is = its })

-- byte n of a room; past the room nothing is seen
unfoldable pub room_byte : List ℕ → ℕ → ℕ → ℕ
room_byte undo r n = cond (ltb n room_bytes) (get_or undo (room_start r + n) 0) 0

pub room-byte : (undo : List ℕ) (r n : ℕ) → n < room_bytes → room_byte undo r n ≡ get_or undo (room_start r + n) 0
unfolding room_byte
room-byte undo r n l = rw (lt-ltb n room_bytes l)

-- two areas whose rooms r agree in their bytes look alike there
pub rooms_alike : (u w : List ℕ) (r : ℕ) → ((n : ℕ) → n < room_bytes → get_or u (room_start r + n) 0 ≡ get_or w (room_start r + n) 0)
    → (n : ℕ) → room_byte u r n ≡ room_byte w r n
unfolding room_byte
rooms_alike u w r f n = go (ltb n room_bytes) refl
  where
    go : (b : Bool) → ltb n room_bytes ≡ b → cond b (get_or u (room_start r + n) 0) 0 ≡ cond b (get_or w (room_start r + n) 0) 0
    go true e = f n (ltb-true n room_bytes e)
    go false e = refl

-- the old bytes of a change, in the room of its slot
abbrev pub old_byte : List Slot → List ℕ → Logged → ℕ → ℕ
old_byte ss undo c i = room_byte undo (room_for ss c.number) (i - c.offset)

-- where the undo area is as it was, a number that keeps its slot has old bytes afterwards only if it had them, and the same
pub undo_stays : (ss ss' : List Slot) (undo : List ℕ) (x : Logged) → slot_of ss' x.number ≡ slot_of ss x.number
    → ((i : ℕ) → slot_of ss x.number ≡ some i → Like (slot_at ss' i) (slot_at ss i)) → roomed_of ss' x.number ≡ true
    → (roomed_of ss x.number ≡ true) × ((i : ℕ) → old_byte ss' undo x i ≡ old_byte ss undo x i)
undo_stays ss ss' undo x same like e =
    let r = room_stays ss ss' x.number same like e in (r.0, λ i. ap (λ (q : ℕ). room_byte undo q (i - x.offset)) r.1)

abbrev pub world : History → World
world h = record {
  store = view (written h.landed h.opening);
  sent = view (written (h.in_flight ++ h.landed) h.opening);
  working = view h.image;
  log = map plain h.accepted;
  asked = Names h.accepted;
  state = λ c. word_of h.table.slots c.number;
  kept = λ c. roomed_of h.table.slots c.number;
  undo = old_byte h.table.slots h.undo;
  tied = λ y x. Tied h.table.slots y.number x.number;
}

-- What holds between two calls. Each clause is followed by the call that would break it if its rule were wrong.
pub record Good (h : History) : Type 0 where
  -- the table is sound: any granted call
  pub sound : Sound h.table
  -- the log is numbered from first to next, and what a change names is old or stands earlier in it: create
  pub numbers : Numbered h.table.first h.accepted h.table.next
  pub older : NamesOlder h.table.first h.accepted
  -- the slots describe the changes whose numbers they have: create, and complete where it frees a slot
  pub linked : Linked h.table.slots h.accepted
  -- a change lies in its block: create
  pub within : (a : Accepted) → Memᴰ a h.accepted → Within (plain a)
  -- image and opening have their size
  pub image_whole : length h.image ≡ image_bytes
  pub opening_whole : length h.opening ≡ image_bytes
  -- the notes on writes agree with the table: what a landed write sent has committed, what a write in flight sent is in flight: write and complete
  pub done : (a : Accepted) → Memᴰ a h.accepted → sent_in a.number h.landed ≡ is_done (word_of h.table.slots a.number)
  pub out : (a : Accepted) → Memᴰ a h.accepted → sent_in a.number h.in_flight ≡ is_out (word_of h.table.slots a.number)
  -- a write is a whole block, and every number it sent is an accepted change of that block: write
  pub whole : AllWhole (h.in_flight ++ h.landed)
  pub sent : (w : Sent) → Memᴰ w (h.in_flight ++ h.landed) → (n : ℕ) → is_in n w.numbers ≡ true
      → (a : Accepted) × Memᴰ a h.accepted × (a.number ≡ n) × (a.change.block ≡ w.block)
  -- a write sent something, and no number was sent twice: write
  pub some : (w : Sent) → Memᴰ w (h.in_flight ++ h.landed) → (n : ℕ) × (is_in n w.numbers ≡ true)
  pub once : (n : ℕ) → times_sent n (h.in_flight ++ h.landed) ≤ 1
  -- what a cut may leave is safe: the world's invariant
  pub safe : Invariant (view h.opening) (world h)

-- a write that is out and sent a change's number went to the change's block
pub sent_to : (h : History) → Good h → (a : Accepted) → Memᴰ a h.accepted → (w : Sent) → Memᴰ w h.in_flight
    → is_in a.number w.numbers ≡ true → w.block ≡ a.change.block
sent_to h g a m w k f =
    let r = g.sent w (Memᴰ.append_left h.landed k) a.number f in
    sym r.3 ∙ block_one r.0 a g.numbers r.1 m r.2

-- where no patch of a block is in flight, none of its changes is
pub none_out : (h : History) → Good h → (b : ℕ) → (Flies h.table.slots b → ⊥) → (a : Accepted) → Memᴰ a h.accepted → a.change.block ≡ b
    → word_of h.table.slots a.number ≢ in_flight
none_out h g b none_flies a m e = go (slot_of ss a.number) refl
  where
    ss : List Slot
    ss = h.table.slots

    go : (p : Option ℕ) → slot_of ss a.number ≡ p → word_of ss a.number ≢ in_flight
    go none q f = let y : committed ≡ in_flight = sym (ap (state_at ss) q) ∙ f in let z : ◌≡◌ {A = ℕ} 0 1 = cc in omega arith
    go (some j) q f =
        let c = slot_carries ss a.number j q in
        let at_block = eq-eqb (slot_at ss j).block b (g.linked.block a m j c ∙ e) in
        none_flies (j, c.0, true_and (word_flying (slot_at ss j).state (sym (ap (state_at ss) q) ∙ f)) at_block)
