-- A granted write: the history that it leaves, each slot afterwards, which changes go and where each one is.
use Prim.Native.Nat.{ℕ, ◌<◌}
use mathlib.Core.Path.{◌≡◌, refl, sym, ◌∙◌, ap, subst}
use mathlib.Core.Bool.{Bool, true, false}
use mathlib.Core.List.{List, ◌∷◌, Memᴰ}
use mathlib.Core.Option.{Option, none, some}
use borrow.Author.Tests.{eqb-true}
use Rattle.masks.specs.Sets.{has}
use Rattle.ground.proofs.Decided.{clash, and-true}
use Rattle.rules.specs.declared.State as rules
use Rattle.rules.specs.declared.State.TheVariants as state
use Rattle.rules.specs.declared.Slot.{Slot}
use Rattle.rules.specs.Sizes.{slots}
use Rattle.rules.specs.Slots.{is_waiting}
use Rattle.rules.specs.Table.{slot_at, with_slots, Sound}
use Rattle.rules.specs.Write.{MayGo, Largest, handed_out, sent_state, sent_slot, sent_slots, sent}
use Rattle.rules.proofs.After.{sent_at}
use Rattle.rules.specs.Passed.{WritePassed}
use Rattle.rules.proofs.StaysSound.{Like, sent_like, sent_sound}
use Rattle.cut.specs.Changes.{Logged}
use Rattle.cut.specs.World.{waiting, in_flight}
use Rattle.demands.specs.History.{History, Accepted, Sent, numbers_below}
use Rattle.demands.proofs.Log.{plain}
use Rattle.demands.proofs.Lookup.{slot_of, slot_carries}
use Rattle.demands.proofs.AtSlot.{state_word, state_at, word_of, waiting_word}
use Rattle.demands.proofs.Linked.{slot_kept}
use Rattle.demands.proofs.Good.{Good}

sent_word : (u : rules.State) → is_waiting u ≡ true → state_word (sent_state u) ≡ in_flight
sent_word state.Free e = absurd (clash e refl)
sent_word (state.Waiting h) e = refl
sent_word (state.InFlight k) e = absurd (clash e refl)

sent_befores : (goes : Bool) (s : Slot) → (sent_slot goes s).befores ≡ s.befores
sent_befores true s = refl
sent_befores false s = refl

-- is the slot that a number has, if any, in the set?
abbrev pub go_at : ℕ → Option ℕ → Bool
go_at s none = false
go_at s (some j) = has s j

-- a write of block b that is granted the set s
pub record Sending (h : History) (b s : ℕ) : Type 0 where
  pub good : Good h
  pub lent : List ℕ
  pub passed : WritePassed h.table h.image h.undo lent b
  pub largest : Largest h.table.slots b s

module _ {h : History} {b s : ℕ} (d : Sending h b s) where
  abbrev ss : List Slot
  ss = h.table.slots

  abbrev ss' : List Slot
  ss' = sent_slots h.table.slots s

  -- the note on it
  abbrev pub writ : Sent
  writ = record { block = b; bytes = handed_out h.table b s h.image h.undo; numbers = numbers_below h.table.slots s slots }

  -- the history after the call
  abbrev pub gone : History
  gone = record {
    table = with_slots ss' h.table;
    image = h.image;
    undo = h.undo;
    opening = h.opening;
    accepted = h.accepted;
    in_flight = writ ∷ h.in_flight;
    landed = h.landed;
  }

  pub may : MayGo h.table.slots b s
  may = d.largest.goes

  pub some_goes : (i : ℕ) × (has s i ≡ true)
  some_goes = d.passed.some_goes s d.largest

  -- a slot of the set waits on the block
  pub waits : (i : ℕ) → has s i ≡ true → (is_waiting (slot_at ss i).state ≡ true) × ((slot_at ss i).block ≡ b)
  waits i e = let w = and-true (is_waiting (slot_at ss i).state) _ (may.within i e) in (w.0, eqb-true (slot_at ss i).block b w.1)

  pub sound' : Sound gone.table
  unfolding sent
  sound' = sent_sound h.table s d.good.sound

  -- ---- slots

  at_goes : (i : ℕ) → i < slots → has s i ≡ true → slot_at ss' i ≡ sent_slot true (slot_at ss i)
  at_goes i l e = sent_at ss s i l ∙ ap (λ (goes : Bool). sent_slot goes (slot_at ss i)) e

  at_stays : (i : ℕ) → i < slots → has s i ≡ false → slot_at ss' i ≡ slot_at ss i
  at_stays i l e = sent_at ss s i l ∙ ap (λ (goes : Bool). sent_slot goes (slot_at ss i)) e

  pub like : (i : ℕ) → i < slots → Like (slot_at ss' i) (slot_at ss i)
  like i l = subst (λ (n : Slot). Like n (slot_at ss i)) (sym (sent_at ss s i l)) (sent_like (has s i) (slot_at ss i))

  pub befores_stay : (i : ℕ) → i < slots → (slot_at ss' i).befores ≡ (slot_at ss i).befores
  befores_stay i l = ap (λ (x : Slot). x.befores) (sent_at ss s i l) ∙ sent_befores (has s i) (slot_at ss i)

  -- ---- numbers

  -- a number keeps its slot
  pub slot_here : (n : ℕ) → slot_of ss' n ≡ slot_of ss n
  slot_here = slot_kept ss ss' like

  -- does the change go?
  abbrev pub goes : Logged → Bool
  goes x = go_at s (slot_of ss x.number)

  pub go-state : (n : ℕ) → go_at s (slot_of ss n) ≡ true → word_of ss' n ≡ in_flight
  go-state n e = ap (state_at ss') (slot_here n) ∙ go (slot_of ss n) refl e
    where
      go : (p : Option ℕ) → slot_of ss n ≡ p → go_at s p ≡ true → state_at ss' p ≡ in_flight
      go none q f = absurd (clash f refl)
      go (some j) q f = ap (λ (x : Slot). state_word x.state) (at_goes j (slot_carries ss n j q).0 f) ∙ sent_word (slot_at ss j).state (waits j f).0

  pub stay-state : (n : ℕ) → go_at s (slot_of ss n) ≡ false → word_of ss' n ≡ word_of ss n
  stay-state n e = ap (state_at ss') (slot_here n) ∙ go (slot_of ss n) refl e
    where
      go : (p : Option ℕ) → slot_of ss n ≡ p → go_at s p ≡ false → state_at ss' p ≡ state_at ss p
      go none q f = refl
      go (some j) q f = ap (λ (x : Slot). state_word x.state) (at_stays j (slot_carries ss n j q).0 f)

  -- what goes was waiting, on this very block
  pub members : (a : Accepted) → Memᴰ a h.accepted → goes (plain a) ≡ true → (word_of ss a.number ≡ waiting) × (a.change.block ≡ b)
  members a m = go (slot_of ss a.number) refl
    where
      go : (p : Option ℕ) → slot_of ss a.number ≡ p → goes (plain a) ≡ true → (word_of ss a.number ≡ waiting) × (a.change.block ≡ b)
      go none q f = absurd (clash f (ap (go_at s) q))
      go (some j) q f =
          let w = waits j (sym (ap (go_at s) q) ∙ f) in
          (ap (state_at ss) q ∙ waiting_word (slot_at ss j).state w.0, sym (d.good.linked.block a m j (slot_carries ss a.number j q)) ∙ w.1)
