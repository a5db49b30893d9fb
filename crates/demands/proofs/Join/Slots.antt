-- A granted create that joins a patch: the history that it leaves, each slot afterwards, and where each number is.
use Prim.Native.Nat.{ℕ, ◌<◌}
use mathlib.Core.Path.{◌≡◌, refl, sym, ◌∙◌, ap, subst}
use mathlib.Core.Bool.{Bool, true}
use mathlib.Core.List.{List, ◌∷◌, Memᴰ}
use mathlib.Core.Option.{Option, none, some}
use borrow.Author.Tests.{eq-eqb, eqb-true}
use lib.Dec.{eqb}
use Rattle.masks.specs.Sets.{has}
use Rattle.ground.proofs.Decided.{and-true}
use Rattle.rules.specs.declared.Hold.TheVariants as hold
use Rattle.rules.specs.declared.Slot.{Slot}
use Rattle.rules.specs.Sizes.{slots}
use Rattle.rules.specs.Slots.{is_waiting, is_hard}
use Rattle.rules.specs.Table.{slot_at, used, waits_on, with_slots, Sound}
use Rattle.rules.specs.Create as create
use Rattle.rules.specs.Create.{LowestNumbered, named_elsewhere, added, turned, turned_slot, joined_slot, joined_slots, joined, changed}
use Rattle.rules.specs.Passed.{CreateReady}
use Rattle.rules.proofs.After.{joined_at}
use Rattle.rules.proofs.Words.{waiting_turned, waits_on_used}
use Rattle.rules.proofs.StaysSound.{Like}
use Rattle.rules.proofs.Joined.{is_added, joined_like, joined_keeps, joined_adds, joined_state, joined_sound}
use Rattle.cut.specs.World.{waiting}
use Rattle.demands.specs.History.{History, Accepted}
use Rattle.demands.proofs.Log.{number_taken}
use Rattle.demands.proofs.Lookup.{slot_of, carries_of, at_slot, slot_carries}
use Rattle.demands.proofs.AtSlot.{state_word, state_at, word_of, waiting_word}
use Rattle.demands.proofs.Linked.{slot_kept}
use Rattle.demands.proofs.Good.{Good}
use Rattle.demands.proofs.Create.Slots.{turned_stays}

-- a create of change c that joins the patch of slot j
pub record Joining (h : History) (c : create.Change) (j : ℕ) : Type 0 where
  pub good : Good h
  pub lowest : LowestNumbered h.table.slots c.block j
  pub ready : CreateReady h.table h.image h.undo c

module _ {h : History} {c : create.Change} {j : ℕ} (d : Joining h c j) where
  abbrev ss : List Slot
  ss = h.table.slots

  abbrev ss' : List Slot
  ss' = joined_slots h.table.slots c j

  -- the change, with the number that it is answered
  abbrev pub new : Accepted
  new = record { number = (slot_at h.table.slots j).number; change = c }

  -- the history after the call
  abbrev pub made : History
  made = record {
    table = with_slots ss' h.table;
    image = changed h.image c;
    undo = h.undo;
    opening = h.opening;
    accepted = new ∷ h.accepted;
    in_flight = h.in_flight;
    landed = h.landed;
  }

  pub sound' : Sound made.table
  unfolding joined
  sound' = joined_sound h.table c j d.good.sound d.lowest

  -- ---- slots

  at : (i : ℕ) → i < slots → slot_at ss' i ≡ joined_slot (added ss c) c.block (eqb i j) (slot_at ss i)
  at = joined_at ss c j

  pub like : (i : ℕ) → i < slots → Like (slot_at ss' i) (slot_at ss i)
  like i l = subst (λ (n : Slot). Like n (slot_at ss i)) (sym (at i l)) (joined_like (added ss c) c.block (eqb i j) (slot_at ss i))

  state_is : (i : ℕ) → i < slots → (slot_at ss' i).state ≡ (turned hold.Hard c.block (slot_at ss i)).state
  state_is i l = ap (λ (n : Slot). n.state) (at i l) ∙ joined_state (added ss c) c.block (eqb i j) (slot_at ss i)

  word_stays : (i : ℕ) → i < slots → state_word (slot_at ss' i).state ≡ state_word (slot_at ss i).state
  word_stays i l = ap state_word (state_is i l) ∙ (turned_stays hold.Hard c.block (slot_at ss i)).word

  -- every waiting patch of the block is hard now
  pub hard_now : (i : ℕ) → i < slots → waits_on ss c.block i ≡ true → is_hard (slot_at ss' i).state ≡ true
  hard_now i l w =
      let p = and-true (is_waiting (slot_at ss i).state) _ w in
      ap is_hard (state_is i l) ∙ ap (λ (x : Bool). is_hard (turned_slot x (slot_at ss i)).state) p.1 ∙ waiting_turned (slot_at ss i).state p.0

  pub keeps_before : (i k : ℕ) → i < slots → k < slots → has (slot_at ss i).befores k ≡ true → has (slot_at ss' i).befores k ≡ true
  keeps_before i k l m h =
      subst (λ (n : Slot). has n.befores k ≡ true) (sym (at i l)) (joined_keeps (added ss c) c.block (eqb i j) (slot_at ss i) k m h)

  pub adds_before : (k : ℕ) → k < slots → named_elsewhere ss c k ≡ true → has (slot_at ss' j).befores k ≡ true
  adds_before k l e =
      subst (λ (n : Slot). has n.befores k ≡ true)
      (sym (at j d.lowest.is_slot ∙ ap (λ (here : Bool). joined_slot (added ss c) c.block here (slot_at ss j)) (eq-eqb j j refl)))
      (joined_adds (added ss c) c.block (slot_at ss j) k l (is_added ss c k l e))

  -- the slot that is joined waits on the change's block
  pub its_block : (slot_at ss j).block ≡ c.block
  its_block = eqb-true (slot_at ss j).block c.block (and-true (is_waiting (slot_at ss j).state) _ d.lowest.waits).1

  pub in_use : used ss j ≡ true
  in_use = waits_on_used ss c.block j d.lowest.waits

  -- ---- numbers

  -- a number keeps its slot, and where it is
  pub slot_here : (n : ℕ) → slot_of ss' n ≡ slot_of ss n
  slot_here = slot_kept ss ss' like

  pub state_here : (n : ℕ) → word_of ss' n ≡ word_of ss n
  state_here n = ap (state_at ss') (slot_here n) ∙ go (slot_of ss n) refl
    where
      go : (p : Option ℕ) → slot_of ss n ≡ p → state_at ss' p ≡ state_at ss p
      go none e = refl
      go (some i) e = word_stays i (slot_carries ss n i e).0

  -- the number that is answered is that of the slot, which waits
  pub slot_joined : slot_of ss (slot_at ss j).number ≡ some j
  slot_joined = at_slot ss (slot_at ss j).number j d.good.sound.numbers_differ d.lowest.is_slot (carries_of ss (slot_at ss j).number j in_use refl)

  pub its-state : word_of ss (slot_at ss j).number ≡ waiting
  its-state = ap (state_at ss) slot_joined ∙ waiting_word (slot_at ss j).state (and-true (is_waiting (slot_at ss j).state) _ d.lowest.waits).0

  -- and an older change has it
  pub older : (a : Accepted) × Memᴰ a h.accepted × (a.number ≡ (slot_at ss j).number)
  older =
      number_taken (slot_at ss j).number d.good.numbers (d.good.sound.number_least j d.lowest.is_slot in_use)
      (d.good.sound.number_most j d.lowest.is_slot in_use)
