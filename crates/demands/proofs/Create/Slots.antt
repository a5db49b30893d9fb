-- A granted create: the history that it leaves, each slot afterwards, and where each number is.
use Prim.Native.Nat.{ℕ, ◌+◌, ◌<◌}
use native.Mathlib.Omega.{arith}
use mathlib.Core.Path.{◌≡◌, refl, sym, ◌∙◌, ap, subst}
use mathlib.Core.Bool.{Bool, true, false}
use mathlib.Core.List.{List, ◌∷◌, map, Memᴰ}
use mathlib.Core.Option.{Option, none, some}
use mathlib.Core.Logic.{◌≢◌, ◌⊎◌, inl, inr}
use borrow.Author.Tests.{eq-eqb, ne_eqb}
use lib.Dec.{eqb}
use Rattle.ground.proofs.Decided.{clash, same_bool}
use Rattle.rules.specs.declared.Hold.{Hold}
use Rattle.rules.specs.declared.Hold.TheVariants as hold
use Rattle.rules.specs.declared.State as rules
use Rattle.rules.specs.declared.State.TheVariants as state
use Rattle.rules.specs.declared.Slot.{Slot}
use Rattle.rules.specs.Sizes.{slots}
use Rattle.rules.specs.Slots.{is_used}
use Rattle.rules.specs.Table.{slot_at, used, with_slots, with_next, Sound}
use Rattle.rules.specs.Create as create
use Rattle.masks.specs.Lowest.{Lowest}
use Rattle.rules.specs.Create.{FreeSlot, HoldOf, patch, turned, turned_state, turned_slot, accepted_slot, accepted_slots, accepted, changed, kept}
use Rattle.rules.proofs.After.{accepted_at}
use Rattle.rules.specs.Refusals.{TakesSlot}
use Rattle.rules.specs.Passed.{CreatePassed}
use Rattle.rules.proofs.StaysSound.{Like, like_self, turned_like, accepted_sound}
use Rattle.cut.specs.Changes.{Logged}
use Rattle.cut.specs.World.{waiting}
use Rattle.ground.proofs.Decided.{same_or_other}
use Rattle.demands.specs.History.{History, Accepted}
use Rattle.demands.proofs.Log.{plain, number_below, of_log}
use Rattle.demands.proofs.Lookup.{carries, slot_of, carries_used, carries_number, carries_of, at_slot, slot_carries, slot_same}
use Rattle.demands.proofs.AtSlot.{state_word, state_at, word_of}
use Rattle.demands.proofs.Linked.{carries_was, carries_still}
use Rattle.demands.proofs.Good.{Good}

-- a slot that a create finds in use: it may turn hard, and else stays
pub record Stays (n s : Slot) : Type 0 where
  pub like : Like n s
  pub word : state_word n.state ≡ state_word s.state
  pub befores : n.befores ≡ s.befores

pub turned_stays : (h : Hold) (b : ℕ) (s : Slot) → Stays (turned h b s) s
turned_stays (hold.Soft r) b s = record { like = like_self s; word = refl; befores = refl }
turned_stays hold.Hard b s = record { like = turned_like hold.Hard b s; word = word (eqb s.block b); befores = same (eqb s.block b) }
  where
    turned_word : (u : rules.State) → state_word (turned_state u) ≡ state_word u
    turned_word state.Free = refl
    turned_word (state.Waiting h) = refl
    turned_word (state.InFlight k) = refl

    word : (its : Bool) → state_word (turned_slot its s).state ≡ state_word s.state
    word true = turned_word s.state
    word false = refl

    same : (its : Bool) → (turned_slot its s).befores ≡ s.befores
    same true = refl
    same false = refl

-- a create of change c that is granted slot j, hard or soft as k says
pub record Making (h : History) (c : create.Change) (j : ℕ) (k : Hold) : Type 0 where
  pub good : Good h
  pub lowest : Lowest slots (FreeSlot h.table.slots) j
  pub own : TakesSlot h.table c
  pub held : HoldOf h.table.setting h.table.slots c.block k
  pub passed : CreatePassed h.table h.image h.undo c

module _ {h : History} {c : create.Change} {j : ℕ} {k : Hold} (d : Making h c j k) where
  abbrev ss : List Slot
  ss = h.table.slots

  abbrev ss' : List Slot
  ss' = accepted_slots h.table.slots (patch h.table c k) j k

  -- the change, with the number that it is answered
  abbrev pub new : Accepted
  new = record { number = h.table.next; change = c }

  -- the history after the call
  abbrev pub made : History
  made = record {
    table = with_next (h.table.next + 1) (with_slots ss' h.table);
    image = changed h.image c;
    undo = kept h.undo h.image c k;
    opening = h.opening;
    accepted = new ∷ h.accepted;
    in_flight = h.in_flight;
    landed = h.landed;
  }

  pub data At (i : ℕ) : Type 0 where
    is_new : i ≡ j → slot_at ss' i ≡ patch h.table c k → At i
    is_old : i ≢ j → Stays (slot_at ss' i) (slot_at ss i) → At i

  pub at : (i : ℕ) → i < slots → At i
  unfolding patch
  at i l = go (same_or_other i j)
    where
      now : (here : Bool) → eqb i j ≡ here → slot_at ss' i ≡ accepted_slot (patch h.table c k) k here (slot_at ss i)
      now here e = accepted_at ss (patch h.table c k) j k i l ∙ ap (λ (x : Bool). accepted_slot (patch h.table c k) k x (slot_at ss i)) e

      go : (i ≡ j) ⊎ (i ≢ j) → At i
      go (inl e) = is_new e (now true (eq-eqb i j e))
      go (inr n) = is_old n (subst (λ (x : Slot). Stays x (slot_at ss i)) (sym (now false (ne_eqb i j n))) (turned_stays k c.block (slot_at ss i)))

  pub new_at : slot_at ss' j ≡ patch h.table c k
  new_at = go (at j d.lowest.within)
    where
      go : At j → slot_at ss' j ≡ patch h.table c k
      go (is_new e s) = s
      go (is_old n s) = absurd (n refl)

  -- a slot that was in use is not the new one
  stays : (i : ℕ) → i < slots → used ss i ≡ true → Stays (slot_at ss' i) (slot_at ss i)
  stays i l u = go (at i l)
    where
      go : At i → Stays (slot_at ss' i) (slot_at ss i)
      go (is_old m s) = s
      go (is_new q s) = absurd (clash u (ap (λ (x : ℕ). used ss x) q ∙ d.lowest.holds))

  pub like : (i : ℕ) → i < slots → used ss i ≡ true → Like (slot_at ss' i) (slot_at ss i)
  like i l u = (stays i l u).like

  pub befores_stay : (i : ℕ) → i < slots → used ss i ≡ true → (slot_at ss' i).befores ≡ (slot_at ss i).befores
  befores_stay i l u = (stays i l u).befores

  pub sound' : Sound made.table
  unfolding accepted
  sound' = accepted_sound h.table h.image h.undo c j k d.passed d.own d.lowest d.held

  -- ---- numbers

  -- a number that was issued before keeps its slot
  pub carries_old : (n i : ℕ) → n < h.table.next → i < slots → carries ss' n i ≡ carries ss n i
  unfolding patch
  carries_old n i l m =
      same_bool (carries ss' n i) (carries ss n i) (λ e. was e (at i m)) (λ e. carries_still ss ss' i (like i m (carries_used ss n i e)) n e)
    where
      was : carries ss' n i ≡ true → At i → carries ss n i ≡ true
      was e (is_new q s) = let z : h.table.next ≡ n = sym (ap (λ (x : Slot). x.number) s) ∙ carries_number ss' n i e in absurd (omega arith)
      was e (is_old q s) = carries_was ss ss' i s.like n e

  pub slot_old : (n : ℕ) → n < h.table.next → slot_of ss' n ≡ slot_of ss n
  slot_old n l = slot_same ss' ss n (λ i m. carries_old n i l m)

  pub slot_new : slot_of ss' h.table.next ≡ some j
  unfolding patch
  slot_new =
      at_slot ss' h.table.next j sound'.numbers_differ d.lowest.within
      (carries_of ss' h.table.next j (ap (λ (x : Slot). is_used x.state) new_at) (ap (λ (x : Slot). x.number) new_at))

  -- the new number's slot is the new one
  pub new_slot : (i : ℕ) → i < slots → carries ss' h.table.next i ≡ true → slot_at ss' i ≡ patch h.table c k
  new_slot i l f = go (at i l)
    where
      go : At i → slot_at ss' i ≡ patch h.table c k
      go (is_new q s) = s
      go (is_old q s) =
          let u : used ss i ≡ true = sym s.like.used ∙ carries_used ss' h.table.next i f in
          let n : (slot_at ss i).number ≡ h.table.next = sym s.like.number ∙ carries_number ss' h.table.next i f in
          absurd (omega (arith, d.good.sound.number_most i l u))

  -- every older change has a number below the new one
  pub below : (x : Accepted) → Memᴰ x h.accepted → x.number < h.table.next
  below x m = number_below x d.good.numbers m

  pub below_log : (x : Logged) → Memᴰ x (map plain h.accepted) → x.number < h.table.next
  below_log x m = let r = of_log h.accepted x m in subst (λ (y : Logged). y.number < h.table.next) r.2 (below r.0 r.1)

  -- where a change is does not move, and the new one waits
  pub old-state : (n : ℕ) → n < h.table.next → word_of ss' n ≡ word_of ss n
  old-state n l = ap (state_at ss') (slot_old n l) ∙ go (slot_of ss n) refl
    where
      go : (p : Option ℕ) → slot_of ss n ≡ p → state_at ss' p ≡ state_at ss p
      go none e = refl
      go (some i) e = let s = slot_carries ss n i e in (stays i s.0 (carries_used ss n i s.1)).word

  pub new-state : word_of ss' h.table.next ≡ waiting
  unfolding patch
  new-state = ap (state_at ss') slot_new ∙ ap (λ (x : Slot). state_word x.state) new_at
