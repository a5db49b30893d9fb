-- A granted complete: the history that it leaves, each slot afterwards, and where each number is.
use Prim.Native.Nat.{ℕ, ◌<◌}
use mathlib.Core.Path.{◌≡◌, refl, sym, ◌∙◌, ap, subst}
use mathlib.Core.Bool.{Bool, true, false, cond, ◌&&◌, not}
use mathlib.Core.List.{List, ◌++◌, Memᴰ}
use mathlib.Core.Option.{Option, none, some}
use lib.Dec.{eqb}
use Rattle.ground.proofs.Decided.{clash}
use Rattle.rules.specs.declared.State as rules
use Rattle.rules.specs.declared.State.TheVariants as state
use Rattle.rules.specs.declared.Slot.{Slot}
use Rattle.rules.specs.Sizes.{slots}
use Rattle.rules.specs.Slots.{is_used, is_in_flight}
use Rattle.rules.specs.Table.{slot_at, used, flies_on, with_slots, Sound}
use Rattle.rules.specs.Complete.{without_befores, landing, completed_slots, completed}
use Rattle.rules.proofs.StaysSound.{Like, Finished, finished, remaining_like, completed_sound}
use Rattle.cut.specs.World.{Stage, committed, settled}
use Rattle.demands.specs.History.{History, Accepted, Sent, those}
use Rattle.demands.proofs.Lookup.{carries, slot_of, carries_used, carries_number, at_slot, slot_carries, no_slot, nowhere}
use Rattle.demands.proofs.AtSlot.{state_word, state_at, word_of}
use Rattle.demands.proofs.Linked.{carries_was, carries_still}
use Rattle.demands.proofs.Good.{Good}

-- the state of a change once a block has landed, whose own block it may be
abbrev pub settled_if : Bool → Stage → Stage
settled_if its s = cond its (settled s) s

-- a patch that has no slot, one that commits, and one that stays
gone_settles : (its : Bool) → committed ≡ settled_if its committed
unfolding settled
gone_settles true = refl
gone_settles false = refl

flying_settles : (u : rules.State) (its : Bool) → (is_in_flight u && its) ≡ true → committed ≡ settled_if its (state_word u)
unfolding settled
flying_settles state.Free its e = absurd (clash e refl)
flying_settles (state.Waiting h) its e = absurd (clash e refl)
flying_settles (state.InFlight k) true e = refl
flying_settles (state.InFlight k) false e = absurd (clash e refl)

others_stay : (u : rules.State) (its : Bool) → (is_in_flight u && its) ≡ false → state_word u ≡ settled_if its (state_word u)
unfolding settled
others_stay state.Free true e = refl
others_stay (state.Waiting h) true e = refl
others_stay (state.InFlight k) true e = absurd (clash refl e)
others_stay u false e = refl

module _ {h : History} (g : Good h) (b : ℕ) where
  abbrev ss : List Slot
  ss = h.table.slots

  abbrev ss' : List Slot
  ss' = completed_slots h.table.slots b

  -- the writes that were out: those to the block, and the others
  abbrev pub to_it : List Sent
  to_it = those (λ w. eqb w.block b) h.in_flight

  abbrev pub elsewhere : List Sent
  elsewhere = those (λ w. not (eqb w.block b)) h.in_flight

  -- the history after the call
  abbrev pub landed : History
  landed = record {
    table = with_slots ss' h.table;
    image = h.image;
    undo = h.undo;
    opening = h.opening;
    accepted = h.accepted;
    in_flight = elsewhere;
    landed = to_it ++ h.landed;
  }

  pub sound' : Sound landed.table
  unfolding completed
  sound' = completed_sound h.table b g.sound

  -- a used slot afterwards is one that stayed
  pub record Stayed (i : ℕ) : Type 0 where
    pub lies : flies_on ss b i ≡ false
    pub is : slot_at ss' i ≡ without_befores (landing ss b) (slot_at ss i)

  stayed : (i : ℕ) → i < slots → used ss' i ≡ true → Stayed i
  stayed i l u = go (finished ss b i l)
    where
      go : Finished ss b i (slot_at ss' i) → Stayed i
      go (Finished.commits f e) = absurd (clash u (ap (λ (s : Slot). is_used s.state) e))
      go (Finished.stays f v e) = record { lies = f; is = e }
      go (Finished.was_free f v e) = absurd (clash u (ap (λ (s : Slot). is_used s.state) e ∙ v))

  -- and is as it was, but for its befores
  like_of : (i : ℕ) → slot_at ss' i ≡ without_befores (landing ss b) (slot_at ss i) → Like (slot_at ss' i) (slot_at ss i)
  like_of i e =
      subst (λ (x : Slot). Like x (slot_at ss i)) (sym e) (remaining_like ss b (slot_at ss i))

  pub like : (i : ℕ) → i < slots → used ss' i ≡ true → Like (slot_at ss' i) (slot_at ss i)
  like i l u = like_of i (stayed i l u).is

  -- ---- numbers

  -- a number had no slot, or lost it by the call, or has it still
  pub data Fate (n : ℕ) : Type 0 where
    gone : slot_of ss n ≡ none → slot_of ss' n ≡ none → Fate n
    lost : (j : ℕ) → slot_of ss n ≡ some j → flies_on ss b j ≡ true → slot_of ss' n ≡ none → Fate n
    kept : (j : ℕ) → slot_of ss n ≡ some j → slot_of ss' n ≡ some j → Fate n

  -- a slot that has the number afterwards had it, and stayed
  had : (n i : ℕ) → i < slots → carries ss' n i ≡ true → (carries ss n i ≡ true) × Stayed i
  had n i l f = let s = stayed i l (carries_used ss' n i f) in (carries_was ss ss' i (like_of i s.is) n f, s)

  pub fate : (n : ℕ) → Fate n
  fate n = pick (slot_of ss n) refl
    where
      alone : (i j : ℕ) → i < slots → j < slots → carries ss n i ≡ true → carries ss n j ≡ true → i ≡ j
      alone i j l m c e =
          g.sound.numbers_differ i j l m (carries_used ss n i c) (carries_used ss n j e) (carries_number ss n i c ∙ sym (carries_number ss n j e))

      at_j : (j : ℕ) → slot_of ss n ≡ some j → j < slots → carries ss n j ≡ true → Finished ss b j (slot_at ss' j) → Fate n
      at_j j e l c (Finished.commits f s) = lost j e f (no_slot ss' n (λ i m q.
          let w = had n i m q in clash f (sym (ap (flies_on ss b) (alone i j m l w.0 c)) ∙ w.1.lies)))
      at_j j e l c (Finished.stays f u s) =
          kept j e (at_slot ss' n j sound'.numbers_differ l (carries_still ss ss' j (like_of j s) n c))
      at_j j e l c (Finished.was_free f u s) = absurd (clash (carries_used ss n j c) u)

      pick : (p : Option ℕ) → slot_of ss n ≡ p → Fate n
      pick none e = gone e (no_slot ss' n (λ i m q. nowhere ss n e i m (had n i m q).0))
      pick (some j) e = let c = slot_carries ss n j e in at_j j e c.0 c.1 (finished ss b j c.0)

  -- a slot that a number has afterwards stayed
  pub stays_at : (n i : ℕ) → slot_of ss' n ≡ some i → Stayed i
  stays_at n i e = let c = slot_carries ss' n i e in stayed i c.0 (carries_used ss' n i c.1)

  pub like_at : (n i : ℕ) → slot_of ss' n ≡ some i → Like (slot_at ss' i) (slot_at ss i)
  like_at n i e = like_of i (stays_at n i e).is

  -- where each change is: those of the block that were in flight have committed, and no other moves
  pub state_after : (a : Accepted) → Memᴰ a h.accepted → word_of ss' a.number ≡ settled_if (eqb a.change.block b) (word_of ss a.number)
  state_after a m = pick (fate a.number)
    where
      its : Bool
      its = eqb a.change.block b

      on_slot : (j : ℕ) → slot_of ss a.number ≡ some j → flies_on ss b j ≡ (is_in_flight (slot_at ss j).state && eqb a.change.block b)
      on_slot j e = ap (λ (x : ℕ). is_in_flight (slot_at ss j).state && eqb x b) (g.linked.block a m j (slot_carries ss a.number j e))

      was : (p : Option ℕ) → slot_of ss a.number ≡ p → settled_if its (state_at ss p) ≡ settled_if its (word_of ss a.number)
      was p e = ap (λ (q : Option ℕ). settled_if its (state_at ss q)) (sym e)

      pick : Fate a.number → word_of ss' a.number ≡ settled_if its (word_of ss a.number)
      pick (gone e f) = ap (state_at ss') f ∙ gone_settles its ∙ was none e
      pick (lost j e l f) = ap (state_at ss') f ∙ flying_settles (slot_at ss j).state its (sym (on_slot j e) ∙ l) ∙ was (some j) e
      pick (kept j e f) =
          let s = stays_at a.number j f in
          ap (state_at ss') f ∙ ap (λ (x : Slot). state_word x.state) s.is ∙ others_stay (slot_at ss j).state its (sym (on_slot j e) ∙ s.lies)
          ∙ was (some j) e
