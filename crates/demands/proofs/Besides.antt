-- The notes of a good history are true.
use Prim.Native.Nat.{ℕ, ◌≤◌, ◌<◌}
use native.Mathlib.Omega.{arith}
use native.Mathlib.Decide.{dec_le}
use mathlib.Core.Path.{◌≡◌, refl, sym, ◌∙◌, ap, ap₂, subst}
use mathlib.Core.Bool.{Bool, true, false, ◌||◌}
use mathlib.Core.List.Memᴰ
use mathlib.Core.List.{List, [], ◌∷◌, ◌++◌, Memᴰ}
use mathlib.Core.Logic.{◌⊎◌, inl, inr}
use mathlib.Core.Option.{Option, some}
use Rattle.ground.proofs.Decided.{true_or_l, true_or_r}
use Rattle.rules.specs.declared.AskAnswer.{AskAnswer}
use Rattle.rules.specs.declared.AskAnswer.TheVariants as ask
use Rattle.rules.specs.declared.Slot.{Slot}
use Rattle.rules.specs.Sizes.{slots}
use Rattle.rules.specs.Slots.{is_waiting, is_in_flight}
use Rattle.rules.specs.Table.{Table, slot_at, Old, InSlot, Committed}
use Rattle.rules.specs.Create.{is_in}
use Rattle.rules.specs.Ask.{ask_word, Asked}
use Rattle.rules.specs.Calls.{Writing, Writes, answer_number, Asks}
use Rattle.rules.proofs.Granted.{write_passed}
use Rattle.demands.specs.History.{History, Accepted, Sent}
use Rattle.demands.specs.Demand3.{sent_in, has_landed, NotesTrue, Later}
use Rattle.demands.proofs.Log.{number_least, number_taken, named_earlier, block_one}
use Rattle.demands.proofs.Notes.{sent_in_both}
use Rattle.demands.proofs.Lookup.{slot_of, carries, carries_used, carries_number, carries_of, at_slot, no_slot}
use Rattle.demands.proofs.AtSlot.{state_at, word_of, is_done, is_out, waiting_word, flying_word, out_flies}
use Rattle.demands.proofs.Good.{Good, none_out}
use Rattle.demands.proofs.Later.{landed_for_good}

-- a write that is noted sent what it sent
noted_sent : (n : ℕ) (ws : List Sent) (w : Sent) → Memᴰ w ws → is_in n w.numbers ≡ true → sent_in n ws ≡ true
unfolding sent_in
noted_sent n [] w m f = elim m [ ]
noted_sent n (x ∷ ws) w (Memᴰ.head e) f = true_or_l (sent_in n ws) (ap (λ (y : Sent). is_in n y.numbers) (sym e) ∙ f)
noted_sent n (x ∷ ws) w (Memᴰ.tail m) f = true_or_r (is_in n x.numbers) (noted_sent n ws w m f)

-- what ask's answer says of the number
Says : Table → ℕ → AskAnswer → Type 0
Says t n ask.Waiting = (i : ℕ) × InSlot t n i × (is_waiting (slot_at t.slots i).state ≡ true)
Says t n ask.InFlight = (i : ℕ) × InSlot t n i × (is_in_flight (slot_at t.slots i).state ≡ true)
Says t n ask.Committed = Committed t n
Says t n (ask.Refused k) = Unit {0}

says : {t : Table} {n : ℕ} (a : AskAnswer) → Asked t n (ask_word a) → Says t n a
unfolding Says
says ask.Waiting (Asked.waiting e i s w) = (i, s, w)
says ask.Waiting (Asked.in_flight e i s w) = absurd (omega arith)
says ask.Waiting (Asked.committed e c) = absurd (omega arith)
says ask.InFlight (Asked.waiting e i s w) = absurd (omega arith)
says ask.InFlight (Asked.in_flight e i s w) = (i, s, w)
says ask.InFlight (Asked.committed e c) = absurd (omega arith)
says ask.Committed (Asked.waiting e i s w) = absurd (omega arith)
says ask.Committed (Asked.in_flight e i s w) = absurd (omega arith)
says ask.Committed (Asked.committed e c) = c
says (ask.Refused k) x = tt

module _ (h : History) (g : Good h) where
  abbrev ss : List Slot
  ss = h.table.slots

  alone : (b : ℕ) (lent : List ℕ) (o : Writing) → Writes h.table h.image h.undo lent b o → answer_number o.answer ≡ 0
      → (w : Sent) → Memᴰ w h.in_flight → w.block ≡ b → ⊥
  alone b lent o p z w m e =
      let n = g.some w (Memᴰ.append_left h.landed m) in
      let a = g.sent w (Memᴰ.append_left h.landed m) n.0 n.1 in
      let out = sym (g.out a.0 a.1) ∙ ap (λ (x : ℕ). sent_in x h.in_flight) a.2 ∙ noted_sent n.0 h.in_flight w m n.1 in
      none_out h g b (write_passed p z).ready.none_flies a.0 a.1 (a.3 ∙ e) (out_flies (word_of ss a.0.number) out)

  -- ---- what ask says, and the notes

  -- the number is that of a change of this history
  abbrev Own : ℕ → Type 0
  Own n = (h.table.first ≤ n) × (n < h.table.next)

  issued : (n : ℕ) → Own n → (a : Accepted) × Memᴰ a h.accepted × (a.number ≡ n)
  issued n i = number_taken n g.numbers i.0 i.1

  none_old : (a : Accepted) → Memᴰ a h.accepted → h.table.first ≤ a.number
  none_old a m = number_least a g.numbers m

  in_slot : (n i : ℕ) → InSlot h.table n i → Own n × (slot_of ss n ≡ some i)
  in_slot n i s =
      let num = s.2 in
      let low = g.sound.number_least i s.0 s.1 in
      let high = g.sound.number_most i s.0 s.1 in
      ((omega arith, omega arith), at_slot ss n i g.sound.numbers_differ s.0 (carries_of ss n i s.1 num))

  -- the notes on a number of this history are those on where its patch is
  landed_is : (n : ℕ) → Own n → sent_in n h.landed ≡ is_done (word_of ss n)
  landed_is n i = let a = issued n i in subst (λ (m : ℕ). sent_in m h.landed ≡ is_done (word_of ss m)) a.2 (g.done a.0 a.1)

  out_is : (n : ℕ) → Own n → sent_in n h.in_flight ≡ is_out (word_of ss n)
  out_is n i = let a = issued n i in subst (λ (m : ℕ). sent_in m h.in_flight ≡ is_out (word_of ss m)) a.2 (g.out a.0 a.1)

  waiting_unsent : (n : ℕ) → Asks h.table n ask.Waiting → sent_in n (h.in_flight ++ h.landed) ≡ false
  unfolding Says
  waiting_unsent n p =
      let s = says ask.Waiting (p.grant refl) in
      let q = in_slot n s.0 s.1 in
      let word = ap (state_at ss) q.1 ∙ waiting_word (slot_at ss s.0).state s.2 in
      sent_in_both n h.in_flight h.landed ∙ ap₂ (λ (x y : Bool). x || y) (out_is n q.0 ∙ ap is_out word) (landed_is n q.0 ∙ ap is_done word)

  flying_out : (n : ℕ) → Asks h.table n ask.InFlight → sent_in n h.in_flight ≡ true
  unfolding Says
  flying_out n p =
      let s = says ask.InFlight (p.grant refl) in
      let q = in_slot n s.0 s.1 in
      out_is n q.0 ∙ ap is_out (ap (state_at ss) q.1 ∙ flying_word (slot_at ss s.0).state s.2)

  -- a change of this history whose number is in no slot has landed
  pub gone_landed : (a : Accepted) → Memᴰ a h.accepted → ((i : ℕ) → i < slots → carries ss a.number i ≡ true → ⊥)
      → sent_in a.number h.landed ≡ true
  gone_landed a m f = g.done a m ∙ ap (λ (x : Option ℕ). is_done (state_at ss x)) (no_slot ss a.number f)

  -- and so one whose number is called committed
  pub change_landed : (a : Accepted) → Memᴰ a h.accepted → Asks h.table a.number ask.Committed → sent_in a.number h.landed ≡ true
  unfolding Says
  change_landed a m p =
      let n = a.number in
      let c = says ask.Committed (p.grant refl) in
      gone_landed a m (λ i l f. c.1 i (l, carries_used ss n i f, carries_number ss n i f))

  committed : (n : ℕ) → Asks h.table n ask.Committed → Old h.table.first n ⊎ (sent_in n h.landed ≡ true)
  unfolding Says
  committed n p = go (dec_le h.table.first n)
    where
      go : Dec (h.table.first ≤ n) → Old h.table.first n ⊎ (sent_in n h.landed ≡ true)
      go (yes low) =
          let a = issued n (low, (says ask.Committed (p.grant refl)).0.1) in
          let q = change_landed a.0 a.1 (subst (λ (m : ℕ). Asks h.table m ask.Committed) (sym a.2) p) in
          inr (subst (λ (m : ℕ). sent_in m h.landed ≡ true) a.2 q)
      go (no d) = inl ((says ask.Committed (p.grant refl)).0.0, omega arith)

  -- all changes of a number are of the block that it was sent to
  of_block : (w : Sent) → Memᴰ w (h.in_flight ++ h.landed) → (n : ℕ) → is_in n w.numbers ≡ true
      → (a : Accepted) → Memᴰ a h.accepted → a.number ≡ n → a.change.block ≡ w.block
  of_block w m n f a k e = let r = g.sent w m n f in block_one a r.0 g.numbers k r.1 (e ∙ sym r.2) ∙ r.3

  -- what a landed write sent is on the store after every cut
  with_all : (n : ℕ) → Asks h.table n ask.Committed → (a : Accepted) → Memᴰ a h.accepted → a.number ≡ n
      → (new : ℕ → Bool) → has_landed new h a ≡ true
  with_all n p a m e new =
      (landed_for_good h a m (change_landed a m (subst (λ (x : ℕ). Asks h.table x ask.Committed) (sym e) p)) h Later.now new).1

  pub good_notes : NotesTrue h
  good_notes = record {
    issued = λ n low high. issued n (low, high);
    none_old = none_old;
    named = λ y m n e. named_earlier h.accepted y g.older m n e;
    known = λ w m n f. let a = g.sent w m n f in (a.0, a.1, a.2);
    of_block = of_block;
    once = g.once;
    alone = alone;
    waiting = waiting_unsent;
    flying = flying_out;
    committed = committed;
    with_all = with_all;
  }
