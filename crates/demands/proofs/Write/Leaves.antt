-- What a granted write leaves is a good history: the note on it is true, and the table agrees with the notes.
use Prim.Native.Nat.{ℕ, ◌+◌, ◌≤◌}
use native.Mathlib.Omega.{arith}
use mathlib.Core.Path.{◌≡◌, refl, sym, ◌∙◌, ap, ap₂, subst}
use mathlib.Core.Bool.{Bool, true, false, ◌||◌}
use mathlib.Core.List.{List, ◌∷◌, ◌++◌, Memᴰ}
use mathlib.Core.Option.{Option, none, some}
use mathlib.Core.Logic.{◌⊎◌, inl, inr}
use Rattle.masks.specs.Sets.{has}
use Rattle.masks.proofs.Laws.{has_slot}
use Rattle.ground.proofs.Decided.{clash, true_or_false, same_bool}
use Rattle.rules.specs.declared.Slot.{Slot}
use Rattle.rules.specs.Sizes.{slots}
use Rattle.rules.specs.Table.{slot_at, used}
use Rattle.rules.specs.Create.{is_in}
use Rattle.cut.specs.World.{Step}
use Rattle.cut.proofs.Core.{step_keeps}
use Rattle.demands.specs.History.{History, Accepted, Sent}
use Rattle.demands.specs.Demand3.{sent_in, times_in, times_sent}
use Rattle.rules.proofs.Words.{waiting_used}
use Rattle.demands.proofs.Log.{plain, number_taken}
use Rattle.demands.proofs.Notes.{Whole, not_in_none, not_sent_none, times_both}
use Rattle.demands.proofs.Lookup.{slot_of, carries_number, carries_of, at_slot, slot_carries}
use Rattle.demands.proofs.AtSlot.{word_of, is_done, is_out}
use Rattle.demands.proofs.Linked.{linked_kept}
use Rattle.demands.proofs.Good.{Good}
use Rattle.demands.proofs.Write.Slots.{Sending, writ, gone, may, some_goes, waits, sound', like, go_at, goes, go-state, stay-state, members}
use Rattle.demands.proofs.Write.Back.{whole_writ}
use Rattle.demands.proofs.Write.Sends.{sends}
use Rattle.demands.proofs.Write.Numbers.{number_in, in_numbers, number_once}

module _ {h : History} {b s : ℕ} (d : Sending h b s) where
  abbrev ss : List Slot
  ss = h.table.slots

  abbrev ss' : List Slot
  ss' = (gone d).table.slots

  in_use : (i : ℕ) → has s i ≡ true → used ss i ≡ true
  in_use i e = waiting_used (slot_at ss i).state (waits d i e).0

  -- the numbers that the write sent are those of the changes that go
  sent_goes : (a : Accepted) → is_in a.number (writ d).numbers ≡ goes d (plain a)
  sent_goes a = same_bool (is_in a.number (writ d).numbers) (goes d (plain a)) to from
    where
      to : is_in a.number (writ d).numbers ≡ true → goes d (plain a) ≡ true
      to e =
          let r = number_in ss s a.number slots e in
          let c = carries_of ss a.number r.0 (in_use r.0 r.2) r.3 in
          ap (go_at s) (at_slot ss a.number r.0 d.good.sound.numbers_differ r.1 c) ∙ r.2

      from : goes d (plain a) ≡ true → is_in a.number (writ d).numbers ≡ true
      from e = pick (slot_of ss a.number) refl
        where
          pick : (p : Option ℕ) → slot_of ss a.number ≡ p → is_in a.number (writ d).numbers ≡ true
          pick none q = absurd (clash e (ap (go_at s) q))
          pick (some j) q =
              let c = slot_carries ss a.number j q in
              in_numbers ss s a.number slots j c.0 (sym (ap (go_at s) q) ∙ e) (carries_number ss a.number j c.1)

  out_now : (a : Accepted) → (v : Bool) → goes d (plain a) ≡ v → (v || is_out (word_of ss a.number)) ≡ is_out (word_of ss' a.number)
  out_now a true e = sym (ap is_out (go-state d a.number e))
  out_now a false e = sym (ap is_out (stay-state d a.number e))

  -- what is done stays done, and what goes was not
  still_done : (a : Accepted) → Memᴰ a h.accepted → (v : Bool) → goes d (plain a) ≡ v → is_done (word_of ss a.number) ≡ is_done (word_of ss' a.number)
  still_done a m true e = ap is_done (members d a m e).0 ∙ sym (ap is_done (go-state d a.number e))
  still_done a m false e = sym (ap is_done (stay-state d a.number e))

  -- ---- the note

  -- each number sent is an accepted change of the block
  sender_known : (n : ℕ) → is_in n (writ d).numbers ≡ true → (a : Accepted) × Memᴰ a h.accepted × (a.number ≡ n) × (a.change.block ≡ b)
  sender_known n e =
      let r = number_in ss s n slots e in
      let u = in_use r.0 r.2 in
      let num = r.3 in
      let low = d.good.sound.number_least r.0 r.1 u in
      let high = d.good.sound.number_most r.0 r.1 u in
      let a = number_taken n d.good.numbers (omega arith) (omega arith) in
      let c = carries_of ss a.0.number r.0 u (num ∙ sym a.2) in
      (a.0, a.1, a.2, sym (d.good.linked.block a.0 a.1 r.0 (r.1, c)) ∙ (waits d r.0 r.2).1)

  whole' : (w : Sent) → Memᴰ w (writ d ∷ (h.in_flight ++ h.landed)) → Whole w
  whole' w (Memᴰ.head e) = subst Whole (sym e) (whole_writ d)
  whole' w (Memᴰ.tail m) = d.good.whole w m

  sent' : (w : Sent) → Memᴰ w (writ d ∷ (h.in_flight ++ h.landed)) → (n : ℕ) → is_in n w.numbers ≡ true
      → (a : Accepted) × Memᴰ a h.accepted × (a.number ≡ n) × (a.change.block ≡ w.block)
  sent' w (Memᴰ.head e) n f =
      let r = sender_known n (ap (λ (x : Sent). is_in n x.numbers) (sym e) ∙ f) in (r.0, r.1, r.2, r.3 ∙ sym (ap (λ (x : Sent). x.block) e))
  sent' w (Memᴰ.tail m) n f = d.good.sent w m n f

  some' : (w : Sent) → Memᴰ w (writ d ∷ (h.in_flight ++ h.landed)) → (n : ℕ) × (is_in n w.numbers ≡ true)
  some' w (Memᴰ.head e) =
      let i = (some_goes d).0 in
      let goes = (some_goes d).1 in
      let n = (slot_at ss i).number in
      (n, subst (λ (x : Sent). is_in n x.numbers ≡ true) (sym e) (in_numbers ss s n slots i (has_slot s i (may d).set goes) goes refl))
  some' w (Memᴰ.tail m) = d.good.some w m

  once' : (n : ℕ) → times_sent n (writ d ∷ (h.in_flight ++ h.landed)) ≤ 1
  unfolding times_sent
  once' n = go (true_or_false (is_in n (writ d).numbers))
    where
      go : (is_in n (writ d).numbers ≡ true) ⊎ (is_in n (writ d).numbers ≡ false) → times_in n (writ d).numbers + times_sent n (h.in_flight ++ h.landed) ≤ 1
      go (inr e) = omega (arith, not_in_none n (writ d).numbers e, d.good.once n)
      go (inl e) =
          let a = sender_known n e in
          let goes = sym (sent_goes a.0) ∙ ap (λ (x : ℕ). is_in x (writ d).numbers) a.2 ∙ e in
          let st = (members d a.0 a.1 goes).0 in
          let out : sent_in n h.in_flight ≡ false = ap (λ (x : ℕ). sent_in x h.in_flight) (sym a.2) ∙ d.good.out a.0 a.1 ∙ ap is_out st in
          let done : sent_in n h.landed ≡ false = ap (λ (x : ℕ). sent_in x h.landed) (sym a.2) ∙ d.good.done a.0 a.1 ∙ ap is_done st in
          let one = number_once ss s n (λ i k l m f g. d.good.sound.numbers_differ i k l m (in_use i f) (in_use k g)) in
          omega (arith, times_both n h.in_flight h.landed, not_sent_none n h.in_flight out, not_sent_none n h.landed done)

  pub gone_good : Good (gone d)
  unfolding sent_in
  gone_good = record {
    sound = sound' d;
    numbers = d.good.numbers;
    older = d.good.older;
    linked = linked_kept ss ss' h.accepted (λ i l u. like d i l) d.good.linked;
    within = d.good.within;
    image_whole = d.good.image_whole;
    opening_whole = d.good.opening_whole;
    done = λ a m. d.good.done a m ∙ still_done a m (goes d (plain a)) refl;
    out = λ a m. ap₂ (λ (x y : Bool). x || y) (sent_goes a) (d.good.out a m) ∙ out_now a (goes d (plain a)) refl;
    whole = whole';
    sent = sent';
    some = some';
    once = once';
    safe = step_keeps (Step.sends b (goes d) (sends d)) d.good.safe;
  }
