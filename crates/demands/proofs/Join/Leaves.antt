-- What a granted create that joins leaves is a good history: the log with the new change, the slots that describe it, and the notes. All that is said
-- of a change by its number holds of the new one, since it holds of the older change that has it.
use Prim.Native.Nat.{ℕ, ◌<◌}
use mathlib.Core.Path.{◌≡◌, sym, ◌∙◌, ap, subst}
use mathlib.Core.Bool.{Bool, true}
use mathlib.Core.List.{List, ◌∷◌, Memᴰ}
use borrow.Author.Tests.{eq-eqb}
use Rattle.ground.proofs.Decided.{clash, true_and, true_or_r}
use Rattle.spans.proofs.Laws.{length_splice}
use Rattle.rules.specs.declared.Slot.{Slot}
use Rattle.rules.specs.Sizes.{slots}
use Rattle.rules.specs.Slots.{room_of}
use Rattle.rules.specs.Table.{slot_at}
use Rattle.rules.specs.Create as create
use Rattle.rules.specs.Create.{overlaps, changed}
use Rattle.rules.proofs.Words.{hard_is_patch, roomed_used}
use Rattle.cut.specs.Changes.{Share}
use Rattle.cut.specs.World.{Stage, Step}
use Rattle.cut.proofs.Core.{step_keeps}
use Rattle.demands.specs.History.{History, Accepted, Sent}
use Rattle.demands.specs.Demand3.{Earlier, sent_in}
use Rattle.demands.proofs.Log.{plain, Numbered, names_older, Oldest, Once}
use Rattle.demands.proofs.Views.{Within, inside_of}
use Rattle.demands.proofs.Lookup.{carries_used, carries_number, carries_of}
use Rattle.demands.proofs.AtSlot.{roomed, hard_no_room, word_of, is_done, is_out}
use Rattle.demands.proofs.Linked.{Range, Has, told_of, like_room, carries_was, range_still, told_still}
use Rattle.demands.proofs.Good.{Good}
use Rattle.demands.proofs.Join.Slots.{Joining, new, made, sound', like, hard_now, its_block, in_use, state_here, older}
use Rattle.demands.proofs.Join.Ties.{joins}

module _ {h : History} {c : create.Change} {j : ℕ} (d : Joining h c j) where
  abbrev ss : List Slot
  ss = h.table.slots

  abbrev ss' : List Slot
  ss' = (made d).table.slots

  -- ---- the slots describe the log with the new change

  had : (a : Accepted) (i : ℕ) → Has ss' a i → Has ss a i
  had a i q = (q.0, carries_was ss ss' i (like d i q.0) a.number q.1)

  -- the new change's slot is the one that it joined
  its_slot : (a : Accepted) → a ≡ new d → (i : ℕ) → Has ss' a i → i ≡ j
  its_slot a e i q =
      let w = had a i q in
      d.good.sound.numbers_differ i j q.0 d.lowest.is_slot (carries_used ss a.number i w.1) (in_use d)
      (carries_number ss a.number i w.1 ∙ ap (λ (z : Accepted). z.number) e)

  block' : (a : Accepted) → Memᴰ a (new d ∷ h.accepted) → (i : ℕ) → Has ss' a i → (slot_at ss' i).block ≡ a.change.block
  block' a (Memᴰ.head e) i q =
      (like d i q.0).block ∙ ap (λ (x : ℕ). (slot_at ss x).block) (its_slot a e i q) ∙ its_block d ∙ sym (ap (λ (z : Accepted). z.change.block) e)
  block' a (Memᴰ.tail m) i q = (like d i q.0).block ∙ d.good.linked.block a m i (had a i q)

  range' : (a : Accepted) → Oldest (new d ∷ h.accepted) a → (i : ℕ) → Has ss' a i → Range (slot_at ss' i) (plain a)
  range' a (Oldest.here f) i q = let o = older d in absurd (f o.0 o.1 o.2)
  range' a (Oldest.there o) i q = range_still ss ss' i (like d i q.0) (plain a) (d.good.linked.range a o i (had a i q))

  -- the patch that is joined has no room any more
  roomless : (i : ℕ) → roomed (slot_at ss' i).state ≡ true → i ≡ j → ⊥
  roomless i e q =
      clash (subst (λ (x : ℕ). roomed (slot_at ss' x).state ≡ true) q e)
      (hard_no_room (slot_at ss' j).state (hard_now d j d.lowest.is_slot d.lowest.waits))

  single' : (i : ℕ) → i < slots → roomed (slot_at ss' i).state ≡ true → Once (slot_at ss' i).number (new d ∷ h.accepted)
  single' i l e y x (Earlier.here m) p q =
      let u = sym (like d i l).used ∙ roomed_used (slot_at ss' i).state (room_of (slot_at ss' i).state) e in
      roomless i e (d.good.sound.numbers_differ i j l d.lowest.is_slot u (in_use d) (sym (like d i l).number ∙ sym p))
  single' i l e y x (Earlier.there f) p q =
      let n = (like d i l).number in d.good.linked.single i l (like_room (like d i l) e).0 y x f (p ∙ n) (q ∙ n)

  -- whoever shares a byte with the new change is of its block, where the patch is hard
  told_new : (y : Accepted) → Share (plain y) (plain (new d)) → told_of ss' y j ≡ true
  told_new y s =
      let p = inside_of (plain y) s.in_block s.place s.mine in
      let q = inside_of (plain (new d)) s.in_block s.place s.yours in
      true_or_r (overlaps ss' y.change j)
      (true_and (hard_is_patch (slot_at ss' j).state (hard_now d j d.lowest.is_slot d.lowest.waits))
      (eq-eqb (slot_at ss' j).block y.change.block ((like d j d.lowest.is_slot).block ∙ its_block d ∙ sym q.0 ∙ p.0)))

  told' : (a : Accepted) → Memᴰ a (new d ∷ h.accepted) → (i : ℕ) → Has ss' a i → (y : Accepted) → Share (plain y) (plain a)
      → told_of ss' y i ≡ true
  told' a (Memᴰ.head e) i q y s =
      subst (λ (x : ℕ). told_of ss' y x ≡ true) (sym (its_slot a e i q)) (told_new y (subst (λ (z : Accepted). Share (plain y) (plain z)) e s))
  told' a (Memᴰ.tail m) i q y s = told_still ss ss' i (like d i q.0) y (d.good.linked.told a m i (had a i q) y s)

  -- ---- the notes: what is said of a number is said of the new change as of the older one

  noted : (word : Stage → Bool) (ws : List Sent)
      → ((x : Accepted) → Memᴰ x h.accepted → sent_in x.number ws ≡ word (word_of ss x.number))
      → (x : Accepted) → Memᴰ x (new d ∷ h.accepted) → sent_in x.number ws ≡ word (word_of ss' x.number)
  noted word ws f x (Memᴰ.tail m) = f x m ∙ sym (ap word (state_here d x.number))
  noted word ws f x (Memᴰ.head e) =
      let o = older d in
      subst (λ (n : ℕ). sent_in n ws ≡ word (word_of ss' n)) (o.2 ∙ sym (ap (λ (z : Accepted). z.number) e))
      (f o.0 o.1 ∙ sym (ap word (state_here d o.0.number)))

  within' : (x : Accepted) → Memᴰ x (new d ∷ h.accepted) → Within (plain x)
  within' x (Memᴰ.head e) = subst (λ (z : Accepted). Within (plain z)) (sym e) (record { block = d.ready.is_block; ends = d.ready.ends })
  within' x (Memᴰ.tail m) = d.good.within x m

  -- the older change is of the block
  older_block : (older d).0.change.block ≡ c.block
  older_block =
      let o = older d in
      sym (d.good.linked.block o.0 o.1 j (d.lowest.is_slot, carries_of ss o.0.number j (in_use d) (sym o.2))) ∙ its_block d

  pub joined_good : Good (made d)
  unfolding changed
  joined_good = record {
    sound = sound' d;
    numbers = let o = older d in Numbered.joins (new d) o.0 o.1 (sym o.2) (sym older_block) d.good.numbers;
    older = (λ n e. names_older n d.good.numbers (d.ready.issued n e), d.good.older);
    linked = record { block = block'; range = range'; single = single'; told = told' };
    within = within';
    image_whole = length_splice h.image _ _ ∙ d.good.image_whole;
    opening_whole = d.good.opening_whole;
    done = noted is_done h.landed d.good.done;
    out = noted is_out h.in_flight d.good.out;
    whole = d.good.whole;
    sent = λ w m n f. let a = d.good.sent w m n f in (a.0, Memᴰ.tail a.1, a.2, a.3);
    some = d.good.some;
    once = d.good.once;
    safe = step_keeps (Step.accepts (plain (new d)) (joins d)) d.good.safe;
  }
