-- What a granted create leaves is a good history: the log with the new change, the slots that describe it, and the notes.
use Prim.Native.Nat.{ℕ, ◌<◌}
use native.Mathlib.Omega.{arith}
use mathlib.Core.Path.{◌≡◌, refl, sym, ◌∙◌, ap, subst}
use mathlib.Core.Bool.{Bool, true, false}
use mathlib.Core.List.Memᴰ
use mathlib.Core.List.{List, ◌∷◌, ◌++◌, Memᴰ}
use mathlib.Core.Logic.{◌⊎◌, inl, inr}
use borrow.Author.Tests.{eq-eqb}
use lib.ListN.{length}
use Rattle.ground.proofs.Decided.{true_and, true_or_l, true_or_false}
use Rattle.spans.proofs.Laws.{length_splice}
use Rattle.rules.specs.declared.Hold.{Hold}
use Rattle.rules.specs.declared.Slot.{Slot}
use Rattle.rules.specs.Sizes.{slots}
use Rattle.rules.specs.Slots.{is_used}
use Rattle.rules.specs.Table.{slot_at, hard_patch_on}
use Rattle.rules.specs.Create as create
use Rattle.rules.specs.Create.{patch, changed}
use Rattle.rules.proofs.StaysSound.{Like}
use Rattle.rules.proofs.Pins.{byte_shared}
use Rattle.cut.specs.Changes.{Share}
use Rattle.cut.specs.World.{Stage, waiting, Step}
use Rattle.cut.proofs.Core.{step_keeps}
use Rattle.demands.specs.History.{History, Accepted, Sent}
use Rattle.demands.specs.Demand3.{Earlier, sent_in}
use Rattle.demands.proofs.Log.{plain, Numbered, names_older, Oldest, Once, oldest_in, newer_in}
use Rattle.demands.proofs.Views.{Within, inside_of}
use Rattle.demands.proofs.Notes.{sender}
use Rattle.demands.proofs.Lookup.{carries, carries_used}
use Rattle.demands.proofs.AtSlot.{roomed, word_of, is_done, is_out}
use Rattle.demands.proofs.Linked.{Range, Has, told_of, like_room, range_still, told_still}
use Rattle.demands.proofs.Good.{Good}
use Rattle.demands.proofs.Create.Slots.{Making, new, made, At, at, sound', carries_old, new_slot, below, old-state, new-state, like}
use Rattle.demands.proofs.Create.Ties.{created}

module _ {h : History} {c : create.Change} {j : ℕ} {k : Hold} (d : Making h c j k) where
  abbrev ss : List Slot
  ss = h.table.slots

  abbrev ss' : List Slot
  ss' = (made d).table.slots

  -- ---- the slots describe the log with the new change

  -- a slot that has an older change's number had it
  had : (a : Accepted) → Memᴰ a h.accepted → (i : ℕ) → Has ss' a i → Has ss a i
  had a m i q = (q.0, sym (carries_old d a.number i (below d a m) q.0) ∙ q.1)

  near : (a : Accepted) (i : ℕ) → Has ss a i → Like (slot_at ss' i) (slot_at ss i)
  near a i q = like d i q.0 (carries_used ss a.number i q.1)

  -- the new change's slot is the new patch
  fresh_slot : (a : Accepted) → a ≡ new d → (i : ℕ) → Has ss' a i → slot_at ss' i ≡ patch h.table c k
  fresh_slot a e i q = new_slot d i q.0 (subst (λ (z : Accepted). carries ss' z.number i ≡ true) e q.1)

  block' : (a : Accepted) → Memᴰ a (new d ∷ h.accepted) → (i : ℕ) → Has ss' a i → (slot_at ss' i).block ≡ a.change.block
  unfolding patch
  block' a (Memᴰ.head e) i q = ap (λ (s : Slot). s.block) (fresh_slot a e i q) ∙ sym (ap (λ (z : Accepted). z.change.block) e)
  block' a (Memᴰ.tail m) i q = let w = had a m i q in (near a i w).block ∙ d.good.linked.block a m i w

  range_new : (i : ℕ) → slot_at ss' i ≡ patch h.table c k → Range (slot_at ss' i) (plain (new d))
  unfolding patch
  range_new i s = record { offset = ap (λ (x : Slot). x.offset) s; len = ap (λ (x : Slot). x.len) s }

  range' : (a : Accepted) → Oldest (new d ∷ h.accepted) a → (i : ℕ) → Has ss' a i → Range (slot_at ss' i) (plain a)
  range' a (Oldest.here f) i q = range_new i (fresh_slot (new d) refl i q)
  range' a (Oldest.there o) i q =
      let w = had a (oldest_in o) i q in range_still ss ss' i (near a i w) (plain a) (d.good.linked.range a o i w)

  -- the new number is no older change's, so what stood for one change still does
  once_more : (n : ℕ) → (n < h.table.next → Once n h.accepted) → Once n (new d ∷ h.accepted)
  once_more n f y x (Earlier.here m) p q = let z : h.table.next ≡ n = p in omega (arith, below d x m)
  once_more n f y x (Earlier.there e) p q = f (let w = below d y (newer_in e) in omega arith) y x e p q

  single' : (i : ℕ) → i < slots → roomed (slot_at ss' i).state ≡ true → Once (slot_at ss' i).number (new d ∷ h.accepted)
  unfolding patch
  single' i l e = once_more (slot_at ss' i).number (λ below. go below (at d i l))
    where
      go : (slot_at ss' i).number < h.table.next → At d i → Once (slot_at ss' i).number h.accepted
      go below (At.is_new q s) = let z : (slot_at ss' i).number ≡ h.table.next = ap (λ (x : Slot). x.number) s in absurd (omega arith)
      go below (At.is_old q s) =
          subst (λ (n : ℕ). Once n h.accepted) (sym s.like.number) (d.good.linked.single i l (like_room s.like e).0)

  -- what shares a byte with the new change overlaps the new patch
  told_new : (i : ℕ) → slot_at ss' i ≡ patch h.table c k → (y : Accepted) → Share (plain y) (plain (new d)) → told_of ss' y i ≡ true
  unfolding patch
  told_new i s y both =
      let p = inside_of (plain y) both.in_block both.place both.mine in
      let q = inside_of (plain (new d)) both.in_block both.place both.yours in
      let r = range_new i s in
      true_or_l (hard_patch_on ss' y.change.block i)
      (true_and (ap (λ (x : Slot). is_used x.state) s)
      (true_and (eq-eqb (slot_at ss' i).block y.change.block (ap (λ (x : Slot). x.block) s ∙ sym q.0 ∙ p.0))
      (byte_shared (slot_at ss' i).offset (slot_at ss' i).len y.change.offset (length y.change.bytes) both.place
      (omega (arith, r.offset, q.1)) (omega (arith, r.offset, r.len, q.2)) p.1 p.2)))

  told' : (a : Accepted) → Memᴰ a (new d ∷ h.accepted) → (i : ℕ) → Has ss' a i → (y : Accepted) → Share (plain y) (plain a)
      → told_of ss' y i ≡ true
  told' a (Memᴰ.head e) i q y s = told_new i (fresh_slot a e i q) y (subst (λ (z : Accepted). Share (plain y) (plain z)) e s)
  told' a (Memᴰ.tail m) i q y s = let w = had a m i q in told_still ss ss' i (near a i w) y (d.good.linked.told a m i w y s)

  -- ---- the notes

  -- the new number is in no note
  unsent : (ws : List Sent) → ((w : Sent) → Memᴰ w ws → Memᴰ w (h.in_flight ++ h.landed)) → sent_in h.table.next ws ≡ false
  unsent ws among = go (true_or_false (sent_in h.table.next ws))
    where
      go : (sent_in h.table.next ws ≡ true) ⊎ (sent_in h.table.next ws ≡ false) → sent_in h.table.next ws ≡ false
      go (inr e) = e
      go (inl e) =
          let s = sender h.table.next ws e in
          let a = d.good.sent s.0 (among s.0 s.1) h.table.next s.2 in
          absurd (omega (arith, below d a.0 a.1, a.2))

  -- a note that agreed agrees still, and the new change is in none
  noted : (word : Stage → Bool) → word waiting ≡ false → (ws : List Sent) → ((w : Sent) → Memᴰ w ws → Memᴰ w (h.in_flight ++ h.landed))
      → ((x : Accepted) → Memᴰ x h.accepted → sent_in x.number ws ≡ word (word_of ss x.number))
      → (x : Accepted) → Memᴰ x (new d ∷ h.accepted) → sent_in x.number ws ≡ word (word_of ss' x.number)
  noted word e ws among f x (Memᴰ.head q) =
      subst (λ (z : Accepted). sent_in z.number ws ≡ word (word_of ss' z.number)) (sym q) (unsent ws among ∙ sym e ∙ sym (ap word (new-state d)))
  noted word e ws among f x (Memᴰ.tail m) = f x m ∙ sym (ap word (old-state d x.number (below d x m)))

  within' : (x : Accepted) → Memᴰ x (new d ∷ h.accepted) → Within (plain x)
  within' x (Memᴰ.head e) =
      subst (λ (z : Accepted). Within (plain z)) (sym e) (record { block = d.passed.ready.is_block; ends = d.passed.ready.ends })
  within' x (Memᴰ.tail m) = d.good.within x m

  pub created_good : Good (made d)
  unfolding changed
  created_good = record {
    sound = sound' d;
    numbers = Numbered.fresh (new d) refl d.good.numbers;
    older = (λ n e. names_older n d.good.numbers (d.passed.ready.issued n e), d.good.older);
    linked = record { block = block'; range = range'; single = single'; told = told' };
    within = within';
    image_whole = length_splice h.image _ _ ∙ d.good.image_whole;
    opening_whole = d.good.opening_whole;
    done = noted is_done refl h.landed (λ w m. Memᴰ.append_right h.in_flight m) d.good.done;
    out = noted is_out refl h.in_flight (λ w m. Memᴰ.append_left h.landed m) d.good.out;
    whole = d.good.whole;
    sent = λ w m n f. let a = d.good.sent w m n f in (a.0, Memᴰ.tail a.1, a.2, a.3);
    some = d.good.some;
    once = d.good.once;
    safe = step_keeps (Step.accepts (plain (new d)) (created d)) d.good.safe;
  }
