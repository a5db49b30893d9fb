-- A create that joins and the ties: the patch that it joins is tied to all that the change must follow, and the others stay tied as they were. Of its own block
-- it needs no befores: what waits there is hard now and goes with it, and what is in flight lands before the block goes again. So it is an acceptance of `cut`.
use Prim.Native.Nat.{ℕ, ◌<◌}
use mathlib.Core.Path.{◌≡◌, refl, sym, ◌∙◌, ap, subst}
use mathlib.Core.Bool.{true, not}
use mathlib.Core.List.{List, ◌∷◌, map, Memᴰ}
use mathlib.Core.Option.{Option, none, some}
use mathlib.Core.Logic.{◌≢◌, ◌⊎◌, inl, inr, ⊎_elim}
use borrow.Author.Tests.{eq-eqb, ne_eqb}
use Rattle.ground.proofs.Decided.{clash, same_or_other, true_and}
use Rattle.rules.specs.declared.Slot.{Slot}
use Rattle.rules.specs.Sizes.{slots}
use Rattle.rules.specs.Table.{slot_at, used}
use Rattle.rules.specs.Create as create
use Rattle.rules.specs.Create.{is_in, changed}
use Rattle.rules.proofs.Words.{hard_is_patch, used_waits_or_flies}
use Rattle.cut.specs.Changes.{Logged}
use Rattle.cut.specs.World.{committed, Must, AcceptStep}
use Rattle.cut.proofs.Invariant.{Held, waits_not_off}
use Rattle.demands.specs.History.{History, Accepted}
use Rattle.demands.specs.Demand3.{Earlier}
use Rattle.demands.proofs.Log.{plain, of_log, earlier_log}
use Rattle.demands.proofs.Views.{inside_of, view_splice}
use Rattle.demands.proofs.Lookup.{slot_of, carries_used, carries_number, slot_carries}
use Rattle.demands.proofs.AtSlot.{state_at, roomed_at, word_of, roomed_of, hard_no_room, Tie, Tied, tie_stays}
use Rattle.demands.proofs.Good.{old_byte, undo_stays, newly_asked, world}
use Rattle.demands.proofs.Join.Slots.{Joining, new, made, like, hard_now, keeps_before, adds_before, its_block, slot_here}
use Rattle.demands.proofs.Join.Slots.{state_here, slot_joined, its-state}

module _ {h : History} {c : create.Change} {j : ℕ} (d : Joining h c j) where
  abbrev ss : List Slot
  ss = h.table.slots

  abbrev ss' : List Slot
  ss' = (made d).table.slots

  -- what a change that the new one must follow is, before and after
  abbrev Follows : ℕ → Type 0
  Follows n = (word_of ss n ≡ committed) ⊎ Tied ss' (new d).number n

  old-ties : (m n : ℕ) → Tied ss m n → Tied ss' m n
  old-ties m n =
      tie_stays ss ss' m n (slot_here d m) (slot_here d n) (λ i e. like d i (slot_carries ss m i e).0) (λ i e. like d i (slot_carries ss n i e).0)
      (λ i k e f before. keeps_before d i k (slot_carries ss m i e).0 (slot_carries ss n k f).0 before)

  -- ---- the new change

  -- tied to the patch of slot i, where that has the number
  tied_at : (n i : ℕ) → slot_of ss n ≡ some i → Tie ss' j i → Follows n
  tied_at n i e t = inr (record { mine = j; its = i; mine_is = slot_here d (new d).number ∙ slot_joined d; its_is = slot_here d n ∙ e; tie = t })

  -- a patch of its own block
  own : (i : ℕ) → i < slots → used ss i ≡ true → (slot_at ss i).block ≡ c.block → Tie ss' j i
  own i l u e = Tie.together (record {
    block = (like d j d.lowest.is_slot).block ∙ its_block d ∙ sym e ∙ sym (like d i l).block;
    hard = hard_is_patch (slot_at ss' j).state (hard_now d j d.lowest.is_slot d.lowest.waits);
    its = ⊎_elim
        (λ w. inl (hard_is_patch (slot_at ss' i).state (hard_now d i l (true_and w (eq-eqb (slot_at ss i).block c.block e)))))
        (λ f. inr ((like d i l).flies f)) (used_waits_or_flies (slot_at ss i).state u);
  })

  module _ (a : Accepted) (m : Memᴰ a h.accepted) where
    -- a change of its own block
    same_block : a.change.block ≡ c.block → Follows a.number
    same_block e = go (slot_of ss a.number) refl
      where
        go : (p : Option ℕ) → slot_of ss a.number ≡ p → Follows a.number
        go none q = inl (ap (state_at ss) q)
        go (some i) q =
            let f = slot_carries ss a.number i q in
            tied_at a.number i q (own i f.0 (carries_used ss a.number i f.1) (d.good.linked.block a m i f ∙ e))

    -- one of another block that it named
    other_block : a.change.block ≢ c.block → is_in a.number c.named ≡ true → Follows a.number
    other_block n e = go (slot_of ss a.number) refl
      where
        go : (p : Option ℕ) → slot_of ss a.number ≡ p → Follows a.number
        go none q = inl (ap (state_at ss) q)
        go (some i) q =
            let f = slot_carries ss a.number i q in
            let elsewhere = ne_eqb (slot_at ss i).block c.block (λ z. n (sym (d.good.linked.block a m i f) ∙ z)) in
            let named = true_and (carries_used ss a.number i f.1) (ap (λ (x : ℕ). is_in x c.named) (carries_number ss a.number i f.1) ∙ e) in
            tied_at a.number i q (Tie.before (adds_before d i f.0 (true_and named (ap not elsewhere))))

    -- one that it named
    by_name : is_in a.number c.named ≡ true → Follows a.number
    by_name e = ⊎_elim same_block (λ n. other_block n e) (same_or_other a.change.block c.block)

  -- an older change with the same number, block and bytes asked for it: that one is held, and so by this patch's ties
  by_equal : (y x : Accepted) → Earlier h.accepted y x → is_in x.number y.change.named ≡ true → plain y ≡ plain (new d) → Follows x.number
  by_equal y x e n same =
      held (d.good.safe.order (plain y) (plain x) (earlier_log y x e)
      (inl (record { asker = y; asked_for = x; earlier = e; named = n; is = refl; its_is = refl })))
    where
      number : y.number ≡ (new d).number
      number = ap (λ (z : Logged). z.number) same

      held : Held (world h) (plain y) (plain x) → Follows x.number
      held (Held.done s) = inl s
      held (Held.waits s t) = inr (subst (λ (k : ℕ). Tied ss' k x.number) number (old-ties y.number x.number t))
      held (Held.together s r b t) = waits_not_off (ap (word_of ss) number ∙ its-state d) s

  tie_new : (a : Accepted) → Memᴰ a h.accepted → Must (world (made d)) (plain (new d)) (plain a) → Follows a.number
  tie_new a m (inr s) =
      same_block a m
      (sym (inside_of (plain a) s.in_block s.place s.yours).0 ∙ (inside_of (plain (new d)) s.in_block s.place s.mine).0)
  tie_new a m (inl n) = go n.earlier n.named n.is (ap (λ (z : Logged). z.number) n.its_is)
    where
      go : {y x : Accepted} → Earlier (new d ∷ h.accepted) y x → is_in x.number y.change.named ≡ true → plain y ≡ plain (new d)
          → x.number ≡ a.number → Follows a.number
      go (Earlier.here k) e same its = by_name a m (subst (λ (z : ℕ). is_in z c.named ≡ true) its e)
      go {y} {x} (Earlier.there f) e same its = subst Follows its (by_equal y x f e same)

  new-ties : (x : Logged) → Memᴰ x (map plain h.accepted) → Must (world (made d)) (plain (new d)) x → Follows x.number
  new-ties x m =
      let r = of_log h.accepted x m in
      subst (λ (y : Logged). Must (world (made d)) (plain (new d)) y → Follows y.number) r.2 (tie_new r.0 r.1)

  -- ---- undo data: none is kept for it, and no room is gained

  no_room : roomed_of ss' (new d).number ≡ true → ⊥
  no_room e =
      clash (sym (ap (roomed_at ss') (slot_here d (new d).number ∙ slot_joined d)) ∙ e)
      (hard_no_room (slot_at ss' j).state (hard_now d j d.lowest.is_slot d.lowest.waits))

  old-undo : (x : Logged) → roomed_of ss' x.number ≡ true
      → (roomed_of ss x.number ≡ true) × ((i : ℕ) → old_byte ss' h.undo x i ≡ old_byte ss h.undo x i)
  old-undo x = let n = x.number in undo_stays ss ss' h.undo x (slot_here d n) (λ i q. like d i (slot_carries ss n i q).0)

  pub joins : AcceptStep (plain (new d)) (world h) (world (made d))
  unfolding changed
  joins = record {
    store = λ b i. refl;
    sent = λ b i. refl;
    log = refl;
    working = λ b i. view_splice (plain (new d)) h.image (record { block = d.ready.is_block; ends = d.ready.ends }) d.ready.image_whole b i;
    new_state = state_here d (new d).number ∙ its-state d;
    old_state = λ x m. state_here d x.number;
    new_undo = λ e b i q. absurd (no_room e);
    old_undo = λ x m e. old-undo x e;
    new_ties = new-ties;
    old_ties = λ y x e m w t. inr (old-ties y.number x.number t);
    asks = λ y x e n. newly_asked (new d) h.accepted y x n;
  }
