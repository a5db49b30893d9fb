-- A granted write as a sending of `cut`: what goes, what it leaves of undo data and ties, and the blocks that it does not touch.
use Prim.Native.Nat.{ℕ, ◌<◌}
use mathlib.Core.Path.{◌≡◌, refl, sym, ◌∙◌, ap}
use mathlib.Core.Bool.{true}
use mathlib.Core.List.{List, ◌∷◌, ◌++◌}
use mathlib.Core.Logic.{◌≢◌, inr, ⊎_elim}
use Rattle.masks.specs.Sets.{has}
use borrow.Author.Tests.{eq-eqb}
use Rattle.ground.proofs.Decided.{true_or_false, true_and}
use Rattle.rules.specs.declared.Slot.{Slot}
use Rattle.rules.specs.Sizes.{slots}
use Rattle.rules.specs.Slots.{is_in_flight}
use Rattle.rules.specs.Table.{slot_at}
use Rattle.rules.proofs.Words.{hard_or_flies}
use Rattle.cut.specs.Changes.{Logged, covers}
use Rattle.cut.specs.World.{waiting, in_flight, left, SendStep}
use Rattle.cut.proofs.Facts.{carry_outside}
use Rattle.demands.specs.History.{History}
use Rattle.demands.specs.Demand3.{written}
use Rattle.demands.proofs.Log.{on_log}
use Rattle.demands.proofs.Views.{view, inside_of}
use Rattle.demands.proofs.Notes.{whole, view_written}
use Rattle.demands.proofs.Lookup.{slot_of, slot_carries}
use Rattle.demands.proofs.AtSlot.{word_of, roomed_of, Tie, Tied, tie_stays}
use Rattle.demands.proofs.Good.{old_byte, undo_stays, world, none_out}
use Rattle.demands.proofs.Write.Slots.{Sending, writ, gone, may, waits, go_at, goes, like, befores_stay, slot_here, go-state, stay-state, members}
use Rattle.demands.proofs.Write.Left.{left_roomed}
use Rattle.demands.proofs.Write.Back.{whole_writ, bytes}

module _ {h : History} {b s : ℕ} (d : Sending h b s) where
  abbrev ss : List Slot
  ss = h.table.slots

  abbrev ss' : List Slot
  ss' = (gone d).table.slots

  go-tied : (m n : ℕ) → go_at s (slot_of ss m) ≡ true → Tied ss m n → go_at s (slot_of ss n) ≡ true
  go-tied m n e t = ap (go_at s) t.its_is ∙ go t.tie
    where
      is_slot : t.its < slots
      is_slot = (slot_carries ss n t.its t.its_is).0

      goes : has s t.mine ≡ true
      goes = sym (ap (go_at s) t.mine_is) ∙ e

      -- none of the block is in flight, so a hard patch of it waits, and goes with every hard one
      go : Tie ss t.mine t.its → has s t.its ≡ true
      go (Tie.before f) = (may d).closed t.mine t.its goes is_slot f
      go (Tie.together g) =
          let on_block = eq-eqb (slot_at ss t.its).block b (sym g.block ∙ (waits d t.mine goes).1) in
          let lies : is_in_flight (slot_at ss t.its).state ≡ true → ⊥ = λ f. d.passed.ready.none_flies (t.its, is_slot, true_and f on_block) in
          ⊎_elim
          (λ f. ⊎_elim (λ hard. (may d).hards t.mine goes t.its is_slot (true_and hard on_block)) (λ q. absurd (lies q))
          (hard_or_flies (slot_at ss t.its).state f))
          (λ f. absurd (lies f)) g.its

  old-undo : (x : Logged) → roomed_of ss' x.number ≡ true
      → (roomed_of ss x.number ≡ true) × ((i : ℕ) → old_byte ss' h.undo x i ≡ old_byte ss h.undo x i)
  old-undo x = let n = x.number in undo_stays ss ss' h.undo x (slot_here d n) (λ i q. like d i (slot_carries ss n i q).0)

  old-ties : (m n : ℕ) → Tied ss m n → Tied ss' m n
  old-ties m n =
      tie_stays ss ss' m n (slot_here d m) (slot_here d n) (λ i e. like d i (slot_carries ss m i e).0) (λ j e. like d j (slot_carries ss n j e).0)
      (λ i j e f before. ap (λ (x : ℕ). has x j) (befores_stay d i (slot_carries ss m i e).0) ∙ before)

  others : (e i : ℕ) → e ≢ b
      → view (written (writ d ∷ (h.in_flight ++ h.landed)) h.opening) e i ≡ view (written (h.in_flight ++ h.landed) h.opening) e i
  others e i n =
      view_written h.opening d.good.opening_whole e i (writ d) (h.in_flight ++ h.landed) (whole_writ d)
      ∙ carry_outside e i (whole (writ d)) (view (written (h.in_flight ++ h.landed) h.opening))
      (⊎_elim (λ f. absurd (n (inside_of (whole (writ d)) e i f).0)) (λ f. f) (true_or_false (covers (whole (writ d)) e i)))

  pub sends : SendStep b (goes d) (world h) (world (gone d))
  sends = record {
    store = λ e i. refl;
    working = λ e i. refl;
    log = refl;
    goes = on_log h.accepted (λ x. goes d x ≡ true → (word_of ss x.number ≡ waiting) × (x.block ≡ b)) (members d);
    go_tied = λ y x my mx e t. inr (go-tied y.number x.number e t);
    left_kept = on_log h.accepted (λ x. left b (goes d) (world h) x ≡ true → roomed_of ss x.number ≡ true) (left_roomed d);
    free = on_log h.accepted (λ x. x.block ≡ b → word_of ss x.number ≢ in_flight) (none_out h d.good b d.passed.ready.none_flies);
    bytes = bytes d;
    others = others;
    go_state = λ x m e. go-state d x.number e;
    stay_state = λ x m e. stay-state d x.number e;
    old_undo = λ x m e. old-undo x e;
    old_ties = λ y x e m w t. inr (old-ties y.number x.number t);
    asks = λ y x e n. n;
  }
