-- What a granted write leaves behind: each such patch has a room, so its number stands for one change.
use Prim.Native.Nat.{ℕ, ◌<◌}
use mathlib.Core.Path.{◌≡◌, refl, sym, ◌∙◌, ap, subst}
use mathlib.Core.Bool.{Bool, true, false, ◌&&◌, not, and-false}
use mathlib.Core.List.{List, Memᴰ}
use mathlib.Core.Option.{Option, none, some}
use mathlib.Core.Logic.{⊎_elim}
use borrow.Author.Tests.{eq-eqb, eqb-true, not-true}
use lib.Dec.{eqb}
use Rattle.masks.specs.Sets.{has}
use Rattle.ground.proofs.Decided.{clash, and-true, true_and, true_or_false}
use Rattle.rules.specs.declared.Slot.{Slot}
use Rattle.rules.specs.Sizes.{slots}
use Rattle.rules.specs.Slots.{is_waiting, is_hard}
use Rattle.rules.specs.Table.{slot_at, waits_on}
use Rattle.rules.specs.Write.{left_behind}
use Rattle.cut.specs.Changes.{Logged}
use Rattle.cut.specs.World as cut
use Rattle.cut.specs.World.{left}
use Rattle.demands.specs.History.{History, Accepted}
use Rattle.demands.specs.Demand3.{Earlier}
use Rattle.demands.proofs.Log.{plain, Once}
use Rattle.demands.proofs.Lookup.{slot_of, carries_number, slot_carries}
use Rattle.demands.proofs.AtSlot.{roomed, state_at, roomed_of, roomed_at, same_word, not_hard}
use Rattle.demands.proofs.Good.{world}
use Rattle.demands.proofs.Write.Slots.{Sending, may, some_goes, go_at, goes}

module _ {h : History} {b s : ℕ} (d : Sending h b s) where
  abbrev ss : List Slot
  ss = h.table.slots

  -- does slot j's patch stay?
  abbrev pub behind : ℕ → Bool
  behind = left_behind h.table.slots b s

  -- does the change?
  abbrev pub is_left : Logged → Bool
  is_left = left b (goes d) (world h)

  pub behind_waits : (j : ℕ) → behind j ≡ true → (is_waiting (slot_at ss j).state ≡ true) × ((slot_at ss j).block ≡ b) × (has s j ≡ false)
  behind_waits j e =
      let w = and-true (waits_on ss b j) _ e in
      let v = and-true (is_waiting (slot_at ss j).state) _ w.0 in
      (v.0, eqb-true (slot_at ss j).block b v.1, not-true (has s j) w.1)

  -- all hard ones go, so it has a room
  pub behind_roomed : (j : ℕ) → j < slots → behind j ≡ true → roomed (slot_at ss j).state ≡ true
  behind_roomed j l e =
      let w = behind_waits j e in
      let some = some_goes d in
      let at_block = eq-eqb (slot_at ss j).block b w.1 in
      let goes-too : is_hard (slot_at ss j).state ≡ true → has s j ≡ true = λ hd. (may d).hards some.0 some.1 j l (true_and hd at_block) in
      not_hard (slot_at ss j).state w.0 (λ hd. clash (goes-too hd) w.2)

  -- a change is left behind where its slot is
  pub left_slot : (a : Accepted) → Memᴰ a h.accepted → (j : ℕ) → slot_of ss a.number ≡ some j → is_left (plain a) ≡ behind j
  unfolding left cut.is_waiting
  left_slot a m j q =
      let same = d.good.linked.block a m j (slot_carries ss a.number j q) in
      ap (λ (p : Option ℕ). eqb a.change.block b && (cut.is_waiting (state_at ss p) && not (go_at s p))) q
      ∙ ap (λ (v : Bool). eqb a.change.block b && (v && not (has s j))) (same_word (slot_at ss j).state)
      ∙ ap (λ (x : ℕ). eqb x b && (is_waiting (slot_at ss j).state && not (has s j))) (sym same)
      ∙ regroup (eqb (slot_at ss j).block b) (is_waiting (slot_at ss j).state) (not (has s j))
    where
      regroup : (x y z : Bool) → (x && (y && z)) ≡ ((y && x) && z)
      regroup true true z = refl
      regroup true false z = refl
      regroup false true z = refl
      regroup false false z = refl

  pub left_nowhere : (a : Accepted) → slot_of ss a.number ≡ none → is_left (plain a) ≡ false
  unfolding left cut.is_waiting
  left_nowhere a q =
      ap (λ (p : Option ℕ). eqb a.change.block b && (cut.is_waiting (state_at ss p) && not (go_at s p))) q ∙ and-false (eqb a.change.block b)

  -- it is the one change of its number, and has a room
  pub left_one : (a : Accepted) → Memᴰ a h.accepted → is_left (plain a) ≡ true → (roomed_of ss a.number ≡ true) × Once a.number h.accepted
  left_one a m e = go (slot_of ss a.number) refl
    where
      go : (p : Option ℕ) → slot_of ss a.number ≡ p → (roomed_of ss a.number ≡ true) × Once a.number h.accepted
      go none q = absurd (clash e (left_nowhere a q))
      go (some j) q =
          let c = slot_carries ss a.number j q in
          let soft = behind_roomed j c.0 (sym (left_slot a m j q) ∙ e) in
          (ap (roomed_at ss) q ∙ soft, subst (λ (n : ℕ). Once n h.accepted) (carries_number ss a.number j c.1) (d.good.linked.single j c.0 soft))

  pub left_roomed : (a : Accepted) → Memᴰ a h.accepted → is_left (plain a) ≡ true → roomed_of ss a.number ≡ true
  left_roomed a m e = (left_one a m e).0

  -- a change that has joined another is not left behind
  pub joined_not_left : (a x : Accepted) → Memᴰ a h.accepted → Earlier h.accepted a x → a.number ≡ x.number → is_left (plain a) ≡ false
  joined_not_left a x m e n = ⊎_elim (λ f. absurd ((left_one a m f).1 a x e refl (sym n))) (λ f. f) (true_or_false (is_left (plain a)))
