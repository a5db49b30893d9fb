-- A new patch would be hard just where no slot holds the block's waiting patches back, their set taken at once. Assumes nothing.
use Prim.Native.Nat.{ℕ, ◌^◌, ◌<◌}
use mathlib.Core.Path.{◌≡◌, sym, ◌∙◌, subst}
use mathlib.Core.Bool.{Bool, true, false, not, ◌&&◌}
use mathlib.Core.List.{List}
use mathlib.Core.Logic.{⊎_elim}
use native.Mathlib.Omega.{arith}
use borrow.Author.Tests.{ne_eqb, eq-eqb, not-true}
use lib.Dec.{eqb}
use lib.ListN.{length}
use Rattle.std.specs.Bool.{MatchBool}
use Rattle.std.specs.List.{HoldsAt, AllWithin}
use Rattle.ground.specs.Decides.{Decides}
use Rattle.masks.specs.Sets.{has, set_of}
use Rattle.ground.proofs.Decided.{clash, true_or_false, and-true, true_and}
use Rattle.masks.proofs.Laws.{has_of, has_slot, set_lt}
use Rattle.rules.specs.declared.Setting.{Setting}
use Rattle.rules.specs.declared.Slot.{Slot}
use Rattle.rules.specs.Sizes.{slots}
use Rattle.rules.specs.Slots.{free_slot}
use Rattle.rules.specs.Settings.{all_soft}
use Rattle.rules.specs.Table.{slot_at, used, waits_on}
use Rattle.rules.specs.Create.{holds_back, WouldBeHard}
use Rattle.accept.specs.OneSlot.{HoldsBack}

module _ (g : Setting) (ss : List Slot) (b : ℕ) {m : ℕ} (is-waiting : m ≡ set_of (waits_on ss b)) where
  waits : (i : ℕ) → i < slots → has m i ≡ waits_on ss b i
  waits i l = has_of (waits_on ss b) m i is-waiting l

  waiting_lt : m < 2 ^ 64
  waiting_lt = subst (λ (x : ℕ). x < 2 ^ 64) (sym is-waiting) (set_lt (waits_on ss b))

  pub hard_holds_none : WouldBeHard g ss b → (k : ℕ) → k < slots → HoldsBack b m (slot_at ss k) → ⊥
  hard_holds_none hard k l h =
      let i = h.2.0 in
      let c = has_slot m i waiting_lt h.2.2 in
      let other : not (eqb (slot_at ss k).block b) ≡ true = rw (ne_eqb (slot_at ss k).block b h.1) in
      clash (true_and (true_and h.0 other) (true_and h.2.1 (sym (waits i c) ∙ h.2.2))) (hard.nobody_holds k i l c)

  nobody : ((k : ℕ) → k < slots → HoldsBack b m (slot_at ss k) → ⊥) → (k i : ℕ) → k < slots → i < slots → holds_back ss b k i ≡ false
  nobody none k i l c =
      let s = slot_at ss k in
      ⊎_elim
      (λ e.
      let p = and-true _ (has s.befores i && waits_on ss b i) e in
      let q = and-true (used ss k) _ p.0 in
      let r = and-true (has s.befores i) _ p.1 in
      absurd (none k l (q.0, λ n. clash (eq-eqb s.block b n) (not-true _ q.1), (i, r.0, waits i c ∙ r.1))))
      (λ e. e) (true_or_false (holds_back ss b k i))

  pub none_holds_hard : all_soft g ≡ false → ((k : ℕ) → k < slots → HoldsBack b m (slot_at ss k) → ⊥) → WouldBeHard g ss b
  none_holds_hard rule none = record { not_all_soft = rule; nobody_holds = λ k i l c. nobody none k i l c }

  -- what a search for such a slot tells
  pub hard_decided : (r : Bool) → all_soft g ≡ false → length ss ≡ slots
      → MatchBool r ((k : ℕ) × (k < length ss) × HoldsAt (HoldsBack b m) ss k) (AllWithin (λ s. HoldsBack b m s → ⊥) ss 0 (length ss))
      → Decides (WouldBeHard g ss b) (not r)
  hard_decided true rule size found = λ hard. hard_holds_none hard found.0 (omega (arith, found.1)) (found.2 free_slot)
  hard_decided false rule size none = none_holds_hard rule (λ k l. none k free_slot (omega arith) (omega arith))
