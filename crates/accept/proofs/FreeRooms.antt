-- A room is free just where it is outside the set of the rooms taken. So what entry_for answers for that set is what the rules say of a creation.
use Prim.Native.Nat.{ℕ, ◌<◌}
use mathlib.Core.Path.{◌≡◌, sym, ◌∙◌}
use mathlib.Core.List.{List}
use mathlib.Core.Logic.{⊎_elim}
use native.Mathlib.Omega.{arith}
use Rattle.masks.specs.Sets.{has, some_below}
use Rattle.ground.proofs.Decided.{clash, true_or_false}
use Rattle.masks.proofs.Laws.{has_of, none_at, at_none}
use Rattle.rules.specs.declared.Setting.{Setting}
use Rattle.rules.specs.declared.Slot.{Slot}
use Rattle.rules.specs.Sizes.{slots}
use Rattle.rules.specs.Settings.{rooms}
use Rattle.rules.specs.Slots.{has_room}
use Rattle.rules.specs.Table.{slot_at}
use Rattle.rules.specs.Create.{HoldOf, FreeRoom}
use Rattle.rules.proofs.Rooms.{rooms_most}
use Rattle.slots.specs.Walks.{taken_rooms}
use Rattle.accept.specs.declared.types.Entry.{Entry}
use Rattle.masks.specs.Lowest.{Outside}
use Rattle.accept.specs.Asked.{Enters, Means}

module _ (g : Setting) (ss : List Slot) {taken : ℕ} (is-taken : taken ≡ taken_rooms ss) where
  taken_at : (r : ℕ) → r < rooms g → has taken r ≡ some_below (λ i. has_room (slot_at ss i).state r) slots
  taken_at r l = has_of (λ r. some_below (λ i. has_room (slot_at ss i).state r) slots) taken r is-taken (omega (arith, rooms_most g))

  outside_free : (r : ℕ) → r < rooms g → Outside taken r → FreeRoom ss r
  outside_free r l e i b h = clash h (none_at (λ i. has_room (slot_at ss i).state r) slots i (sym (taken_at r l) ∙ e) b)

  free_outside : (r : ℕ) → r < rooms g → FreeRoom ss r → Outside taken r
  free_outside r l f =
      taken_at r l
      ∙ at_none (λ i. has_room (slot_at ss i).state r) slots (λ i b. ⊎_elim (λ h. absurd (f i b h)) (λ e. e) (true_or_false (has_room (slot_at ss i).state r)))

  pub enters_means : {b : ℕ} {x : Entry} → Enters g ss b taken x → Means g ss b x
  enters_means (Enters.joins j f) = (j, f.numbered)
  enters_means (Enters.hard w n) = (n, HoldOf.hard w)
  enters_means (Enters.soft n low) = (
    λ j. n j.would_be_hard,
    HoldOf.soft n (record {
      within = low.within;
      holds = outside_free _ low.within low.holds;
      least = λ i l f. low.least i l (free_outside i (omega (arith, l, low.within)) f);
    }),
  )
  enters_means (Enters.full n none) = (λ j. n j.would_be_hard, (n, λ r l f. none r l (free_outside r l f)))
