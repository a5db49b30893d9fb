-- `Table::take` meets its contract: 8, 9 and 10, then the patch, the undo area and the image that are made. Assumes nothing.
use Prim.Native.Nat.{ℕ}
use mathlib.Core.Path.{◌≡◌, sym, ap, subst, ◌∙◌}
use mathlib.Core.List.{List}
use Rattle.std.specs.Prelude.{Option}
use Rattle.std.proofs.lemmas.Result.{err_from_is_err_and}
use Rattle.ground.proofs.OkOr.{absent, present}
use Rattle.masks.specs.Sets.{set_of}
use Rattle.masks.specs.Lowest.{LowestOr, Outside}
use Rattle.masks.proofs.Laws.{has_of}
use Rattle.masks.proofs.Lowest.{lowest_same}
use Rattle.rules.specs.declared.Slot.{Slot}
use Rattle.rules.specs.Table.{used}
use Rattle.rules.specs.Create.{change_in, FreeSlot, accepted}
use Rattle.accept.specs.Asked.{HeldAs}
use Rattle.cache.specs.Seen.{seen}
use Rattle.cache.specs.Taking.{with_patch}
use Rattle.cache.proofs.Accepted.{create_no_number, create_no_slot, create_no_room, create-granted, image_made, undo_made}
use Rattle.cache.proofs.types.Table.take.Goals as goal

-- a slot is free just where it is not among those in use
free_slots : (ss : List Slot) {m : ℕ} {r : Option ℕ} → m ≡ set_of (used ss) → LowestOr 64 (Outside m) r → LowestOr 64 (FreeSlot ss) r
free_slots ss {m} is-used =
    lowest_same (λ i l e. sym (has_of (used ss) m i is-used l) ∙ e) (λ i l e. has_of (used ss) m i is-used l ∙ e)

pub returns-then-self-eq-LAST_NEXT : goal.returns-then-self-eq-LAST_NEXT
returns-then-self-eq-LAST_NEXT c = let known = c.requires in create_no_number _ _ _ _ known.ready known.own c.if-self-eq-LAST_NEXT.true

pub returns-in_err-j : goal.returns-in_err-j
returns-in_err-j c =
    let known = c.requires in
    let p = err_from_is_err_and c.from_residual.result c.from_residual.ensures.1 in
    let none = absent _ _ _ (sym c.ok_or.ensures.value ∙ c.in_err-j.was) in
    let free = free_slots c.args.self.now.slots known.is-used c.lowest_outside.ensures in
    rw (p.1, p.2, ← none.1) (create_no_slot _ _ _ _ known.ready known.own c.if-self-eq-LAST_NEXT.false (free.nowhere none.0))

pub returns-in_err-hold : goal.returns-in_err-hold
returns-in_err-hold c =
    let known = c.requires in
    let a = c.args in
    let p = err_from_is_err_and c.from_residual-in_err-hold.result c.from_residual-in_err-hold.ensures.1 in
    let none = absent _ _ _ (sym c.ok_or-2.ensures.value ∙ c.in_err-hold.was) in
    let slot = present _ _ _ (sym c.ok_or.ensures.value ∙ c.in_ok-j.was) in
    let free = free_slots c.args.self.now.slots known.is-used c.lowest_outside.ensures in
    rw (p.1, p.2, ← none.1)
    (create_no_room _ _ _ _ known.ready known.own c.if-self-eq-LAST_NEXT.false _ (free.there _ slot)
    (subst (HeldAs a.self.now.setting a.self.now.slots a.change.now.block) none.0 known.held))

pub returns : goal.returns
unfolding accepted
returns c =
    let known = c.requires in
    let a = c.args in
    let t = seen a.self.now in
    let change = change_in a.change.now in
    let slot = present _ _ _ (sym c.ok_or.ensures.value ∙ c.in_ok-j.was) in
    let held = present _ _ _ (sym c.ok_or-2.ensures.value ∙ c.in_ok-hold.was) in
    let free = free_slots c.args.self.now.slots known.is-used c.lowest_outside.ensures in
    create-granted t a.image.now a.undo.now change known.ready known.own
    c.if-self-eq-LAST_NEXT.false c.in_ok-j.j (free.there _ slot) c.in_ok-hold.hold
    (subst (HeldAs a.self.now.setting a.self.now.slots a.change.now.block) held known.held)
    (seen c.with_patch.result) c.lay.new.dst c.keep.new.undo
    (c.with_patch.ensures ∙ ap (λ (x : Slot). with_patch t x c.in_ok-j.j c.in_ok-hold.hold) c.patch-patch.ensures)
    (c.lay.ensures ∙ image_made a.image.now change c.place-at.ensures)
    (c.keep.ensures ∙ undo_made a.undo.now a.image.now change c.in_ok-hold.hold c.place-at.ensures)
