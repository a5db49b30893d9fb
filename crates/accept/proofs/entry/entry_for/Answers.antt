-- `accept::entry::entry_for` meets its contract: each answer is a case of Enters. Assumes nothing.
use Prim.Native.Nat.{ℕ}
use mathlib.Core.Path.{◌≡◌, refl, sym, subst, ◌∙◌}
use native.Mathlib.Omega.{arith}
use Rattle.std.proofs.Common.{Option}
use Rattle.ground.proofs.Decided.{clash}
use Rattle.masks.specs.Lowest.{LowestOr, Outside}
use Rattle.rules.specs.declared.Setting.{Setting}
use Rattle.rules.specs.Settings.{rooms}
use Rattle.rules.proofs.Rooms.{rooms_most}
use Rattle.accept.specs.Asked.{Enters}
use Rattle.accept.proofs.Numbered.{first_numbered, none_wait}
use Rattle.accept.proofs.entry.entry_for.Goals as goal

pub returns-in-Some : goal.returns-in-Some
returns-in-Some c =
    let first = first_numbered c.args.slots.now c.args.block c.patches_on-on.ensures.waiting c.in-Some.ensures in
    Enters.joins
    (record {
      joining = sym c.joins.ensures ∙ c.if-joins.true;
      would_be_hard = c.if-would_be_hard.ensures;
      some_wait = (c.in-Some.j, first.numbered.is_slot, first.numbered.waits);
    })
    first

pub returns-in_default : goal.returns-in_default
returns-in_default c = Enters.hard c.if-would_be_hard.ensures (λ j. clash j.joining (sym c.joins.ensures ∙ c.if-joins.false))

pub returns-in_default-2 : goal.returns-in_default-2
returns-in_default-2 c =
    Enters.hard c.if-would_be_hard.ensures
    (λ j. none_wait c.args.slots.now c.args.block c.patches_on-on.ensures.waiting c.in_default.ensures j.some_wait)

-- the lowest room of so many as the setting has
of_setting : (g : Setting) (taken : ℕ) {n : ℕ} (room : Option ℕ) → n ≡ rooms g → LowestOr n (Outside taken) room → LowestOr (rooms g) (Outside taken) room
of_setting g taken room counts low = subst (λ (m : ℕ). LowestOr m (Outside taken) room) counts low

pub overflow_cast-result : goal.overflow_cast-result
overflow_cast-result c =
    let low = (c.in-Some-lowest_outside.ensures.there _ refl).within in
    record { fits = omega (arith, low, c.rooms-n.ensures, rooms_most c.args.setting) }

pub returns-in-Some-lowest_outside : goal.returns-in-Some-lowest_outside
returns-in-Some-lowest_outside c =
    Enters.soft c.if-would_be_hard.ensures ((of_setting c.args.setting c.args.taken _ c.rooms-n.ensures c.in-Some-lowest_outside.ensures).there _ refl)

pub returns-in-None : goal.returns-in-None
returns-in-None c = Enters.full c.if-would_be_hard.ensures ((of_setting c.args.setting c.args.taken _ c.rooms-n.ensures c.in-None.ensures).nowhere refl)
