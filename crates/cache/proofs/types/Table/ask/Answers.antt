-- `Table::ask` meets its contract: a sound table, an issued number, and the slot that has it, if one does. Assumes nothing.
use Prim.Native.Nat.{ℕ, ◌<◌}
use mathlib.Core.Bool.{true}
use mathlib.Core.List.{List}
use mathlib.Core.Path.{◌≡◌, refl, ap}
use native.Mathlib.Omega.{arith}
use Rattle.rules.specs.declared.AskAnswer.TheVariants as ask
use Rattle.rules.specs.Slots.{is_waiting, is_in_flight}
use Rattle.masks.specs.Lowest.{Lowest}
use Rattle.rules.specs.declared.Slot.{Slot}
use Rattle.rules.specs.Table.{used, slot_at}
use Rattle.slots.specs.Walks.{Carries}
use Rattle.rules.specs.Ask.{Asked}
use Rattle.cache.specs.Seen.{seen}
use Rattle.cache.proofs.Looks.{ask_unsound, ask_unissued, ask_granted}
use Rattle.cache.proofs.types.Table.ask.Goals as goal

pub returns-then-not-is_sound : goal.returns-then-not-is_sound
returns-then-not-is_sound c = ask_unsound (seen c.args.self) c.args.number c.if-not-is_sound.ensures

pub returns-then-not-is_issued : goal.returns-then-not-is_issued
returns-then-not-is_issued c = ask_unissued (seen c.args.self) c.args.number c.if-not-is_sound.ensures c.if-not-is_issued.ensures

pub returns-in_default : goal.returns-in_default
returns-in_default c =
    ask_granted (seen c.args.self) c.args.number ask.Committed refl c.if-not-is_sound.ensures c.if-not-is_issued.ensures
    (Asked.committed refl (c.if-not-is_issued.ensures, λ i s. c.find.ensures.nowhere c.in_default.is i s.0 (s.1, s.2)))

pub offset_bounds-self-i : goal.offset_bounds-self-i
offset_bounds-self-i c = record { fits = omega (arith, (c.find.ensures.there _ c.in-Some.is).within) }

pub bounds : goal.bounds
bounds c = (c.find.ensures.there _ c.in-Some.is).within

-- the slot that was found has the number
in_slot : (ss : List Slot) {n i : ℕ} → Lowest 64 (Carries ss n) i → (i < 64) × (used ss i ≡ true) × ((slot_at ss i).number ≡ n)
in_slot ss t = (t.within, t.holds.0, t.holds.1)

pub returns-in-Waiting : goal.returns-in-Waiting
returns-in-Waiting c =
    ask_granted (seen c.args.self) c.args.number ask.Waiting refl c.if-not-is_sound.ensures c.if-not-is_issued.ensures
    (Asked.waiting refl c.in-Some.i (in_slot _ (c.find.ensures.there _ c.in-Some.is)) (ap is_waiting c.in-Waiting.is))

pub returns-in-InFlight : goal.returns-in-InFlight
returns-in-InFlight c =
    ask_granted (seen c.args.self) c.args.number ask.InFlight refl c.if-not-is_sound.ensures c.if-not-is_issued.ensures
    (Asked.in_flight refl c.in-Some.i (in_slot _ (c.find.ensures.there _ c.in-Some.is)) (ap is_in_flight c.in-InFlight.is))
