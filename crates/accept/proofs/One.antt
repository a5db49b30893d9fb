-- ONE ANSWER: any two answers that a promise of this crate admits are equal. The promises that are equations need no such law, and of those that
-- are a Decides it is said in `ground`.
use Prim.Native.Nat.{ℕ, ◌<◌}
use mathlib.Core.Path.{◌≡◌, refl, ap}
use mathlib.Core.List.{List}
use native.Mathlib.Decide.{dec_lt}
use native.Mathlib.Omega.{arith}
use Rattle.rules.specs.declared.Hold.TheVariants as hold
use Rattle.rules.specs.declared.Setting.{Setting}
use Rattle.rules.specs.declared.Slot.{Slot}
use Rattle.masks.proofs.Lowest.{lowest_one}
use Rattle.accept.specs.declared.types.Entry.{Entry}
use Rattle.accept.specs.declared.types.Entry.TheVariants as entry
use Rattle.std.proofs.Common.{Some}
use Rattle.accept.specs.Asked.{FirstNumbered, Enters}

-- of two that are the first with the lowest number neither is below the other
not_below : {ss : List Slot} {b i j : ℕ} → FirstNumbered ss b i → FirstNumbered ss b j → i < j → ⊥
not_below {i = i} p q l =
    let lower = q.first i l p.numbered.waits in
    let least = p.numbered.lowest _ q.numbered.is_slot q.numbered.waits in
    omega (arith, lower, least)

first_one : {ss : List Slot} {b i j : ℕ} → FirstNumbered ss b i → FirstNumbered ss b j → i ≡ j
first_one {i = i} {j = j} p q = by (dec_lt i j) (dec_lt j i)
  where
    by : Dec (i < j) → Dec (j < i) → i ≡ j
    by (yes l) m = absurd (not_below p q l)
    by (no k) (yes l) = absurd (not_below q p l)
    by (no k) (no m) = omega arith

pub enters_one : {g : Setting} {ss : List Slot} {b taken : ℕ} {x y : Entry} → Enters g ss b taken x → Enters g ss b taken y → x ≡ y
enters_one (Enters.joins j p) (Enters.joins k q) = ap entry.Joins (first_one p q)
enters_one (Enters.joins j p) (Enters.hard w n) = absurd (n j)
enters_one (Enters.joins j p) (Enters.soft n r) = absurd (n j.would_be_hard)
enters_one (Enters.joins j p) (Enters.full n r) = absurd (n j.would_be_hard)
enters_one (Enters.hard w n) (Enters.joins j p) = absurd (n j)
enters_one (Enters.hard w n) (Enters.hard v m) = refl
enters_one (Enters.hard w n) (Enters.soft m r) = absurd (m w)
enters_one (Enters.hard w n) (Enters.full m r) = absurd (m w)
enters_one (Enters.soft n r) (Enters.joins j p) = absurd (n j.would_be_hard)
enters_one (Enters.soft n r) (Enters.hard w m) = absurd (n w)
enters_one (Enters.soft n r) (Enters.soft m s) = ap (λ (x : ℕ). entry.Own (Some (hold.Soft x))) (lowest_one r s)
enters_one (Enters.soft n r) (Enters.full m s) = absurd (s _ r.within r.holds)
enters_one (Enters.full n r) (Enters.joins j p) = absurd (n j.would_be_hard)
enters_one (Enters.full n r) (Enters.hard w m) = absurd (n w)
enters_one (Enters.full n r) (Enters.soft m s) = absurd (r _ s.within s.holds)
enters_one (Enters.full n r) (Enters.full m s) = refl
