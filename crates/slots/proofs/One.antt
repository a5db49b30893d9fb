-- ONE ANSWER: any two answers that a promise of this crate admits are equal. The promises that are equations need no such law.
use Prim.Native.Nat.{ℕ, ◌<◌, ◌^◌}
use mathlib.Core.Path.{◌≡◌, sym, ◌∙◌}
use mathlib.Core.Bool.{Bool}
use mathlib.Core.List.{List}
use native.Mathlib.Omega.{arith}
use lib.Seq.{ext_get_or}
use Rattle.std.specs.Prelude.{Option}
use Rattle.masks.proofs.Lowest.{lowest_or_one}
use Rattle.masks.specs.Sets.{has}
use Rattle.masks.proofs.Laws.{same_set}
use Rattle.rules.specs.declared.Slot.{Slot}
use Rattle.rules.specs.Table.{slot_at}
use Rattle.slots.specs.declared.types.Patches.{Patches}
use Rattle.slots.specs.Walks.{Found, NumbersOf, SetWhere, PatchesOn}

pub found_one : (ss : List Slot) (n : ℕ) {a b : Option ℕ} → Found ss n a → Found ss n b → a ≡ b
found_one ss n = lowest_or_one

pub where_one : {test : Slot → Bool → Type 0} {ss : List Slot} {a b : ℕ} → ((s : Slot) (x y : Bool) → test s x → test s y → x ≡ y)
    → SetWhere test ss a → SetWhere test ss b → a < 2 ^ 64 → b < 2 ^ 64 → a ≡ b
where_one {ss = ss} {a} {b} one p q la lb = same_set a b la lb (λ i l. one (slot_at ss i) (has a i) (has b i) (p.at i l) (q.at i l))

pub numbers_one : {ss : List Slot} {a b : List ℕ} → NumbersOf ss a → NumbersOf ss b → a ≡ b
numbers_one {ss} {a} {b} p q =
    ext_get_or 0 a b (p.count ∙ sym q.count) (λ i l. p.same i (omega (arith, p.count)) ∙ sym (q.same i (omega (arith, p.count))))

pub patches_one : {ss : List Slot} {b : ℕ} {p q : Patches} → PatchesOn ss b p → PatchesOn ss b q → p ≡ q
patches_one x y = λ i. record {
  waiting = (x.waiting ∙ sym y.waiting) i;
  hard = (x.hard ∙ sym y.hard) i;
  in_flight = (x.in-flight ∙ sym y.in-flight) i;
}
