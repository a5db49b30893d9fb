-- Create past its early refusals: each answer from the facts that the code has found where it returns it.
use Prim.Native.Nat.{ℕ, ◌+◌, ◌<◌}
use mathlib.Core.Path.{◌≡◌, refl, sym, ap, subst₃}
use mathlib.Core.List.{List, [], ◌∷◌}
use mathlib.Core.Logic.{⊎_elim}
use native.Mathlib.Omega.{arith}
use lib.ListN.{length}
use Rattle.spans.specs.Spans.{splice, part}
use Rattle.rules.specs.declared.Hold.{Hold}
use Rattle.rules.specs.declared.Hold.TheVariants as hold
use Rattle.rules.specs.declared.refusals.Refusal.TheVariants as refusal
use Rattle.std.specs.Prelude.{Ok}
use Rattle.rules.specs.Sizes.{room_start, slots, last_number}
use Rattle.rules.specs.Table.{Table}
use Rattle.masks.specs.Lowest.{Lowest}
use Rattle.rules.specs.Create.{Change, FreeSlot, HoldOf, Joins, LowestNumbered, accepted, place, changed, kept}
use Rattle.rules.specs.Refusals.{case, First, TakesSlot, NoNumber, NoSlot, NoRoom, create_cases}
use Rattle.rules.specs.Calls.{Creates, Accepts, create_refused, create_granted, create_joined}
use Rattle.rules.specs.Passed.{CreateReady}
use Rattle.rules.proofs.Cases.{holds, passes, none_holds}
use Rattle.rules.proofs.Outcomes.{refuses, grants}
use Rattle.cache.specs.Taking.{kept_at}

module _ (t : Table) (image undo : List ℕ) (c : Change) where
  module _ (r : CreateReady t image undo c) where
    -- past the early refusals only 8, 9 and 10 are left
    late : {k : ℕ} → First (case 8 (NoNumber t c) ∷ case 9 (NoSlot t c) ∷ case 10 (NoRoom t c) ∷ []) k → First (create_cases t image undo c) k
    late f =
        passes (⊎_elim (λ n. n r.image_whole) (λ n. n r.undo_whole))
        (passes (λ n. n r.sound)
        (passes (λ m. omega (arith, r.is_block))
        (passes (⊎_elim (λ e. omega (arith, r.len_least)) (λ l. omega (arith, r.len_most)))
        (passes (λ m. omega (arith, r.ends))
        (passes (λ m. omega (arith, r.few_named)) (passes (λ u. u.2 (r.issued u.0 u.1)) f))))))

    -- a creation that joins is given none of them
    pub create-joined : (j : ℕ) → Joins t.setting t.slots c.block → LowestNumbered t.slots c.block j
        → Creates t image undo c (create_joined t image undo c j)
    create-joined j joins low =
        grants (create_joined t image undo c j)
        (late (passes (λ m. m.0 joins) (passes (λ m. m.0 joins) (passes (λ m. m.0 joins.would_be_hard) none_holds)))) refl
        (Accepts.joins joins (record { slot = j; lowest = low; number = refl; says = refl; whole = refl }))

    module _ (own : TakesSlot t c) where
      pub create_no_number : t.next ≡ last_number + 1 → Creates t image undo c (create_refused t image undo refusal.NoNumber)
      create_no_number e = refuses refusal.NoNumber (late (holds (own, e))) refl

      module _ (last : t.next ≡ last_number + 1 → ⊥) where
        pub create_no_slot : ((i : ℕ) → i < slots → FreeSlot t.slots i → ⊥) → Creates t image undo c (create_refused t image undo refusal.NoSlot)
        create_no_slot n = refuses refusal.NoSlot (late (passes (λ m. last m.1) (holds (own, n)))) refl

        module _ (j : ℕ) (low : Lowest slots (FreeSlot t.slots) j) where
          -- neither 8 nor 9 holds
          slotted : {k : ℕ} → First (case 10 (NoRoom t c) ∷ []) k → First (create_cases t image undo c) k
          slotted f = late (passes (λ m. last m.1) (passes (λ m. m.1 j low.within low.holds) f))

          pub create_no_room : NoRoom t c → Creates t image undo c (create_refused t image undo refusal.NoRoom)
          create_no_room n = refuses refusal.NoRoom (slotted (holds n)) refl

          room_for : (h : Hold) → HoldOf t.setting t.slots c.block h → NoRoom t c → ⊥
          room_for h (HoldOf.hard w) n = n.0 w
          room_for h (HoldOf.soft {r = q} w free) n = n.1 q free.within free.holds

          -- the table and the buffers are what the code made
          pub create-granted : (h : Hold) → HoldOf t.setting t.slots c.block h → (t' : Table) (image' undo' : List ℕ) → t' ≡ accepted t c j h
              → image' ≡ changed image c → undo' ≡ kept undo image c h
              → Creates t image undo c (record { answer = Ok (record { number = t.next; hold = h }); table = t'; image = image'; undo = undo' })
          create-granted h held t' image' undo' p q s =
              subst₃
              (λ (x : Table) (y z : List ℕ). Creates t image undo c
              (record { answer = Ok (record { number = t.next; hold = h }); table = x; image = y; undo = z }))
              (sym p) (sym q) (sym s)
              (grants (create_granted t image undo c j h) (slotted (passes (room_for h held) none_holds)) refl
              (Accepts.takes own (record { slot = j; hold = h; lowest = low; hard-or-soft = held; number = refl; says = refl; whole = refl })))

-- what the code puts at a change's place in the image, and keeps of it, is what the rules have
pub image_made : (image : List ℕ) (c : Change) {at : ℕ} → at ≡ place c → splice image at c.bytes ≡ changed image c
unfolding changed
image_made image c e = ap (λ (x : ℕ). splice image x c.bytes) e

pub undo_made : (undo image : List ℕ) (c : Change) (h : Hold) {at : ℕ} → at ≡ place c → kept_at undo image at (length c.bytes) h ≡ kept undo image c h
unfolding kept
undo_made undo image c hold.Hard e = refl
undo_made undo image c (hold.Soft r) e = ap (λ (x : ℕ). splice undo (room_start r) (part image x (length c.bytes))) e
