-- What the early refusals of create and write (crate `early`) mean for a table: where the flag says whether it is sound, and `on` has
-- the block's patches, a number is the first of the call's refusals, and with 0 the call is ready to go on. Assumes nothing.
use Prim.Native.Nat.{ℕ, ◌<◌}
use mathlib.Core.Path.{◌≡◌, refl}
use mathlib.Core.Bool.{Bool, true, false}
use mathlib.Core.List.{List, [], ◌∷◌}
use mathlib.Core.Logic.{inl, inr, ⊎_elim}
use native.Mathlib.Omega.{arith}
use lib.ListN.{length}
use Rattle.ground.specs.Decides.{Decides}
use Rattle.ground.proofs.Decided.{clash, same_or_other, yes_of, said_yes}
use Rattle.rules.specs.Sizes.{most_bytes}
use Rattle.std.specs.Prelude.{Option, Some, None, is_some}
use Rattle.rules.specs.declared.Setting.{Setting}
use Rattle.rules.specs.declared.Slot.{Slot}
use Rattle.sound.specs.declared.types.InUse.{InUse}
use Rattle.sound.specs.Verdict.{IsVerdict}
use Rattle.rules.specs.Table.{Table, Sound, table_of}
use Rattle.rules.specs.Create.{Change}
use Rattle.rules.specs.Refusals.{number_of, case, First, NoNumber, NoSlot, NoRoom, OnlyEmpty, create_cases, write_cases}
use Rattle.rules.specs.Calls.{Creates, create_refused, Writes, write_refused}
use Rattle.rules.specs.Passed.{CreateReady, WriteReady}
use Rattle.rules.proofs.Granted.{issued_holds}
use Rattle.rules.proofs.Cases.{first_still, passed, none_differs, as_well, as_is, first_alike}
use Rattle.rules.proofs.Outcomes.{refuses}
use Rattle.rules.proofs.Refused.{refusal_not0}
use Rattle.rules.specs.declared.refusals.Refusal.{Refusal}
use Rattle.slots.specs.declared.types.Patches.{Patches}
use Rattle.slots.specs.Walks.{PatchesOn}
use Rattle.slots.proofs.OnBlock.{some_flies, none_flies, some_waits, none_waits}
use Rattle.early.specs.Early.{CreateEarly, WriteEarly}

-- what a refusal that does not hold says, where its opposite is a test's answer
equal : {m n : ℕ} → ((m ≡ n → ⊥) → ⊥) → m ≡ n
equal {m} {n} f = ⊎_elim (λ e. e) (λ d. absurd (f d)) (same_or_other m n)

said : {P : Type 0} (b : Bool) → Decides P b → ((b ≡ true → ⊥) → ⊥) → P
said true d f = d
said false d f = absurd (f (λ e. clash e refl))

-- a verdict that brings what is in use is the flag
pub verdict_decides : {g : Setting} {first next : ℕ} {ss : List Slot} {v : Option InUse} → IsVerdict g first next ss v
    → Decides (Sound (table_of g first next ss)) (is_some v)
verdict_decides {v = Some u} p = (p.sound u refl).sound
verdict_decides {v = None} p = p.unsound refl

module _ (t : Table) (sound : Bool) (d : Decides (Sound t) sound) where
  module _ (image undo : List ℕ) (c : Change) where
    -- the flag in place of the word
    create_first : {k : ℕ} → (k ≡ 0 → ⊥) → CreateEarly t.setting t.next sound image undo c k → First (create_cases t image undo c) k
    create_first n f =
        first_alike
        (as_is
        (as_well (λ u s. u (said_yes sound d s)) (λ u e. u (yes_of sound d e))
        (as_is (as_is (as_is (as_is (as_is (as_is (as_is (as_is none_differs))))))))))
        (first_still (case 8 (NoNumber t c) ∷ case 9 (NoSlot t c) ∷ case 10 (NoRoom t c) ∷ []) n f)

    pub create-refused : (r : Refusal) → CreateEarly t.setting t.next sound image undo c (number_of r)
        → Creates t image undo c (create_refused t image undo r)
    create-refused r f = refuses r (create_first (refusal_not0 r) f) refl

    pub create_ready : CreateEarly t.setting t.next sound image undo c 0 → CreateReady t image undo c
    create_ready f =
        let c1 = passed (λ e. omega arith) f in
        let c2 = passed (λ e. omega arith) c1.1 in
        let c3 = passed (λ e. omega arith) c2.1 in
        let c4 = passed (λ e. omega arith) c3.1 in
        let c5 = passed (λ e. omega arith) c4.1 in
        let c6 = passed (λ e. omega arith) c5.1 in
        let c7 = passed (λ e. omega arith) c6.1 in
        let some_bytes : (length c.bytes ≡ 0 → ⊥) = λ e. c4.0 (inl e) in
        let few_bytes : (most_bytes < length c.bytes → ⊥) = λ l. c4.0 (inr l) in
        record {
          image_whole = equal (λ w. c1.0 (inl w));
          undo_whole = equal (λ w. c1.0 (inr w));
          sound = said sound d c2.0;
          is_block = omega (arith, c3.0);
          len_least = omega (arith, some_bytes);
          len_most = omega (arith, few_bytes);
          ends = omega (arith, c5.0);
          few_named = omega (arith, c6.0);
          issued = issued_holds t c c7.0;
        }

  module _ (b : ℕ) {on : Patches} (p : PatchesOn t.slots b on) (image undo block : List ℕ) where
    write_first : {k : ℕ} → (k ≡ 0 → ⊥) → WriteEarly t.setting sound on image undo block b k
        → First (write_cases t image undo block b) k
    write_first n f =
        first_alike
        (as_is
        (as_well (λ u s. u (said_yes sound d s)) (λ u e. u (yes_of sound d e))
        (as_is
        (as_well (some_flies p) (λ w e. none_flies p e w) (as_well (none_waits p) (λ w. equal (λ n. w (some_waits p n))) (as_is none_differs))))))
        (first_still (case 13 (OnlyEmpty t.slots b) ∷ []) n f)

    pub write-refused : (r : Refusal) → WriteEarly t.setting sound on image undo block b (number_of r)
        → Writes t image undo block b (write_refused t image undo block r)
    write-refused r f = refuses r (write_first (refusal_not0 r) f) refl

    pub write_ready : WriteEarly t.setting sound on image undo block b 0 → WriteReady t image undo block b
    write_ready f =
        let c1 = passed (λ e. omega arith) f in
        let c2 = passed (λ e. omega arith) c1.1 in
        let c3 = passed (λ e. omega arith) c2.1 in
        let c11 = passed (λ e. omega arith) c3.1 in
        let c12 = passed (λ e. omega arith) c11.1 in
        record {
          image_whole = equal (λ w. c1.0 (inl w));
          undo_whole = equal (λ w. c1.0 (inr (inl w)));
          block_whole = equal (λ w. c1.0 (inr (inr w)));
          sound = said sound d c2.0;
          is_block = omega (arith, c3.0);
          none_flies = none_flies p (equal c11.0);
          some_wait = some_waits p c12.0;
        }
