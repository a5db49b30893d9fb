-- A change that names an old number besides is the same change: its outcome is the same, in answer, table and every lent byte (document 02, request b). It
-- may not be the ninth name, as names are counted before they are looked up.
use Prim.Native.Nat.{ℕ, ◌+◌, ◌<◌}
use mathlib.Core.Path.{◌≡◌, refl, sym, ap, ap₂, subst, ◌∙◌}
use mathlib.Core.Bool.{true}
use mathlib.Core.List.{List}
use mathlib.Core.Logic.{⊎_elim}
use native.Mathlib.Omega.{arith}
use borrow.Author.Tests.{eqb-true}
use lib.Dec.{eqb}
use lib.ListN.{length}
use Rattle.ground.proofs.Decided.{or-true, true_or_r}
use Rattle.rules.specs.declared.Hold.{Hold}
use Rattle.rules.specs.declared.Hold.TheVariants as hold
use Rattle.rules.specs.declared.Slot.{Slot}
use Rattle.rules.specs.Sizes.{most_named}
use Rattle.rules.specs.Slots.{with_befores}
use Rattle.rules.specs.Table.{Table, slot_at, slots_by, with_slots, with_next, Sound, Issued, Old}
use Rattle.rules.specs.Create.{Change, is_in, patch, accepted_slots, accepted, joined_slot, joined_slots, joined, changed, kept}
use Rattle.rules.specs.Refusals.{ManyNamed, NamesUnissued, create_cases}
use Rattle.rules.specs.Calls.{Creation, Creates, Accepts, create_granted, create_joined}
use Rattle.rules.proofs.Cases.{Alike, none_differs, as_well, as_is, first_alike}
use Rattle.rules.proofs.Pins.{naming}
use Rattle.rules.proofs.OneAnswer.{create_one}
use Rattle.rules.proofs.OldNumbers.{old_committed, old_dropped, old_not_added}

module _ (t : Table) (s : Sound t) (n : ℕ) (old : Old t.first n) (image undo : List ℕ) (c : Change) where
  same_cases : length c.named < most_named → Alike (create_cases t image undo c) (create_cases t image undo (naming n c))
  unfolding is_in
  same_cases few = as_is (as_is (as_is (as_is (as_is (as_well many many' (as_well more less (as_is (as_is (as_is none_differs)))))))))
    where
      many : ManyNamed c → ManyNamed (naming n c)
      many l = omega arith

      many' : ManyNamed (naming n c) → ManyNamed c
      many' l = absurd (omega arith)

      more : NamesUnissued t c → NamesUnissued t (naming n c)
      more u = (u.0, true_or_r (eqb u.0 n) u.1, u.2)

      less : NamesUnissued t (naming n c) → NamesUnissued t c
      less u =
          let other : eqb u.0 n ≡ true → ⊥ = λ q. u.2 (subst (Issued t.next) (sym (eqb-true u.0 n q)) (old_committed t s n old).0) in
          (u.0, ⊎_elim (λ q. absurd (other q)) (λ q. q) (or-true (eqb u.0 n) (is_in u.0 c.named) u.1), u.2)

  same_patch : (h : Hold) → patch t (naming n c) h ≡ patch t c h
  unfolding patch
  same_patch h = ap (λ (m : ℕ). with_befores m (patch t c h)) (old_dropped t s n old c)

  same_kept : (h : Hold) → kept undo image (naming n c) h ≡ kept undo image c h
  unfolding kept
  same_kept hold.Hard = refl
  same_kept (hold.Soft r) = refl

  same_granted : (j : ℕ) (h : Hold) → create_granted t image undo c j h ≡ create_granted t image undo (naming n c) j h
  unfolding accepted changed
  same_granted j h =
      ap₂ (λ (p : Slot) (area : List ℕ). record {
        answer = (create_granted t image undo c j h).answer;
        table = with_next (t.next + 1) (with_slots (accepted_slots t.slots p j h) t);
        image = changed image c;
        undo = area;
      }) (sym (same_patch h)) (sym (same_kept h))

  same_joined : (j : ℕ) → create_joined t image undo c j ≡ create_joined t image undo (naming n c) j
  unfolding joined joined_slots changed
  same_joined j =
      ap (λ (m : ℕ). record {
        answer = (create_joined t image undo c j).answer;
        table = with_slots (slots_by (λ i. joined_slot m c.block (eqb i j) (slot_at t.slots i))) t;
        image = changed image c;
        undo = undo;
      }) (sym (old_not_added t s n old c))

  same_grant : (o : Creation) → Accepts t image undo c o → Accepts t image undo (naming n c) o
  same_grant o (Accepts.takes own a) =
      Accepts.takes own (record {
        slot = a.slot;
        hold = a.hold;
        lowest = a.lowest;
        hard-or-soft = a.hard-or-soft;
        number = a.number;
        says = a.says;
        whole = a.whole ∙ same_granted a.slot a.hold;
      })
  same_grant o (Accepts.joins does a) =
      Accepts.joins does (record { slot = a.slot; lowest = a.lowest; number = a.number; says = a.says; whole = a.whole ∙ same_joined a.slot })

  pub old_name_drops : length c.named < most_named → (o p : Creation) → Creates t image undo (naming n c) o → Creates t image undo c p → o ≡ p
  old_name_drops few o p a b =
      create_one t image undo (naming n c) o p a
      (record { first = first_alike (same_cases few) b.first; refusal = b.refusal; grant = λ z. same_grant p (b.grant z) })
