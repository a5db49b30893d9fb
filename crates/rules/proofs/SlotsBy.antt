-- Lists that a definition gives one by one, slots among them: reading one, and when a list is that list.
use Prim.Native.Nat.{ℕ, zero, suc, ◌+◌, ◌<◌}
use mathlib.Core.Path.{◌≡◌, refl, sym, ap, ◌∙◌}
use mathlib.Core.List.{List}
use native.Mathlib.Omega.{arith}
use native.Mathlib.Nat.{add-zero, zero-add}
use lib.ListN.{length, get_or}
use lib.Seq.{ext_get_or}
use Rattle.rules.specs.declared.Slot.{Slot}
use Rattle.rules.specs.Sizes.{slots}
use Rattle.rules.specs.Slots.{free_slot}
use Rattle.rules.specs.Table.{slot_at, list_from, slots_by}

-- ---- lists that are given one by one

module _ {A : Type 0} (d : A) where
  from_at : (f : ℕ → A) (n k i : ℕ) → i < n → get_or (list_from f k n) i d ≡ f (k + i)
  unfolding list_from
  from_at f zero k i l = absurd (omega arith)
  from_at f (suc n) k zero l = ap f (sym (add-zero k))
  from_at f (suc n) k (suc i) l = from_at f n (suc k) i (omega arith) ∙ ap f (let e : suc k + i ≡ k + suc i = omega arith in e)

  from_length : (f : ℕ → A) (n k : ℕ) → length (list_from f k n) ≡ n
  unfolding list_from
  from_length f zero k = refl
  from_length f (suc n) k = ap suc (from_length f n (suc k))

  pub at_by : (f : ℕ → A) (n i : ℕ) → i < n → get_or (list_from f 0 n) i d ≡ f i
  at_by f n i l = from_at f n 0 i l ∙ ap f (zero-add i)

  -- n of them that are those of f, one by one, are the list by f
  pub list_is : (l : List A) (f : ℕ → A) (n : ℕ) → length l ≡ n → ((i : ℕ) → i < n → get_or l i d ≡ f i) → l ≡ list_from f 0 n
  list_is l f n e same =
      ext_get_or d l (list_from f 0 n) (e ∙ sym (from_length f n 0)) (λ i h. let m : i < n = omega arith in same i m ∙ sym (at_by f n i m))

-- ---- slots

pub slot_by : (f : ℕ → Slot) (i : ℕ) → i < slots → slot_at (slots_by f) i ≡ f i
slot_by f i l = at_by free_slot f slots i l

pub length_by : (f : ℕ → Slot) → length (slots_by f) ≡ slots
length_by f = from_length free_slot f slots 0

-- 64 slots that are those of f, one by one, are the slots by f
pub slots_are : (ss : List Slot) (f : ℕ → Slot) → length ss ≡ slots → ((i : ℕ) → i < slots → slot_at ss i ≡ f i) → ss ≡ slots_by f
slots_are ss f e same = list_is free_slot ss f slots e same

pub slots_ext : (f g : ℕ → Slot) → ((i : ℕ) → i < slots → f i ≡ g i) → slots_by f ≡ slots_by g
slots_ext f g same = slots_are (slots_by f) g (length_by f) (λ i l. slot_by f i l ∙ same i l)
