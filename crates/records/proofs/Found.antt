-- The ways to what the reader finds, walked once: whatever is to be shown of its answer is shown of each. Assumes nothing.
use Prim.Native.Nat.{ℕ, ◌+◌, ◌-◌, ◌≤◌, ◌<◌}
use mathlib.Core.Path.{◌≡◌, refl}
use mathlib.Core.Bool.{Bool, true, false, cond, not}
use mathlib.Core.List.{List}
use borrow.Author.Tests.{ltb-true, ltb-false}
use lib.Dec.{ltb}
use lib.ListN.{length}
use Rattle.records.specs.declared.types.Next.{Next}
use Rattle.records.specs.declared.types.Next.TheVariants as next
use Rattle.records.specs.Reader.{number_at, formed, value_in, next_in}

module _ (w : List ℕ) (P : Next → Type 0) where
  pub next_by : (length w < 3 → P (next.NoneYet (3 - length w)))
      → (3 ≤ length w → formed (number_at w 0 1) (number_at w 1 2) ≡ false → P next.Bad)
      → (3 ≤ length w → formed (number_at w 0 1) (number_at w 1 2) ≡ true → length w < 3 + number_at w 1 2 → P (next.NoneYet (3 + number_at w 1 2 - length w)))
      → (formed (number_at w 0 1) (number_at w 1 2) ≡ true → 3 + number_at w 1 2 ≤ length w → P (value_in w (number_at w 0 1) (number_at w 1 2)))
      → P (next_in w)
  unfolding next_in
  next_by short unknown unfinished whole = at_head (ltb (length w) 3) refl
    where
      t : ℕ
      t = number_at w 0 1

      n : ℕ
      n = number_at w 1 2

      at_value : (v : Bool) → ltb (length w) (3 + n) ≡ v → 3 ≤ length w → formed t n ≡ true
          → P (cond v (next.NoneYet (3 + n - length w)) (value_in w t n))
      at_value true e l f = unfinished l f (ltb-true (length w) (3 + n) e)
      at_value false e l f = whole f (ltb-false (length w) (3 + n) e)

      at_form : (v : Bool) → formed t n ≡ v → 3 ≤ length w
          → P (cond (not v) next.Bad (cond (ltb (length w) (3 + n)) (next.NoneYet (3 + n - length w)) (value_in w t n)))
      at_form true e l = at_value (ltb (length w) (3 + n)) refl l e
      at_form false e l = unknown l e

      at_head : (v : Bool) → ltb (length w) 3 ≡ v
          → P (cond v (next.NoneYet (3 - length w))
          (cond (not (formed t n)) next.Bad (cond (ltb (length w) (3 + n)) (next.NoneYet (3 + n - length w)) (value_in w t n))))
      at_head true e = short (ltb-true (length w) 3 e)
      at_head false e = at_form (formed t n) refl (ltb-false (length w) 3 e)
