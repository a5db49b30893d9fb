-- A fold over the slots of a set is the sum that the definition makes slot by slot, those outside the set among them. Assumes nothing.
use Prim.Native.Nat.{ℕ, zero, suc, ◌+◌, ◌≤◌}
use mathlib.Core.Path.{◌≡◌, refl, ap, ◌∙◌}
use mathlib.Core.Bool.{Bool, true, false, cond}
use mathlib.Core.List.{List, ◌∷◌}
use native.Mathlib.Nat.{add-zero, zero-add}
use native.Mathlib.Numerals.{add-one}
use native.Mathlib.Omega.{arith}
use lib.ListN.{get_or}
use Rattle.std.specs.List.{range_with_len, filter, fold}
use Rattle.masks.specs.Sets.{has}
use Rattle.tally.specs.Counts.{plus, carried_below, carried, most_count}

module _ (changes : List ℕ) (set : ℕ) where
  -- the sum with the changes of slot i
  abbrev pub with_slot : ℕ → ℕ → ℕ
  with_slot sum i = plus sum (get_or changes i 0)

  most : (n : ℕ) → carried_below changes set n ≤ most_count
  unfolding carried_below plus
  most zero = omega arith
  most (suc n) = omega arith

  more : (n : ℕ) (b : Bool) → has set n ≡ b
      → cond b (with_slot (carried_below changes set n) n) (carried_below changes set n) ≡ carried_below changes set (n + 1)
  unfolding carried_below plus
  more n true e = rw (add-one, e)
  more n false e = rw (add-one, e) (omega (arith, most n))

  from : (n i : ℕ) → fold with_slot (carried_below changes set i) (filter (has set) (range_with_len i n)) ≡ carried_below changes set (i + n)
  from zero i = rw (add-zero i)
  from (suc n) i = by (has set i) refl (from n (i + 1) ∙ ap (carried_below changes set) (let q : (i + 1) + n ≡ i + suc n = omega arith in q))
    where
      rest : List ℕ
      rest = filter (has set) (range_with_len (i + 1) n)

      by : (b : Bool) → has set i ≡ b → fold with_slot (carried_below changes set (i + 1)) rest ≡ carried_below changes set (i + suc n)
          → fold with_slot (carried_below changes set i) (cond b (i ∷ rest) rest) ≡ carried_below changes set (i + suc n)
      by true e on = ap (λ (x : ℕ). fold with_slot x rest) (more i true e) ∙ on
      by false e on = ap (λ (x : ℕ). fold with_slot x rest) (more i false e) ∙ on

  pub fold_is : fold with_slot 0 (filter (has set) (range_with_len 0 64)) ≡ carried changes set
  unfolding carried_below
  fold_is = from 64 0 ∙ ap (carried_below changes set) (zero-add 64)
