-- A list that a loop writes from its start on: one number more is put at its place. Assumes nothing.
use Prim.Native.Nat.{ℕ, ◌+◌, ◌<◌}
use mathlib.Core.Path.{◌≡◌, ◌∙◌}
use mathlib.Core.List.{List}
use native.Mathlib.Omega.{arith}
use borrow.Author.Count.{below_more}
use lib.ListN.{length, get_or, set}
use lib.Seq.{get_or-set_same, get_or-set_other}

pub put_below : (ns : List ℕ) (i v : ℕ) (f : ℕ → ℕ) → i < length ns → ((k : ℕ) → k < i → get_or ns k 0 ≡ f k) → v ≡ f i
    → (k : ℕ) → k < i + 1 → get_or (set ns i v) k 0 ≡ f k
put_below ns i v f l passed e =
    below_more (λ (k : ℕ). get_or (set ns i v) k 0 ≡ f k) i (λ k b. get_or-set_other ns i k v 0 (λ q. omega arith) ∙ passed k b)
    (get_or-set_same ns i v 0 l ∙ e)
