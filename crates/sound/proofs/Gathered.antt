-- The set of what the slots below n give, and laws of a walk that gathers it, one slot more at a time. Assumes nothing.
use Prim.Native.Nat.{ℕ, ◌+◌, ◌<◌}
use mathlib.Core.Path.{◌≡◌, sym, ap₂, ◌∙◌}
use mathlib.Core.Bool.{Bool, true, false, ◌||◌, or-false}
use native.Mathlib.Omega.{arith}
use Rattle.masks.specs.Sets.{has, set_of, some_below}
use Rattle.masks.proofs.Laws.{has_of, set_lt, set_ext, no_member, has_set, some_at, at_some, some_more, at_none}

-- the set of the r that a slot below n gives
abbrev pub gathered : (ℕ → ℕ → Bool) → ℕ → ℕ
gathered gives n = set_of (λ r. some_below (λ i. gives i r) n)

module _ (gives : ℕ → ℕ → Bool) where
  pub gathered_none : 0 ≡ gathered gives 0
  gathered_none =
      sym (no_member (gathered gives 0) (set_lt (λ r. some_below (λ i. gives i r) 0))
      (λ r l. has_set (λ r. some_below (λ i. gives i r) 0) r l ∙ at_none (λ i. gives i r) 0 (λ i k. absurd (omega arith))))

  -- a slot that gives nothing
  pub gathered_pass : (n : ℕ) → ((r : ℕ) → gives n r ≡ false) → gathered gives n ≡ gathered gives (n + 1)
  gathered_pass n f =
      set_ext (λ r. some_below (λ i. gives i r) n) (λ r. some_below (λ i. gives i r) (n + 1))
      (λ r l. sym (some_more (λ i. gives i r) n ∙ rw (f r) (or-false (some_below (λ i. gives i r) n))))

  module _ {n m : ℕ} (below : m ≡ gathered gives n) where
    -- a slot that gives what is in the set q
    pub gathered_more : (q : ℕ) → ((r : ℕ) → r < 64 → has q r ≡ gives n r) → set_of (λ r. has m r || has q r) ≡ gathered gives (n + 1)
    gathered_more q f =
        set_ext (λ r. has m r || has q r) (λ r. some_below (λ i. gives i r) (n + 1))
        (λ r l. ap₂ ◌||◌ (has_of (λ r. some_below (λ i. gives i r) n) m r below l) (f r l) ∙ sym (some_more (λ i. gives i r) n))

    pub gathered_all : (i r : ℕ) → i < n → r < 64 → gives i r ≡ true → has m r ≡ true
    gathered_all i r l k e = has_of (λ r. some_below (λ i. gives i r) n) m r below k ∙ some_at (λ i. gives i r) n i l e

    pub gathered_only : (r : ℕ) → r < 64 → has m r ≡ true → (i : ℕ) × (i < n) × (gives i r ≡ true)
    gathered_only r k h = at_some (λ i. gives i r) n (sym (has_of (λ r. some_below (λ i. gives i r) n) m r below k) ∙ h)
