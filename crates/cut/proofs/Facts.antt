-- Small facts that several files cite: one block and every other, the order of a log, one change at one place.
use Prim.Native.Nat.{ℕ}
use mathlib.Core.Path.{◌≡◌, refl, sym, ◌∙◌, subst}
use mathlib.Core.Bool.{Bool, true, false, cond}
use mathlib.Core.List.{List, [], ◌∷◌, Memᴰ}
use mathlib.Core.Logic.{◌≢◌, ◌⊎◌, inl, inr}
use borrow.Author.Tests.{eqb-true}
use lib.Dec.{eqb}
use Rattle.ground.proofs.Decided.{clash, and-true, same_or_other}
use Rattle.cut.specs.Changes.{Store, Logged, covers, byte_of, carry_out, after, only, Earlier, here, there}

-- what holds of block b and of every other block holds of each block
pub by_block : (P : ℕ → Type 0) (b : ℕ) → P b → ((d : ℕ) → d ≢ b → P d) → (d : ℕ) → P d
by_block P b its others d = by (same_or_other d b)
  where
    by : (d ≡ b) ⊎ (d ≢ b) → P d
    by (inl e) = subst P (sym e) its
    by (inr n) = others d n

-- The order of a log

pub newer_in : {l : List Logged} {y x : Logged} → Earlier l y x → Memᴰ y l
newer_in (here m) = Memᴰ.head refl
newer_in (there e) = Memᴰ.tail (newer_in e)

pub older_in : {l : List Logged} {y x : Logged} → Earlier l y x → Memᴰ x l
older_in (here m) = Memᴰ.tail m
older_in (there e) = Memᴰ.tail (older_in e)

-- One change at one place

-- a change covers places of its own block only
pub covers_block : (c : Logged) (b i : ℕ) → covers c b i ≡ true → c.block ≡ b
unfolding covers
covers_block c b i h = sym (eqb-true b c.block (and-true (eqb b c.block) _ h).0)

module _ (b i : ℕ) (c : Logged) where
  pub carry_inside : (s : Store) → covers c b i ≡ true → carry_out c s b i ≡ byte_of c i
  unfolding carry_out
  carry_inside s h = rw h

  pub carry_outside : (s : Store) → covers c b i ≡ false → carry_out c s b i ≡ s b i
  unfolding carry_out
  carry_outside s h = rw h

  pub carry_same : (s t : Store) → s b i ≡ t b i → carry_out c s b i ≡ carry_out c t b i
  unfolding carry_out
  carry_same s t h = rw h

-- a change that fails the test is not among those that pass it
pub only_drops : (p : Logged → Bool) (c : Logged) (l : List Logged) → p c ≡ false → only p (c ∷ l) ≡ only p l
unfolding only
only_drops p c l e = rw e

-- Two tests at one place: what a log gives there hangs on the changes that cover the place, and on no other.

module _ (b i : ℕ) (p q : Logged → Bool) (s : Store) where
  same_step : (c : Logged) (l : List Logged)
      → (covers c b i ≡ true → p c ≡ q c)
      → after (only p l) s b i ≡ after (only q l) s b i
      → after (only p (c ∷ l)) s b i ≡ after (only q (c ∷ l)) s b i
  unfolding after only
  same_step c l h below = by (p c) refl (q c) refl (covers c b i) refl
    where
      by : (u : Bool) → p c ≡ u → (r : Bool) → q c ≡ r → (v : Bool) → covers c b i ≡ v
          → after (cond (p c) (c ∷ only p l) (only p l)) s b i ≡ after (cond (q c) (c ∷ only q l) (only q l)) s b i
      by true eu true er v e = rw (eu, er) (carry_same b i c _ _ below)
      by false eu false er v e = rw (eu, er) below
      by true eu false er true e = absurd (clash (sym (h e) ∙ eu) er)
      by true eu false er false e = rw (eu, er) (carry_outside b i c _ e ∙ below)
      by false eu true er true e = absurd (clash (h e ∙ er) eu)
      by false eu true er false e = rw (eu, er) (below ∙ sym (carry_outside b i c _ e))

  same_at : (l : List Logged)
      → ((c : Logged) → Memᴰ c l → covers c b i ≡ true → p c ≡ q c)
      → after (only p l) s b i ≡ after (only q l) s b i
  unfolding after only
  same_at [] h = refl
  same_at (c ∷ l) h = same_step c l (h c (Memᴰ.head refl)) (same_at l (λ x m. h x (Memᴰ.tail m)))

  -- so two tests that agree on a block's changes give the same bytes there
  pub same_on_block : (l : List Logged)
      → ((c : Logged) → Memᴰ c l → c.block ≡ b → p c ≡ q c)
      → after (only p l) s b i ≡ after (only q l) s b i
  same_on_block l h = same_at l (λ c m e. h c m (covers_block c b i e))
