-- The block lemma: taking back what is left behind, newest first, gives the block as if only what stays had been
-- carried out. It holds place by place, and stands alone because it is the one fact about bytes in the theorem.
use Prim.Native.Nat.{ℕ}
use mathlib.Core.Path.{◌≡◌, refl, sym, ◌∙◌}
use mathlib.Core.Bool.{Bool, true, false, cond, not}
use mathlib.Core.List.{List, [], ◌∷◌, Memᴰ}
use Rattle.cut.specs.Changes.{Store, Logged, covers, after, only, Earlier, here, there}
use Rattle.cut.specs.World.{put_back, take_back}
use Rattle.ground.proofs.Decided.{clash}
use Rattle.cut.proofs.Facts.{carry_inside, carry_outside}

-- Where old bytes are kept for a change, they are what the changes accepted before it give. It goes by place in the
-- log and not by change, since a log may have two equal changes.
abbrev pub Kept : (Logged → Bool) → (Logged → ℕ → ℕ) → Store → List Logged → Type 0
Kept kept undo s [] = Unit {0}
Kept kept undo s (c ∷ older) =
    (kept c ≡ true → (b i : ℕ) → covers c b i ≡ true → undo c i ≡ after older s b i) × Kept kept undo s older

-- fewer changes with old bytes, and the same bytes
pub kept_fewer : (kept kept' : Logged → Bool) (undo undo' : Logged → ℕ → ℕ) (s : Store) (l : List Logged)
    → ((x : Logged) → Memᴰ x l → kept' x ≡ true → (kept x ≡ true) × ((i : ℕ) → undo' x i ≡ undo x i))
    → Kept kept undo s l → Kept kept' undo' s l
kept_fewer kept kept' undo undo' s [] h k = tt
kept_fewer kept kept' undo undo' s (c ∷ l) h k = (
  λ e b i ec. (h c (Memᴰ.head refl) e).1 i ∙ k.0 (h c (Memᴰ.head refl) e).0 b i ec,
  kept_fewer kept kept' undo undo' s l (λ x m. h x (Memᴰ.tail m)) k.1,
)

-- At this place no change that stays is newer than one left behind. (Else its byte would go with the older one's.)
abbrev pub NoneOver : (Logged → Bool) → ℕ → ℕ → List Logged → Type 0
NoneOver out b i l =
    (y x : Logged) → Earlier l y x → covers y b i ≡ true → covers x b i ≡ true → out y ≡ false → out x ≡ false

module _ (b i : ℕ) (out : Logged → Bool) (undo : Logged → ℕ → ℕ) where
  back_inside : (c : Logged) (s : Store) → covers c b i ≡ true → put_back undo c s b i ≡ undo c i
  unfolding put_back
  back_inside c s h = rw h

  back_outside : (c : Logged) (s : Store) → covers c b i ≡ false → put_back undo c s b i ≡ s b i
  unfolding put_back
  back_outside c s h = rw h

  -- taking back leaves a place that no change left behind covers
  take_leaves : (l : List Logged) (s : Store) → ((x : Logged) → Memᴰ x l → covers x b i ≡ true → out x ≡ false)
      → take_back out undo l s b i ≡ s b i
  unfolding take_back
  take_leaves [] s h = refl
  take_leaves (c ∷ l) s h = take_leaves l _ (λ x m. h x (Memᴰ.tail m)) ∙ by (out c) refl (covers c b i) refl
    where
      by : (v : Bool) → out c ≡ v → (r : Bool) → covers c b i ≡ r → cond v (put_back undo c s) s b i ≡ s b i
      by false e r er = refl
      by true e false er = back_outside c s er
      by true e true er = absurd (clash e (h c (Memᴰ.head refl) er))

  module _ (opening : Store) where
    -- taking back works on any store that holds at this place what the log gives
    abbrev Takes : List Logged → Type 0
    Takes l = (s : Store) → s b i ≡ after l opening b i → take_back out undo l s b i ≡ after (only (λ x. not (out x)) l) opening b i

    take_step : (c : Logged) (l : List Logged) → Kept out undo opening (c ∷ l) → NoneOver out b i (c ∷ l) → Takes l → Takes (c ∷ l)
    unfolding take_back after only
    take_step c l k n below s e = by (out c) refl (covers c b i) refl
      where
        by : (v : Bool) → out c ≡ v → (r : Bool) → covers c b i ≡ r
            → take_back out undo l (cond (out c) (put_back undo c s) s) b i
            ≡ after (cond (not (out c)) (c ∷ only (λ x. not (out x)) l) (only (λ x. not (out x)) l)) opening b i
        by true eo true ec = rw eo (below _ (back_inside c s ec ∙ k.0 eo b i ec))
        by true eo false ec = rw eo (below _ (back_outside c s ec ∙ (e ∙ carry_outside b i c _ ec)))
        by false eo true ec = rw eo
            (take_leaves l s (λ x m ex. n c x (here m) ec ex eo) ∙ (e ∙ (carry_inside b i c _ ec ∙ sym (carry_inside b i c _ ec))))
        by false eo false ec = rw eo (below s (e ∙ carry_outside b i c _ ec) ∙ sym (carry_outside b i c _ ec))

    -- THE BLOCK LEMMA
    pub take_gives_rest : (l : List Logged) → Kept out undo opening l → NoneOver out b i l → (s : Store) → s b i ≡ after l opening b i
        → take_back out undo l s b i ≡ after (only (λ x. not (out x)) l) opening b i
    unfolding take_back after only
    take_gives_rest [] k n s e = e
    take_gives_rest (c ∷ l) k n s e = take_step c l k n (take_gives_rest l k.1 (λ y x m. n y x (there m))) s e
