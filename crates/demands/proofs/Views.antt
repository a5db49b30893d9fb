-- Lists of 16,384 bytes, seen block by block and place by place: what the world of `cut` speaks of.
use Prim.Native.Nat.{ℕ, ◌+◌, ◌-◌, ◌/◌, ◌%◌, ◌≤◌, ◌<◌}
use native.Mathlib.Omega.{arith}
use native.Mathlib.Decide.{dec_lt}
use mathlib.Core.Path.{◌≡◌, refl, sym, ◌∙◌, ap}
use mathlib.Core.Bool.{Bool, true, false, cond, ◌&&◌, and-false}
use mathlib.Core.List.{List}
use mathlib.Core.Logic.{◌⊎◌, inl, inr}
use borrow.Author.Tests.{lt-ltb, le-ltb, le-leb, eq-eqb, eqb-true, leb-true, ltb-true}
use lib.Dec.{eqb, leb, ltb}
use lib.ListN.{length, get_or}
use lib.Seq.{ext_get_or}
use Rattle.ground.proofs.Decided.{clash, and-true, true_and}
use Rattle.spans.specs.Spans.{splice}
use Rattle.spans.proofs.Laws.{splice_in, splice_below, splice_above}
use Rattle.rules.specs.Sizes.{image_bytes, block_bytes, blocks, block_start}
use Rattle.cut.specs.Changes.{Store, Logged, covers, carry_out}
use Rattle.cut.proofs.Facts.{carry_inside, carry_outside}

-- the bytes of an image, by block and place; past its edge nothing is seen
unfoldable pub view : List ℕ → Store
view l b i = cond (ltb b blocks && ltb i block_bytes) (get_or l (block_start b + i) 0) 0

pub view_in : (l : List ℕ) (b i : ℕ) → b < blocks → i < block_bytes → view l b i ≡ get_or l (block_start b + i) 0
unfolding view
view_in l b i h k = rw (lt-ltb b 64 h, lt-ltb i 256 k)

view_off : (l m : List ℕ) (b i : ℕ) → (blocks ≤ b) ⊎ (block_bytes ≤ i) → view l b i ≡ view m b i
unfolding view
view_off l m b i (inl h) = rw (le-ltb b 64 h)
view_off l m b i (inr h) = rw (le-ltb i 256 h, and-false (ltb b 64))

-- past the edge nothing is seen
pub view_past : (l : List ℕ) (b i : ℕ) → block_bytes ≤ i → view l b i ≡ 0
unfolding view
view_past l b i h = rw (le-ltb i 256 h, and-false (ltb b 64))

-- a change that lies in a block
pub record Within (c : Logged) : Type 0 where
  pub block : c.block < blocks
  pub ends : c.offset + length c.bytes ≤ block_bytes

pub covers_of : (c : Logged) (b i : ℕ) → b ≡ c.block → c.offset ≤ i → i < c.offset + length c.bytes → covers c b i ≡ true
unfolding covers
covers_of c b i e h k = true_and (eq-eqb b c.block e) (true_and (le-leb c.offset i h) (lt-ltb i (c.offset + length c.bytes) k))

pub inside_of : (c : Logged) (b i : ℕ) → covers c b i ≡ true → (b ≡ c.block) × (c.offset ≤ i) × (i < c.offset + length c.bytes)
unfolding covers
inside_of c b i h =
    let w = and-true (eqb b c.block) _ h in
    let v = and-true (leb c.offset i) _ w.1 in
    (eqb-true b c.block w.0, leb-true c.offset i v.0, ltb-true i (c.offset + length c.bytes) v.1)

-- where the change starts in the image
abbrev start : Logged → ℕ
start c = block_start c.block + c.offset

outside : (c : Logged) (b i : ℕ) → Within c → i < block_bytes → covers c b i ≡ false
    → (block_start b + i < start c) ⊎ (start c + length c.bytes ≤ block_start b + i)
outside c b i f h n = pick (dec_lt (block_start b + i) (start c)) (dec_lt (block_start b + i) (start c + length c.bytes))
  where
    pick : Dec (block_start b + i < start c) → Dec (block_start b + i < start c + length c.bytes)
        → (block_start b + i < start c) ⊎ (start c + length c.bytes ≤ block_start b + i)
    pick (yes p) q = inl p
    pick (no p) (no q) = inr (omega arith)
    pick (no p) (yes q) =
        let fr = f.ends in
        let e : b ≡ c.block = omega arith in
        absurd (clash (covers_of c b i e (omega arith) (omega arith)) n)

module _ (c : Logged) (l : List ℕ) (f : Within c) (e : length l ≡ image_bytes) (b i : ℕ) where
  at_place : (v : Bool) → covers c b i ≡ v → b < blocks → i < block_bytes → view (splice l (start c) c.bytes) b i ≡ carry_out c (view l) b i
  at_place true h hb hj =
      let q = inside_of c b i h in
      let fb = f.block in
      let p : block_start b + i - start c ≡ i - c.offset = omega arith in
      view_in (splice l (start c) c.bytes) b i hb hj
      ∙ splice_in l (start c) c.bytes (block_start b + i) (omega arith) (omega arith) (omega arith)
      ∙ ap (λ (n : ℕ). get_or c.bytes n 0) p
      ∙ sym (carry_inside b i c (view l) h)
  at_place false h hb hj =
      view_in (splice l (start c) c.bytes) b i hb hj ∙ other (outside c b i f hj h) ∙ sym (view_in l b i hb hj) ∙ sym (carry_outside b i c (view l) h)
    where
      other : (block_start b + i < start c) ⊎ (start c + length c.bytes ≤ block_start b + i)
          → get_or (splice l (start c) c.bytes) (block_start b + i) 0 ≡ get_or l (block_start b + i) 0
      other (inl p) = splice_below l (start c) c.bytes (block_start b + i) p
      other (inr p) = splice_above l (start c) c.bytes (block_start b + i) p

  off_place : (blocks ≤ b) ⊎ (block_bytes ≤ i) → (v : Bool) → covers c b i ≡ v → view (splice l (start c) c.bytes) b i ≡ carry_out c (view l) b i
  off_place o false h = view_off (splice l (start c) c.bytes) l b i o ∙ sym (carry_outside b i c (view l) h)
  off_place (inl o) true h = let q = inside_of c b i h in let fb = f.block in absurd (omega arith)
  off_place (inr o) true h = let q = inside_of c b i h in let fr = f.ends in absurd (omega arith)

  -- bytes laid over the image are a change carried out
  pub view_splice : view (splice l (start c) c.bytes) b i ≡ carry_out c (view l) b i
  view_splice = range (dec_lt b blocks) (dec_lt i block_bytes)
    where
      range : Dec (b < blocks) → Dec (i < block_bytes) → view (splice l (start c) c.bytes) b i ≡ carry_out c (view l) b i
      range (yes hb) (yes hj) = at_place (covers c b i) refl hb hj
      range (yes hb) (no q) = off_place (inr (omega arith)) (covers c b i) refl
      range (no q) z = off_place (inl (omega arith)) (covers c b i) refl

-- two images that look alike are the same
pub view_same : (l m : List ℕ) → length l ≡ image_bytes → length m ≡ image_bytes → ((b i : ℕ) → view l b i ≡ view m b i) → l ≡ m
view_same l m el em h = ext_get_or 0 l m (el ∙ sym em) (λ p hp. at p (omega arith))
  where
    at : (p : ℕ) → p < image_bytes → get_or l p 0 ≡ get_or m p 0
    at p hp =
        let hb : p / 256 < 64 = omega arith in
        let hj : p % 256 < 256 = omega arith in
        let q : block_start (p / 256) + p % 256 ≡ p = omega arith in
        ap (λ (n : ℕ). get_or l n 0) (sym q)
        ∙ (sym (view_in l (p / 256) (p % 256) hb hj) ∙ (h (p / 256) (p % 256)
        ∙ (view_in m (p / 256) (p % 256) hb hj ∙ ap (λ (n : ℕ). get_or m n 0) q)))
