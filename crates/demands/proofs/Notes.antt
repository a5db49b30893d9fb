-- The notes of a history: what writes leave on the store, block by block, and which numbers they sent.
use Prim.Native.Nat.{ℕ, ◌+◌, ◌<◌}
use native.Mathlib.Nat.{add-zero}
use native.Mathlib.Omega.{arith}
use mathlib.Core.Path.{◌≡◌, refl, sym, ◌∙◌, ap}
use mathlib.Core.Bool.{Bool, true, false, cond, ◌&&◌, ◌||◌, not, or_assoc}
use mathlib.Core.List.Memᴰ
use mathlib.Core.List.{List, [], ◌∷◌, ◌++◌, Memᴰ}
use mathlib.Core.Logic.{◌⊎◌, inl, inr}
use lib.Dec.{eqb}
use lib.ListN.{length}
use Rattle.ground.proofs.Decided.{clash, or-true}
use Rattle.spans.specs.Spans.{splice}
use Rattle.spans.proofs.Laws.{length_splice}
use Rattle.rules.specs.Sizes.{image_bytes, block_bytes, blocks, block_start}
use Rattle.rules.specs.Create.{is_in}
use Rattle.cut.specs.Changes.{Logged, covers, carry_out}
use Rattle.cut.proofs.Facts.{carry_same, carry_inside, carry_outside}
use Rattle.demands.specs.History.{Sent, those}
use Rattle.demands.specs.Demand3.{written, sent_in, times_in, times_sent}
use Rattle.demands.proofs.Views.{view, view_splice, inside_of}

-- a write is a change of all its block's bytes
abbrev pub whole : Sent → Logged
whole w = record { number = 0; block = w.block; offset = 0; bytes = w.bytes }

pub record Whole (w : Sent) : Type 0 where
  pub is_block : w.block < blocks
  pub size : length w.bytes ≡ block_bytes

abbrev pub AllWhole : List Sent → Type 0
AllWhole ws = (w : Sent) → Memᴰ w ws → Whole w

pub length_written : (ws : List Sent) (store : List ℕ) → length (written ws store) ≡ length store
unfolding written
length_written [] store = refl
length_written (w ∷ ws) store = length_splice (written ws store) _ _ ∙ length_written ws store

module _ (store : List ℕ) (e : length store ≡ image_bytes) (b i : ℕ) where
  -- one more write
  pub view_written : (w : Sent) (ws : List Sent) → Whole w → view (written (w ∷ ws) store) b i ≡ carry_out (whole w) (view (written ws store)) b i
  unfolding written
  view_written w ws h =
      let s = h.size in
      let l = h.is_block in
      ap (λ (n : ℕ). view (splice (written ws store) n w.bytes) b i) (sym (add-zero (block_start w.block)))
      ∙ view_splice (whole w) (written ws store) (record { block = l; ends = omega arith }) (length_written ws store ∙ e) b i

  -- what is under a run of writes shows through alike
  pub written_alike : (out M L : List Sent) → AllWhole out → view (written M store) b i ≡ view (written L store) b i
      → view (written (out ++ M) store) b i ≡ view (written (out ++ L) store) b i
  written_alike [] M L a h = h
  written_alike (w ∷ out) M L a h =
      view_written w (out ++ M) (a w (Memᴰ.head refl))
      ∙ carry_same b i (whole w) (view (written (out ++ M) store)) (view (written (out ++ L) store)) (written_alike out M L (λ x m. a x (Memᴰ.tail m)) h)
      ∙ sym (view_written w (out ++ L) (a w (Memᴰ.head refl)))

  -- of a run of writes those to some blocks: there the blocks are as if all were there, elsewhere as if none were
  pub some_written : (new : ℕ → Bool) (out L : List Sent) → AllWhole out
      → view (written (those (λ w. new w.block) out ++ L) store) b i ≡ cond (new b) (view (written (out ++ L) store) b i) (view (written L store) b i)
  unfolding those
  some_written new [] L a = none (new b)
    where
      none : (v : Bool) → view (written L store) b i ≡ cond v (view (written L store) b i) (view (written L store) b i)
      none true = refl
      none false = refl
  some_written new (w ∷ out) L a =
      by (new w.block) refl (covers (whole w) b i) refl (some_written new out L (λ x m. a x (Memᴰ.tail m)))
    where
      hw : Whole w
      hw = a w (Memᴰ.head refl)

      -- the write covers the place: all of its block is there or none of it
      by : (v : Bool) → new w.block ≡ v → (c : Bool) → covers (whole w) b i ≡ c
          → view (written (those (λ w. new w.block) out ++ L) store) b i ≡ cond (new b) (view (written (out ++ L) store) b i) (view (written L store) b i)
          → view (written (cond (new w.block) (w ∷ those (λ w. new w.block) out) (those (λ w. new w.block) out) ++ L) store) b i
          ≡ cond (new b) (view (written (w ∷ (out ++ L)) store) b i) (view (written L store) b i)
      by true n true c ih =
          let same : new b ≡ true = ap new (inside_of (whole w) b i c).0 ∙ n in
          rw (n, same)
          (view_written w (those (λ w. new w.block) out ++ L) hw ∙ carry_inside b i (whole w) _ c
          ∙ sym (carry_inside b i (whole w) _ c) ∙ sym (view_written w (out ++ L) hw))
      by false n true c ih =
          let same : new b ≡ false = ap new (inside_of (whole w) b i c).0 ∙ n in
          rw (n, same) (ih ∙ ap (λ (v : Bool). cond v (view (written (out ++ L) store) b i) (view (written L store) b i)) same)
      by v n false c ih =
          let under : view (written (w ∷ (out ++ L)) store) b i ≡ view (written (out ++ L) store) b i =
          view_written w (out ++ L) hw ∙ carry_outside b i (whole w) _ c in
          top v n ∙ ih ∙ ap (λ (x : ℕ). cond (new b) x (view (written L store) b i)) (sym under)
        where
          top : (v : Bool) → new w.block ≡ v
              → view (written (cond (new w.block) (w ∷ those (λ w. new w.block) out) (those (λ w. new w.block) out) ++ L) store) b i
              ≡ view (written (those (λ w. new w.block) out ++ L) store) b i
          top true q = rw q (view_written w (those (λ w. new w.block) out ++ L) hw ∙ carry_outside b i (whole w) _ c)
          top false q = rw q

-- ---- the numbers sent

pub sent_in_both : (n : ℕ) (a b : List Sent) → sent_in n (a ++ b) ≡ (sent_in n a || sent_in n b)
unfolding sent_in
sent_in_both n [] b = refl
sent_in_both n (w ∷ a) b = ap (λ (x : Bool). is_in n w.numbers || x) (sent_in_both n a b) ∙ sym (or_assoc (is_in n w.numbers) (sent_in n a) (sent_in n b))

-- a number is sent to one block, so it is among the writes to some blocks just where its block is one of them
pub sent_in_those : (new : ℕ → Bool) (n d : ℕ) (out : List Sent) → ((w : Sent) → Memᴰ w out → is_in n w.numbers ≡ true → w.block ≡ d)
    → sent_in n (those (λ w. new w.block) out) ≡ (new d && sent_in n out)
unfolding sent_in those
sent_in_those new n d [] h = none (new d)
  where
    none : (v : Bool) → false ≡ (v && false)
    none true = refl
    none false = refl
sent_in_those new n d (w ∷ out) h =
    by (new w.block) refl (is_in n w.numbers) refl (sent_in_those new n d out (λ x m. h x (Memᴰ.tail m)))
  where
    by : (v : Bool) → new w.block ≡ v → (c : Bool) → is_in n w.numbers ≡ c → sent_in n (those (λ w. new w.block) out) ≡ (new d && sent_in n out)
        → sent_in n (cond (new w.block) (w ∷ those (λ w. new w.block) out) (those (λ w. new w.block) out))
        ≡ (new d && (is_in n w.numbers || sent_in n out))
    by true q true c ih = let same : new d ≡ true = sym (ap new (h w (Memᴰ.head refl) c)) ∙ q in rw (q, c, same)
    by false q true c ih = let same : new d ≡ false = sym (ap new (h w (Memᴰ.head refl) c)) ∙ q in rw (q, same) (ih ∙ rw same)
    by true q false c ih = rw (q, c) ih
    by false q false c ih = rw (q, c) ih

-- a write that sent the number
pub sender : (n : ℕ) (ws : List Sent) → sent_in n ws ≡ true → (w : Sent) × Memᴰ w ws × (is_in n w.numbers ≡ true)
unfolding sent_in
sender n [] e = absurd (clash e refl)
sender n (w ∷ ws) e = by (or-true (is_in n w.numbers) (sent_in n ws) e) (λ p. sender n ws p)
  where
    by : (is_in n w.numbers ≡ true) ⊎ (sent_in n ws ≡ true) → (sent_in n ws ≡ true → (x : Sent) × Memᴰ x ws × (is_in n x.numbers ≡ true))
        → (x : Sent) × Memᴰ x (w ∷ ws) × (is_in n x.numbers ≡ true)
    by (inl p) f = (w, Memᴰ.head refl, p)
    by (inr p) f = let s = f p in (s.0, Memᴰ.tail s.1, s.2)

-- those of a list that pass a test are of the list and pass it, and every such one is among them
module _ {A : Type 0} (test : A → Bool) where
  pub of_those : (l : List A) (x : A) → Memᴰ x (those test l) → Memᴰ x l × (test x ≡ true)
  unfolding those
  of_those [] x m = absurd (Memᴰ.not-nil m)
  of_those (a ∷ l) x m = by (test a) refl m (λ k. of_those l x k)
    where
      by : (v : Bool) → test a ≡ v → Memᴰ x (cond v (a ∷ those test l) (those test l))
          → (Memᴰ x (those test l) → Memᴰ x l × (test x ≡ true)) → Memᴰ x (a ∷ l) × (test x ≡ true)
      by true e (Memᴰ.head q) f = (Memᴰ.head q, ap test q ∙ e)
      by true e (Memᴰ.tail k) f = let r = f k in (Memᴰ.tail r.0, r.1)
      by false e k f = let r = f k in (Memᴰ.tail r.0, r.1)

  pub among_those : (l : List A) (x : A) → Memᴰ x l → test x ≡ true → Memᴰ x (those test l)
  unfolding those
  among_those [] x m e = absurd (Memᴰ.not-nil m)
  among_those (a ∷ l) x (Memᴰ.head q) e = by (test a) (ap test (sym q) ∙ e)
    where
      by : (v : Bool) → v ≡ true → Memᴰ x (cond v (a ∷ those test l) (those test l))
      by true t = Memᴰ.head q
      by false t = absurd (clash t refl)
  among_those (a ∷ l) x (Memᴰ.tail m) e = by (test a) (among_those l x m e)
    where
      by : (v : Bool) → Memᴰ x (those test l) → Memᴰ x (cond v (a ∷ those test l) (those test l))
      by true k = Memᴰ.tail k
      by false k = k

-- ---- how often a number was sent

pub not_in_none : (n : ℕ) (l : List ℕ) → is_in n l ≡ false → times_in n l ≡ 0
unfolding is_in times_in
not_in_none n [] e = refl
not_in_none n (m ∷ l) e = go (eqb n m) (is_in n l) e (λ f. not_in_none n l f)
  where
    go : (a b : Bool) → (a || b) ≡ false → (b ≡ false → times_in n l ≡ 0) → cond a 1 0 + times_in n l ≡ 0
    go false b q f = let z = f q in omega arith
    go true b q f = absurd (clash refl q)

pub not_sent_none : (n : ℕ) (ws : List Sent) → sent_in n ws ≡ false → times_sent n ws ≡ 0
unfolding sent_in times_sent
not_sent_none n [] e = refl
not_sent_none n (w ∷ ws) e = go (is_in n w.numbers) refl (sent_in n ws) e (λ f. not_sent_none n ws f)
  where
    go : (a : Bool) → is_in n w.numbers ≡ a → (b : Bool) → (a || b) ≡ false → (b ≡ false → times_sent n ws ≡ 0) → times_in n w.numbers + times_sent n ws ≡ 0
    go false p b q f = let z = f q in omega (arith, not_in_none n w.numbers p)
    go true p b q f = absurd (clash refl q)

pub times_both : (n : ℕ) (a b : List Sent) → times_sent n (a ++ b) ≡ times_sent n a + times_sent n b
unfolding times_sent
times_both n [] b = omega arith
times_both n (w ∷ a) b = omega (arith, times_both n a b)

-- a list of writes parted by a test
pub times_parted : (n : ℕ) (test : Sent → Bool) (ws : List Sent) → times_sent n (those (λ w. not (test w)) ws) + times_sent n (those test ws) ≡ times_sent n ws
unfolding times_sent those
times_parted n test [] = refl
times_parted n test (w ∷ ws) = go (test w) (times_parted n test ws)
  where
    go : (v : Bool) → times_sent n (those (λ w. not (test w)) ws) + times_sent n (those test ws) ≡ times_sent n ws
        → times_sent n (cond (not v) (w ∷ those (λ w. not (test w)) ws) (those (λ w. not (test w)) ws))
        + times_sent n (cond v (w ∷ those test ws) (those test ws)) ≡ times_in n w.numbers + times_sent n ws
    go true ih = omega arith
    go false ih = omega arith
