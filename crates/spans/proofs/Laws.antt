-- Laws of splice and part: lengths, the byte at a place, wholes, what is laid in steps, and a part of a part. Every proof about an image,
-- an undo room, a block, a table in bytes or a line leans on these. A law asks that something fits only where it does not hold otherwise.
-- Assumes nothing.
use Prim.Native.Nat.{ℕ, zero, suc, ◌+◌, ◌-◌, ◌≤◌, ◌<◌, min}
use mathlib.Core.Path.{◌≡◌, refl, sym, ap, ◌∙◌}
use mathlib.Core.List.{List, [], ◌∷◌, ◌++◌}
use native.Mathlib.Nat.{suc-add, zero-add, sub-zero, suc-sub-suc}
use native.Mathlib.Omega.{arith}
use lib.ListN.{length, get_or, set, take, length-take, length-drop}
use borrow.Rule.Slice.PartMut.{put_mid}
use lib.Seq.{take-nil, take-length, get_or-take, get_or-drop}
use Rattle.spans.specs.Spans.{splice, part}

-- ---- bytes laid over bytes

pub length_splice : (xs : List ℕ) (at : ℕ) (ys : List ℕ) → length (splice xs at ys) ≡ length xs
unfolding splice
length_splice [] at ys = refl
length_splice (x ∷ xs) (suc at) ys = ap suc (length_splice xs at ys)
length_splice (x ∷ xs) zero [] = refl
length_splice (x ∷ xs) zero (y ∷ ys) = ap suc (length_splice xs zero ys)

-- the byte at a place in, below and above what is laid
pub splice_in : (xs : List ℕ) (at : ℕ) (ys : List ℕ) (i : ℕ) → at ≤ i → i < at + length ys → i < length xs
    → get_or (splice xs at ys) i 0 ≡ get_or ys (i - at) 0
unfolding splice
splice_in [] at ys i l h k = absurd (omega arith)
splice_in (x ∷ xs) (suc at) ys zero l h k = absurd (omega arith)
splice_in (x ∷ xs) (suc at) ys (suc i) l h k = rw suc-sub-suc (splice_in xs at ys i (omega arith) (omega arith) (omega arith))
splice_in (x ∷ xs) zero [] i l h k = absurd (omega arith)
splice_in (x ∷ xs) zero (y ∷ ys) zero l h k = refl
splice_in (x ∷ xs) zero (y ∷ ys) (suc i) l h k = rw (sub-zero (suc i)) (rw (sub-zero i) at (splice_in xs zero ys i (omega arith) (omega arith) (omega arith)))

pub splice_below : (xs : List ℕ) (at : ℕ) (ys : List ℕ) (i : ℕ) → i < at → get_or (splice xs at ys) i 0 ≡ get_or xs i 0
unfolding splice
splice_below [] at ys i l = refl
splice_below (x ∷ xs) zero ys i l = absurd (omega arith)
splice_below (x ∷ xs) (suc at) ys zero l = refl
splice_below (x ∷ xs) (suc at) ys (suc i) l = splice_below xs at ys i (omega arith)

pub splice_above : (xs : List ℕ) (at : ℕ) (ys : List ℕ) (i : ℕ) → at + length ys ≤ i → get_or (splice xs at ys) i 0 ≡ get_or xs i 0
unfolding splice
splice_above [] at ys i l = refl
splice_above (x ∷ xs) (suc at) ys zero l = absurd (omega arith)
splice_above (x ∷ xs) (suc at) ys (suc i) l = splice_above xs at ys i (omega arith)
splice_above (x ∷ xs) zero [] i l = refl
splice_above (x ∷ xs) zero (y ∷ ys) zero l = absurd (omega arith)
splice_above (x ∷ xs) zero (y ∷ ys) (suc i) l = splice_above xs zero ys i (omega arith)

pub splice_none : (xs : List ℕ) (at : ℕ) → splice xs at [] ≡ xs
unfolding splice
splice_none [] at = refl
splice_none (x ∷ xs) (suc at) = ap (λ (r : List ℕ). x ∷ r) (splice_none xs at)
splice_none (x ∷ xs) zero = refl

pub splice_whole : (xs ys : List ℕ) → length ys ≡ length xs → splice xs 0 ys ≡ ys
unfolding splice
splice_whole [] [] e = refl
splice_whole [] (y ∷ ys) e = absurd (omega arith)
splice_whole (x ∷ xs) [] e = absurd (omega arith)
splice_whole (x ∷ xs) (y ∷ ys) e = ap (λ (r : List ℕ). y ∷ r) (splice_whole xs ys (omega arith))

-- one byte more laid after the first j
pub splice_more : (xs : List ℕ) (at : ℕ) (ys : List ℕ) (j : ℕ) → j < length ys
    → set (splice xs at (take j ys)) (at + j) (get_or ys j 0) ≡ splice xs at (take (suc j) ys)
unfolding splice
splice_more [] at ys j l = refl
splice_more (x ∷ xs) (suc at) ys j l = rw (suc-add at j) (ap (λ (r : List ℕ). x ∷ r) (splice_more xs at ys j l))
splice_more (x ∷ xs) zero [] j l = absurd (omega arith)
splice_more (x ∷ xs) zero (y ∷ ys) zero l = ap (λ (r : List ℕ). y ∷ r) (sym (splice_none xs zero))
splice_more (x ∷ xs) zero (y ∷ ys) (suc j) l =
    rw (zero-add (suc j)) (ap (λ (r : List ℕ). y ∷ r) (rw (zero-add j) at (splice_more xs zero ys j (omega arith))))

-- a part of xs written anew is ys laid over it
pub splice_part : (xs : List ℕ) (at k : ℕ) (ys : List ℕ) → k ≡ length ys → at + k ≤ length xs → put_mid at k xs ys ≡ splice xs at ys
unfolding splice
splice_part [] zero zero [] e l = refl
splice_part [] zero zero (y ∷ ys) e l = absurd (omega arith)
splice_part [] zero (suc k) ys e l = absurd (omega arith)
splice_part [] (suc at) k ys e l = absurd (omega arith)
splice_part (x ∷ xs) (suc at) k ys e l = ap (λ (r : List ℕ). x ∷ r) (splice_part xs at k ys e (omega arith))
splice_part (x ∷ xs) zero zero [] e l = refl
splice_part (x ∷ xs) zero zero (y ∷ ys) e l = absurd (omega arith)
splice_part (x ∷ xs) zero (suc k) [] e l = absurd (omega arith)
splice_part (x ∷ xs) zero (suc k) (y ∷ ys) e l = ap (λ (r : List ℕ). y ∷ r) (splice_part xs zero k ys (omega arith) (omega arith))

-- of n bytes those that are there and that find room are as good as all n
pub splice_fitting : (xs : List ℕ) (at : ℕ) (ys : List ℕ) (m n : ℕ) → m ≡ min (min n (length ys)) (length xs - at)
    → splice xs at (take m ys) ≡ splice xs at (take n ys)
unfolding splice
splice_fitting [] at ys m n e = refl
splice_fitting (x ∷ xs) (suc at) ys m n e = ap (λ (r : List ℕ). x ∷ r) (splice_fitting xs at ys m n (omega arith))
splice_fitting (x ∷ xs) zero [] m n e = rw (take-nil m, take-nil n)
splice_fitting (x ∷ xs) zero (y ∷ ys) zero zero e = refl
splice_fitting (x ∷ xs) zero (y ∷ ys) zero (suc n) e = absurd (omega arith)
splice_fitting (x ∷ xs) zero (y ∷ ys) (suc m) zero e = absurd (omega arith)
splice_fitting (x ∷ xs) zero (y ∷ ys) (suc m) (suc n) e = ap (λ (r : List ℕ). y ∷ r) (splice_fitting xs zero ys m n (omega arith))

-- ---- bytes laid in steps

-- what is laid right after ys is laid with them, as one list
pub splice_on : (xs : List ℕ) (at : ℕ) (ys zs : List ℕ) → splice (splice xs at ys) (at + length ys) zs ≡ splice xs at (ys ++ zs)
unfolding splice
splice_on [] at ys zs = refl
splice_on (x ∷ xs) (suc at) ys zs = rw (suc-add at (length ys)) (ap (λ (r : List ℕ). x ∷ r) (splice_on xs at ys zs))
splice_on (x ∷ xs) zero [] zs = refl
splice_on (x ∷ xs) zero (y ∷ ys) zs = rw (zero-add (suc (length ys))) (ap (λ (r : List ℕ). y ∷ r) (rw (zero-add (length ys)) at (splice_on xs zero ys zs)))

-- one byte stored is one byte laid
pub set_one : (xs : List ℕ) (at y : ℕ) → set xs at y ≡ splice xs at (y ∷ [])
unfolding splice
set_one [] at y = refl
set_one (x ∷ xs) (suc at) y = ap (λ (r : List ℕ). x ∷ r) (set_one xs at y)
set_one (x ∷ xs) zero y = ap (λ (r : List ℕ). y ∷ r) (sym (splice_none xs zero))

-- ys are laid over the bytes from place `at`
pub record Over (was : List ℕ) (at : ℕ) (ys now : List ℕ) : Type 0 where
  pub is : now ≡ splice was at ys

-- k bytes are laid, and zs right after them
pub laid : {was then now ys : List ℕ} {at : ℕ} (k : ℕ) (zs : List ℕ) → Over was at ys then → now ≡ splice then (at + k) zs → k ≡ length ys
    → Over was at (ys ++ zs) now
laid {was} {then} {now} {ys} {at} k zs o q e = record { is = q ∙ rw (o.is, e) (splice_on was at ys zs) }

-- ---- a part of bytes

pub length_part : (xs : List ℕ) (at n : ℕ) → at + n ≤ length xs → length (part xs at n) ≡ n
length_part xs at n l = simp (length-take, length-drop) (omega arith)

pub part_in : (xs : List ℕ) (at n i : ℕ) → i < n → get_or (part xs at n) i 0 ≡ get_or xs (at + i) 0
part_in xs at n i l = rw (get_or-take, get_or-drop)

pub part_whole : (xs : List ℕ) → part xs 0 (length xs) ≡ xs
part_whole xs = take-length xs
