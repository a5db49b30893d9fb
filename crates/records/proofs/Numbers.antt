-- Numbers in bytes, high byte first, as the library reads and writes them. Assumes nothing.
use Rattle.std.proofs.Common.{ℕ, ◌+◌, ◌*◌, ◌<◌, ◌≡◌, refl, sym, ap, ◌∙◌, List, [], ◌∷◌, ◌%◌, length, w16, w32, w64, arith, get_or, slice_index, add-zero}
use Rattle.std.proofs.lemmas.Nat.{shr-shr}
use Rattle.std.specs.Int.{to_be_bytes, from_be_bytes}
use Rattle.spans.specs.Spans.{splice, part}
use Rattle.spans.proofs.Laws.{part_in}
use Rattle.records.specs.Record.{high_first}
use Rattle.records.specs.Reader.{number_at}

-- ---- reading

module _ (bytes : List ℕ) (at : ℕ) where
  byte : (n i : ℕ) → i < n → slice_index (part bytes at n) i ≡ get_or bytes (at + i) 0
  byte n i l = part_in bytes at n i l

  pub number_1 : number_at bytes at 1 ≡ get_or bytes at 0
  unfolding number_at
  number_1 = rw add-zero (omega arith)

  pub number_2 : number_at bytes at 2 ≡ from_be_bytes w16 (part bytes at 2)
  unfolding number_at
  number_2 = omega (arith, byte 2 0, byte 2 1)

  pub number_4 : number_at bytes at 4 ≡ from_be_bytes w32 (part bytes at 4)
  unfolding number_at
  number_4 = omega (arith, byte 4 0, byte 4 1, byte 4 2, byte 4 3)

  pub number_8 : number_at bytes at 8 ≡ from_be_bytes w64 (part bytes at 8)
  unfolding number_at
  number_8 = omega (arith, byte 8 0, byte 8 1, byte 8 2, byte 8 3, byte 8 4, byte 8 5, byte 8 6, byte 8 7)

-- the length that a head has
pub size_read : (w : List ℕ) → get_or w 1 0 * 256 + get_or w 2 0 ≡ number_at w 1 2
unfolding number_at
size_read w = omega arith

-- what the library makes of the bytes that stand there
pub read_2 : (w : List ℕ) (at : ℕ) {array : List ℕ} {x : ℕ} → x ≡ from_be_bytes w16 array → array ≡ part w at 2 → x ≡ number_at w at 2
read_2 w at {array} {x} e f = e ∙ ap (from_be_bytes w16) f ∙ sym (number_2 w at)

pub read_4 : (w : List ℕ) (at : ℕ) {array : List ℕ} {x : ℕ} → x ≡ from_be_bytes w32 array → array ≡ part w at 4 → x ≡ number_at w at 4
read_4 w at {array} {x} e f = e ∙ ap (from_be_bytes w32) f ∙ sym (number_4 w at)

pub read_8 : (w : List ℕ) (at : ℕ) {array : List ℕ} {x : ℕ} → x ≡ from_be_bytes w64 array → array ≡ part w at 8 → x ≡ number_at w at 8
read_8 w at {array} {x} e f = e ∙ ap (from_be_bytes w64) f ∙ sym (number_8 w at)

-- ---- writing

-- a byte is itself
pub high_1 : (x : ℕ) → x < 256 → x ∷ [] ≡ high_first 1 x
unfolding high_first
high_1 x l = let e : x % 256 ≡ x = omega arith in rw e

pub high_2 : (x : ℕ) → to_be_bytes w16 x ≡ high_first 2 x
unfolding high_first
high_2 x = refl

pub high_4 : (x : ℕ) → to_be_bytes w32 x ≡ high_first 4 x
unfolding high_first
high_4 x = rw (shr-shr x 8 8, shr-shr x 16 8)

pub high_8 : (x : ℕ) → to_be_bytes w64 x ≡ high_first 8 x
unfolding high_first
high_8 x = rw (shr-shr x 8 8, shr-shr x 16 8, shr-shr x 24 8, shr-shr x 32 8, shr-shr x 40 8, shr-shr x 48 8)

-- what is laid, by another name
pub laid_as : (was : List ℕ) (at : ℕ) {now ys zs : List ℕ} → now ≡ splice was at ys → ys ≡ zs → now ≡ splice was at zs
laid_as was at e f = e ∙ ap (λ l. splice was at l) f

pub length_1 : (x : ℕ) → 1 ≡ length (high_first 1 x)
unfolding high_first
length_1 x = refl

pub length_2 : (x : ℕ) → 2 ≡ length (high_first 2 x)
unfolding high_first
length_2 x = refl

pub length_4 : (x : ℕ) → 4 ≡ length (high_first 4 x)
unfolding high_first
length_4 x = refl
