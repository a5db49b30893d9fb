-- Numbers in bytes, low byte first, as the library reads and writes them. Assumes nothing.
use Rattle.std.proofs.Common.{ℕ, ◌+◌, ◌<◌, ◌≡◌, sym, ap, ◌∙◌, List, w32, w64, arith, get_or, slice_index}
use Rattle.std.proofs.lemmas.Nat.{shr-shr}
use Rattle.std.specs.Int.{to_le_bytes, from_le_bytes}
use Rattle.spans.specs.Spans.{splice, part}
use Rattle.spans.proofs.Laws.{part_in}
use Rattle.layout.specs.Layout.{number_at, in_bytes}

module _ (bytes : List ℕ) (at : ℕ) where
  byte : (n i : ℕ) → i < n → slice_index (part bytes at n) i ≡ get_or bytes (at + i) 0
  byte n i l = part_in bytes at n i l

  number_4 : number_at bytes at 4 ≡ from_le_bytes w32 (part bytes at 4)
  unfolding number_at
  number_4 = omega (arith, byte 4 0, byte 4 1, byte 4 2, byte 4 3)

  number_8 : number_at bytes at 8 ≡ from_le_bytes w64 (part bytes at 8)
  unfolding number_at
  number_8 = omega (arith, byte 8 0, byte 8 1, byte 8 2, byte 8 3, byte 8 4, byte 8 5, byte 8 6, byte 8 7)

  -- what the library makes of the bytes that stand there
  pub read_4 : {array : List ℕ} {x : ℕ} → x ≡ from_le_bytes w32 array → array ≡ part bytes at 4 → x ≡ number_at bytes at 4
  read_4 e f = e ∙ ap (from_le_bytes w32) f ∙ sym number_4

  pub read_8 : {array : List ℕ} {x : ℕ} → x ≡ from_le_bytes w64 array → array ≡ part bytes at 8 → x ≡ number_at bytes at 8
  read_8 e f = e ∙ ap (from_le_bytes w64) f ∙ sym number_8

pub low_4 : (x : ℕ) → to_le_bytes w32 x ≡ in_bytes 4 x
unfolding in_bytes
low_4 x = rw (shr-shr x 8 8, shr-shr x 16 8)

pub low_8 : (x : ℕ) → to_le_bytes w64 x ≡ in_bytes 8 x
unfolding in_bytes
low_8 x = rw (shr-shr x 8 8, shr-shr x 16 8, shr-shr x 24 8, shr-shr x 32 8, shr-shr x 40 8, shr-shr x 48 8)

-- what is laid, by another name
pub laid_as : (was : List ℕ) (at : ℕ) {now ys zs : List ℕ} → now ≡ splice was at ys → ys ≡ zs → now ≡ splice was at zs
laid_as was at e f = e ∙ ap (λ l. splice was at l) f
