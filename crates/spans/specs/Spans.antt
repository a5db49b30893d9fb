-- Bytes laid over bytes, and a part of bytes. Both are there for every place and length, so no law about them asks that something fits.
use Rattle.std.specs.Prelude.{List, [], ◌∷◌, ℕ, zero, suc, take, drop}

-- xs with ys laid over it from place `at`; what would fall past the end of xs is dropped
unfoldable pub splice : List ℕ → ℕ → List ℕ → List ℕ
splice [] at ys = []
splice (x ∷ xs) (suc at) ys = x ∷ splice xs at ys
splice (x ∷ xs) zero [] = x ∷ xs
splice (x ∷ xs) zero (y ∷ ys) = y ∷ splice xs zero ys

-- the n bytes of xs from place `at`, as far as xs goes
abbrev pub part : List ℕ → ℕ → ℕ → List ℕ
part xs at n = take n (drop at xs)
