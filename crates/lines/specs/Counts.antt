-- Between crates, need not be believed: how many bytes at the start of a buffer. The second part follows from the first; with both the
-- caller's `&buffer[..n]` is proved with no file.
use Rattle.std.specs.Prelude.{ℕ, ◌≤◌, ◌≡◌, List, length, take}

abbrev pub Counts : ℕ → List ℕ → Type 0
Counts n xs = (n ≤ length xs) × (n ≡ length (take n xs))
