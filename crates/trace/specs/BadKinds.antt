-- Document 02, request c: its list of what is bad, in its order, each as a theorem about Printed.antt. Wherever the run is and whatever comes after, the
-- line is place, "bad", 16, and nothing follows it.
use Rattle.std.specs.Prelude.{ℕ, ◌+◌, ◌*◌, ◌<◌, ◌≡◌, false, List, [], ◌∷◌, ◌++◌, ◌⊎◌}
use Rattle.records.specs.Record.{Call, opens, record_of, most_value, Fits}
use Rattle.lines.specs.Line.{text_of}
use Rattle.trace.specs.declared.types.Phase.TheVariants as phase
use Rattle.trace.specs.Run.{Run, is_open, after_bad}
use Rattle.trace.specs.Printed.{Prints}

-- the input is bad from here on
abbrev pub Bad : Run → List ℕ → Type 0
Bad r input = Prints r input (text_of (after_bad r).line)

-- a head: the tag, and the length of the value, high byte first
abbrev pub head : ℕ → ℕ → ℕ → List ℕ → List ℕ
head tag high low rest = tag ∷ high ∷ low ∷ rest

abbrev pub long : ℕ → ℕ → ℕ
long high low = 256 * high + low

pub record BadKinds (r : Run) : Type 0 where
  -- an empty input
  pub empty : r.phase ≡ phase.Unopened → Bad r []
  -- an unknown tag
  pub unknown_tag : (tag : ℕ) (rest : List ℕ) → (tag ≡ 0) ⊎ (5 < tag) → Bad r (tag ∷ rest)
  -- a value above 1,200 bytes
  pub too_long : (tag high low : ℕ) (rest : List ℕ) → most_value < long high low → Bad r (head tag high low rest)
  -- or not of its tag's form: open 4 bytes, write and complete 1, cut 8
  pub open_form : (high low : ℕ) (rest : List ℕ) → (long high low ≡ 4 → ⊥) → Bad r (head 1 high low rest)
  pub write_form : (high low : ℕ) (rest : List ℕ) → (long high low ≡ 1 → ⊥) → Bad r (head 3 high low rest)
  pub complete_form : (high low : ℕ) (rest : List ℕ) → (long high low ≡ 1 → ⊥) → Bad r (head 4 high low rest)
  pub cut_form : (high low : ℕ) (rest : List ℕ) → (long high low ≡ 8 → ⊥) → Bad r (head 5 high low rest)
  -- a create shorter than block, offset and how many numbers, or than its numbers need
  pub create_short : (high low : ℕ) (rest : List ℕ) → long high low < 4 → Bad r (head 2 high low rest)
  pub create_numbers : (high low block high' low' many : ℕ) (rest : List ℕ) → long high low < 4 + 4 * many
      → Bad r (head 2 high low (block ∷ high' ∷ low' ∷ many ∷ rest))
  -- a record that ends early
  pub ends_early : (c : Call) → Fits c → (b more : ℕ) (front rest : List ℕ) → record_of c ≡ (b ∷ front) ++ (more ∷ rest) → Bad r (b ∷ front)
  -- open missing first or given again, or a record after cut
  pub open_missing : r.phase ≡ phase.Unopened → (c : Call) → Fits c → is_open c ≡ false → (rest : List ℕ) → Bad r (record_of c ++ rest)
  pub open_again : r.phase ≡ phase.Opened → (n : ℕ) → Fits (opens n) → (rest : List ℕ) → Bad r (record_of (opens n) ++ rest)
  pub after-cut : r.phase ≡ phase.Over → (b : ℕ) (rest : List ℕ) → Bad r (b ∷ rest)
