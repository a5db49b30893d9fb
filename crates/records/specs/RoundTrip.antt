-- What is shown of writer and reader together, and what each answer of the reader means: the statements; proofs/RoundTrip.antt proves them.
use Rattle.std.specs.Prelude.{ℕ, ◌+◌, ◌≤◌, ◌<◌, ◌≡◌, List, [], ◌∷◌, ◌++◌, length, drop}
use Rattle.records.specs.declared.types.Found.{Found}
use Rattle.records.specs.declared.types.Next.TheVariants as next
use Rattle.records.specs.Record.{Call, record_of, trace_of, record_bytes, head_bytes, AllIn, Fits, AllFit}
use Rattle.records.specs.Reader.{number_at, next_in, call_in}

-- the reader takes the bytes as these calls, record after record, to their end; how long a record is, its head says
pub data Taken : List ℕ → List Call → Type 0 where
  none : Taken [] []
  and_more : {w : List ℕ} {f : Found} {cs : List Call} → next_in w ≡ next.Record f
      → Taken (drop (head_bytes + number_at w 1 2) w) cs → Taken w (call_in w f ∷ cs)

pub record RoundTrip : Type 0 where
  -- reading back what was written gives the same calls, for every list of calls that the writer takes
  pub read_back : (cs : List Call) → AllFit cs → Taken (trace_of cs) cs
  -- and no others
  pub read_one : (w : List ℕ) (cs ds : List Call) → Taken w cs → Taken w ds → cs ≡ ds
  -- what the reader takes, the writer writes again byte for byte
  pub written_again : (w : List ℕ) → AllIn 1 w → (cs : List Call) → Taken w cs → AllFit cs × (trace_of cs ≡ w)

-- the bytes begin with the record of a call that fits
pub record Begins (w : List ℕ) (c : Call) : Type 0 where
  pub fits : Fits c
  pub rest : List ℕ
  pub bytes : w ≡ record_of c ++ rest

-- what the reader's answers mean
pub record ReaderMeans (w : List ℕ) : Type 0 where
  -- a record: the bytes begin with it
  pub record_is : AllIn 1 w → (f : Found) → next_in w ≡ next.Record f → Begins w (call_in w f)
  -- none yet: no record is there while fewer than k bytes more have come, and as many find room behind these in 1,203 bytes
  pub none_yet : (k : ℕ) → next_in w ≡ next.NoneYet k → (1 ≤ k) × (length w + k ≤ record_bytes)
      × ((more : List ℕ) → length more < k → (c : Call) → Begins (w ++ more) c → ⊥)
  -- bad: whatever comes after, no record begins here
  pub bad : next_in w ≡ next.Bad → (more : List ℕ) (c : Call) → Begins (w ++ more) c → ⊥
