-- Document 02, request c: the calls that a trace has, the bytes of a call's record, and when a call fits one.
use Rattle.std.specs.Prelude.{ℕ, zero, suc, ◌+◌, ◌*◌, ◌/◌, ◌%◌, ◌^◌, ◌≤◌, ◌<◌, List, [], ◌∷◌, ◌++◌, length, get_or}
use Rattle.rules.specs.Create.{Change}

-- a record is a call, or says that the supply was cut; bit b of `landed` is set when block b's write in flight landed
pub data Call : Type 0 where
  opens : (first : ℕ) → Call
  creates : Change → Call
  writes : (block : ℕ) → Call
  completes : (block : ℕ) → Call
  cuts : (landed : ℕ) → Call

-- the k bytes of the number x, high byte first
unfoldable pub high_first : ℕ → ℕ → List ℕ
high_first zero x = []
high_first (suc k) x = high_first k (x / 256) ++ (x % 256 ∷ [])

-- numbers, 4 bytes each
unfoldable pub four_each : List ℕ → List ℕ
four_each [] = []
four_each (n ∷ ns) = high_first 4 n ++ four_each ns

-- tag, one byte
abbrev pub tag_of : Call → ℕ
tag_of (opens n) = 1
tag_of (creates c) = 2
tag_of (writes b) = 3
tag_of (completes b) = 4
tag_of (cuts s) = 5

-- the value of a record: of a create block 1, offset 2, how many numbers 1, the numbers 4 each, then the data
unfoldable pub value_of : Call → List ℕ
value_of (opens n) = high_first 4 n
value_of (creates c) = high_first 1 c.block ++ (high_first 2 c.offset ++ (high_first 1 (length c.named) ++ (four_each c.named ++ c.bytes)))
value_of (writes b) = high_first 1 b
value_of (completes b) = high_first 1 b
value_of (cuts s) = high_first 8 s

-- the record: tag, length of the value in two bytes, value
unfoldable pub record_of : Call → List ℕ
record_of c = tag_of c ∷ (high_first 2 (length (value_of c)) ++ value_of c)

-- a value is at most 1,200 bytes, so a record at most 1,203
abbrev pub most_value : ℕ
most_value = 1200

abbrev pub head_bytes : ℕ
head_bytes = 3

abbrev pub record_bytes : ℕ
record_bytes = 1203

-- a number that k bytes hold; and numbers that all do
abbrev pub In : ℕ → ℕ → Type 0
In k x = x < 256 ^ k

abbrev pub AllIn : ℕ → List ℕ → Type 0
AllIn k ns = (i : ℕ) → i < length ns → In k (get_or ns i 0)

-- a create's block, offset and number of numbers go into their places, and its value is short enough
pub record SizesFit (c : Change) : Type 0 where
  pub block : In 1 c.block
  pub offset : In 2 c.offset
  pub many : In 1 (length c.named)
  pub value : 4 + 4 * length c.named + length c.bytes ≤ most_value

-- so do its numbers, 4 bytes each, and its data, which are bytes
pub record CreateFits (c : Change) : Type 0 where
  pub sizes : SizesFit c
  pub named : AllIn 4 c.named
  pub bytes : AllIn 1 c.bytes

-- a call fits a record
abbrev pub Fits : Call → Type 0
Fits (opens n) = In 4 n
Fits (creates c) = CreateFits c
Fits (writes b) = In 1 b
Fits (completes b) = In 1 b
Fits (cuts s) = In 8 s

-- the records of calls end to end: a trace
unfoldable pub trace_of : List Call → List ℕ
trace_of [] = []
trace_of (c ∷ cs) = record_of c ++ trace_of cs

-- every call fits
pub data AllFit : List Call → Type 0 where
  none : AllFit []
  and_more : {c : Call} {cs : List Call} → Fits c → AllFit cs → AllFit (c ∷ cs)
