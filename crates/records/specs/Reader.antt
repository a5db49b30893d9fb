-- Between crates, need not be believed: what the reader finds at the start of lent bytes (a record, none yet, or what no record begins with), worked out
-- from the bytes. RoundTrip.antt says what its answers mean.
use Rattle.std.specs.Prelude.{ℕ, zero, suc, ◌+◌, ◌-◌, ◌*◌, ◌/◌, min, eqb, ltb, leb, Bool, false, cond, not, ◌&&◌}
use Rattle.std.specs.Prelude.{List, [], ◌∷◌, ◌++◌, length, get_or, replicate}
use Rattle.spans.specs.Spans.{part}
use Rattle.rules.specs.Create.{change_of}
use Rattle.records.specs.declared.types.Found.{Found}
use Rattle.records.specs.declared.types.Found.TheVariants as found
use Rattle.records.specs.declared.types.Next.{Next}
use Rattle.records.specs.declared.types.Next.TheVariants as next
use Rattle.records.specs.Record.{Call, opens, creates, writes, completes, cuts, most_value, head_bytes}

-- the number in the k bytes from place `at`, high byte first
unfoldable pub number_at : List ℕ → ℕ → ℕ → ℕ
number_at bytes at zero = 0
number_at bytes at (suc k) = number_at bytes at k * 256 + get_or bytes (at + k) 0

-- n numbers of 4 bytes each, from place `at`
unfoldable pub numbers_at : List ℕ → ℕ → ℕ → List ℕ
numbers_at bytes at zero = []
numbers_at bytes at (suc n) = number_at bytes at 4 ∷ numbers_at bytes (at + 4) n

-- a value of n bytes may have the tag's form: open 4 bytes, create 4 to 1,200, write and complete 1, cut 8; no other tag is known
unfoldable pub formed : ℕ → ℕ → Bool
formed tag n =
    cond (eqb tag 1) (eqb n 4)
    (cond (eqb tag 2) (leb 4 n && leb n most_value)
    (cond (eqb tag 3) (eqb n 1)
    (cond (eqb tag 4) (eqb n 1)
    (cond (eqb tag 5) (eqb n 8) false))))

-- where a create's numbers start, and where its data does after n numbers
abbrev pub numbers_start : ℕ
numbers_start = 7

abbrev pub data_start : ℕ → ℕ
data_start n = numbers_start + 4 * n

-- a create of n bytes, all there: its numbers have to end with it
unfoldable pub create_in : List ℕ → ℕ → Next
create_in bytes n =
    let names = number_at bytes 6 1 in
    cond (ltb n (4 + 4 * names)) next.Bad
    (next.Record (found.Create (record { block = number_at bytes 3 1; offset = number_at bytes 4 2; names = names; bytes = n - (4 + 4 * names) })))

-- a value that is all there
unfoldable pub value_in : List ℕ → ℕ → ℕ → Next
value_in bytes tag n =
    cond (eqb tag 1) (next.Record (found.Open (number_at bytes 3 4)))
    (cond (eqb tag 2) (create_in bytes n)
    (cond (eqb tag 3) (next.Record (found.Write (number_at bytes 3 1)))
    (cond (eqb tag 4) (next.Record (found.Complete (number_at bytes 3 1)))
    (next.Record (found.Cut (number_at bytes 3 8))))))

-- the head is 3 bytes; with it the form is judged, and how many bytes are still to come is known
unfoldable pub next_in : List ℕ → Next
next_in bytes =
    let tag = number_at bytes 0 1 in
    let n = number_at bytes 1 2 in
    cond (ltb (length bytes) head_bytes) (next.NoneYet (head_bytes - length bytes))
    (cond (not (formed tag n)) next.Bad
    (cond (ltb (length bytes) (head_bytes + n)) (next.NoneYet (head_bytes + n - length bytes))
    (value_in bytes tag n)))

-- the bytes as one record: what goes on behind it is bad
unfoldable pub only_in : List ℕ → Next
only_in bytes = cond (ltb (head_bytes + number_at bytes 1 2) (length bytes)) next.Bad (next_in bytes)

-- the first n numbers of a create, as many as are there and as a record can have, with zeros up to as many as it can
abbrev pub most_numbers : ℕ
most_numbers = 255

unfoldable pub numbers_in : List ℕ → ℕ → List ℕ
numbers_in bytes n =
    let m = min (min n most_numbers) ((length bytes - numbers_start) / 4) in
    numbers_at bytes numbers_start m ++ replicate (most_numbers - m) 0

-- the call that was found, with its numbers and its data as the bytes have them
unfoldable pub call_in : List ℕ → Found → Call
call_in bytes (found.Open n) = opens n
call_in bytes (found.Create h) =
    creates (change_of h.block h.offset (part bytes (data_start h.names) h.bytes) (numbers_at bytes numbers_start h.names))
call_in bytes (found.Write b) = writes b
call_in bytes (found.Complete b) = completes b
call_in bytes (found.Cut s) = cuts s
