-- What each exported function of the writer promises: its refusal number, the length that it writes through its pointer and every byte of the lent buffer
-- afterwards, granted and refused alike. It is the writer's outcome for the call (`Records`), as plain numbers.
use Rattle.std.specs.Prelude.{ℕ, ◌≡◌, List}
use Rattle.rules.specs.Calls.{answer_number}
use Rattle.records.specs.Record.{Call}
use Rattle.records.specs.Writer.{record_length, Recording, Records, JointRecords}

-- what such a function leaves; length: 0 where the call is refused
pub record RecordEnd : Type 0 where
  pub refusal : ℕ
  pub length : ℕ
  pub buffer : List ℕ

abbrev pub record_end : Recording → RecordEnd
record_end o = record { refusal = answer_number o.answer; length = record_length o.answer; buffer = o.buffer }

pub record RecordCall (buffer : List ℕ) (c : Call) (e : RecordEnd) : Type 0 where
  pub is : (o : Recording) × Records buffer c o × (e ≡ record_end o)

-- of a joint call, by what its completion answered: the records of the calls that it made, end to end
pub record JointRecordCall (buffer : List ℕ) (x y first : ℕ) (e : RecordEnd) : Type 0 where
  pub is : (o : Recording) × JointRecords buffer x y first o × (e ≡ record_end o)
