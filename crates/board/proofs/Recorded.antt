-- The promises of the functions that record a call, from the writer's own: said once for the five, and once for the joint call's. Assumes nothing.
use Prim.Native.Nat.{ℕ}
use mathlib.Core.Path.{◌≡◌, ap₂}
use mathlib.Core.List.{List}
use Rattle.std.specs.Prelude.{Result}
use Rattle.rules.specs.declared.refusals.Refusal.{Refusal}
use Rattle.rules.specs.Calls.{answer_number}
use Rattle.records.specs.Record.{Call}
use Rattle.records.specs.Writer.{record_length, recording, Records, JointRecords}
use Rattle.board.specs.Records.{RecordCall, JointRecordCall}

module _ (buffer : List ℕ) (c : Call) where
  pub recorded_call : {k n : ℕ} {after : List ℕ} (a : Result ℕ Refusal) → Records buffer c (recording a after) → k ≡ answer_number a
      → n ≡ record_length a → RecordCall buffer c (record { refusal = k; length = n; buffer = after })
  recorded_call {after = after} a p e f = record {
    is = (recording a after, p, ap₂ (λ (k n : ℕ). record { refusal = k; length = n; buffer = after }) e f);
  }

module _ (buffer : List ℕ) (x y first : ℕ) where
  pub joint_recorded_call : {k n : ℕ} {after : List ℕ} (a : Result ℕ Refusal) → JointRecords buffer x y first (recording a after) → k ≡ answer_number a
      → n ≡ record_length a → JointRecordCall buffer x y first (record { refusal = k; length = n; buffer = after })
  joint_recorded_call {after = after} a p e f = record {
    is = (recording a after, p, ap₂ (λ (k n : ℕ). record { refusal = k; length = n; buffer = after }) e f);
  }
