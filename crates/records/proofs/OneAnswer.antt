-- ONE ANSWER: any two outcomes that the writer's promise admits are equal; and the length that it answers is at most 1,203. Assumes nothing.
use Prim.Native.Nat.{ℕ, ◌≤◌}
use mathlib.Core.Path.{◌≡◌, sym, subst, ◌∙◌}
use mathlib.Core.Bool.{Bool, true, false, cond}
use mathlib.Core.List.{List, [], ◌∷◌}
use lib.Dec.{eqb}
use native.Mathlib.Decide.{ℕ_discrete, dec_le}
use native.Mathlib.Omega.{arith}
use lib.ListN.{length}
use Rattle.rules.specs.Refusals.{First}
use Rattle.rules.specs.Calls.{answer_number}
use Rattle.rules.proofs.Cases.{passed}
use Rattle.rules.proofs.Outcomes.{outcome_one}
use Rattle.records.specs.Record.{Call, writes, completes, high_first, value_of, record_of, record_bytes, Fits, AllFit, trace_of}
use Rattle.records.specs.Writer.{Recording, record_length, cases_of, RecordsBytes, Records, calls_made, JointRecords}
use Rattle.records.proofs.Reading.{length_record}
use Rattle.records.proofs.ReadBack.{length_short}

-- whatever is recorded
pub bytes_one : (buffer : List ℕ) (Fit : Type 0) (bytes : List ℕ) (o p : Recording) → RecordsBytes buffer Fit bytes o → RecordsBytes buffer Fit bytes p → o ≡ p
bytes_one buffer Fit bytes = outcome_one (λ f o p a b. a ∙ sym b)

pub record_one : (buffer : List ℕ) (c : Call) (o p : Recording) → Records buffer c o → Records buffer c p → o ≡ p
record_one buffer c = bytes_one buffer (Fits c) (record_of c)

pub joint_record_one : (buffer : List ℕ) (x y first : ℕ) (o p : Recording) → JointRecords buffer x y first o → JointRecords buffer x y first p → o ≡ p
joint_record_one buffer x y first = bytes_one buffer (AllFit (calls_made first x y)) (trace_of (calls_made first x y))

-- the length that is answered is at most 1,203, where what fits is so short
bytes_short : (buffer : List ℕ) (Fit : Type 0) (bytes : List ℕ) → (Fit → length bytes ≤ record_bytes)
    → (o : Recording) → RecordsBytes buffer Fit bytes o → record_length o.answer ≤ record_bytes
bytes_short buffer Fit bytes all o p = elim (ℕ_discrete (answer_number o.answer) 0) [
  | yes z ↦ subst short (sym (p.grant z)) (granted_short (subst (First (cases_of buffer Fit)) z p.first))
  | no d ↦ subst short (sym (p.refusal d).2) (omega arith)
]
  where
    short : Recording → Type 0
    short x = record_length x.answer ≤ record_bytes

    -- what is granted does not fail to fit
    granted_short : First (cases_of buffer Fit) 0 → length bytes ≤ record_bytes
    granted_short f =
        let fits = (passed (λ e. omega arith) (passed (λ e. omega arith) f).1).0 in
        elim (dec_le (length bytes) record_bytes) [
          | yes l ↦ l
          | no d ↦ absurd (fits (λ (g : Fit). d (all g)))
        ]

pub record_short : (buffer : List ℕ) (c : Call) (o : Recording) → Records buffer c o → record_length o.answer ≤ record_bytes
record_short buffer c = bytes_short buffer (Fits c) (record_of c) (λ g. omega (arith, length_record c, length_short c g))

-- two records that have a block are 8 bytes
joint_long : (x y first : ℕ) → length (trace_of (calls_made first x y)) ≤ record_bytes
unfolding trace_of record_of value_of high_first
joint_long x y first = by (eqb first 0)
  where
    by : (b : Bool) → length (trace_of (completes x ∷ cond b (writes y ∷ []) [])) ≤ record_bytes
    by true = omega arith
    by false = omega arith

pub joint_record_short : (buffer : List ℕ) (x y first : ℕ) (o : Recording) → JointRecords buffer x y first o → record_length o.answer ≤ record_bytes
joint_record_short buffer x y first =
    bytes_short buffer (AllFit (calls_made first x y)) (trace_of (calls_made first x y)) (λ g. joint_long x y first)
