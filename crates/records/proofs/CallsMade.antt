-- The calls that a joint call made: the completion alone where that was refused, and both where it was granted; when they fit, and that the record of the
-- completion is then all that is recorded. Assumes nothing.
use Prim.Native.Nat.{ℕ}
use mathlib.Core.Path.{◌≡◌, refl, sym, subst}
use mathlib.Core.List.{List, [], ◌∷◌, ◌++◌, append-nil}
use lib.ListN.{length}
use Rattle.std.specs.Prelude.{Ok}
use Rattle.spans.specs.Spans.{splice}
use borrow.Author.Tests.{ne_eqb}
use Rattle.rules.proofs.Cases.{as_is, as_well, none_differs, first_alike}
use Rattle.records.specs.Record.{Call, writes, completes, high_first, value_of, record_of, record_bytes, trace_of, Fits, AllFit, In}
use Rattle.records.specs.Inside.{block_bytes}
use Rattle.records.proofs.Recorded.{is_recorded}
use Rattle.records.specs.Writer.{Recording, recording, record_laid, RecordsBytes, Records, calls_made, JointRecords}

pub both_made : (x y first : ℕ) → first ≡ 0 → calls_made first x y ≡ completes x ∷ (writes y ∷ [])
both_made x y first e = rw e

pub one_made : (x y first : ℕ) → (first ≡ 0 → ⊥) → calls_made first x y ≡ completes x ∷ []
one_made x y first d = rw (ne_eqb first 0 d)

pub first_fits : {c : Call} {cs : List Call} → AllFit (c ∷ cs) → Fits c
first_fits (AllFit.and_more f fs) = f

pub others_fit : {c : Call} {cs : List Call} → AllFit (c ∷ cs) → AllFit cs
others_fit (AllFit.and_more f fs) = fs

-- one record alone is a trace of one
trace_one : (c : Call) → trace_of (c ∷ []) ≡ record_of c
unfolding trace_of
trace_one c = append-nil (record_of c)

-- recorded by another name, with the same bytes
alike : {buffer : List ℕ} {Fit Other : Type 0} {bytes others : List ℕ} {o : Recording} → (Fit → Other) → (Other → Fit) → bytes ≡ others
    → RecordsBytes buffer Fit bytes o → RecordsBytes buffer Other others o
alike {buffer} {Fit} {Other} {bytes} {others} {o} there back e p = record {
  first = first_alike (as_is (as_well (λ n f. n (back f)) (λ n f. n (there f)) none_differs)) p.first;
  refusal = p.refusal;
  grant = λ z. subst (λ (ys : List ℕ). o ≡ record_laid buffer ys) e (p.grant z);
}

pub recorded_alone : {buffer : List ℕ} {o : Recording} (x y first : ℕ) → (first ≡ 0 → ⊥) → Records buffer (completes x) o → JointRecords buffer x y first o
recorded_alone {buffer} {o} x y first d p =
    subst (λ (cs : List Call). RecordsBytes buffer (AllFit cs) (trace_of cs) o) (sym (one_made x y first d))
    (alike (λ f. AllFit.and_more f AllFit.none) (λ fs. first_fits {c = completes x} {cs = []} fs) (sym (trace_one (completes x))) p)

-- granted, both must fit
pub both_fit : (x y first : ℕ) → first ≡ 0 → AllFit (calls_made first x y) → In 1 x × In 1 y
both_fit x y first e f =
    let fs = subst AllFit (both_made x y first e) f in
    (first_fits {c = completes x} fs, first_fits {c = writes y} (others_fit fs))

-- and both are recorded where both are laid, one after the other
pub recorded_both : {buffer after : List ℕ} (x y first : ℕ) → first ≡ 0 → length buffer ≡ record_bytes → In 1 x → In 1 y
    → after ≡ splice buffer 0 (block_bytes 4 x ++ block_bytes 3 y)
    → JointRecords buffer x y first (recording (Ok 8) after)
unfolding trace_of record_of value_of high_first
recorded_both {buffer} {after} x y first e s fx fy laid =
    subst (λ (cs : List Call). RecordsBytes buffer (AllFit cs) (trace_of cs) (recording (Ok 8) after)) (sym (both_made x y first e))
    (is_recorded (trace_of (completes x ∷ (writes y ∷ []))) s (AllFit.and_more fx (AllFit.and_more fy AllFit.none)) refl laid)
