-- What a function of the writer comes to: refused by the buffer's size, refused as the call does not fit, or its record laid. Assumes nothing.
use Prim.Native.Nat.{ℕ}
use mathlib.Core.Path.{◌≡◌, refl}
use mathlib.Core.List.{List}
use lib.ListN.{length}
use Rattle.spans.specs.Spans.{splice}
use Rattle.rules.specs.Refusals.{WrongSize}
use Rattle.rules.proofs.Cases.{holds, passes, none_holds}
use Rattle.rules.proofs.Outcomes.{refuses, grants}
use Rattle.rules.specs.declared.refusals.Refusal.TheVariants as refusal
use Rattle.std.specs.Prelude.{Ok}
use Rattle.records.specs.Record.{record_bytes}
use Rattle.records.specs.Writer.{recording, record_refused, RecordsBytes}

module _ (bytes : List ℕ) {Fit : Type 0} {buffer : List ℕ} where
  pub wrong_size : WrongSize record_bytes buffer → RecordsBytes buffer Fit bytes (record_refused buffer refusal.BufferSize)
  wrong_size d = refuses refusal.BufferSize (holds d) refl

  pub no_fit : length buffer ≡ record_bytes → (Fit → ⊥) → RecordsBytes buffer Fit bytes (record_refused buffer refusal.NoRecord)
  no_fit s d = refuses refusal.NoRecord (passes (λ w. w s) (holds d)) refl

  pub is_recorded : length buffer ≡ record_bytes → Fit → {n : ℕ} {after : List ℕ} → n ≡ length bytes → after ≡ splice buffer 0 bytes
      → RecordsBytes buffer Fit bytes (recording (Ok n) after)
  is_recorded s f {n} {after} e q = grants _ (passes (λ w. w s) (passes (λ d. d f) none_holds)) refl (whole e q)
    where
      whole : {n m : ℕ} {xs ys : List ℕ} → n ≡ m → xs ≡ ys → recording (Ok n) xs ≡ recording (Ok m) ys
      whole p q = cc
