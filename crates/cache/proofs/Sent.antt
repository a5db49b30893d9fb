-- Write past its early refusals, and complete: each answer from the facts that the code has found where it returns it.
use Prim.Native.Nat.{ℕ}
use mathlib.Core.Path.{◌≡◌, refl, sym, subst₂}
use mathlib.Core.List.{List, [], ◌∷◌}
use mathlib.Core.Logic.{⊎_elim}
use native.Mathlib.Omega.{arith}
use Rattle.rules.specs.Table.{Table, Flies}
use Rattle.rules.specs.declared.refusals.Refusal.{Refusal}
use Rattle.rules.specs.declared.refusals.Refusal.TheVariants as refusal
use Rattle.std.specs.Prelude.{Ok}
use Rattle.cache.specs.Outcome.{block_cases}
use Rattle.rules.specs.Write.{Largest, sent, handed_out}
use Rattle.rules.specs.Refusals.{number_of, case, First, OnlyEmpty, write_cases}
use Rattle.rules.specs.Calls.{Writes, write_refused, write_granted, Completes, complete_refused, complete_granted}
use Rattle.rules.proofs.Largest.{largest_empty}
use Rattle.rules.proofs.Cases.{holds, passes, none_holds, first_still, first_after}
use Rattle.rules.proofs.Refused.{refusal_not0}
use Rattle.rules.proofs.Outcomes.{refuses, grants}
use Rattle.rules.specs.Passed.{WriteReady}

module _ (t : Table) (b : ℕ) where
  pub complete-refused : (r : Refusal) → First (block_cases t b) (number_of r) → Completes t b (complete_refused t r)
  complete-refused r f = refuses r (first_still (case 14 (Flies t.slots b → ⊥) ∷ []) (refusal_not0 r) f) refl

  module _ (judged : First (block_cases t b) 0) where
    pub complete_none : (Flies t.slots b → ⊥) → Completes t b (complete_refused t refusal.NoneInFlight)
    complete_none n = refuses refusal.NoneInFlight (first_after (λ e. omega arith, (λ e. omega arith, tt)) judged (holds n)) refl

    pub complete-granted : Flies t.slots b → Completes t b (complete_granted t b)
    complete-granted f =
        grants (complete_granted t b) (first_after (λ e. omega arith, (λ e. omega arith, tt)) judged (passes (λ n. n f) none_holds)) refl refl

module _ (t : Table) (image undo block : List ℕ) (b : ℕ) where
  module _ (r : WriteReady t image undo block b) where
    -- past the early refusals only 13 is left
    late : {k : ℕ} → First (case 13 (OnlyEmpty t.slots b) ∷ []) k → First (write_cases t image undo block b) k
    late f =
        passes (⊎_elim (λ n. n r.image_whole) (⊎_elim (λ n. n r.undo_whole) (λ n. n r.block_whole)))
        (passes (λ n. n r.sound) (passes (λ m. omega (arith, r.is_block)) (passes r.none_flies (passes (λ n. n r.some_wait) f))))

    pub write_only_empty : Largest t.slots b 0 → Writes t image undo block b (write_refused t image undo block refusal.NoneMayGo)
    write_only_empty g =
        refuses refusal.NoneMayGo (late (holds (r.some_wait, largest_empty g))) refl

    -- the table and the block are what the code made
    pub write_granted_lem : (s : ℕ) → (s ≡ 0 → ⊥) → Largest t.slots b s → (t' : Table) (block' : List ℕ) → t' ≡ sent t s → block' ≡ handed_out t b s image undo
        → Writes t image undo block b (record { answer = Ok s; table = t'; image = image; undo = undo; block = block' })
    write_granted_lem s d g t' block' p q =
        subst₂ (λ (x : Table) (y : List ℕ). Writes t image undo block b
        (record { answer = Ok s; table = x; image = image; undo = undo; block = y })) (sym p) (sym q)
        (grants (write_granted t image undo b s) (late (passes (λ e. d (e.1 s g.goes)) none_holds)) refl (record { largest = g; whole = refl }))
