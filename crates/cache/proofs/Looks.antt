-- Open, ask and count: each answer from the facts that the code has found where it returns it.
use Prim.Native.Nat.{ℕ}
use mathlib.Core.Path.{◌≡◌, refl}
use Rattle.rules.specs.declared.Setting.{Setting}
use Rattle.rules.specs.declared.AskAnswer.{AskAnswer}
use Rattle.rules.specs.declared.AskAnswer.TheVariants as ask
use Rattle.rules.specs.declared.refusals.Refusal.TheVariants as refusal
use Rattle.std.specs.Prelude.{Ok, Err}
use Rattle.rules.specs.Table.{Table, Sound, Issued}
use Rattle.rules.specs.Ask.{ask_word, Asked}
use Rattle.rules.specs.Count.{waiting_on}
use Rattle.rules.specs.declared.refusals.Refusal.{Refusal}
use Rattle.rules.specs.Refusals.{number_of, First, NoFirst}
use Rattle.rules.specs.Calls.{Opens, open_refused, Asks, ask_number, Counts}
use Rattle.rules.proofs.Cases.{holds, passes, none_holds}
use Rattle.cache.specs.Outcome.{block_cases}
use Rattle.rules.proofs.Outcomes.{refuses, grants}

pub open_no_first : (g : Setting) (n : ℕ) → NoFirst n → Opens g n (open_refused g refusal.FirstNumber)
open_no_first g n h = refuses refusal.FirstNumber (holds h) refl

module _ (t : Table) (n : ℕ) where
  pub ask_unsound : (Sound t → ⊥) → Asks t n (ask.Refused refusal.NotSound)
  ask_unsound u = refuses refusal.NotSound (holds u) refl

  pub ask_unissued : Sound t → (Issued t.next n → ⊥) → Asks t n (ask.Refused refusal.NeverIssued)
  ask_unissued s d = refuses refusal.NeverIssued (passes (λ u. u s) (holds d)) refl

  pub ask_granted : (a : AskAnswer) → ask_number a ≡ 0 → Sound t → Issued t.next n → Asked t n (ask_word a) → Asks t n a
  ask_granted a z s d g = grants a (passes (λ u. u s) (passes (λ u. u d) none_holds)) z g

module _ (t : Table) (b : ℕ) where
  pub count-refused : (r : Refusal) → First (block_cases t b) (number_of r) → Counts t b (Err r)
  count-refused r f = refuses r f refl

  pub count_granted : First (block_cases t b) 0 → Counts t b (Ok (waiting_on t.slots b))
  count_granted f = grants (Ok (waiting_on t.slots b)) f refl
      (record { says = refl; whole = refl })
