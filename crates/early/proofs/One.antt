-- ONE ANSWER: any two answers that a promise of this crate admits are equal.
use Prim.Native.Nat.{ℕ}
use mathlib.Core.Path.{◌≡◌, sym, ap, ◌∙◌}
use mathlib.Core.Bool.{Bool}
use mathlib.Core.List.{List}
use Rattle.rules.specs.declared.Setting.{Setting}
use Rattle.rules.specs.Create.{Change}
use Rattle.slots.specs.declared.types.Patches.{Patches}
use Rattle.std.specs.Prelude.{Option, Some, Result, Ok, Err, IfOk}
use Rattle.std.proofs.lemmas.Option.{same_Some}
use Rattle.rules.specs.declared.refusals.Refusal.{Refusal}
use Rattle.rules.specs.Refusals.{Case, First}
use Rattle.rules.specs.Calls.{answer_number}
use Rattle.rules.proofs.Cases.{first_one}
use Rattle.rules.proofs.Refused.{refusal_not0, refusal_one}
use Rattle.early.specs.Early.{CreateEarly, WriteEarly}

pub create_early_one : (g : Setting) (next : ℕ) (sound : Bool) (image undo : List ℕ) (c : Change) {r s : ℕ} → CreateEarly g next sound image undo c r
    → CreateEarly g next sound image undo c s → r ≡ s
create_early_one g next sound image undo c p q = first_one p q

pub write_early_one : (g : Setting) (sound : Bool) (on : Patches) (image undo block : List ℕ) (b : ℕ) {r s : ℕ}
    → WriteEarly g sound on image undo block b r → WriteEarly g sound on image undo block b s → r ≡ s
write_early_one g sound on image undo block b p q = first_one p q

-- and so is the answer that has the number, with what comes along where none holds
pub answer_one : {T : Type 0} {cases : List Case} (o : Option T) (r s : Result T Refusal) → First cases (answer_number r) → First cases (answer_number s)
    → IfOk r (λ v. o ≡ Some v) → IfOk s (λ v. o ≡ Some v) → r ≡ s
answer_one o (Ok v) (Ok w) f g p q = ap Ok (same_Some v w (sym p ∙ q))
answer_one o (Ok v) (Err d) f g p q = absurd (refusal_not0 d (sym (first_one f g)))
answer_one o (Err e) (Ok w) f g p q = absurd (refusal_not0 e (first_one f g))
answer_one o (Err e) (Err d) f g p q = ap Err (refusal_one e d (first_one f g))
