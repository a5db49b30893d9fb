-- The joint call: its outcome from those of its two calls, by the completion's answer.
use Prim.Native.Nat.{ℕ}
use mathlib.Core.Path.{◌≡◌, refl, sym, ap, ◌∙◌}
use mathlib.Core.List.{List}
use Rattle.std.specs.Prelude.{Ok, Err}
use Rattle.rules.specs.declared.refusals.Refusal.{Refusal}
use Rattle.rules.specs.Table.{Table}
use Rattle.rules.specs.Calls.{answer_number, Writing, Writes, Completion, Completes}
use Rattle.rules.specs.Joint.{CompletesWrites, joint_stopped, joint_went}
use Rattle.rules.proofs.Refused.{refusal_not0}

module _ (t : Table) (image undo block : List ℕ) (x y : ℕ) (c : Completion) (p : Completes t x c) where
  -- a completion that says refused was not granted: 0 is no refusal's number
  pub joint_stops : (r : Refusal) → c.answer ≡ Err r → CompletesWrites t image undo block x y (joint_stopped c image undo block)
  joint_stops r e = CompletesWrites.stops c p (λ z. refusal_not0 r (sym (ap answer_number e) ∙ z)) refl

  pub joint_goes : c.answer ≡ Ok tt → (w : Writing) → Writes c.table image undo block y w → CompletesWrites t image undo block x y (joint_went c w)
  joint_goes e w q = CompletesWrites.goes_on c p (ap answer_number e) w q refl
