-- THE JOINT CALL IN A HISTORY: it is the calls that it made, note for note. So no theorem on histories has to be shown anew for it. Assumes nothing.
use Prim.Native.Nat.{ℕ, zero, suc, ◌<◌}
use mathlib.Core.Path.{◌≡◌, refl, sym, ap, ap₂, subst, ◌∙◌}
use mathlib.Core.Bool.{Bool, true, false, cond}
use mathlib.Core.List.{List, ◌∷◌}
use native.Mathlib.Decide.{ℕ_discrete}
use native.Mathlib.Omega.{arith}
use Rattle.masks.specs.Sets.{has}
use Rattle.rules.specs.declared.Slot.{Slot}
use Rattle.rules.specs.Sizes.{slots}
use Rattle.rules.specs.Table.{Table, slot_at}
use Rattle.rules.specs.Write.{sent_slots, sent_slot, sent}
use Rattle.rules.specs.Calls.{Writing, Writes, answer_number, write_granted, sent_set, Completion}
use Rattle.rules.specs.Joint.{Joint, CompletesWrites, joint_stopped, joint_went}
use Rattle.rules.proofs.After.{sent_at}
use Rattle.demands.specs.History.{History, numbers_below, Call, Happened, after_write, after_complete}
use Rattle.demands.specs.Demand3.{Later}
use Rattle.demands.specs.Joint.{after_joint, CallsMade, JointIsCalls}
use Rattle.demands.proofs.Reach.{write_reaches}

-- ---- the numbers that went out, read off the table that is left

alike : (ss us : List Slot) (s n : ℕ) → ((i : ℕ) → i < n → (slot_at us i).number ≡ (slot_at ss i).number) → numbers_below us s n ≡ numbers_below ss s n
unfolding numbers_below
alike ss us s zero f = refl
alike ss us s (suc n) f =
    ap₂ (λ (k : ℕ) (rest : List ℕ). cond (has s n) (k ∷ rest) rest) (f n (omega arith)) (alike ss us s n (λ i l. f i (omega arith)))

-- a patch keeps its number when it is sent
sent_number : (goes : Bool) (s : Slot) → (sent_slot goes s).number ≡ s.number
sent_number true s = refl
sent_number false s = refl

pub numbers_left : (t : Table) (s : ℕ) → numbers_below (sent t s).slots s slots ≡ numbers_below t.slots s slots
unfolding sent
numbers_left t s =
    alike t.slots (sent_slots t.slots s) s slots
    (λ i l. ap (λ (u : Slot). u.number) (sent_at t.slots s i l) ∙ sent_number (has s i) (slot_at t.slots i))

-- ---- the notes

module _ (h : History) (x y : ℕ) (lent : List ℕ) where
  stopped : (c : Completion) → after_joint h x y (joint_stopped c h.image h.undo lent) ≡ after_complete h x c
  unfolding after_joint after_complete
  stopped c = refl

  went : (c : Completion) (w : Writing) → Writes c.table h.image h.undo lent y w
      → after_joint h x y (joint_went c w) ≡ after_write (after_complete h x c) y w
  unfolding after_joint after_complete after_write
  went c w q = by (ℕ_discrete (answer_number w.answer) 0)
    where
      Same : Writing → Type 0
      Same v = after_joint h x y (joint_went c v) ≡ after_write (after_complete h x c) y v

      granted : (s : ℕ) → Same (write_granted c.table h.image h.undo y s)
      granted s = let same = numbers_left c.table s in rw same

      by : Dec (answer_number w.answer ≡ 0) → Same w
      by (yes z) = subst Same (sym (q.grant z).whole) (granted (sent_set w.answer))
      by (no d) = subst Same (sym (q.refusal d).2) refl

  pub joint_is_calls : (o : Joint) → CompletesWrites h.table h.image h.undo lent x y o → CallsMade h x y lent (after_joint h x y o)
  joint_is_calls o (CompletesWrites.stops c p n e) =
      subst (CallsMade h x y lent) (sym (ap (after_joint h x y) e ∙ stopped c)) (CallsMade.completion c p n)
  joint_is_calls o (CompletesWrites.goes_on c p z w q e) =
      subst (CallsMade h x y lent) (sym (ap (after_joint h x y) e ∙ went c w q)) (CallsMade.both c p z w q)

-- the calls made are calls of a history
on_completed : (h : History) (x y : ℕ) (lent : List ℕ) (c : Completion) (w : Writing) → Writes c.table h.image h.undo lent y w
    → Call (after_complete h x c) (after_write (after_complete h x c) y w)
unfolding after_complete
on_completed h x y lent c w q = Call.writes y lent w q

made_later : {h : History} {x y : ℕ} {lent : List ℕ} {h' : History} → CallsMade h x y lent h' → Later h h'
made_later {h} {x} {y} {lent} {h'} (CallsMade.completion c p n) = Later.then Later.now (Call.completes x c p)
made_later {h} {x} {y} {lent} {h'} (CallsMade.both c p z w q) =
    Later.then (Later.then Later.now (Call.completes x c p)) (on_completed h x y lent c w q)

later_happened : {h h' : History} → Happened h → Later h h' → Happened h'
later_happened w Later.now = w
later_happened w (Later.then l c) = Happened.calls (later_happened w l) c

pub joint_in_histories : JointIsCalls
joint_in_histories = record {
  is_calls = joint_is_calls;
  happens = λ h w x y lent o p. later_happened w (made_later (joint_is_calls h x y lent o p));
  later = λ h x y lent o p. made_later (joint_is_calls h x y lent o p);
}

-- ---- and question seven: what is lent besides the block stays

pub joint_reaches : (t : Table) (image undo block : List ℕ) (x y : ℕ) (o : Joint) → CompletesWrites t image undo block x y o
    → (o.image ≡ image) × (o.undo ≡ undo)
joint_reaches t image undo block x y o (CompletesWrites.stops c p n e) = (ap (λ (z : Joint). z.image) e, ap (λ (z : Joint). z.undo) e)
joint_reaches t image undo block x y o (CompletesWrites.goes_on c p z w q e) =
    let same = write_reaches c.table image undo block y w q in
    (ap (λ (z : Joint). z.image) e ∙ same.0, ap (λ (z : Joint). z.undo) e ∙ same.1)
