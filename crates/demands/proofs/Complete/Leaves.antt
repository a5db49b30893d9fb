-- What a granted complete leaves is a good history: the notes have the block's write among the landed ones, and the table agrees.
use Prim.Native.Nat.{ℕ}
use native.Mathlib.Omega.{arith}
use mathlib.Core.Path.{◌≡◌, refl, sym, ◌∙◌, ap, ap₂}
use mathlib.Core.Bool.{Bool, true, false, ◌&&◌, ◌||◌, not}
use mathlib.Core.List.Memᴰ
use mathlib.Core.List.{List, ◌++◌, Memᴰ}
use mathlib.Core.Logic.{⊎_elim}
use lib.Dec.{eqb}
use Rattle.rules.specs.declared.Slot.{Slot}
use Rattle.cut.specs.World.{Stage, waiting, in_flight, committed, settled, Step}
use Rattle.cut.proofs.Core.{step_keeps}
use Rattle.demands.specs.History.{History, Accepted, Sent}
use Rattle.demands.specs.Demand3.{sent_in}
use Rattle.demands.proofs.Notes.{sent_in_both, sent_in_those, of_those, times_both, times_parted}
use Rattle.demands.proofs.AtSlot.{word_of, is_done, is_out}
use Rattle.demands.proofs.Linked.{linked_kept}
use Rattle.demands.proofs.Good.{Good, sent_to}
use Rattle.demands.proofs.Complete.Slots.{settled_if, to_it, elsewhere, landed, sound', like, state_after}
use Rattle.demands.proofs.Complete.Lands.{lands}

-- after the landing, by block and state
done_after : (its : Bool) (s : Stage) → ((its && is_out s) || is_done s) ≡ is_done (settled_if its s)
unfolding settled
done_after true waiting = refl
done_after true in_flight = refl
done_after true committed = refl
done_after false s = refl

out_after : (its : Bool) (s : Stage) → (not its && is_out s) ≡ is_out (settled_if its s)
unfolding settled
out_after true waiting = refl
out_after true in_flight = refl
out_after true committed = refl
out_after false s = refl

module _ {h : History} (g : Good h) (b : ℕ) where
  abbrev ss : List Slot
  ss = h.table.slots

  abbrev ss' : List Slot
  ss' = (landed g b).table.slots

  -- every write that is noted was noted before
  noted : (w : Sent) → Memᴰ w (elsewhere g b ++ (to_it g b ++ h.landed)) → Memᴰ w (h.in_flight ++ h.landed)
  noted w m =
      ⊎_elim (λ k. Memᴰ.append_left h.landed (of_those (λ w. not (eqb w.block b)) h.in_flight w k).0)
      (λ k. ⊎_elim (λ q. Memᴰ.append_left h.landed (of_those (λ w. eqb w.block b) h.in_flight w q).0) (λ q. Memᴰ.append_right h.in_flight q)
      (Memᴰ.append_cases (to_it g b) k))
      (Memᴰ.append_cases (elsewhere g b) m)

  done' : (a : Accepted) → Memᴰ a h.accepted → sent_in a.number (to_it g b ++ h.landed) ≡ is_done (word_of ss' a.number)
  done' a m =
      let its = eqb a.change.block b in
      sent_in_both a.number (to_it g b) h.landed
      ∙ ap (λ (x : Bool). x || sent_in a.number h.landed) (sent_in_those (λ d. eqb d b) a.number a.change.block h.in_flight (sent_to h g a m))
      ∙ ap₂ (λ (x y : Bool). (its && x) || y) (g.out a m) (g.done a m)
      ∙ done_after its (word_of ss a.number)
      ∙ sym (ap is_done (state_after g b a m))

  out' : (a : Accepted) → Memᴰ a h.accepted → sent_in a.number (elsewhere g b) ≡ is_out (word_of ss' a.number)
  out' a m =
      let its = eqb a.change.block b in
      sent_in_those (λ d. not (eqb d b)) a.number a.change.block h.in_flight (sent_to h g a m)
      ∙ ap (λ (x : Bool). not its && x) (g.out a m)
      ∙ out_after its (word_of ss a.number)
      ∙ sym (ap is_out (state_after g b a m))

  pub landed_good : Good (landed g b)
  landed_good = record {
    sound = sound' g b;
    numbers = g.numbers;
    older = g.older;
    linked = linked_kept ss ss' h.accepted (like g b) g.linked;
    within = g.within;
    image_whole = g.image_whole;
    opening_whole = g.opening_whole;
    done = done';
    out = out';
    whole = λ w m. g.whole w (noted w m);
    sent = λ w m n f. g.sent w (noted w m) n f;
    some = λ w m. g.some w (noted w m);
    once = λ n.
        let before = times_both n h.in_flight h.landed in
        let parted = times_parted n (λ w. eqb w.block b) h.in_flight in
        omega (arith, times_both n (elsewhere g b) (to_it g b ++ h.landed), times_both n (to_it g b) h.landed, g.once n);
    safe = step_keeps (Step.lands b (lands g b)) g.safe;
  }
