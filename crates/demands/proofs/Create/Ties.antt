-- A granted create and the ties: the new patch is tied to all that its change must follow, the others stay tied as they were. So it is an acceptance of `cut`.
use Prim.Native.Nat.{ℕ, ◌<◌}
use native.Mathlib.Omega.{arith}
use mathlib.Core.Path.{◌≡◌, refl, ◌∙◌, ap, subst}
use mathlib.Core.Bool.{true}
use mathlib.Core.List.{List, ◌∷◌, map, Memᴰ}
use mathlib.Core.Option.{Option, none, some}
use mathlib.Core.Logic.{◌⊎◌, inl, inr}
use Rattle.masks.specs.Sets.{has}
use Rattle.masks.proofs.Laws.{has_set}
use Rattle.ground.proofs.Decided.{true_and, true_or_l, true_or_r}
use Rattle.rules.specs.declared.Hold.{Hold}
use Rattle.rules.specs.declared.Slot.{Slot}
use Rattle.rules.specs.Create as create
use Rattle.rules.specs.Table.{slot_at}
use Rattle.rules.specs.Create.{is_in, is_named, is_before, befores, patch, changed}
use Rattle.rules.proofs.StaysSound.{Like}
use Rattle.cut.specs.Changes.{Logged}
use Rattle.cut.specs.World.{committed, Must, AcceptStep}
use Rattle.cut.proofs.Facts.{newer_in, older_in}
use Rattle.demands.specs.History.{History, Accepted}
use Rattle.demands.specs.Demand3.{Earlier}
use Rattle.demands.proofs.Log as log
use Rattle.demands.proofs.Log.{plain, of_log}
use Rattle.demands.proofs.Views.{view_splice}
use Rattle.demands.proofs.Lookup.{slot_of, carries_used, carries_number, slot_carries}
use Rattle.demands.proofs.AtSlot.{state_at, word_of, Tie, Tied, tie_stays}
use Rattle.demands.proofs.Linked.{Has, told_of}
use Rattle.demands.proofs.Good.{Names, newly_asked, world}
use Rattle.demands.proofs.Create.Slots.{Making, new, made, new_at, like, befores_stay, slot_old, slot_new, below, below_log, old-state, new-state}
use Rattle.demands.proofs.Create.Undo.{new-undo, old-undo}

module _ {h : History} {c : create.Change} {j : ℕ} {k : Hold} (d : Making h c j k) where
  abbrev ss : List Slot
  ss = h.table.slots

  abbrev ss' : List Slot
  ss' = (made d).table.slots

  -- who asks in the new list, and is the new change, asks by the new change's names
  asker_new : (x : Logged) → Names (new d ∷ h.accepted) (plain (new d)) x → is_in x.number c.named ≡ true
  asker_new x n = subst (λ (z : Logged). is_in z.number c.named ≡ true) n.its_is (go n.earlier n.named n.is)
    where
      go : {a q : Accepted} → Earlier (new d ∷ h.accepted) a q → is_in q.number a.change.named ≡ true → plain a ≡ plain (new d)
          → is_in q.number c.named ≡ true
      go (Earlier.here m) e same = e
      go {a} (Earlier.there f) e same =
          let z : a.number ≡ h.table.next = ap (λ (y : Logged). y.number) same in absurd (omega (arith, below d a (log.newer_in f)))

  -- the slot of a change that the new one must follow is among its befores
  listed : (a : Accepted) → Memᴰ a h.accepted → (i : ℕ) → Has ss a i → Must (world (made d)) (plain (new d)) (plain a)
      → is_before ss c i ≡ true
  listed a m i q (inl n) =
      true_or_l (told_of ss (new d) i)
      (true_and (carries_used ss a.number i q.1) (ap (λ (z : ℕ). is_in z c.named) (carries_number ss a.number i q.1) ∙ asker_new (plain a) n))
  listed a m i q (inr s) = true_or_r (is_named ss c i) (d.good.linked.told a m i q (new d) s)

  tie_new : (a : Accepted) → Memᴰ a h.accepted → Must (world (made d)) (plain (new d)) (plain a)
      → (word_of ss a.number ≡ committed) ⊎ Tied ss' h.table.next a.number
  unfolding patch befores
  tie_new a m must = go (slot_of ss a.number) refl
    where
      go : (p : Option ℕ) → slot_of ss a.number ≡ p → (word_of ss a.number ≡ committed) ⊎ Tied ss' h.table.next a.number
      go none e = inl (ap (state_at ss) e)
      go (some i) e =
          let f = slot_carries ss a.number i e in
          inr (record {
            mine = j;
            its = i;
            mine_is = slot_new d;
            its_is = slot_old d a.number (below d a m) ∙ e;
            tie = Tie.before (ap (λ (y : Slot). has y.befores i) (new_at d) ∙ has_set (is_before ss c) i f.0 ∙ listed a m i f must);
          })

  new-ties : (x : Logged) → Memᴰ x (map plain h.accepted) → Must (world (made d)) (plain (new d)) x
      → (word_of ss x.number ≡ committed) ⊎ Tied ss' h.table.next x.number
  new-ties x m =
      let r = of_log h.accepted x m in
      subst (λ (y : Logged). Must (world (made d)) (plain (new d)) y → (word_of ss y.number ≡ committed) ⊎ Tied ss' h.table.next y.number) r.2
      (tie_new r.0 r.1)

  stays : (m i : ℕ) → slot_of ss m ≡ some i → Like (slot_at ss' i) (slot_at ss i)
  stays m i e = let f = slot_carries ss m i e in like d i f.0 (carries_used ss m i f.1)

  old-ties : (m n : ℕ) → m < h.table.next → n < h.table.next → Tied ss m n → Tied ss' m n
  old-ties m n l q =
      tie_stays ss ss' m n (slot_old d m l) (slot_old d n q) (stays m) (stays n) (λ i k e f before.
      let c = slot_carries ss m i e in ap (λ (x : ℕ). has x k) (befores_stay d i c.0 (carries_used ss m i c.1)) ∙ before)

  pub created : AcceptStep (plain (new d)) (world h) (world (made d))
  unfolding changed
  created = record {
    store = λ b i. refl;
    sent = λ b i. refl;
    log = refl;
    working = λ b i. view_splice (plain (new d)) h.image (record { block = d.passed.ready.is_block; ends = d.passed.ready.ends })
        d.passed.ready.image_whole b i;
    new_state = new-state d;
    old_state = λ x m. old-state d x.number (below_log d x m);
    new_undo = new-undo d;
    old_undo = old-undo d;
    new_ties = new-ties;
    old_ties = λ y x e m w t. inr (old-ties y.number x.number (below_log d y (newer_in e)) (below_log d x (older_in e)) t);
    asks = λ y x e n. newly_asked (new d) h.accepted y x n;
  }
