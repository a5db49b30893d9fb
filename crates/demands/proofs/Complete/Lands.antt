-- A granted complete as a landing of `cut`: the store with the block's write there, and what it leaves of undo data and ties.
use Prim.Native.Nat.{ℕ}
use mathlib.Core.Path.{◌≡◌, refl, sym, ◌∙◌, ap}
use mathlib.Core.Bool.{Bool, true, false, cond, not}
use mathlib.Core.List.Memᴰ
use mathlib.Core.List.{List, ◌++◌, Memᴰ, map}
use mathlib.Core.Option.{some}
use mathlib.Core.Logic.{◌≢◌, ◌⊎◌, inl, inr}
use borrow.Author.Tests.{eq-eqb, ne_eqb}
use lib.Dec.{eqb}
use Rattle.masks.specs.Sets.{has}
use Rattle.ground.proofs.Decided.{clash, true_and}
use Rattle.rules.specs.declared.Slot.{Slot}
use Rattle.rules.specs.Table.{slot_at}
use Rattle.rules.proofs.After.{befores_at}
use Rattle.cut.specs.Changes.{Logged}
use Rattle.cut.specs.World.{committed, LandStep}
use Rattle.demands.specs.History.{History}
use Rattle.demands.specs.Demand3.{written}
use Rattle.demands.proofs.Log.{plain, on_log}
use Rattle.demands.proofs.Views.{view}
use Rattle.demands.proofs.Notes.{AllWhole, some_written, written_alike}
use Rattle.demands.proofs.Lookup.{slot_of, slot_carries}
use Rattle.demands.proofs.AtSlot.{state_at, roomed_at, word_of, roomed_of, Tied, tie_stays}
use Rattle.demands.proofs.Good.{old_byte, undo_stays, world, Good}
use Rattle.demands.proofs.Complete.Slots.{settled_if, to_it, elsewhere, landed, Fate, fate, stays_at, like_at, state_after}

module _ {h : History} (g : Good h) (b : ℕ) where
  abbrev ss : List Slot
  ss = h.table.slots

  abbrev ss' : List Slot
  ss' = (landed g b).table.slots

  -- ---- undo data and ties

  old-undo : (x : Logged) → roomed_of ss' x.number ≡ true
      → (roomed_of ss x.number ≡ true) × ((i : ℕ) → old_byte ss' h.undo x i ≡ old_byte ss h.undo x i)
  old-undo x s = pick (fate g b x.number)
    where
      pick : Fate g b x.number → (roomed_of ss x.number ≡ true) × ((i : ℕ) → old_byte ss' h.undo x i ≡ old_byte ss h.undo x i)
      pick (Fate.gone e f) = absurd (clash s (ap (roomed_at ss') f))
      pick (Fate.lost j e l f) = absurd (clash s (ap (roomed_at ss') f))
      pick (Fate.kept j e f) =
          let same = f ∙ sym e in undo_stays ss ss' h.undo x same (λ i q. like_at g b x.number i (same ∙ q)) s

  old-ties : (m n : ℕ) → word_of ss' m ≢ committed → Tied ss m n → (word_of ss' n ≡ committed) ⊎ Tied ss' m n
  old-ties m n w t = pick (fate g b m) (fate g b n)
    where
      pick : Fate g b m → Fate g b n → (word_of ss' n ≡ committed) ⊎ Tied ss' m n
      pick fm (Fate.gone e f) = inl (ap (state_at ss') f)
      pick fm (Fate.lost j e l f) = inl (ap (state_at ss') f)
      pick (Fate.gone e f) (Fate.kept j a q) = absurd (w (ap (state_at ss') f))
      pick (Fate.lost i e k f) (Fate.kept j a q) = absurd (w (ap (state_at ss') f))
      pick (Fate.kept i e f) (Fate.kept j a q) = inr (tie_stays ss ss' m n (f ∙ sym e) (q ∙ sym a)
          (λ i r. like_at g b m i (f ∙ sym e ∙ r)) (λ i r. like_at g b n i (q ∙ sym a ∙ r)) (stays (f ∙ sym e) (q ∙ sym a)) t)
        where
          -- a before that stays is among those that remain
          stays : slot_of ss' m ≡ slot_of ss m → slot_of ss' n ≡ slot_of ss n → (i j : ℕ) → slot_of ss m ≡ some i → slot_of ss n ≡ some j
              → has (slot_at ss i).befores j ≡ true → has (slot_at ss' i).befores j ≡ true
          stays em en i j ei ej before =
              ap (λ (s : Slot). has s.befores j) (stays_at g b m i (em ∙ ei)).is
              ∙ befores_at ss b (slot_at ss i) j (slot_carries ss n j ej).0
              ∙ true_and before (ap not (stays_at g b n j (en ∙ ej)).lies)

  -- ---- the store

  out_whole : AllWhole h.in_flight
  out_whole w m = g.whole w (Memᴰ.append_left h.landed m)

  -- the store with the block's write there
  store_now : (d i : ℕ) → view (written (to_it g b ++ h.landed) h.opening) d i
      ≡ cond (eqb d b) (view (written (h.in_flight ++ h.landed) h.opening) d i) (view (written h.landed h.opening) d i)
  store_now d i = some_written h.opening g.opening_whole d i (λ x. eqb x b) h.in_flight h.landed out_whole

  -- what is on its way, and on the store, is the same as before
  sent_now : (d i : ℕ) → view (written (elsewhere g b ++ (to_it g b ++ h.landed)) h.opening) d i
      ≡ view (written (h.in_flight ++ h.landed) h.opening) d i
  sent_now d i =
      some_written h.opening g.opening_whole d i (λ x. not (eqb x b)) h.in_flight (to_it g b ++ h.landed) out_whole
      ∙ by (eqb d b) refl
    where
      by : (v : Bool) → eqb d b ≡ v
          → cond (not v) (view (written (h.in_flight ++ (to_it g b ++ h.landed)) h.opening) d i) (view (written (to_it g b ++ h.landed) h.opening) d i)
          ≡ view (written (h.in_flight ++ h.landed) h.opening) d i
      by true e = store_now d i ∙ rw e
      by false e =
          written_alike h.opening g.opening_whole d i h.in_flight (to_it g b ++ h.landed) h.landed out_whole (store_now d i ∙ rw e)

  -- where a change of the log is
  state_now : (x : Logged) → Memᴰ x (map plain h.accepted) → word_of ss' x.number ≡ settled_if (eqb x.block b) (word_of ss x.number)
  state_now = on_log h.accepted (λ x. word_of ss' x.number ≡ settled_if (eqb x.block b) (word_of ss x.number)) (state_after g b)

  pub lands : LandStep b (world h) (world (landed g b))
  lands = record {
    bytes = λ i. store_now b i ∙ rw (eq-eqb b b refl);
    others = λ d i n. store_now d i ∙ rw (ne_eqb d b n);
    sent = sent_now;
    working = λ d i. refl;
    log = refl;
    its_state = λ x m e. state_now x m ∙ ap (λ (v : Bool). settled_if v (word_of ss x.number)) (eq-eqb x.block b e);
    other_state = λ x m n. state_now x m ∙ ap (λ (v : Bool). settled_if v (word_of ss x.number)) (ne_eqb x.block b n);
    old_undo = λ x m s. old-undo x s;
    old_ties = λ y x e m w t. old-ties y.number x.number w t;
    asks = λ y x e n. n;
  }
