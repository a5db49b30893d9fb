-- What the slots say of the changes of the log, in clauses that leave room for several changes under one number; and that they still say it when a call keeps
-- numbers, blocks and ranges.
use Prim.Native.Nat.{ℕ, ◌<◌}
use mathlib.Core.Path.{◌≡◌, refl, sym, ◌∙◌, ap, subst}
use mathlib.Core.Bool.{Bool, true, ◌||◌}
use mathlib.Core.List.{List, Memᴰ}
use mathlib.Core.Option.{Option, none, some}
use mathlib.Core.Logic.{⊎_elim}
use lib.Dec.{eqb}
use Rattle.ground.proofs.Decided.{clash, and-true, true_and, or-true, true_or_l, true_or_r, same_bool}
use lib.ListN.{length}
use Rattle.rules.specs.declared.Slot.{Slot}
use Rattle.rules.specs.Sizes.{slots}
use Rattle.rules.specs.Slots.{is_hard_patch, has_room, room_of}
use Rattle.rules.specs.Table.{slot_at, used, hard_patch_on}
use Rattle.rules.specs.Create.{overlaps}
use Rattle.rules.proofs.Words.{roomed_used, room_is}
use Rattle.rules.proofs.StaysSound.{Like}
use Rattle.cut.specs.Changes.{Logged, Share}
use Rattle.demands.specs.History.{Accepted}
use Rattle.demands.proofs.Log.{plain, Oldest, Once}
use Rattle.demands.proofs.Lookup.{carries, slot_of, carries_used, carries_number, carries_of, slot_same}
use Rattle.demands.proofs.AtSlot.{roomed, roomed_at, room_at, roomed_of, room_for}

-- the slot has the change's range
pub record Range (s : Slot) (c : Logged) : Type 0 where
  pub offset : s.offset ≡ c.offset
  pub len : s.len ≡ length c.bytes

-- a slot that has the change's number
abbrev pub Has : List Slot → Accepted → ℕ → Type 0
Has ss a i = (i < slots) × (carries ss a.number i ≡ true)

-- the patch of slot i is one that a change y of its block must follow, named or not
abbrev pub told_of : List Slot → Accepted → ℕ → Bool
told_of ss y i = overlaps ss y.change i || hard_patch_on ss y.change.block i

pub record Linked (ss : List Slot) (l : List Accepted) : Type 0 where
  -- it is a patch of the change's block: create
  pub block : (a : Accepted) → Memᴰ a l → (i : ℕ) → Has ss a i → (slot_at ss i).block ≡ a.change.block
  -- its own range is that of the first change of its number: create
  pub range : (a : Accepted) → Oldest l a → (i : ℕ) → Has ss a i → Range (slot_at ss i) (plain a)
  -- a patch with a room stands for one change, so that its room has the old bytes of all that it stands for: create
  pub single : (i : ℕ) → i < slots → roomed (slot_at ss i).state ≡ true → Once (slot_at ss i).number l
  -- whoever shares a byte with the change is told so by the rules' own tests on its slot, by its range or since it is hard: create
  pub told : (a : Accepted) → Memᴰ a l → (i : ℕ) → Has ss a i → (y : Accepted) → Share (plain y) (plain a) → told_of ss y i ≡ true

-- a slot that is like another has a room only if that one has it
pub like_room : {n s : Slot} → Like n s → roomed n.state ≡ true → (roomed s.state ≡ true) × (room_of n.state ≡ room_of s.state)
like_room {n} {s} k e =
    let had = k.room (room_of n.state) e in
    let same = room_is s.state (room_of n.state) had in
    (ap (has_room s.state) same ∙ had, sym same)

module _ (ss ss' : List Slot) (i : ℕ) (k : Like (slot_at ss' i) (slot_at ss i)) where
  pub carries_was : (n : ℕ) → carries ss' n i ≡ true → carries ss n i ≡ true
  carries_was n e = carries_of ss n i (sym k.used ∙ carries_used ss' n i e) (sym k.number ∙ carries_number ss' n i e)

  pub carries_still : (n : ℕ) → carries ss n i ≡ true → carries ss' n i ≡ true
  carries_still n e = carries_of ss' n i (k.used ∙ carries_used ss n i e) (k.number ∙ carries_number ss n i e)

  pub range_still : (c : Logged) → Range (slot_at ss i) c → Range (slot_at ss' i) c
  range_still c r = record { offset = k.offset ∙ r.offset; len = k.len ∙ r.len }

  overlaps_still : (y : Accepted) → overlaps ss y.change i ≡ true → overlaps ss' y.change i ≡ true
  overlaps_still y e = cc

  hard_still : (b : ℕ) → hard_patch_on ss b i ≡ true → hard_patch_on ss' b i ≡ true
  hard_still b e =
      let w = and-true (is_hard_patch (slot_at ss i).state) _ e in
      true_and (k.hard w.0) (ap (λ (x : ℕ). eqb x b) k.block ∙ w.1)

  pub told_still : (y : Accepted) → told_of ss y i ≡ true → told_of ss' y i ≡ true
  told_still y e =
      ⊎_elim (λ o. true_or_l (hard_patch_on ss' y.change.block i) (overlaps_still y o))
      (λ f. true_or_r (overlaps ss' y.change i) (hard_still y.change.block f))
      (or-true (overlaps ss y.change i) (hard_patch_on ss y.change.block i) e)

-- every slot in use afterwards is one as it was
pub linked_kept : (ss ss' : List Slot) (l : List Accepted) → ((i : ℕ) → i < slots → used ss' i ≡ true → Like (slot_at ss' i) (slot_at ss i))
    → Linked ss l → Linked ss' l
linked_kept ss ss' l like k = record {
  block = λ a m i h. (near a i h).block ∙ k.block a m i (had a i h);
  range = λ a o i h. range_still ss ss' i (near a i h) (plain a) (k.range a o i (had a i h));
  single = λ i h e.
      let q = like i h (roomed_used (slot_at ss' i).state (room_of (slot_at ss' i).state) e) in
      subst (λ (n : ℕ). Once n l) (sym q.number) (k.single i h (like_room q e).0);
  told = λ a m i h y s. told_still ss ss' i (near a i h) y (k.told a m i (had a i h) y s);
}
  where
    near : (a : Accepted) (i : ℕ) → Has ss' a i → Like (slot_at ss' i) (slot_at ss i)
    near a i h = like i h.0 (carries_used ss' a.number i h.1)

    had : (a : Accepted) (i : ℕ) → Has ss' a i → Has ss a i
    had a i h = (h.0, carries_was ss ss' i (near a i h) a.number h.1)

-- where every slot is like it was, a number keeps its slot
pub slot_kept : (ss ss' : List Slot) → ((i : ℕ) → i < slots → Like (slot_at ss' i) (slot_at ss i)) → (n : ℕ) → slot_of ss' n ≡ slot_of ss n
slot_kept ss ss' like n =
    slot_same ss' ss n (λ i l. same_bool (carries ss' n i) (carries ss n i) (carries_was ss ss' i (like i l) n) (carries_still ss ss' i (like i l) n))

-- a number that keeps its slot has its room afterwards only if it had it
pub room_stays : (ss ss' : List Slot) (n : ℕ) → slot_of ss' n ≡ slot_of ss n → ((i : ℕ) → slot_of ss n ≡ some i → Like (slot_at ss' i) (slot_at ss i))
    → roomed_of ss' n ≡ true → (roomed_of ss n ≡ true) × (room_for ss' n ≡ room_for ss n)
room_stays ss ss' n e like = go (slot_of ss n) refl
  where
    go : (p : Option ℕ) → slot_of ss n ≡ p → roomed_of ss' n ≡ true → (roomed_of ss n ≡ true) × (room_for ss' n ≡ room_for ss n)
    go none q u = absurd (clash u (ap (roomed_at ss') (e ∙ q)))
    go (some i) q u =
        let had = like_room (like i q) (sym (ap (roomed_at ss') (e ∙ q)) ∙ u) in
        (ap (roomed_at ss) q ∙ had.0, ap (room_at ss') (e ∙ q) ∙ had.1 ∙ sym (ap (room_at ss) q))
