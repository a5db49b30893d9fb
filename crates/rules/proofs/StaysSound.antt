-- An opened table is sound, and a sound table stays sound under each granted call.
use Prim.Native.Nat.{ℕ, ◌+◌, ◌≤◌, ◌<◌}
use mathlib.Core.Path.{◌≡◌, refl, sym, ap, subst, ◌∙◌}
use mathlib.Core.Bool.{Bool, true, false, cond, ◌||◌, not}
use mathlib.Core.List.{List}
use mathlib.Core.Logic.{◌⊎◌, inl, inr, ⊎_elim}
use native.Mathlib.Omega.{arith}
use native.Mathlib.Decide.{ℕ_discrete}
use borrow.Author.Tests.{eq-eqb, ne_eqb, not-true}
use lib.Dec.{eqb}
use Rattle.masks.specs.Sets.{has, set_of}
use Rattle.masks.proofs.Laws.{has_set, has_slot, set_lt}
use Rattle.ground.proofs.Decided.{clash, and-true, or-true}
use Rattle.rules.specs.declared.Hold.{Hold}
use Rattle.rules.specs.declared.Hold.TheVariants as hold
use Rattle.rules.specs.declared.State.{State}
use Rattle.rules.specs.declared.State.TheVariants as state
use Rattle.rules.specs.declared.Setting.{Setting}
use Rattle.rules.specs.declared.Slot.{Slot}
use Rattle.rules.specs.Sizes.{blocks, block_bytes, slots, most_bytes, last_number}
use Rattle.rules.specs.Settings.{rooms}
use Rattle.rules.specs.Slots.{is_used, is_in_flight, is_hard_patch, has_room, free_slot, with_state}
use Rattle.rules.specs.Table.{Table, slot_at, slots_by, with_slots, with_next, used, flies_on, hard_patch_on, HasRoom, Sound}
use Rattle.rules.specs.Open.{opened}
use Rattle.masks.specs.Lowest.{Lowest}
use Rattle.rules.specs.Create.{Change, FreeSlot, FreeRoom, HoldOf, is_named, overlaps, is_before, befores, patch}
use Rattle.rules.specs.Create.{turned, turned_state, accepted_slot, accepted_slots, accepted}
use Rattle.rules.specs.Write.{sent_state, sent_slot, sent_slots, sent}
use Rattle.rules.specs.Complete.{without_befores, landing, completed_slots, completed}
use Rattle.rules.proofs.After.{accepted_at, sent_at, completed_at, befores_at}
use Rattle.rules.proofs.SlotsBy.{slot_by}
use Rattle.rules.proofs.Words.{has_room_used, room_is, hard_patch_used, turned_used, turned_hard, turned_flies, turned_room, sent_used}
use Rattle.rules.proofs.Words.{sent_hard, sent_flies, sent_room}
use Rattle.rules.specs.Refusals.{TakesSlot}
use Rattle.rules.specs.Passed.{CreatePassed}

-- the slot n is the slot s, but for its befores and its state, where it has no new room, and what was hard or in flight is so still
pub record Like (n s : Slot) : Type 0 where
  pub used : is_used n.state ≡ is_used s.state
  pub number : n.number ≡ s.number
  pub block : n.block ≡ s.block
  pub offset : n.offset ≡ s.offset
  pub len : n.len ≡ s.len
  pub hard : is_hard_patch s.state ≡ true → is_hard_patch n.state ≡ true
  pub flies : is_in_flight s.state ≡ true → is_in_flight n.state ≡ true
  pub room : (r : ℕ) → has_room n.state r ≡ true → has_room s.state r ≡ true

pub like_self : (s : Slot) → Like s s
like_self s = record { used = refl; number = refl; block = refl; offset = refl; len = refl; hard = λ e. e; flies = λ e. e; room = λ r e. e }

-- a slot with another state, where that keeps these words
state_like : (b : Bool) (u : State) (s : Slot) → is_used u ≡ is_used s.state → (is_hard_patch s.state ≡ true → is_hard_patch u ≡ true)
    → (is_in_flight s.state ≡ true → is_in_flight u ≡ true) → ((r : ℕ) → has_room u r ≡ true → has_room s.state r ≡ true)
    → Like (cond b (with_state u s) s) s
state_like true u s e g k f = record { used = e; number = refl; block = refl; offset = refl; len = refl; hard = g; flies = k; room = f }
state_like false u s e g k f = like_self s

-- its befores stay
state_befores : (b : Bool) (u : State) (s : Slot) → (cond b (with_state u s) s).befores ≡ s.befores
state_befores true u s = refl
state_befores false u s = refl

-- slots that are each free, or as they were but for state and befores, stay sound
module _ (t : Table) (s : Sound t) (ss : List Slot)
    (fate : (i : ℕ) → i < slots → (used ss i ≡ false) ⊎ Like (slot_at ss i) (slot_at t.slots i))
    (followed : (i k : ℕ) → i < slots → k < slots → used ss i ≡ true → has (slot_at ss i).befores k ≡ true → used ss k ≡ true)
    (other : (i : ℕ) → i < slots → used ss i ≡ true → has (slot_at ss i).befores i ≡ true → ⊥) where
  like : (i : ℕ) → i < slots → used ss i ≡ true → Like (slot_at ss i) (slot_at t.slots i)
  like i l u = ⊎_elim (λ f. absurd (clash u f)) (λ k. k) (fate i l)

  was_used : (i : ℕ) → i < slots → used ss i ≡ true → used t.slots i ≡ true
  was_used i l u = sym (like i l u).used ∙ u

  pub keeps_sound : Sound (with_slots ss t)
  keeps_sound = record {
    first_least = s.first_least;
    first_most = s.first_most;
    next_least = s.next_least;
    next_most = s.next_most;
    number_least = λ i l u. subst (λ (n : ℕ). t.first ≤ n) (sym (like i l u).number) (s.number_least i l (was_used i l u));
    number_most = λ i l u. subst (λ (n : ℕ). n < t.next) (sym (like i l u).number) (s.number_most i l (was_used i l u));
    numbers_differ = λ i j l m u v e. s.numbers_differ i j l m (was_used i l u) (was_used j m v) (sym (like i l u).number ∙ e ∙ (like j m v).number);
    block_most = λ i l u. subst (λ (n : ℕ). n < blocks) (sym (like i l u).block) (s.block_most i l (was_used i l u));
    len_least = λ i l u. subst (λ (n : ℕ). 1 ≤ n) (sym (like i l u).len) (s.len_least i l (was_used i l u));
    len_most = λ i l u. subst (λ (n : ℕ). n ≤ most_bytes) (sym (like i l u).len) (s.len_most i l (was_used i l u));
    ends = λ i l u. let k = like i l u in omega (arith, s.ends i l (was_used i l u), k.offset, k.len);
    befores_used = followed;
    befores_other = other;
    room_most = λ i r l h. s.room_most i r l ((like i l (has_room_used ss i r h)).room r h);
    rooms_differ = λ i j r l m h k. s.rooms_differ i j r l m ((like i l (has_room_used ss i r h)).room r h) ((like j m (has_room_used ss j r k)).room r k);
  }

-- ---- open

pub opened_sound : (g : Setting) (n : ℕ) → 1 ≤ n → n ≤ last_number → Sound (opened g n)
opened_sound g n a b = record {
  first_least = a;
  first_most = b;
  next_least = omega arith;
  next_most = omega arith;
  number_least = λ i l u. absurd (none i l u);
  number_most = λ i l u. absurd (none i l u);
  numbers_differ = λ i j l m u v e. absurd (none i l u);
  block_most = λ i l u. absurd (none i l u);
  len_least = λ i l u. absurd (none i l u);
  len_most = λ i l u. absurd (none i l u);
  ends = λ i l u. absurd (none i l u);
  befores_used = λ i j l m u h. absurd (none i l u);
  befores_other = λ i l u h. none i l u;
  room_most = λ i r l h. absurd (none i l (has_room_used (slots_by (λ i. free_slot)) i r h));
  rooms_differ = λ i j r l m h k. absurd (none i l (has_room_used (slots_by (λ i. free_slot)) i r h));
}
  where
    none : (i : ℕ) → i < slots → used (slots_by (λ i. free_slot)) i ≡ true → ⊥
    none i l u = clash u (ap (λ (s : Slot). is_used s.state) (slot_by (λ i. free_slot) i l))

-- ---- write

pub sent_like : (goes : Bool) (s : Slot) → Like (sent_slot goes s) s
sent_like goes s = state_like goes (sent_state s.state) s (sent_used s.state) (sent_hard s.state) (sent_flies s.state) (sent_room s.state)

pub sent_sound : (t : Table) (set : ℕ) → Sound t → Sound (sent t set)
unfolding sent
sent_sound t set s =
    keeps_sound t s (sent_slots t.slots set) (λ i l. inr (each i l))
    (λ i k l m u h. (each k m).used ∙ s.befores_used i k l m (sym (each i l).used ∙ u) (before i l k h))
    (λ i l u h. s.befores_other i l (sym (each i l).used ∙ u) (before i l i h))
  where
    before : (i : ℕ) → i < slots → (k : ℕ) → has (slot_at (sent_slots t.slots set) i).befores k ≡ true → has (slot_at t.slots i).befores k ≡ true
    before i l k h =
        subst (λ (m : ℕ). has m k ≡ true) (ap (λ (n : Slot). n.befores) (sent_at t.slots set i l) ∙ state_befores (has set i) _ (slot_at t.slots i)) h

    each : (i : ℕ) → i < slots → Like (slot_at (sent_slots t.slots set) i) (slot_at t.slots i)
    each i l = subst (λ (n : Slot). Like n (slot_at t.slots i)) (sym (sent_at t.slots set i l)) (sent_like (has set i) (slot_at t.slots i))

-- ---- complete

-- what a completed block's slot is: free where its patch commits, else as it was without the patches that commit
pub data Finished (ss : List Slot) (b i : ℕ) (n : Slot) : Type 0 where
  commits : flies_on ss b i ≡ true → n ≡ free_slot → Finished ss b i n
  stays : flies_on ss b i ≡ false → used ss i ≡ true → n ≡ without_befores (landing ss b) (slot_at ss i) → Finished ss b i n
  was_free : flies_on ss b i ≡ false → used ss i ≡ false → n ≡ slot_at ss i → Finished ss b i n

pub finished : (ss : List Slot) (b i : ℕ) → i < slots → Finished ss b i (slot_at (completed_slots ss b) i)
finished ss b i l = subst (Finished ss b i) (sym (completed_at ss b i l)) (go (flies_on ss b i) (used ss i) refl refl)
  where
    go : (f u : Bool) → flies_on ss b i ≡ f → used ss i ≡ u
        → Finished ss b i (cond f free_slot (cond u (without_befores (landing ss b) (slot_at ss i)) (slot_at ss i)))
    go true u p q = commits p refl
    go false true p q = stays p q refl
    go false false p q = was_free p q refl

-- a slot among the befores afterwards was among them, and does not commit
remaining_was : (ss : List Slot) (b : ℕ) (s : Slot) (k : ℕ)
    → has (without_befores (landing ss b) s).befores k ≡ true → (has s.befores k ≡ true) × (flies_on ss b k ≡ false)
remaining_was ss b s k h =
    let l = has_slot (without_befores (landing ss b) s).befores k (set_lt _) h in
    let w = and-true (has s.befores k) (not (flies_on ss b k)) (sym (befores_at ss b s k l) ∙ h) in
    (w.0, not-true (flies_on ss b k) w.1)

pub remaining_like : (ss : List Slot) (b : ℕ) (s : Slot) → Like (without_befores (landing ss b) s) s
remaining_like ss b s =
    record { used = refl; number = refl; block = refl; offset = refl; len = refl; hard = λ e. e; flies = λ e. e; room = λ r e. e }

pub completed_sound : (t : Table) (b : ℕ) → Sound t → Sound (completed t b)
unfolding completed
completed_sound t b s = keeps_sound t s ss (λ i l. fate i (finished t.slots b i l))
    (λ i k l m u h. still i k l m u h (finished t.slots b i l) (finished t.slots b k m))
    (λ i l u h. other i l u h (finished t.slots b i l))
  where
    ss : List Slot
    ss = completed_slots t.slots b

    fate : (i : ℕ) → Finished t.slots b i (slot_at ss i) → (used ss i ≡ false) ⊎ Like (slot_at ss i) (slot_at t.slots i)
    fate i (commits f e) = inl (ap (λ (s : Slot). is_used s.state) e)
    fate i (stays f u e) = inr (subst (λ (n : Slot). Like n (slot_at t.slots i)) (sym e) (remaining_like t.slots b (slot_at t.slots i)))
    fate i (was_free f u e) = inl (ap (λ (s : Slot). is_used s.state) e ∙ u)

    used_after : (k : ℕ) → flies_on t.slots b k ≡ false → used t.slots k ≡ true → Finished t.slots b k (slot_at ss k) → used ss k ≡ true
    used_after k n v (commits f e) = absurd (clash f n)
    used_after k n v (stays f u e) = ap (λ (s : Slot). is_used s.state) e ∙ u
    used_after k n v (was_free f u e) = absurd (clash v u)

    still : (i k : ℕ) → i < slots → k < slots → used ss i ≡ true → has (slot_at ss i).befores k ≡ true
        → Finished t.slots b i (slot_at ss i) → Finished t.slots b k (slot_at ss k) → used ss k ≡ true
    still i k l m u h (commits f e) g = absurd (clash u (ap (λ (s : Slot). is_used s.state) e))
    still i k l m u h (stays f v e) g =
        let w = remaining_was t.slots b (slot_at t.slots i) k (subst (λ (n : Slot). has n.befores k ≡ true) e h) in
        used_after k w.1 (s.befores_used i k l m v w.0) g
    still i k l m u h (was_free f v e) g = absurd (clash u (ap (λ (s : Slot). is_used s.state) e ∙ v))

    other : (i : ℕ) → i < slots → used ss i ≡ true → has (slot_at ss i).befores i ≡ true → Finished t.slots b i (slot_at ss i) → ⊥
    other i l u h (commits f e) = clash u (ap (λ (s : Slot). is_used s.state) e)
    other i l u h (stays f v e) =
        s.befores_other i l v (remaining_was t.slots b (slot_at t.slots i) i (subst (λ (n : Slot). has n.befores i ≡ true) e h)).0
    other i l u h (was_free f v e) = clash u (ap (λ (s : Slot). is_used s.state) e ∙ v)

-- ---- create

-- a patch that a sound table can take in a free slot
pub record Fit (t : Table) (p : Slot) : Type 0 where
  pub used : is_used p.state ≡ true
  pub number : p.number ≡ t.next
  pub last : t.next ≤ last_number
  pub block : p.block < blocks
  pub len_least : 1 ≤ p.len
  pub len_most : p.len ≤ most_bytes
  pub ends : p.offset + p.len ≤ block_bytes
  pub befores : (k : ℕ) → k < slots → has p.befores k ≡ true → is_used (slot_at t.slots k).state ≡ true
  pub room : (r : ℕ) → has_room p.state r ≡ true → (r < rooms t.setting) × FreeRoom t.slots r

-- slots that are as they were, but for a patch that fits in one that was free, stay sound
module _ (t : Table) (s : Sound t) (ss : List Slot) (j : ℕ) (p : Slot) (jl : j < slots) (free : used t.slots j ≡ false) (fit : Fit t p)
    (here : slot_at ss j ≡ p) (there : (i : ℕ) → i < slots → (i ≡ j → ⊥) → slot_at ss i ≡ slot_at t.slots i) where
  -- what holds of the patch, and of each other slot as it was, holds of each slot
  each : (P : ℕ → Slot → Type 0) (i : ℕ) → i < slots → P j p → ((i ≡ j → ⊥) → P i (slot_at t.slots i)) → P i (slot_at ss i)
  each P i l a b = go (ℕ_discrete i j)
    where
      go : Dec (i ≡ j) → P i (slot_at ss i)
      go (yes e) = subst (λ (k : ℕ). P k (slot_at ss k)) (sym e) (subst (P j) (sym here) a)
      go (no d) = subst (P i) (sym (there i l d)) (b d)

  -- the slots that were in use are
  still_used : (k : ℕ) → k < slots → used t.slots k ≡ true → used ss k ≡ true
  still_used k m u = each (λ k n. is_used n.state ≡ true) k m fit.used (λ d. u)

  -- a number in use is below next, so the patch's is another
  new_number : (i : ℕ) → i < slots → used t.slots i ≡ true → (slot_at t.slots i).number ≡ p.number → ⊥
  new_number i l u e = omega (arith, s.number_most i l u, e, fit.number)

  pub adds_sound : Sound (with_next (t.next + 1) (with_slots ss t))
  adds_sound = record {
    first_least = s.first_least;
    first_most = s.first_most;
    next_least = omega (arith, s.next_least);
    next_most = omega (arith, fit.last);
    number_least = λ i l. each (λ i n. is_used n.state ≡ true → t.first ≤ n.number) i l (λ u. omega (arith, fit.number, s.next_least))
        (λ d u. s.number_least i l u);
    number_most = λ i l. each (λ i n. is_used n.state ≡ true → n.number < t.next + 1) i l (λ u. omega (arith, fit.number))
        (λ d u. omega (arith, s.number_most i l u));
    numbers_differ = λ i k l m.
        each (λ i n. is_used n.state ≡ true → used ss k ≡ true → n.number ≡ (slot_at ss k).number → i ≡ k) i l
        (λ u. each (λ k n. is_used n.state ≡ true → p.number ≡ n.number → j ≡ k) k m (λ v e. refl) (λ d v e. absurd (new_number k m v (sym e))))
        (λ d u. each (λ k n. is_used n.state ≡ true → (slot_at t.slots i).number ≡ n.number → i ≡ k) k m (λ v e. absurd (new_number i l u e))
        (λ c v e. s.numbers_differ i k l m u v e));
    block_most = λ i l. each (λ i n. is_used n.state ≡ true → n.block < blocks) i l (λ u. fit.block) (λ d u. s.block_most i l u);
    len_least = λ i l. each (λ i n. is_used n.state ≡ true → 1 ≤ n.len) i l (λ u. fit.len_least) (λ d u. s.len_least i l u);
    len_most = λ i l. each (λ i n. is_used n.state ≡ true → n.len ≤ most_bytes) i l (λ u. fit.len_most) (λ d u. s.len_most i l u);
    ends = λ i l. each (λ i n. is_used n.state ≡ true → n.offset + n.len ≤ block_bytes) i l (λ u. fit.ends) (λ d u. s.ends i l u);
    befores_used = λ i k l m.
        each (λ i n. is_used n.state ≡ true → has n.befores k ≡ true → used ss k ≡ true) i l
        (λ u h. still_used k m (fit.befores k m h))
        (λ d u h. still_used k m (s.befores_used i k l m u h));
    befores_other = λ i l.
        each (λ i n. is_used n.state ≡ true → has n.befores i ≡ true → ⊥) i l (λ u h. clash (fit.befores j jl h) free) (λ d u. s.befores_other i l u);
    room_most = λ i r l. each (λ i n. has_room n.state r ≡ true → r < rooms t.setting) i l (λ h. (fit.room r h).0) (λ d h. s.room_most i r l h);
    rooms_differ = λ i k r l m.
        each (λ i n. has_room n.state r ≡ true → HasRoom ss k r → i ≡ k) i l
        (λ h. each (λ k n. has_room n.state r ≡ true → j ≡ k) k m (λ g. refl) (λ d g. absurd ((fit.room r h).1 k m g)))
        (λ d h. each (λ k n. has_room n.state r ≡ true → i ≡ k) k m (λ g. absurd ((fit.room r g).1 i l h)) (λ c g. s.rooms_differ i k r l m h g));
  }

pub turned_like : (h : Hold) (b : ℕ) (s : Slot) → Like (turned h b s) s
turned_like hold.Hard b s =
    state_like (eqb s.block b) (turned_state s.state) s (turned_used s.state) (turned_hard s.state) (turned_flies s.state)
    (turned_room s.state)
turned_like (hold.Soft r) b s = like_self s

pub turned_befores : (h : Hold) (b : ℕ) (s : Slot) → (turned h b s).befores ≡ s.befores
turned_befores hold.Hard b s = state_befores (eqb s.block b) (turned_state s.state) s
turned_befores (hold.Soft r) b s = refl

-- a slot among the befores of a new patch is in use
pub befores_are_used : (ss : List Slot) (c : Change) (k : ℕ) → has (befores ss c) k ≡ true → used ss k ≡ true
unfolding befores
befores_are_used ss c k h =
    ⊎_elim (λ e. (and-true (used ss k) _ e).0)
    (λ e.
    ⊎_elim (λ f. (and-true (used ss k) _ f).0)
    (λ f. hard_patch_used (slot_at ss k).state (and-true (is_hard_patch (slot_at ss k).state) _ f).0)
    (or-true (overlaps ss c k) (hard_patch_on ss c.block k) e))
    (or-true (is_named ss c k) (overlaps ss c k || hard_patch_on ss c.block k)
    (sym (has_set (is_before ss c) k (has_slot (set_of (is_before ss c)) k (set_lt (is_before ss c)) h)) ∙ h))

-- the room of a new patch is a free one
new_room : (g : Setting) (ss : List Slot) (b : ℕ) (h : Hold) → HoldOf g ss b h → (r : ℕ) → has_room (state.Waiting h) r ≡ true
    → (r < rooms g) × FreeRoom ss r
new_room g ss b h (HoldOf.hard w) r e = absurd (clash e refl)
new_room g ss b h (HoldOf.soft {r = q} w low) r e =
    subst (λ (x : ℕ). (x < rooms g) × FreeRoom ss x) (room_is (state.Waiting (hold.Soft q)) r e) (low.within, low.holds)

pub accepted_sound : (t : Table) (image undo : List ℕ) (c : Change) (j : ℕ) (h : Hold) → CreatePassed t image undo c → TakesSlot t c
    → Lowest slots (FreeSlot t.slots) j → HoldOf t.setting t.slots c.block h → Sound (accepted t c j h)
unfolding accepted patch
accepted_sound t image undo c j h v own low held =
    adds_sound (with_slots (slots_by g) t)
    (keeps_sound t s (slots_by g) (λ i l. inr (like i l))
    (λ i k l m u b. (like k m).used ∙ s.befores_used i k l m (sym (like i l).used ∙ u) (before i l k b))
    (λ i l u b. s.befores_other i l (sym (like i l).used ∙ u) (before i l i b)))
    (accepted_slots t.slots (patch t c h) j h) j (patch t c h) low.within ((like j low.within).used ∙ low.holds) fit
    (at j low.within ∙ ap (λ (here : Bool). accepted_slot (patch t c h) h here (slot_at t.slots j)) (eq-eqb j j refl))
    (λ i l d. at i l ∙ ap (λ (here : Bool). accepted_slot (patch t c h) h here (slot_at t.slots i)) (ne_eqb i j d) ∙ sym (slot_by g i l))
  where
    s : Sound t
    s = v.ready.sound

    at : (i : ℕ) → i < slots → slot_at (accepted_slots t.slots (patch t c h) j h) i ≡ accepted_slot (patch t c h) h (eqb i j) (slot_at t.slots i)
    at = accepted_at t.slots (patch t c h) j h

    g : ℕ → Slot
    g i = turned h c.block (slot_at t.slots i)

    like : (i : ℕ) → i < slots → Like (slot_at (slots_by g) i) (slot_at t.slots i)
    like i l = subst (λ (n : Slot). Like n (slot_at t.slots i)) (sym (slot_by g i l)) (turned_like h c.block (slot_at t.slots i))

    before : (i : ℕ) → i < slots → (k : ℕ) → has (slot_at (slots_by g) i).befores k ≡ true → has (slot_at t.slots i).befores k ≡ true
    before i l k b =
        subst (λ (m : ℕ). has m k ≡ true)
        (ap (λ (n : Slot). n.befores) (slot_by g i l) ∙ turned_befores h c.block (slot_at t.slots i)) b

    fit : Fit (with_slots (slots_by g) t) (patch t c h)
    fit = record {
      used = refl;
      number = refl;
      last = v.last own;
      block = v.ready.is_block;
      len_least = v.ready.len_least;
      len_most = v.ready.len_most;
      ends = v.ready.ends;
      befores = λ k l b. (like k l).used ∙ befores_are_used t.slots c k b;
      room = λ r e. let n = new_room t.setting t.slots c.block h held r e in (n.0, λ i l x. n.1 i l ((like i l).room r x));
    }
