-- The search by rounds ends, and from a block's waiting patches with its hard ones it ends at the largest set that may go. This is shown here once:
-- the code cites how rounds go on and end, the rows compute a few of them.
use Prim.Native.Nat.{ℕ, zero, suc, ◌≤◌, ◌<◌, ◌^◌}
use mathlib.Core.Path.{◌≡◌, refl, sym, ap, subst, ◌∙◌}
use mathlib.Core.Bool.{Bool, true, false, ◌&&◌, not, and-false}
use mathlib.Core.List.{List}
use mathlib.Core.Logic.{⊎_elim}
use native.Mathlib.Decide.{ℕ_discrete}
use native.Mathlib.Omega.{arith}
use borrow.Author.Tests.{not-true, not-false}
use Rattle.masks.specs.Sets.{has, set_of, Sub, some_below, within, how_many}
use Rattle.masks.proofs.Laws.{has_set, has_slot, has_none, set_lt, none_at, at_none, within_at, at_within, size_less, many_le}
use Rattle.ground.proofs.Decided.{clash, true_or_false, and-true, true_and}
use Rattle.rules.specs.declared.Slot.{Slot}
use Rattle.rules.specs.Sizes.{slots}
use Rattle.rules.specs.Table.{slot_at, waits_on, hard_on}
use Rattle.rules.specs.Write.{MayGo, Largest}
use Rattle.rules.specs.Rounds.{strikes, round, rounds, searched}
use Rattle.rules.proofs.Words.{hard_waits_on}

-- ---- one round, whichever slots count as hard

module _ (ss : List Slot) (hard : ℕ) where
  -- a hard slot is struck in a round that begins with s
  abbrev pub strikes_hard : ℕ → Bool
  strikes_hard s = some_below (λ i. has hard i && strikes ss s i) slots

  -- slot i outlives a round that begins with s
  pub record Stays (s i : ℕ) : Type 0 where
    pub here : has s i ≡ true
    pub clear : within (slot_at ss i).befores s ≡ true
    pub hards : strikes_hard s ≡ false

  pub hard_struck : (s : ℕ) → strikes_hard s ≡ true → round ss hard s ≡ 0
  unfolding round
  hard_struck s e = rw e

  pub none_struck : (s : ℕ) → strikes_hard s ≡ false → round ss hard s ≡ set_of (λ i. has s i && not (strikes ss s i))
  unfolding round
  none_struck s e = rw e

  pub round_lt : (s : ℕ) → round ss hard s < 2 ^ 64
  round_lt s =
      ⊎_elim (λ e. rw (hard_struck s e) (omega arith)) (λ e. rw (none_struck s e) (set_lt (λ i. has s i && not (strikes ss s i))))
      (true_or_false (strikes_hard s))

  pub stays_round : (s i : ℕ) → i < slots → Stays s i → has (round ss hard s) i ≡ true
  stays_round s i l z =
      ap (λ (x : ℕ). has x i) (none_struck s z.hards) ∙ has_set (λ i. has s i && not (strikes ss s i)) i l
      ∙ true_and z.here (rw (z.here, z.clear))

  pub round_stays : (s i : ℕ) → has (round ss hard s) i ≡ true → Stays s i
  round_stays s i h =
      ⊎_elim (λ e. absurd (clash h (ap (λ (x : ℕ). has x i) (hard_struck s e) ∙ has_none i)))
      (λ e.
      let p : ℕ → Bool = λ i. has s i && not (strikes ss s i) in
      let w = and-true (has s i) _ (sym (has_set p i (has_slot (round ss hard s) i (round_lt s) h)) ∙ sym (ap (λ (x : ℕ). has x i) (none_struck s e)) ∙ h) in
      record { here = w.0; clear = not-false (within (slot_at ss i).befores s) (rw w.0 at (not-true (strikes ss s i) w.1)); hards = e })
      (true_or_false (strikes_hard s))

  pub round_sub : (s : ℕ) → Sub (round ss hard s) s
  round_sub s i h = (round_stays s i h).here

  -- ---- the rounds

  rounds_settled : (s : ℕ) → round ss hard s ≡ s → (n : ℕ) → rounds ss hard n s ≡ s
  unfolding rounds
  rounds_settled s e zero = refl
  rounds_settled s e (suc n) = ap (rounds ss hard n) e ∙ rounds_settled s e n

  round_after : (n s : ℕ) → round ss hard (rounds ss hard n s) ≡ rounds ss hard n (round ss hard s)
  unfolding rounds
  round_after zero s = refl
  round_after (suc n) s = round_after n (round ss hard s)

  -- after as many rounds as s has slots no round strikes
  settles : (n s : ℕ) → s < 2 ^ 64 → how_many (has s) 64 ≤ n → round ss hard (rounds ss hard n s) ≡ rounds ss hard n s
  unfolding rounds
  settles zero s l m = elim (ℕ_discrete (round ss hard s) s) [
    | yes e ↦ e
    | no d ↦ absurd (omega (arith, size_less (round ss hard s) s (round_lt s) l (round_sub s) d))
  ]
  settles (suc n) s l m = elim (ℕ_discrete (round ss hard s) s) [
    | yes e ↦ let still = rounds_settled s e (suc n) in rw still e
    | no d ↦ settles n (round ss hard s) (round_lt s) (omega (arith, size_less (round ss hard s) s (round_lt s) l (round_sub s) d))
  ]

  pub searched_settled : (s : ℕ) → round ss hard s ≡ s → searched ss hard s ≡ s
  unfolding searched
  searched_settled s e = rounds_settled s e slots

  -- a round leaves the end as it is
  pub searched_round : (s : ℕ) → s < 2 ^ 64 → searched ss hard (round ss hard s) ≡ searched ss hard s
  unfolding searched
  searched_round s l = sym (round_after slots s) ∙ settles slots s l (many_le (has s) 64)

-- ---- from a block's waiting patches, with its hard ones

-- the slots that are hard for block b, and those that the search starts from
abbrev pub hard_set : List Slot → ℕ → ℕ
hard_set ss b = set_of (hard_on ss b)

abbrev pub waiting_set : List Slot → ℕ → ℕ
waiting_set ss b = set_of (waits_on ss b)

module _ (ss : List Slot) (b : ℕ) where
  -- what every round keeps: the set has every set that may go and, unless it is empty, every hard patch
  record Kept (s : ℕ) : Type 0 where
    set : s < 2 ^ 64
    within : (i : ℕ) → has s i ≡ true → waits_on ss b i ≡ true
    most : (u : ℕ) → MayGo ss b u → Sub u s
    hards : (i : ℕ) → has s i ≡ true → (h : ℕ) → h < slots → hard_on ss b h ≡ true → has s h ≡ true

  all_waiting_kept : Kept (waiting_set ss b)
  all_waiting_kept = record {
    set = set_lt (waits_on ss b);
    within = λ i e. sym (has_set (waits_on ss b) i (has_slot (waiting_set ss b) i (set_lt (waits_on ss b)) e)) ∙ e;
    most = λ u g i e. has_set (waits_on ss b) i (has_slot u i g.set e) ∙ g.within i e;
    hards = λ i e h l w. has_set (waits_on ss b) h l ∙ hard_waits_on ss b h w;
  }

  -- a member of a set that may go has its befores in every set that is kept
  clear_of : (s u : ℕ) → Kept s → MayGo ss b u → (i : ℕ) → has u i ≡ true → within (slot_at ss i).befores s ≡ true
  clear_of s u k g i e = at_within (slot_at ss i).befores s (λ j l h. k.most u g j (g.closed i j e l h))

  round_keeps : (s : ℕ) → Kept s → Kept (round ss (hard_set ss b) s)
  round_keeps s k = record {
    set = round_lt ss (hard_set ss b) s;
    within = λ i e. k.within i (stays i e).here;
    most = λ u g i e. stays_round ss (hard_set ss b) s i (has_slot u i g.set e)
        (record { here = k.most u g i e; clear = clear_of s u k g i e; hards = at_none _ slots (unstruck u g i e) });
    hards = λ i e h l w.
        let z = stays i e in
        let here = k.hards i z.here h l w in
        stays_round ss (hard_set ss b) s h l (record { here = here; clear = hard_clear h l w here z.hards; hards = z.hards });
  }
    where
      stays : (i : ℕ) → has (round ss (hard_set ss b) s) i ≡ true → Stays ss (hard_set ss b) s i
      stays i e = round_stays ss (hard_set ss b) s i e

      -- where a set with a member may go, no hard slot is struck
      unstruck : (u : ℕ) → MayGo ss b u → (i : ℕ) → has u i ≡ true → (h : ℕ) → h < slots → (has (hard_set ss b) h && strikes ss s h) ≡ false
      unstruck u g i e h l =
          ⊎_elim
          (λ w. rw (clear_of s u k g h (g.hards i e h l (sym (has_set (hard_on ss b) h l) ∙ w)), w) (and-false (has s h)))
          (λ w. rw w) (true_or_false (has (hard_set ss b) h))

      hard_clear : (h : ℕ) → h < slots → hard_on ss b h ≡ true → has s h ≡ true → strikes_hard ss (hard_set ss b) s ≡ false
          → within (slot_at ss h).befores s ≡ true
      hard_clear h l w here none =
          not-false (within (slot_at ss h).befores s)
          (rw (has_set (hard_on ss b) h l ∙ w, here) at (none_at (λ i. has (hard_set ss b) i && strikes ss s i) slots h none l))

  rounds_keep : (n s : ℕ) → Kept s → Kept (rounds ss (hard_set ss b) n s)
  unfolding rounds
  rounds_keep zero s k = k
  rounds_keep (suc n) s k = rounds_keep n (round ss (hard_set ss b) s) (round_keeps s k)

  -- a round that strikes nothing
  round_largest : (s : ℕ) → round ss (hard_set ss b) s ≡ s → Kept s → Largest ss b s
  round_largest s e k = record {
    goes = record {
      set = k.set;
      within = k.within;
      closed = λ i j h l w. within_at (slot_at ss i).befores s j (round_stays ss (hard_set ss b) s i (subst (λ (x : ℕ). has x i ≡ true) (sym e) h)).clear l w;
      hards = k.hards;
    };
    most = k.most;
  }

  -- rounds that have come to an end are at the largest set that may go, however many they were
  pub rounds_largest : (n : ℕ) → let s = rounds ss (hard_set ss b) n (waiting_set ss b) in round ss (hard_set ss b) s ≡ s → Largest ss b s
  rounds_largest n e = round_largest _ e (rounds_keep n (waiting_set ss b) all_waiting_kept)

  pub searched_largest : Largest ss b (searched ss (hard_set ss b) (waiting_set ss b))
  unfolding searched
  searched_largest = rounds_largest slots (settles ss (hard_set ss b) slots (waiting_set ss b) (set_lt (waits_on ss b)) (many_le (has (waiting_set ss b)) 64))
