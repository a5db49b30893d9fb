-- A call on concrete tables, from tests that compute: what each row of the worked session is shown with.
use Prim.Native.Nat.{ℕ, ◌+◌, ◌<◌, ◌≤◌}
use mathlib.Core.Path.{◌≡◌, refl, sym, ap, subst, ◌∙◌}
use mathlib.Core.Bool.{Bool, true, false, ◌&&◌}
use mathlib.Core.List.{List, [], ◌∷◌}
use mathlib.Core.Logic.{⊎_elim}
use native.Mathlib.Omega.{arith}
use borrow.Author.Tests.{leb-true, ltb-true}
use lib.Dec.{leb, ltb}
use lib.ListN.{length, replicate, length-replicate}
use Rattle.masks.specs.Sets.{has, some_below}
use Rattle.masks.proofs.Laws.{has_none, has_slot, none_at}
use Rattle.ground.proofs.Decided.{clash, and-true}
use Rattle.spans.proofs.Laws.{length_splice}
use Rattle.rules.specs.declared.refusals.Refusal.{Refusal}
use Rattle.rules.specs.declared.refusals.Refusal.TheVariants as refusal
use Rattle.rules.specs.declared.Hold.{Hold}
use Rattle.rules.specs.declared.Hold.TheVariants as hold
use Rattle.rules.specs.declared.Setting.{Setting}
use Rattle.rules.specs.declared.Setting.TheVariants.{Board}
use Rattle.rules.specs.Sizes.{blocks, block_bytes, image_bytes, slots, most_bytes, most_named, last_number}
use Rattle.rules.specs.Settings.{undo_bytes}
use Rattle.rules.specs.Table.{Table, flies_on, waits_on, Flies, Sound}
use Rattle.rules.specs.Open.{opened}
use Rattle.masks.specs.Lowest.{Lowest}
use Rattle.rules.specs.Create.{Change, FreeSlot, HoldOf, Joins, LowestNumbered, changed, kept}
use Rattle.rules.specs.Write.{Largest}
use Rattle.rules.specs.Rounds.{round, rounds}
use Rattle.rules.specs.Refusals.{NoRoom, TakesSlot, First, create_cases, NoNumber, NoSlot, case}
use Rattle.rules.specs.Calls.{Opens, open_granted, Creation, Creates, Accepts, create_granted, create_joined, Writing, Writes}
use Rattle.rules.specs.Calls.{write_granted, write_refused, Completion, Completes}
use Rattle.rules.specs.Calls.{complete_granted}
use Rattle.rules.specs.Rows.{Radio}
use Rattle.rules.proofs.Cases.{holds, passes, none_holds}
use Rattle.rules.proofs.Outcomes.{refuses, grants}
use Rattle.rules.proofs.SettingKept.{create_setting, write_setting, complete_setting}
use Rattle.rules.proofs.StaysSound.{opened_sound}
use Rattle.rules.proofs.SoundCalls.{create_sound, write_sound, complete_sound}
use Rattle.rules.proofs.Computed.{all_issued, names_issued}
use Rattle.rules.proofs.Largest.{largest_empty}
use Rattle.rules.proofs.Rounds.{hard_set, waiting_set, rounds_largest}

-- a sound table and buffers of their sizes
pub record Good (r : Radio) : Type 0 where
  pub sound : Sound r.table
  pub image_whole : length r.image ≡ image_bytes
  pub undo_whole : length r.undo ≡ undo_bytes r.table.setting

-- opened at n on the board, the image all zero; the undo area holds 7s
abbrev pub just_opened : ℕ → Radio
just_opened n = record { table = opened Board n; image = replicate image_bytes 0; undo = replicate (undo_bytes Board) 7 }

pub just_opened_good : (n : ℕ) → 1 ≤ n → n ≤ last_number → Good (just_opened n)
just_opened_good n least most = record {
  sound = opened_sound Board n least most;
  image_whole = length-replicate {A = ℕ} image_bytes 0;
  undo_whole = length-replicate {A = ℕ} (undo_bytes Board) 7;
}

abbrev pub after_create : Creation → Radio
after_create o = record { table = o.table; image = o.image; undo = o.undo }

abbrev pub after_write : Writing → Radio
after_write o = record { table = o.table; image = o.image; undo = o.undo }

abbrev pub after_complete : Radio → Completion → Radio
after_complete r o = record { table = o.table; image = r.image; undo = r.undo }

-- a granted call on what a radio has: that it is one, and that table and buffers are good after it
abbrev pub Made : Radio → Change → ℕ → Hold → Type 0
Made r c j h = Creates r.table r.image r.undo c (create_granted r.table r.image r.undo c j h) × Good
    (after_create (create_granted r.table r.image r.undo c j h))

abbrev pub JoinedIn : Radio → Change → ℕ → Type 0
JoinedIn r c j = Creates r.table r.image r.undo c (create_joined r.table r.image r.undo c j) × Good
    (after_create (create_joined r.table r.image r.undo c j))

abbrev pub Went : Radio → List ℕ → ℕ → ℕ → Type 0
Went r lent b s = Writes r.table r.image r.undo lent b (write_granted r.table r.image r.undo b s) × Good
    (after_write (write_granted r.table r.image r.undo b s))

abbrev pub Done : Radio → ℕ → Type 0
Done r b = Completes r.table b (complete_granted r.table b) × Good (after_complete r (complete_granted r.table b))

-- a refused write
abbrev pub Stayed : Radio → List ℕ → ℕ → Refusal → Type 0
Stayed r lent b q = Writes r.table r.image r.undo lent b (write_refused r.table r.image r.undo lent q)

-- a granted open
pub open_row : (g : Setting) (n : ℕ) → (n ≡ 0 → ⊥) → n ≤ last_number → Opens g n (open_granted g n)
open_row g n d l = grants (open_granted g n) (passes (⊎_elim d (λ m. omega arith)) none_holds) refl refl

-- ---- create

-- block, length, end and numbers of the change are within their bounds
unfoldable pub in_bounds : Table → Change → Bool
in_bounds t c =
    ltb c.block blocks &&
    (leb 1 (length c.bytes) &&
    (leb (length c.bytes) most_bytes &&
    (leb (c.offset + length c.bytes) block_bytes && (leb (length c.named) most_named && all_issued t c.named))))

room_for : (t : Table) (c : Change) (h : Hold) → HoldOf t.setting t.slots c.block h → NoRoom t c → ⊥
room_for t c h (HoldOf.hard w) n = n.0 w
room_for t c h (HoldOf.soft {r = r} w low) n = n.1 r low.within low.holds

-- a creation on a block where none waits, and one that is soft, takes a slot
pub none_to_join : (t : Table) (c : Change) → some_below (waits_on t.slots c.block) slots ≡ false → TakesSlot t c
none_to_join t c e j = let w = j.some_wait in clash w.2 (none_at (waits_on t.slots c.block) slots w.0 e w.1)

length_kept : (undo image : List ℕ) (c : Change) (h : Hold) → length (kept undo image c h) ≡ length undo
unfolding kept
length_kept undo image c hold.Hard = refl
length_kept undo image c (hold.Soft r) = length_splice undo _ _

module _ (r : Radio) (g : Good r) where
  -- refusals 1 to 7 are passed
  passed_seven : (c : Change) → in_bounds r.table c ≡ true
      → First (case 8 (NoNumber r.table c) ∷ case 9 (NoSlot r.table c) ∷ case 10 (NoRoom r.table c) ∷ []) 0
      → First (create_cases r.table r.image r.undo c) 0
  unfolding in_bounds
  passed_seven c e rest =
      let w1 = and-true (ltb c.block blocks) _ e in
      let w2 = and-true (leb 1 (length c.bytes)) _ w1.1 in
      let w3 = and-true (leb (length c.bytes) most_bytes) _ w2.1 in
      let w4 = and-true (leb (c.offset + length c.bytes) block_bytes) _ w3.1 in
      let w5 = and-true (leb (length c.named) most_named) _ w4.1 in
      let b1 : c.block < blocks = ltb-true _ _ w1.0 in
      let b2 : 1 ≤ length c.bytes = leb-true _ _ w2.0 in
      let b3 : length c.bytes ≤ most_bytes = leb-true _ _ w3.0 in
      let b4 : c.offset + length c.bytes ≤ block_bytes = leb-true _ _ w4.0 in
      let b5 : length c.named ≤ most_named = leb-true _ _ w5.0 in
      passes (⊎_elim (λ n. n g.image_whole) (λ n. n g.undo_whole))
      (passes (λ n. n g.sound)
      (passes (λ l. omega arith)
      (passes (⊎_elim (λ l. omega arith) (λ l. omega arith))
      (passes (λ l. omega arith)
      (passes (λ l. omega arith)
      (passes (names_issued r.table c w5.1)
      rest))))))

  created : (c : Change) (j : ℕ) (h : Hold) → in_bounds r.table c ≡ true → r.table.next ≤ last_number → TakesSlot r.table c
      → Lowest slots (FreeSlot r.table.slots) j → HoldOf r.table.setting r.table.slots c.block h
      → Creates r.table r.image r.undo c (create_granted r.table r.image r.undo c j h)
  created c j h e last own low held =
      grants (create_granted r.table r.image r.undo c j h)
      (passed_seven c e
      (passes (λ n. omega (arith, n.1))
      (passes (λ n. n.1 j low.within low.holds)
      (passes (room_for r.table c h held)
      none_holds))))
      refl
      (Accepts.takes own (record { slot = j; hold = h; lowest = low; hard-or-soft = held; number = refl; says = refl; whole = refl }))

  joins_in : (c : Change) (j : ℕ) → in_bounds r.table c ≡ true → Joins r.table.setting r.table.slots c.block
      → LowestNumbered r.table.slots c.block j
      → Creates r.table r.image r.undo c (create_joined r.table r.image r.undo c j)
  joins_in c j e does low =
      grants (create_joined r.table r.image r.undo c j)
      (passed_seven c e (passes (λ n. n.0 does) (passes (λ n. n.0 does) (passes (λ n. n.0 does.would_be_hard) none_holds))))
      refl
      (Accepts.joins does (record { slot = j; lowest = low; number = refl; says = refl; whole = refl }))

  good_created : (c : Change) (o : Creation) → Creates r.table r.image r.undo c o → length o.image ≡ length r.image
      → length o.undo ≡ length r.undo → Good (after_create o)
  good_created c o p i u = record {
    sound = create_sound r.table r.image r.undo c o g.sound p;
    image_whole = i ∙ g.image_whole;
    undo_whole = u ∙ g.undo_whole ∙ ap undo_bytes (sym (create_setting r.table r.image r.undo c o p));
  }

  -- a granted create, and what it leaves
  pub create_row : (c : Change) (j : ℕ) (h : Hold) → in_bounds r.table c ≡ true → r.table.next ≤ last_number → TakesSlot r.table c
      → Lowest slots (FreeSlot r.table.slots) j → HoldOf r.table.setting r.table.slots c.block h
      → Made r c j h
  unfolding changed
  create_row c j h e last own low held =
      let p = created c j h e last own low held in
      (p, good_created c (create_granted r.table r.image r.undo c j h) p (length_splice r.image _ _) (length_kept r.undo r.image c h))

  -- one that joins, and what it leaves
  pub join_row : (c : Change) (j : ℕ) → in_bounds r.table c ≡ true → Joins r.table.setting r.table.slots c.block
      → LowestNumbered r.table.slots c.block j → JoinedIn r c j
  unfolding changed
  join_row c j e does low =
      let p = joins_in c j e does low in
      (p, good_created c (create_joined r.table r.image r.undo c j) p (length_splice r.image _ _) refl)

  -- ---- write

  flies_not : (b : ℕ) → some_below (flies_on r.table.slots b) slots ≡ false → Flies r.table.slots b → ⊥
  flies_not b e f = clash f.2 (none_at (flies_on r.table.slots b) slots f.0 e f.1)

  module _ (b : ℕ) (lent : List ℕ) (is_Block : b < blocks) (whole : length lent ≡ block_bytes) where
    -- refused 11
    pub write_flies : (i : ℕ) → i < slots → flies_on r.table.slots b i ≡ true
        → Stayed r lent b refusal.InFlight
    write_flies i l f =
        refuses refusal.InFlight
        (passes (⊎_elim (λ n. n g.image_whole) (⊎_elim (λ n. n g.undo_whole) (λ n. n whole)))
        (passes (λ n. n g.sound)
        (passes (λ l. omega arith)
        (holds (i, l, f)))))
        refl

    -- n rounds, after which none strikes
    module _ (n s : ℕ) (still : some_below (flies_on r.table.slots b) slots ≡ false)
        (searches : rounds r.table.slots (hard_set r.table.slots b) n (waiting_set r.table.slots b) ≡ s)
        (settled : round r.table.slots (hard_set r.table.slots b) s ≡ s) where
      largest : Largest r.table.slots b s
      largest =
          subst (Largest r.table.slots b) searches
          (rounds_largest r.table.slots b n (ap (round r.table.slots (hard_set r.table.slots b)) searches ∙ settled ∙ sym searches))

      -- refused 13
      pub write-none : (i : ℕ) → i < slots → waits_on r.table.slots b i ≡ true → s ≡ 0 → Stayed r lent b refusal.NoneMayGo
      write-none i l w z =
          refuses refusal.NoneMayGo
          (passes (⊎_elim (λ n. n g.image_whole) (⊎_elim (λ n. n g.undo_whole) (λ n. n whole)))
          (passes (λ n. n g.sound)
          (passes (λ l. omega arith)
          (passes (flies_not b still)
          (passes (λ n. n (i, l, w))
          (holds ((i, l, w), largest_empty (subst (Largest r.table.slots b) z largest))))))))
          refl

      -- granted
      pub write_row : (i : ℕ) → has s i ≡ true → Went r lent b s
      write_row i h = (
        p,
        record {
          sound = write_sound r.table r.image r.undo lent b (write_granted r.table r.image r.undo b s) g.sound p;
          image_whole = g.image_whole;
          undo_whole = g.undo_whole ∙ ap undo_bytes (sym (write_setting r.table r.image r.undo lent b _ p));
        },
      )
        where
          p : Writes r.table r.image r.undo lent b (write_granted r.table r.image r.undo b s)
          p =
              grants (write_granted r.table r.image r.undo b s)
              (passes (⊎_elim (λ n. n g.image_whole) (⊎_elim (λ n. n g.undo_whole) (λ n. n whole)))
              (passes (λ n. n g.sound)
              (passes (λ l. omega arith)
              (passes (flies_not b still)
              (passes (λ n. n (i, has_slot s i largest.goes.set h, largest.goes.within i h))
              (passes (λ e. clash h (subst (λ (x : ℕ). has x i ≡ false) (sym (e.1 s largest.goes)) (has_none i)))
              none_holds))))))
              refl
              (record { largest = largest; whole = refl })

  -- ---- complete
  pub complete_row : (b i : ℕ) → b < blocks → i < slots → flies_on r.table.slots b i ≡ true
      → Done r b
  complete_row b i is_Block l f =
      let p : Completes r.table b (complete_granted r.table b) =
      grants (complete_granted r.table b) (passes (λ n. n g.sound) (passes (λ l. omega arith) (passes (λ n. n (i, l, f)) none_holds))) refl refl in (
        p,
        record {
          sound = complete_sound r.table b (complete_granted r.table b) g.sound p;
          image_whole = g.image_whole;
          undo_whole = g.undo_whole ∙ ap undo_bytes (sym (complete_setting r.table b _ p));
        },
      )
