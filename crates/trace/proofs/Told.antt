-- What holds along a run and its notes: the table is sound, the noted numbers have been issued, and the counts are of the notes. Assumes nothing.
use Prim.Native.Nat.{ℕ, ◌≤◌, ◌<◌}
use mathlib.Core.Path.{◌≡◌, refl, sym, subst, ◌∙◌}
use mathlib.Core.Bool.{Bool, true, false}
use mathlib.Core.List.{List, [], ◌∷◌}
use mathlib.Core.Logic.{⊎_elim}
use native.Mathlib.Omega.{arith}
use native.Mathlib.Decide.{ℕ_discrete}
use borrow.Author.Tests.{eq-eqb, eqb-true}
use lib.Dec.{eqb}
use lib.ListN.{length, get_or-replicate}
use Rattle.masks.proofs.Laws.{some_at}
use Rattle.ground.proofs.Decided.{clash, or-true, true_and}
use Rattle.rules.specs.declared.Setting.TheVariants.{Board}
use Rattle.rules.specs.declared.Slot.{Slot}
use Rattle.rules.specs.Sizes.{slots}
use Rattle.rules.specs.Table.{Table, slot_at, Sound, Issued}
use Rattle.rules.specs.Create.{Change, is_in, patch, accepted, joined}
use Rattle.rules.specs.Write.{sent}
use Rattle.rules.specs.Complete.{landing, completed}
use Rattle.rules.specs.Calls.{answer_number, Opening, Opens, Creation, Creates, Accepts, Takes, JoinsOne}
use Rattle.rules.specs.Calls.{Writing, Writes, sent_set, Completion, Completes}
use Rattle.rules.proofs.StaysSound.{opened_sound}
use Rattle.rules.proofs.Words.{waits_on_used}
use Rattle.rules.proofs.SoundCalls.{open_sound, create_sound, write_sound, complete_sound}
use Rattle.records.specs.Record.{Call, opens}
use Rattle.trace.specs.declared.types.Phase.{Phase}
use Rattle.trace.specs.declared.types.Phase.TheVariants as phase
use Rattle.tally.specs.Counts.{most_count, holds_number, one_more}
use Rattle.trace.specs.Run.{Run, Step, begun, is_in_order, Makes, makes_open, makes_create, makes_write, makes_complete, makes_cut, onward, blank}
use Rattle.trace.specs.Run.{after_open, after_create, after_write, after_complete}
use Rattle.trace.specs.OnStore.{Noted, begins, and_made, noted_by, how_many_of}
use Rattle.trace.proofs.Counted.{Counted, same_counted, more_counted, less_counted}
use Rattle.trace.proofs.Holds.{single, new_holds, others_hold, joined_holds, sent_holds, completed_holds}

pub record Told (r : Run) (ns : List ℕ) : Type 0 where
  pub sound : Sound r.table
  pub issued : (n : ℕ) → is_in n ns ≡ true → Issued r.table.next n
  -- before the open nothing is noted
  pub fresh : (n : ℕ) → is_in_order r.phase (opens n) ≡ true → ns ≡ []
  pub counted : length ns ≤ most_count → Counted (holds_number r.table.slots) r.changes r.committed ns

-- a step, told with its notes
abbrev ToldBy : List ℕ → Step → Type 0
ToldBy ns s = Told s.run (noted_by s.line.more ns)

-- where nothing is noted, nothing is counted
none_counted : (h g : ℕ → ℕ → Bool) {changes : List ℕ} {committed : ℕ} → Counted h changes committed [] → Counted g changes committed []
unfolding how_many_of
none_counted h g k = record { each = k.each; gone = k.gone }

module _ {r : Run} {ns : List ℕ} (told : Told r ns) where
  abbrev t : Table
  t = r.table

  -- no note more, and none moved
  keeps : (p : Phase) (t' : Table) (image undo : List ℕ) → ((n : ℕ) → is_in_order p (opens n) ≡ false) → Sound t' → t'.next ≡ t.next
      → ((n i : ℕ) → i < slots → holds_number t'.slots n i ≡ holds_number t.slots n i)
      → Told (onward r p t' image undo r.changes r.committed) ns
  keeps p t' image undo past sound same holds = record {
    sound = sound;
    issued = λ n e. subst (λ (x : ℕ). Issued x n) (sym same) (told.issued n e);
    fresh = λ n e. absurd (clash e (past n));
    counted = λ few. same_counted (holds_number t.slots) (holds_number t'.slots) (λ n e. holds n) (told.counted few);
  }

  stays : (p : Phase) (image undo : List ℕ) → ((n : ℕ) → is_in_order p (opens n) ≡ false) → Told (onward r p t image undo r.changes r.committed) ns
  stays p image undo past = keeps p t image undo past told.sound refl (λ n i l. refl)

  -- a note more, of a number that slot j has
  adds : (t' : Table) (image undo : List ℕ) (n j : ℕ) → Sound t' → t.next ≤ t'.next → Issued t'.next n → j < slots
      → holds_number t'.slots n j ≡ true
      → ((m : ℕ) → is_in m ns ≡ true → (i : ℕ) → i < slots → holds_number t'.slots m i ≡ holds_number t.slots m i)
      → Told (onward r phase.Opened t' image undo (one_more t'.slots n r.changes) r.committed) (n ∷ ns)
  unfolding one_more is_in
  adds t' image undo n j sound later new l here others = record {
    sound = sound;
    issued = λ m e.
        ⊎_elim (λ f. subst (Issued t'.next) (sym (eqb-true m n f)) new) (λ f. let k = told.issued m f in (k.0, omega (arith, k.1, later)))
        (or-true (eqb m n) (is_in m ns) e);
    fresh = λ m e. absurd (clash e refl);
    counted = λ few.
        more_counted (holds_number t'.slots) n few (some_at (holds_number t'.slots n) 64 j l here)
        (same_counted (holds_number t.slots) (holds_number t'.slots) others (told.counted (omega (arith, few))));
  }

  -- ---- each call

  open_told : {n : ℕ} (o : Opening) → is_in_order r.phase (opens n) ≡ true → Opens Board n o → ToldBy ns (after_open r o)
  unfolding is_in
  open_told {n} o e p =
      subst (λ (l : List ℕ). ToldBy l (after_open r o)) (sym none) (record {
        sound = open_sound Board n o p;
        issued = λ m f. absurd (clash f refl);
        fresh = λ m f. refl;
        counted = λ few. none_counted (holds_number t.slots) (holds_number o.table.slots) (before few);
      })
    where
      none : ns ≡ []
      none = told.fresh n e

      before : length {A = ℕ} [] ≤ most_count → Counted (holds_number t.slots) r.changes r.committed []
      before =
          subst (λ (l : List ℕ). length l ≤ most_count → Counted (holds_number t.slots) r.changes r.committed l) none told.counted

  takes_told : {c : Change} (o : Creation) → Sound o.table → Takes t r.image r.undo c o → ToldBy ns (after_create r o)
  unfolding accepted patch
  takes_told {c} o sound g =
      subst (λ (x : Creation). ToldBy ns (after_create r x)) (sym g.whole)
      (adds (accepted t c g.slot g.hold) _ _ t.next g.slot (subst (λ (x : Creation). Sound x.table) g.whole sound) (omega arith)
      (omega (arith, told.sound.first_least, told.sound.next_least), omega arith) g.lowest.within
      (new_holds t.slots p g.slot g.hold g.lowest.within refl)
      (λ m e i l. others_hold t.slots p g.slot g.hold g.lowest.holds m i (λ q. omega (arith, q, (told.issued m e).1)) l))
    where
      p : Slot
      p = patch t c g.hold

  joins_told : {c : Change} (o : Creation) → Sound o.table → JoinsOne t r.image r.undo c o → ToldBy ns (after_create r o)
  unfolding joined
  joins_told {c} o sound g =
      let n = (slot_at t.slots g.slot).number in
      let l = g.lowest.is_slot in
      let u = waits_on_used t.slots c.block g.slot g.lowest.waits in
      subst (λ (x : Creation). ToldBy ns (after_create r x)) (sym g.whole)
      (adds (joined t c g.slot) _ _ n g.slot (subst (λ (x : Creation). Sound x.table) g.whole sound) (omega arith)
      (omega (arith, told.sound.first_least, told.sound.number_least g.slot l u), told.sound.number_most g.slot l u) l
      (joined_holds t.slots c g.slot n g.slot l ∙ true_and u (eq-eqb n n refl))
      (λ m e i k. joined_holds t.slots c g.slot m i k))

  create_told : {c : Change} (o : Creation) → Creates t r.image r.undo c o → ToldBy ns (after_create r o)
  create_told {c} o p = go (ℕ_discrete (answer_number o.answer) 0)
    where
      sound : Sound o.table
      sound = create_sound t r.image r.undo c o told.sound p

      granted : Accepts t r.image r.undo c o → ToldBy ns (after_create r o)
      granted (Accepts.takes own g) = takes_told o sound g
      granted (Accepts.joins j g) = joins_told o sound g

      go : Dec (answer_number o.answer ≡ 0) → ToldBy ns (after_create r o)
      go (no d) = subst (λ (x : Creation). ToldBy ns (after_create r x)) (sym (p.refusal d).2) (stays phase.Opened r.image r.undo (λ n. refl))
      go (yes z) = granted (p.grant z)

  write_told : {b : ℕ} (o : Writing) → Writes t r.image r.undo blank b o → ToldBy ns (after_write r o)
  unfolding sent
  write_told {b} o p = go (ℕ_discrete (answer_number o.answer) 0)
    where
      sound : Sound o.table
      sound = write_sound t r.image r.undo blank b o told.sound p

      go : Dec (answer_number o.answer ≡ 0) → ToldBy ns (after_write r o)
      go (no d) = subst (λ (x : Writing). ToldBy ns (after_write r x)) (sym (p.refusal d).2) (stays phase.Opened r.image r.undo (λ n. refl))
      go (yes z) =
          let g = p.grant z in
          let s = sent_set o.answer in
          subst (λ (x : Writing). ToldBy ns (after_write r x)) (sym g.whole)
          (keeps phase.Opened (sent t s) r.image r.undo (λ n. refl) (subst (λ (x : Writing). Sound x.table) g.whole sound) refl
          (sent_holds t.slots s))

  complete_told : {b : ℕ} (o : Completion) → Completes t b o → ToldBy ns (after_complete r b o)
  unfolding completed
  complete_told {b} o p = go (ℕ_discrete (answer_number o.answer) 0)
    where
      sound : Sound o.table
      sound = complete_sound t b o told.sound p

      go : Dec (answer_number o.answer ≡ 0) → ToldBy ns (after_complete r b o)
      go (no d) = subst (λ (x : Completion). ToldBy ns (after_complete r b x)) (sym (p.refusal d).2) (stays phase.Opened r.image r.undo (λ n. refl))
      go (yes z) = subst (λ (x : Completion). ToldBy ns (after_complete r b x)) (sym (p.grant z)) (record {
        sound = subst (λ (x : Completion). Sound x.table) (p.grant z) sound;
        issued = told.issued;
        fresh = λ n e. absurd (clash e refl);
        counted = λ few.
            same_counted _ _ (λ n e i l. completed_holds t.slots b n i l)
            (less_counted (holds_number t.slots) (single t told.sound) (landing t.slots b) few (told.counted few));
      })

  made_told : {c : Call} {s : Step} → is_in_order r.phase c ≡ true → Makes r c s → ToldBy ns s
  made_told e (makes_open o p) = open_told o e p
  made_told e (makes_create o p) = create_told o p
  made_told e (makes_write o p) = write_told o p
  made_told e (makes_complete o p) = complete_told o p
  made_told e makes_cut = stays phase.Over r.image r.undo (λ n. refl)

begun_told : Told begun []
unfolding begun how_many_of is_in
begun_told = record {
  sound = opened_sound Board 1 (omega arith) (omega arith);
  issued = λ n e. absurd (clash e refl);
  fresh = λ n e. refl;
  counted = λ few. record { each = λ i l. get_or-replicate slots i 0 0 l; gone = refl };
}

pub noted_told : {r : Run} {ns : List ℕ} → Noted r ns → Told r ns
noted_told begins = begun_told
noted_told (and_made k e m) = made_told (noted_told k) e m
