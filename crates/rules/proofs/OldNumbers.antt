-- What document 02, request b, says of numbers, each as a law of the definitions: 7 holds for 0 and for numbers not below next, and for no other; an old
-- number has committed, wherever it is looked up. And the same said of a table just opened.
use Prim.Native.Nat.{ℕ, ◌≤◌, ◌<◌}
use mathlib.Core.Path.{◌≡◌, refl}
use mathlib.Core.List.{◌∷◌, []}
use mathlib.Core.Logic.{◌⊎◌, inl, inr, ⊎_elim}
use native.Mathlib.Omega.{arith}
use Rattle.masks.specs.Sets.{bit, has, set_below, some_below}
use Rattle.rules.specs.declared.AskAnswer.{AskAnswer}
use Rattle.rules.specs.declared.AskAnswer.TheVariants as ask
use Rattle.rules.specs.declared.Hold.TheVariants as hold
use Rattle.rules.specs.declared.refusals.Refusal.TheVariants as refusal
use Rattle.rules.specs.declared.Setting.{Setting}
use Rattle.rules.specs.declared.Setting.TheVariants.{Board}
use Rattle.rules.specs.Sizes.{last_number}
use Rattle.rules.specs.Settings.{all_soft}
use Rattle.rules.specs.Table.{Table, slot_at, list_from, Sound, Old, Committed}
use Rattle.rules.specs.Open.{opened}
use Rattle.rules.specs.Create.{Change, change_of, is_in, HoldOf, befores, added, patch, accepted_slots, accepted}
use Rattle.rules.specs.Ask.{Asked}
use Rattle.rules.specs.Refusals.{NeverIssued}
use Rattle.rules.specs.Calls.{Asks}
use Rattle.rules.specs.Rows.{Radio}
use Rattle.rules.proofs.Cases.{holds, passes, none_holds}
use Rattle.rules.proofs.Outcomes.{refuses, grants}
use Rattle.rules.proofs.Numbers.{never_issued, issued_or_not}
use Rattle.rules.proofs.Pins.{naming, committed_dropped, committed_not_added}
use Rattle.rules.proofs.StaysSound.{opened_sound}
use Rattle.rules.proofs.OneAnswer.{ask_one}
use Rattle.rules.proofs.Computed.{all_issued, lowest_free, soft_test, hard_tested}
use Rattle.rules.proofs.Steps.{just_opened, just_opened_good, Made, create_row, none_to_join, in_bounds}

-- ---- 7 holds for 0 and for numbers not below next, and for no other

pub seven_only : (t : Table) (n : ℕ) → NeverIssued t n → (n ≡ 0) ⊎ (t.next ≤ n)
seven_only t n d = ⊎_elim (λ i. absurd (d i)) (λ w. w) (issued_or_not t.next n)

pub refused_seven : (t : Table) (n : ℕ) → Sound t → (n ≡ 0) ⊎ (t.next ≤ n) → (a : AskAnswer) → Asks t n a → a ≡ ask.Refused refusal.NeverIssued
refused_seven t n s w a p =
    ask_one t n a (ask.Refused refusal.NeverIssued) p (refuses refusal.NeverIssued (passes (λ u. u s) (holds (never_issued w))) refl)

-- ---- an old number has committed

module _ (t : Table) (s : Sound t) (n : ℕ) (old : Old t.first n) where
  pub old_committed : Committed t n
  old_committed =
      let least = old.0 in
      let below = old.1 in
      let m = s.next_least in
      ((omega arith, omega arith), λ i at. let least = s.number_least i at.0 at.1 in let is = at.2 in omega arith)

  -- asked, it is called committed
  pub old_asks : Asks t n ask.Committed
  old_asks = grants ask.Committed (passes (λ u. u s) (passes (λ d. d old_committed.0) none_holds)) refl (Asked.committed refl old_committed)

  pub old_asked : (a : AskAnswer) → Asks t n a → a ≡ ask.Committed
  old_asked a p = ask_one t n a ask.Committed p old_asks

  -- named in a create, it is dropped, whether the change takes a slot or joins
  pub old_dropped : (c : Change) → befores t.slots (naming n c) ≡ befores t.slots c
  old_dropped c = committed_dropped t c n old_committed

  pub old_not_added : (c : Change) → added t.slots (naming n c) ≡ added t.slots c
  old_not_added c = committed_not_added t c n old_committed

-- ---- a table just opened at n: the numbers from 1 to n - 1 have committed, 0 and n itself were never issued

module _ (g : Setting) (n : ℕ) (least : 1 ≤ n) (most : n ≤ last_number) where
  pub below_first : (m : ℕ) → 1 ≤ m → m < n → (a : AskAnswer) → Asks (opened g n) m a → a ≡ ask.Committed
  below_first m l k = old_asked (opened g n) (opened_sound g n least most) m (l, k)

  pub zero_refused : (a : AskAnswer) → Asks (opened g n) 0 a → a ≡ ask.Refused refusal.NeverIssued
  zero_refused = refused_seven (opened g n) 0 (opened_sound g n least most) (inl refl)

  pub first_refused : (a : AskAnswer) → Asks (opened g n) n a → a ≡ ask.Refused refusal.NeverIssued
  first_refused = refused_seven (opened g n) n (opened_sound g n least most) (inr (omega arith))

-- opened at 1, nothing is below first
pub none_below_one : (g : Setting) (m : ℕ) → Old (opened g 1).first m → ⊥
none_below_one g m old = omega (arith, old.0, old.1)

-- opened at 7, a create that names 3 is granted and follows nothing
abbrev at_seven : Radio
at_seven = just_opened 7

abbrev names_three : Change
names_three = change_of 1 0 (65 ∷ []) (3 ∷ [])

pub three_named : Made at_seven names_three 0 hold.Hard
unfolding list_from is_in in_bounds all_issued some_below soft_test all_soft has bit
three_named =
    create_row at_seven (just_opened_good 7 (omega arith) (omega arith)) names_three 0 hold.Hard refl (omega arith)
    (none_to_join at_seven.table names_three refl) (lowest_free at_seven.table.slots 0 (omega arith) refl refl)
    (HoldOf.hard (hard_tested Board at_seven.table.slots 1 refl refl))

pub three_followed : (slot_at (accepted at_seven.table names_three 0 hold.Hard).slots 0).befores ≡ 0
unfolding list_from accepted accepted_slots patch befores is_in set_below
three_followed = refl
