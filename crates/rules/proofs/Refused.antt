-- What a refusal says: no number, no word on hard or soft, an empty set, count 0, no word on a number's state. docs/READING.md cites it among what pins
-- the definitions. And refusals themselves: none has the number 0, which is granted, and no two have one number.
use Prim.Native.Nat.{ℕ}
use mathlib.Core.Path.{◌≡◌, refl, sym, ap, ◌∙◌}
use mathlib.Core.List.{List, [], ◌∷◌}
use mathlib.Core.Option.{none}
use lib.ListN.{get_or}
use native.Mathlib.Omega.{arith}
use Rattle.std.specs.Prelude.{Result, Ok, Err}
use Rattle.rules.specs.declared.Created.{Created}
use Rattle.rules.specs.declared.AskAnswer.{AskAnswer}
use Rattle.rules.specs.declared.AskAnswer.TheVariants as ask
use Rattle.rules.specs.declared.refusals.Refusal.{Refusal}
use Rattle.rules.specs.declared.refusals.Refusal.TheVariants as refusal
use Rattle.rules.specs.Refusals.{number_of}
use Rattle.rules.specs.Ask.{ask_word}
use Rattle.rules.specs.Calls.{answer_number, ask_number, patch_number, hard_or_soft, sent_set, counted}

pub create_says_nothing : (a : Result Created Refusal) → (answer_number a ≡ 0 → ⊥) → (patch_number a ≡ 0) × (hard_or_soft a ≡ none)
create_says_nothing (Ok a) d = absurd (d refl)
create_says_nothing (Err r) d = (refl, refl)

pub write_says_nothing : (a : Result ℕ Refusal) → (answer_number a ≡ 0 → ⊥) → sent_set a ≡ 0
write_says_nothing (Ok s) d = absurd (d refl)
write_says_nothing (Err r) d = refl

pub count_says_nothing : (a : Result ℕ Refusal) → (answer_number a ≡ 0 → ⊥) → counted a ≡ 0
count_says_nothing (Ok n) d = absurd (d refl)
count_says_nothing (Err r) d = refl

pub ask_says_nothing : (a : AskAnswer) → (ask_number a ≡ 0 → ⊥) → ask_word a ≡ 0
ask_says_nothing ask.Waiting d = absurd (d refl)
ask_says_nothing ask.InFlight d = absurd (d refl)
ask_says_nothing ask.Committed d = absurd (d refl)
ask_says_nothing (ask.Refused r) d = refl

pub refusal_not0 : (r : Refusal) → number_of r ≡ 0 → ⊥
refusal_not0 refusal.BufferSize e = omega arith
refusal_not0 refusal.NotSound e = omega arith
refusal_not0 refusal.NoBlock e = omega arith
refusal_not0 refusal.DataLength e = omega arith
refusal_not0 refusal.PastTheEnd e = omega arith
refusal_not0 refusal.ManyNames e = omega arith
refusal_not0 refusal.NeverIssued e = omega arith
refusal_not0 refusal.NoNumber e = omega arith
refusal_not0 refusal.NoSlot e = omega arith
refusal_not0 refusal.NoRoom e = omega arith
refusal_not0 refusal.InFlight e = omega arith
refusal_not0 refusal.NoneWaits e = omega arith
refusal_not0 refusal.NoneMayGo e = omega arith
refusal_not0 refusal.NoneInFlight e = omega arith
refusal_not0 refusal.FirstNumber e = omega arith
refusal_not0 refusal.NoRecord e = omega arith

-- the refusals by number; 0 is no one's
by_number : List Refusal
by_number =
    refusal.NoRecord
    ∷ refusal.BufferSize
    ∷ refusal.NotSound
    ∷ refusal.NoBlock
    ∷ refusal.DataLength
    ∷ refusal.PastTheEnd
    ∷ refusal.ManyNames
    ∷ refusal.NeverIssued
    ∷ refusal.NoNumber
    ∷ refusal.NoSlot
    ∷ refusal.NoRoom
    ∷ refusal.InFlight
    ∷ refusal.NoneWaits
    ∷ refusal.NoneMayGo
    ∷ refusal.NoneInFlight
    ∷ refusal.FirstNumber
    ∷ refusal.NoRecord
    ∷ []

refusal_with : ℕ → Refusal
refusal_with k = get_or by_number k refusal.NoRecord

with_number : (r : Refusal) → refusal_with (number_of r) ≡ r
unfolding by_number refusal_with
with_number refusal.BufferSize = refl
with_number refusal.NotSound = refl
with_number refusal.NoBlock = refl
with_number refusal.DataLength = refl
with_number refusal.PastTheEnd = refl
with_number refusal.ManyNames = refl
with_number refusal.NeverIssued = refl
with_number refusal.NoNumber = refl
with_number refusal.NoSlot = refl
with_number refusal.NoRoom = refl
with_number refusal.InFlight = refl
with_number refusal.NoneWaits = refl
with_number refusal.NoneMayGo = refl
with_number refusal.NoneInFlight = refl
with_number refusal.FirstNumber = refl
with_number refusal.NoRecord = refl

pub refusal_one : (r q : Refusal) → number_of r ≡ number_of q → r ≡ q
refusal_one r q e = sym (with_number r) ∙ ap refusal_with e ∙ with_number q
