-- Any two grants of a call are equal: the lowest slot, hard or soft, the largest set and the state of a number are each one.
use Prim.Native.Nat.{ℕ}
use mathlib.Core.Path.{◌≡◌, refl, sym, ap, ap₂, subst, ◌∙◌}
use mathlib.Core.Bool.{true, cond}
use mathlib.Core.List.{List}
use native.Mathlib.Omega.{arith}
use lib.Dec.{eqb}
use Rattle.std.specs.Prelude.{Result, Ok}
use Rattle.rules.specs.declared.AskAnswer.{AskAnswer}
use Rattle.rules.specs.declared.AskAnswer.TheVariants as ask
use Rattle.rules.specs.declared.refusals.Refusal.{Refusal}
use Rattle.rules.specs.Slots.{is_waiting, is_in_flight}
use Rattle.rules.specs.Table.{Table, slot_at, Sound, InSlot}
use Rattle.rules.specs.Create.{Change}
use Rattle.rules.specs.Ask.{ask_word, Asked}
use Rattle.rules.specs.Refusals.{First, ask_cases}
use Rattle.rules.specs.Calls.{Creation, create_granted, create_joined, Accepts, Writing, write_granted, sent_set, Sends, CountsWaiting}
use Rattle.rules.proofs.Cases.{passed}
use Rattle.masks.proofs.Lowest.{lowest_one}
use Rattle.rules.proofs.HardOrSoft.{hold_one}
use Rattle.rules.proofs.Largest.{largest_one}
use Rattle.rules.proofs.Words.{not_both}
use Rattle.rules.proofs.Joined.{lowest_numbered_one}

pub accepts_one : (t : Table) (image undo : List ℕ) (c : Change) (o p : Creation) → Sound t → Accepts t image undo c o → Accepts t image undo c p → o ≡ p
accepts_one t image undo c o p s (Accepts.takes d a) (Accepts.takes e b) =
    a.whole ∙ ap₂ (create_granted t image undo c) (lowest_one a.lowest b.lowest) (hold_one a.hard-or-soft b.hard-or-soft) ∙ sym b.whole
accepts_one t image undo c o p s (Accepts.takes d a) (Accepts.joins e b) = absurd (d e)
accepts_one t image undo c o p s (Accepts.joins d a) (Accepts.takes e b) = absurd (e d)
accepts_one t image undo c o p s (Accepts.joins d a) (Accepts.joins e b) =
    a.whole ∙ ap (create_joined t image undo c) (lowest_numbered_one t c.block a.slot b.slot s a.lowest b.lowest) ∙ sym b.whole

pub sends_one : (t : Table) (image undo : List ℕ) (b : ℕ) (o p : Writing) → Sends t image undo b o → Sends t image undo b p → o ≡ p
sends_one t image undo b o p x y =
    x.whole ∙ ap (write_granted t image undo b) (largest_one (sent_set o.answer) (sent_set p.answer) x.largest y.largest) ∙ sym y.whole

-- the number of a waiting patch is not that of one in flight
apart : (t : Table) (n i j : ℕ) → InSlot t n i → InSlot t n j → is_waiting (slot_at t.slots i).state ≡ true
    → is_in_flight (slot_at t.slots j).state ≡ true → Sound t → ⊥
apart t n i j p q w f s =
    let e : i ≡ j = s.numbers_differ i j p.0 q.0 p.1 q.1 (p.2 ∙ sym q.2) in
    not_both (slot_at t.slots i).state w (subst (λ (k : ℕ). is_in_flight (slot_at t.slots k).state ≡ true) (sym e) f)

-- the number has one word
word_one : (t : Table) (n v w : ℕ) → First (ask_cases t n) 0 → Asked t n v → Asked t n w → v ≡ w
word_one t n v w f (Asked.waiting e i q x) (Asked.waiting d j q' x') = e ∙ sym d
word_one t n v w f (Asked.waiting e i q x) (Asked.in_flight d j q' x') = absurd ((passed (λ e. omega arith) f).0 (apart t n i j q q' x x'))
word_one t n v w f (Asked.waiting e i q x) (Asked.committed d c) = absurd (c.1 i q)
word_one t n v w f (Asked.in_flight e i q x) (Asked.waiting d j q' x') = absurd ((passed (λ e. omega arith) f).0 (apart t n j i q' q x' x))
word_one t n v w f (Asked.in_flight e i q x) (Asked.in_flight d j q' x') = e ∙ sym d
word_one t n v w f (Asked.in_flight e i q x) (Asked.committed d c) = absurd (c.1 i q)
word_one t n v w f (Asked.committed e c) (Asked.waiting d j q x) = absurd (c.1 j q)
word_one t n v w f (Asked.committed e c) (Asked.in_flight d j q x) = absurd (c.1 j q)
word_one t n v w f (Asked.committed e c) (Asked.committed d c') = e ∙ sym d

no_word : {t : Table} {n w : ℕ} → Asked t n w → w ≡ 0 → ⊥
no_word (Asked.waiting e i q x) z = omega arith
no_word (Asked.in_flight e i q x) z = omega arith
no_word (Asked.committed e c) z = omega arith

-- and the word one answer
told : ℕ → AskAnswer
told w = cond (eqb w 1) ask.Waiting (cond (eqb w 2) ask.InFlight ask.Committed)

told_is : (a : AskAnswer) → (ask_word a ≡ 0 → ⊥) → told (ask_word a) ≡ a
unfolding told
told_is ask.Waiting d = refl
told_is ask.InFlight d = refl
told_is ask.Committed d = refl
told_is (ask.Refused r) d = absurd (d refl)

pub asked_one : (t : Table) (n : ℕ) → First (ask_cases t n) 0 → (o p : AskAnswer) → Asked t n (ask_word o) → Asked t n (ask_word p) → o ≡ p
asked_one t n f o p a b = sym (told_is o (no_word a)) ∙ ap told (word_one t n (ask_word o) (ask_word p) f a b) ∙ told_is p (no_word b)

pub counts_one : (t : Table) (b : ℕ) (o p : Result ℕ Refusal) → CountsWaiting t b o → CountsWaiting t b p → o ≡ p
counts_one t b o p x y = x.whole ∙ ap Ok (x.says ∙ sym y.says) ∙ sym y.whole
