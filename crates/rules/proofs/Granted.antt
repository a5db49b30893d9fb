-- What a granted create or write has passed (specs/Passed.antt), obtained once from the grant. A proof that goes on from a grant names the fact that it
-- needs, and counts no refusals.
use Prim.Native.Nat.{ℕ, ◌+◌, ◌≤◌, ◌<◌}
use mathlib.Core.Path.{◌≡◌, refl, subst}
use mathlib.Core.Bool.{true, false}
use mathlib.Core.List.{List}
use mathlib.Core.Logic.{◌⊎◌, inl, inr, ⊎_elim}
use native.Mathlib.Omega.{arith}
use native.Mathlib.Decide.{ℕ_discrete, dec_le, dec_lt}
use lib.ListN.{length}
use Rattle.masks.specs.Sets.{has}
use Rattle.masks.proofs.Laws.{has_none, no_member, a_member, set_none, set_some}
use Rattle.ground.proofs.Decided.{clash, true_or_false}
use Rattle.rules.specs.declared.Slot.{Slot}
use Rattle.rules.specs.Sizes.{most_bytes, last_number}
use Rattle.rules.specs.Table.{Table, used, waits_on, Waits, Sound}
use Rattle.rules.specs.Create.{Change}
use Rattle.rules.specs.Write.{MayGo, Largest}
use Rattle.rules.specs.Passed.{NamesIssued, CreatePassed, WritePassed}
use Rattle.rules.specs.Refusals.{First, OnlyEmpty, NamesUnissued, create_cases, write_cases}
use Rattle.rules.specs.Calls.{Creation, Creates, answer_number, Writing, Writes}
use Rattle.rules.proofs.Cases.{passed}
use Rattle.rules.proofs.Numbers.{never_issued, issued_or_not}

-- ---- a refusal that does not hold says only that its opposite cannot fail; each of these opposites then holds

equal : {m n : ℕ} → ((m ≡ n → ⊥) → ⊥) → m ≡ n
equal {m} {n} f = elim (ℕ_discrete m n) [ yes e ↦ e | no d ↦ absurd (f d) ]

at_most : {m n : ℕ} → ((m ≤ n → ⊥) → ⊥) → m ≤ n
at_most {m} {n} f = elim (dec_le m n) [ yes l ↦ l | no d ↦ absurd (f d) ]

below : {m n : ℕ} → ((m < n → ⊥) → ⊥) → m < n
below {m} {n} f = elim (dec_lt m n) [ yes l ↦ l | no d ↦ absurd (f d) ]

is-used : (ss : List Slot) (i : ℕ) → ((used ss i ≡ true → ⊥) → ⊥) → used ss i ≡ true
is-used ss i f = ⊎_elim (λ e. e) (λ e. absurd (f (λ u. clash u e))) (true_or_false (used ss i))

sound_holds : (t : Table) → ((Sound t → ⊥) → ⊥) → Sound t
sound_holds t n = record {
  first_least = at_most (λ d. n (λ s. d s.first_least));
  first_most = at_most (λ d. n (λ s. d s.first_most));
  next_least = at_most (λ d. n (λ s. d s.next_least));
  next_most = at_most (λ d. n (λ s. d s.next_most));
  number_least = λ i l u. at_most (λ d. n (λ s. d (s.number_least i l u)));
  number_most = λ i l u. below (λ d. n (λ s. d (s.number_most i l u)));
  numbers_differ = λ i j l m u v e. equal (λ d. n (λ s. d (s.numbers_differ i j l m u v e)));
  block_most = λ i l u. below (λ d. n (λ s. d (s.block_most i l u)));
  len_least = λ i l u. at_most (λ d. n (λ s. d (s.len_least i l u)));
  len_most = λ i l u. at_most (λ d. n (λ s. d (s.len_most i l u)));
  ends = λ i l u. at_most (λ d. n (λ s. d (s.ends i l u)));
  befores_used = λ i j l m u b. is-used t.slots j (λ d. n (λ s. d (s.befores_used i j l m u b)));
  befores_other = λ i l u b. n (λ s. s.befores_other i l u b);
  room_most = λ i r l h. below (λ d. n (λ s. d (s.room_most i r l h)));
  rooms_differ = λ i j r l m h k. equal (λ d. n (λ s. d (s.rooms_differ i j r l m h k)));
}

pub issued_holds : (t : Table) (c : Change) → (NamesUnissued t c → ⊥) → NamesIssued t c
issued_holds t c f n e = ⊎_elim (λ i. i) (λ w. absurd (f (n, e, never_issued w))) (issued_or_not t.next n)

waits_holds : (ss : List Slot) (b : ℕ) → ((Waits ss b → ⊥) → ⊥) → Waits ss b
waits_holds ss b f = set_some (waits_on ss b) refl (λ z. f (λ w. set_none (waits_on ss b) refl z w.0 w.1 w.2))

-- ---- create

pub create_facts : (t : Table) (image undo : List ℕ) (c : Change) → First (create_cases t image undo c) 0 → CreatePassed t image undo c
create_facts t image undo c f =
    let c1 = passed (λ e. omega arith) f in
    let c2 = passed (λ e. omega arith) c1.1 in
    let c3 = passed (λ e. omega arith) c2.1 in
    let c4 = passed (λ e. omega arith) c3.1 in
    let c5 = passed (λ e. omega arith) c4.1 in
    let c6 = passed (λ e. omega arith) c5.1 in
    let c7 = passed (λ e. omega arith) c6.1 in
    let c8 = passed (λ e. omega arith) c7.1 in
    let some_bytes : (length c.bytes ≡ 0 → ⊥) = λ e. c4.0 (inl e) in
    let few_bytes : (most_bytes < length c.bytes → ⊥) = λ l. c4.0 (inr l) in
    let is_sound = sound_holds t c2.0 in
    record {
      ready = record {
        image_whole = equal (λ d. c1.0 (inl d));
        undo_whole = equal (λ d. c1.0 (inr d));
        sound = is_sound;
        is_block = omega (arith, c3.0);
        len_least = omega (arith, some_bytes);
        len_most = omega (arith, few_bytes);
        ends = omega (arith, c5.0);
        few_named = omega (arith, c6.0);
        issued = issued_holds t c c7.0;
      };
      last = λ own. let d : (t.next ≡ last_number + 1 → ⊥) = λ e. c8.0 (own, e) in omega (arith, d, is_sound.next_most);
    }

pub create_passed : {t : Table} {image undo : List ℕ} {c : Change} {o : Creation} → Creates t image undo c o → answer_number o.answer ≡ 0
    → CreatePassed t image undo c
create_passed {t} {image} {undo} {c} p z = create_facts t image undo c (subst (First (create_cases t image undo c)) z p.first)

-- ---- write

-- a largest set has a member where not only the empty one may go
member : (ss : List Slot) (b s : ℕ) → Waits ss b → (OnlyEmpty ss b → ⊥) → Largest ss b s → (i : ℕ) × (has s i ≡ true)
member ss b s w e l =
    let m = a_member s l.goes.set (λ z. e (w, λ u p. no_member u p.set (λ i q. never u i z p (true_or_false (has u i))))) in
    (m.0, m.2)
  where
    never : (u i : ℕ) → s ≡ 0 → MayGo ss b u → (has u i ≡ true) ⊎ (has u i ≡ false) → has u i ≡ false
    never u i z p (inl f) = absurd (clash (subst (λ (x : ℕ). has x i ≡ true) z (l.most u p i f)) (has_none i))
    never u i z p (inr f) = f

write_facts : (t : Table) (image undo block : List ℕ) (b : ℕ) → First (write_cases t image undo block b) 0 → WritePassed t image undo block b
write_facts t image undo block b f =
    let c1 = passed (λ e. omega arith) f in
    let c2 = passed (λ e. omega arith) c1.1 in
    let c3 = passed (λ e. omega arith) c2.1 in
    let c4 = passed (λ e. omega arith) c3.1 in
    let c5 = passed (λ e. omega arith) c4.1 in
    let c6 = passed (λ e. omega arith) c5.1 in
    let waits = waits_holds t.slots b c5.0 in
    record {
      ready = record {
        image_whole = equal (λ d. c1.0 (inl d));
        undo_whole = equal (λ d. c1.0 (inr (inl d)));
        block_whole = equal (λ d. c1.0 (inr (inr d)));
        sound = sound_holds t c2.0;
        is_block = omega (arith, c3.0);
        none_flies = c4.0;
        some_wait = waits;
      };
      some_goes = λ s. member t.slots b s waits c6.0;
    }

pub write_passed : {t : Table} {image undo block : List ℕ} {b : ℕ} {o : Writing} → Writes t image undo block b o → answer_number o.answer ≡ 0
    → WritePassed t image undo block b
write_passed {t} {image} {undo} {block} {b} p z = write_facts t image undo block b (subst (First (write_cases t image undo block b)) z p.first)
