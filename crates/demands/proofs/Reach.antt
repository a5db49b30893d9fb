-- Which bytes a call can reach, and why a place of the store holds its byte.
use Prim.Native.Nat.{ℕ, ◌+◌, ◌≤◌, ◌<◌}
use native.Mathlib.Omega.{arith}
use native.Mathlib.Decide.{ℕ_discrete, dec_lt}
use mathlib.Core.Path.{◌≡◌, refl, sym, ◌∙◌, ap, subst}
use mathlib.Core.Bool.{Bool, true, false, cond}
use mathlib.Core.List.Memᴰ
use mathlib.Core.List.{List, [], ◌∷◌, Memᴰ}
use mathlib.Core.Logic.{◌⊎◌, inl, inr, ⊎_elim}
use borrow.Author.Tests.{leb-true, ltb-true, le-leb, lt-ltb}
use lib.Dec.{leb}
use lib.ListN.{length, get_or, drop, length-take}
use Rattle.ground.proofs.Decided.{clash, and-true, true_and, true_or_false}
use Rattle.spans.specs.Spans.{splice}
use Rattle.spans.proofs.Laws.{length_splice, splice_in, splice_below, splice_above}
use Rattle.rules.specs.declared.Hold.{Hold}
use Rattle.rules.specs.declared.Hold.TheVariants as hold
use Rattle.rules.specs.Sizes.{room_start}
use Rattle.rules.specs.Table.{Table}
use Rattle.rules.specs.Create.{Change, place, changed, kept, old_bytes}
use Rattle.rules.specs.Calls.{Creation, Creates, Accepts, create_granted, create_joined, answer_number, Writing, Writes}
use Rattle.demands.specs.History.{Accepted}
use Rattle.demands.specs.Demand3.{carried_out}
use Rattle.demands.specs.QuestionSeven.{SameBut, CreateReaches, names, Holds}
use Rattle.demands.proofs.Safe.{length_carried}

-- bytes laid over bytes reach no other place
laid : (old : List ℕ) (at n : ℕ) (ys : List ℕ) → length ys ≤ n → SameBut at n old (splice old at ys)
laid old at n ys e = record {
  same_length = length_splice old at ys;
  outside = λ p. ⊎_elim (λ l. splice_below old at ys p l) (λ l. splice_above old at ys p (omega arith));
}

shorter : (image : List ℕ) (c : Change) → length (old_bytes image c) ≤ length c.bytes
shorter image c = omega (arith, length-take (length c.bytes) (drop (place c) image))

reaches : (t : Table) (image undo : List ℕ) (c : Change) (j : ℕ) (h : Hold) → CreateReaches image undo c (create_granted t image undo c j h)
unfolding changed kept
reaches t image undo c j hold.Hard = record {
  in_image = laid image (place c) (length c.bytes) c.bytes (omega arith);
  hard = λ e. refl;
  soft = λ r e. absurd (let z : ◌≡◌ {A = ℕ} 0 1 = cc in omega arith);
}
reaches t image undo c j (hold.Soft q) = record {
  in_image = laid image (place c) (length c.bytes) c.bytes (omega arith);
  hard = λ e. absurd (let z : ◌≡◌ {A = ℕ} 0 1 = cc in omega arith);
  soft = λ r e.
      let z : q ≡ r = cc in
      subst (λ (x : ℕ). SameBut (room_start x) (length c.bytes) undo (splice undo (room_start q) (old_bytes image c))) z
      (laid undo (room_start q) (length c.bytes) (old_bytes image c) (shorter image c));
}

-- a change that joins is hard, and takes no room
reaches_joined : (t : Table) (image undo : List ℕ) (c : Change) (j : ℕ) → CreateReaches image undo c (create_joined t image undo c j)
unfolding changed
reaches_joined t image undo c j = record {
  in_image = laid image (place c) (length c.bytes) c.bytes (omega arith);
  hard = λ e. refl;
  soft = λ r e. absurd (let z : ◌≡◌ {A = ℕ} 0 1 = cc in omega arith);
}

pub create_reaches : (t : Table) (image undo : List ℕ) (c : Change) (o : Creation) → Creates t image undo c o → answer_number o.answer ≡ 0
    → CreateReaches image undo c o
create_reaches t image undo c o p z = go (p.grant z)
  where
    go : Accepts t image undo c o → CreateReaches image undo c o
    go (Accepts.takes own a) = subst (CreateReaches image undo c) (sym a.whole) (reaches t image undo c a.slot a.hold)
    go (Accepts.joins does a) = subst (CreateReaches image undo c) (sym a.whole) (reaches_joined t image undo c a.slot)

pub write_reaches : (t : Table) (image undo block : List ℕ) (b : ℕ) (o : Writing) → Writes t image undo block b o → (o.image ≡ image) × (o.undo ≡ undo)
write_reaches t image undo block b o p = go (ℕ_discrete (answer_number o.answer) 0)
  where
    go : Dec (answer_number o.answer ≡ 0) → (o.image ≡ image) × (o.undo ≡ undo)
    go (yes z) = let a = p.grant z in (ap (λ (x : Writing). x.image) a.whole, ap (λ (x : Writing). x.undo) a.whole)
    go (no d) = (ap (λ (x : Writing). x.image) (p.refusal d).2, ap (λ (x : Writing). x.undo) (p.refusal d).2)

-- ---- why a place holds its byte

named_at : (a : Accepted) (p : ℕ) → names a p ≡ true → (place a.change ≤ p) × (p < place a.change + length a.change.bytes)
named_at a p e =
    let w = and-true (leb (place a.change) p) _ e in
    (leb-true (place a.change) p w.0, ltb-true p (place a.change + length a.change.bytes) w.1)

not_named : (a : Accepted) (p : ℕ) → names a p ≡ false → (p < place a.change) ⊎ (place a.change + length a.change.bytes ≤ p)
not_named a p e = go (dec_lt p (place a.change)) (dec_lt p (place a.change + length a.change.bytes))
  where
    go : Dec (p < place a.change) → Dec (p < place a.change + length a.change.bytes)
        → (p < place a.change) ⊎ (place a.change + length a.change.bytes ≤ p)
    go (yes l) m = inl l
    go (no l) (no m) = inr (omega arith)
    go (no l) (yes m) = absurd (clash (true_and (le-leb (place a.change) p (omega arith)) (lt-ltb p (place a.change + length a.change.bytes) m)) e)

-- one more change that does not reach the place
older_holds : (test : Accepted → Bool) (a : Accepted) (l : List Accepted) (opening : List ℕ) (p byte byte' : ℕ)
    → (test a ≡ true → names a p ≡ false) → byte' ≡ byte
    → Holds test l opening p byte → Holds test (a ∷ l) opening p byte'
older_holds test a l opening p byte byte' n e (Holds.untouched f q) = Holds.untouched each (e ∙ q)
  where
    each : (x : Accepted) → Memᴰ x (a ∷ l) → test x ≡ true → names x p ≡ false
    each x (Memᴰ.head i) t = subst (λ (y : Accepted). names y p ≡ false) (sym i) (n (subst (λ (y : Accepted). test y ≡ true) i t))
    each x (Memᴰ.tail m) t = f x m t
older_holds test a l opening p byte byte' n e (Holds.written x newer older s t k f q) =
    Holds.written x (a ∷ newer) older (ap (λ (r : List Accepted). a ∷ r) s) t k each (e ∙ q)
  where
    each : (y : Accepted) → Memᴰ y (a ∷ newer) → test y ≡ true → names y p ≡ false
    each y (Memᴰ.head i) u = subst (λ (z : Accepted). names z p ≡ false) (sym i) (n (subst (λ (z : Accepted). test z ≡ true) i u))
    each y (Memᴰ.tail m) u = f y m u

pub place_holds : (test : Accepted → Bool) (l : List Accepted) (opening : List ℕ) (p : ℕ) → p < length opening
    → Holds test l opening p (get_or (carried_out test l opening) p 0)
unfolding carried_out changed
place_holds test [] opening p e = Holds.untouched (λ a m. absurd (Memᴰ.not-nil m)) refl
place_holds test (a ∷ l) opening p e = go (test a) refl (true_or_false (names a p)) (place_holds test l opening p e)
  where
    under : List ℕ
    under = carried_out test l opening

    go : (v : Bool) → test a ≡ v → (names a p ≡ true) ⊎ (names a p ≡ false) → Holds test l opening p (get_or (carried_out test l opening) p 0)
        → Holds test (a ∷ l) opening p (get_or (cond v (changed (carried_out test l opening) a.change) (carried_out test l opening)) p 0)
    go false t n ih = older_holds test a l opening p _ _ (λ u. absurd (clash u t)) refl ih
    go true t (inr n) ih =
        older_holds test a l opening p _ _ (λ u. n)
        (⊎_elim (λ k. splice_below (carried_out test l opening) (place a.change) a.change.bytes p k)
        (λ k. splice_above (carried_out test l opening) (place a.change) a.change.bytes p k) (not_named a p n)) ih
    go true t (inl n) ih =
        let k = named_at a p n in
        Holds.written a [] l refl t n (λ x m. absurd (Memᴰ.not-nil m))
        (splice_in (carried_out test l opening) (place a.change) a.change.bytes p k.0 k.1 (omega (arith, length_carried test l opening)))
