-- The search for the highest number as the chain `filter`, `rev`, `max_by_key` makes it: from the last slot down. Assumes nothing.
use Prim.Native.Nat.{ℕ, suc, ◌+◌, ◌≤◌, ◌<◌}
use mathlib.Core.Path.{◌≡◌, refl, sym, ap, subst, ◌∙◌}
use mathlib.Core.Bool.{Bool, true, false, cond, true≢false, ◌&&◌}
use mathlib.Core.List.{List, [], ◌∷◌, ◌++◌, append-nil, reverse}
use native.Mathlib.Omega.{arith}
use borrow.Author.Tests.{lt-ltb}
use lib.Dec.{ltb, T}
use lib.ListN.{length, get_or}
use denote.Ref.{Bor}
use Rattle.std.proofs.Common.{Option, Some, None, Iter, ltb→lt, Ordering, Less, Equal, Greater}
use Rattle.std.proofs.lemmas.Cmp.{ranked}
use Rattle.std.proofs.lemmas.Iterator.{YieldsList}
use Rattle.std.proofs.lemmas.Iterator.Consumers.{YieldsList-from_shown}
use Rattle.std.proofs.lemmas.List.{reverse-append, length-reverse}
use Rattle.std.proofs.lemmas.List.Elements.{filter-append}
use Rattle.std.proofs.lemmas.List.FromFn.{length-enumerate_from}
use Rattle.std.specs.Iterator.Adapters.{enumerate_steps_back, rev_steps, rev_source, enumerate_source, enumerate_count}
use Rattle.std.specs.List.{fold, reduce, filter, enumerate_from}
use Rattle.std.specs.Option.{option_map, MatchOption}
use Rattle.std.specs.Ordering.{nat_cmp, max_by_ordering}
use Rattle.std.specs.Slice.Iter.{iter_rest, iter_steps_back}
use Rattle.std.specs.declared.iter.Enumerate.{Enumerate}
use Rattle.std.specs.declared.iter.Rev.{Rev}
use Rattle.std.specs.Iterator.{AlwaysYields}
use Rattle.masks.specs.Sets.{has}
use Rattle.rules.specs.declared.Slot.{Slot}
use Rattle.rules.specs.Slots.{free_slot}
use Rattle.rules.specs.Table.{slot_at}
use Rattle.send.proofs.ByKey.{by_key}
use Rattle.ground.proofs.Decided.{and-true}
use Rattle.send.specs.Back.{HighestOr}

-- ---- the chain's list: `enumerate` of a slice from the back

module _ {X : Type 0} where
  enumerate-push : (xs : List X) (n : ℕ) (y : X) → enumerate_from n (xs ++ y ∷ []) ≡ enumerate_from n xs ++ (n + length xs, y) ∷ []
  enumerate-push [] n y = ap (λ i. (i, y) ∷ []) (omega arith)
  enumerate-push (x ∷ xs) n y =
      ap (λ l. (n, x) ∷ l) (enumerate-push xs (n + 1) y ∙ ap (λ i. enumerate_from (n + 1) xs ++ (i, y) ∷ []) (omega arith))

  abbrev steps : Enumerate (Iter X) → Option (ℕ × Bor X) → Enumerate (Iter X) → Type 0
  steps = enumerate_steps_back iter_steps_back (λ u. length (iter_rest u))

  abbrev v : ℕ × Bor X → ℕ × X
  v p = (p.0, p.1.now)

  abbrev shown : Enumerate (Iter X) → List (ℕ × X)
  shown u = reverse (enumerate_from (enumerate_count u) (iter_rest (enumerate_source u)))

  pub YieldsList-from_enumerate_back : {s : Enumerate (Iter X)} (xs : List X) → iter_rest (enumerate_source s) ≡ xs → enumerate_count s ≡ 0
      → YieldsList {B = ℕ × X} (enumerate_steps_back iter_steps_back (λ u. length (iter_rest u))) (λ p. (p.0, p.1.now)) s (reverse (enumerate_from 0 xs))
  YieldsList-from_enumerate_back {s} xs e z =
      subst (λ l. YieldsList steps v s (reverse (enumerate_from 0 l))) e
      (subst (λ n. YieldsList steps v s (reverse (enumerate_from n (iter_rest (enumerate_source s))))) z
      (YieldsList-from_shown steps v shown (λ u t p. length-reverse _ ∙ length-enumerate_from _ _ ∙ p.1.0)
      (λ u x t p. ap (λ l. reverse (enumerate_from (enumerate_count u) l)) p.1.0
      ∙ ap reverse (enumerate-push (iter_rest (enumerate_source t)) (enumerate_count u) x.1.now)
      ∙ reverse-append (enumerate_from (enumerate_count u) (iter_rest (enumerate_source t)))
      ((enumerate_count u + length (iter_rest (enumerate_source t)), x.1.now) ∷ [])
      ∙ ap (λ i. (i, x.1.now) ∷ reverse (enumerate_from (enumerate_count u) (iter_rest (enumerate_source t)))) (sym p.1.1)
      ∙ ap (λ n. (x.0, x.1.now) ∷ reverse (enumerate_from n (iter_rest (enumerate_source t)))) (sym p.0)) s))

-- `rev` of a chain that gives ys from the back
module _ {S A B : Type 0} (steps : S → Option A → S → Type 0) (v : A → B) where
  reversed : (ys : List B) (s : Rev S) → AlwaysYields steps v (rev_source s) ys → AlwaysYields (rev_steps steps) v s ys
  reversed [] s e = λ x j p. e x (rev_source j) p
  reversed (y ∷ ys) s e = ((λ j p. e.0 (rev_source j) p), λ x j p. let m = e.1 x (rev_source j) p in (m.0, reversed ys j m.1))

pub YieldsList-from_rev : {S A B : Type 0} {steps : S → Option A → S → Type 0} {v : A → B} {s : Rev S} {ys : List B}
    → YieldsList steps v (rev_source s) ys → YieldsList (rev_steps steps) v s ys
YieldsList-from_rev {steps = steps} {v} {s} {ys} e = record { runs = reversed steps v ys s e.runs }

-- ---- the search

module _ {A : Type 0} (f : A → A → A) where
  abbrev next : Option A → A → A
  next None z = z
  next (Some b) z = f b z

  fold-push : (b : A) (xs : List A) (z : A) → fold f b (xs ++ z ∷ []) ≡ f (fold f b xs) z
  fold-push b [] z = refl
  fold-push b (x ∷ xs) z = fold-push (f b x) xs z

  reduce-push : (xs : List A) (z : A) → reduce f (xs ++ z ∷ []) ≡ Some (next (reduce f xs) z)
  reduce-push [] z = refl
  reduce-push (x ∷ xs) z = ap Some (fold-push x xs z)

abbrev Item : Type 0
Item = ℕ × Slot

abbrev key : Item → ℕ
key p = p.1.number

from-more : (P : ℕ → Type 0) (n : ℕ) → P n → ((j : ℕ) → n < j → P j) → (j : ℕ) → n ≤ j → P j
from-more P n p q j l = go (nat_cmp n j) refl
  where
    go : (o : Ordering) → nat_cmp n j ≡ o → P j
    go Less e = q j (ranked n j Less (sym e))
    go Equal e = subst P (ranked n j Equal (sym e)) p
    go Greater e = let m = ranked n j Greater (sym e) in let z : ⊥ = omega (arith, m, l) in absurd z

module _ (ss : List Slot) (left top : ℕ) where
  abbrev passes : Item → Bool
  passes p = has left p.0 && ltb p.1.number top

  -- of the slots from n on, r is the one that `Highest` says
  record HighestFrom (n : ℕ) (b : Item) : Type 0 where
    bears : b.1 ≡ slot_at ss b.0
    least : n ≤ b.0
    within : b.0 < length ss
    in_left : has left b.0 ≡ true
    low : b.1.number < top
    high : (j : ℕ) → n ≤ j → j < length ss → has left j ≡ true → (slot_at ss j).number < top → (slot_at ss j).number ≤ b.1.number
    lowest : (j : ℕ) → n ≤ j → j < b.0 → has left j ≡ true → (slot_at ss j).number ≡ b.1.number → ⊥

  abbrev None-from : ℕ → Type 0
  None-from n = (j : ℕ) → n ≤ j → j < length ss → has left j ≡ true → (slot_at ss j).number < top → ⊥

  abbrev Kept : ℕ → Option Item → Type 0
  Kept n o = MatchOption o (None-from n) (HighestFrom n)

  module _ (n : ℕ) (x : Slot) (at : x ≡ slot_at ss n) (l : n < length ss) where
    passing : has left n ≡ true → (slot_at ss n).number < top → passes (n, x) ≡ true
    passing h k = ap (λ q. q && ltb x.number top) h ∙ lt-ltb x.number top (subst (λ s. s.number < top) (sym at) k)

    passed-over : passes (n, x) ≡ false → (o : Option Item) → Kept (n + 1) o → Kept n o
    passed-over out None t = from-more (λ j. j < length ss → has left j ≡ true → (slot_at ss j).number < top → ⊥) n
        (λ a h k. true≢false (sym (passing h k) ∙ out)) (λ j k. t j (omega (arith, k)))
    passed-over out (Some b) t = record {
      bears = t.bears;
      least = omega (arith, t.least);
      within = t.within;
      in_left = t.in_left;
      low = t.low;
      high = from-more (λ j. j < length ss → has left j ≡ true → (slot_at ss j).number < top → (slot_at ss j).number ≤ b.1.number) n
          (λ a h k. absurd (true≢false (sym (passing h k) ∙ out))) (λ j k. t.high j (omega (arith, k)));
      lowest = from-more (λ j. j < b.0 → has left j ≡ true → (slot_at ss j).number ≡ b.1.number → ⊥) n
          (λ a h e. true≢false (sym (passing h (omega (arith, e, t.low))) ∙ out)) (λ j k. t.lowest j (omega (arith, k)));
    }

    fresh : has left n ≡ true → x.number < top
        → ((j : ℕ) → n < j → j < length ss → has left j ≡ true → (slot_at ss j).number < top → (slot_at ss j).number ≤ x.number) → HighestFrom n (n, x)
    fresh h k q = record {
      bears = at;
      least = omega arith;
      within = l;
      in_left = h;
      low = k;
      high = from-more (λ j. j < length ss → has left j ≡ true → (slot_at ss j).number < top → (slot_at ss j).number ≤ x.number) n
          (λ a b c. omega (arith, ap (λ s. s.number) at)) q;
      lowest = λ j a b. let z : ⊥ = omega (arith, a, b) in absurd z;
    }

    chosen : has left n ≡ true → x.number < top → (b : Item) → HighestFrom (n + 1) b
        → (o : Ordering) → nat_cmp (key b) (key (n, x)) ≡ o → HighestFrom n (max_by_ordering o b (n, x))
    chosen h k b t Less e = fresh h k (λ j m p q r. let y = t.high j (omega (arith, m)) p q r in omega (arith, y, ranked (key b) (key (n, x)) Less (sym e)))
    chosen h k b t Equal e = fresh h k (λ j m p q r. let y = t.high j (omega (arith, m)) p q r in omega (arith, y, ranked (key b) (key (n, x)) Equal (sym e)))
    chosen h k b t Greater e = record {
      bears = t.bears;
      least = omega (arith, t.least);
      within = t.within;
      in_left = t.in_left;
      low = t.low;
      high = from-more (λ j. j < length ss → has left j ≡ true → (slot_at ss j).number < top → (slot_at ss j).number ≤ b.1.number) n
          (λ a p q. omega (arith, ap (λ s. s.number) at, ranked (key b) (key (n, x)) Greater (sym e))) (λ j m. t.high j (omega (arith, m)));
      lowest = from-more (λ j. j < b.0 → has left j ≡ true → (slot_at ss j).number ≡ b.1.number → ⊥) n
          (λ a p i. omega (arith, i, ap (λ s. s.number) at, ranked (key b) (key (n, x)) Greater (sym e))) (λ j m. t.lowest j (omega (arith, m)));
    }

    taken : passes (n, x) ≡ true → (o : Option Item) → Kept (n + 1) o → HighestFrom n (next (by_key max_by_ordering key) o (n, x))
    taken inside None t =
        let p = and-true (has left n) _ inside in
        fresh p.0 (ltb→lt x.number top (subst T (sym p.1) tt)) (λ j m a b c. absurd (t j (omega (arith, m)) a b c))
    taken inside (Some b) t =
        let p = and-true (has left n) _ inside in
        chosen p.0 (ltb→lt x.number top (subst T (sym p.1) tt)) b t (nat_cmp (key b) (key (n, x))) refl

    turn : (fs : List Item) (q : Bool) → passes (n, x) ≡ q → Kept (n + 1) (reduce (by_key max_by_ordering key) fs)
        → Kept n (reduce (by_key max_by_ordering key) (fs ++ cond q ((n, x) ∷ []) []))
    turn fs false e t = subst (λ l. Kept n (reduce (by_key max_by_ordering key) l)) (sym (append-nil fs)) (passed-over e _ t)
    turn fs true e t = subst (λ o. Kept n o) (sym (reduce-push (by_key max_by_ordering key) fs (n, x))) (taken e _ t)

  walk : (xs : List Slot) (n : ℕ) → length ss ≡ n + length xs → ((i : ℕ) → i < length xs → get_or xs i free_slot ≡ slot_at ss (n + i))
      → Kept n (reduce (by_key max_by_ordering key) (filter passes (reverse (enumerate_from n xs))))
  walk [] n e at = λ j a b. let z : ⊥ = omega (arith, e, a, b) in absurd z
  walk (x ∷ xs) n e at =
      let ys = enumerate_from (n + 1) xs in
      let u = walk xs (n + 1) (omega (arith, e)) (λ i l. at (suc i) (omega (arith, l)) ∙ ap (slot_at ss) (omega arith)) in
      subst (λ l. Kept n (reduce (by_key max_by_ordering key) l))
      (sym (ap (filter passes) (reverse-append ((n, x) ∷ []) ys) ∙ filter-append passes (reverse ys) ((n, x) ∷ [])))
      (turn n x (at 0 (omega arith) ∙ ap (slot_at ss) (omega arith)) (omega (arith, e)) (filter passes (reverse ys)) (passes (n, x)) refl u)

  named : (o : Option Item) → Kept 0 o → HighestOr ss left top (length ss) (option_map (λ p. p.0) o)
  named None t = λ j a. t j (omega arith) a
  named (Some b) t = record {
    within = t.within;
    in_left = t.in_left;
    low = subst (λ s. s.number < top) t.bears t.low;
    high = λ j a h k. subst (λ s. (slot_at ss j).number ≤ s.number) t.bears (t.high j (omega arith) a h k);
    lowest = λ j a h e. t.lowest j (omega arith) a h (e ∙ sym (ap (λ s. s.number) t.bears));
  }

  pub highest_of_most : (r : Option Item) → r ≡ reduce (by_key max_by_ordering key) (filter passes (reverse (enumerate_from 0 ss)))
      → HighestOr ss left top (length ss) (option_map (λ p. p.0) r)
  highest_of_most r e = named r (subst (λ o. Kept 0 o) (sym e) (walk ss 0 (omega arith) (λ i l. ap (slot_at ss) (omega arith))))
