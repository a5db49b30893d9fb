-- What `max_by_key` answers where the closure computes a number: the chain's list, reduced by one choice. Assumes nothing.
use Prim.Native.Nat.{ℕ}
use mathlib.Core.Path.{◌≡◌, refl, sym, ap, subst, ◌∙◌}
use mathlib.Core.List.{List, [], ◌∷◌, map}
use denote.Ref.{Bor}
use denote.Param.Members.{Mut}
use Rattle.std.proofs.Common.{Option, Some, None, IsSomeAnd, Ordering, Less, Equal, Greater}
use Rattle.std.proofs.iter.Yields.{gives_Drains}
use Rattle.std.proofs.lemmas.Iterator.{YieldsList}
use Rattle.std.specs.Fn.{CalledAt}
use Rattle.std.specs.Iterator.{PicksByKey, KeyTurn}
use Rattle.std.specs.List.{FoldsTo, fold, reduce}
use Rattle.std.specs.Option.{option_map, MatchOption}
use Rattle.std.specs.Ordering.{nat_cmp, max_by_ordering}

-- of two items that which the order of their keys picks
abbrev pub by_key : {B : Type 0} → (Ordering → B → B → B) → (B → ℕ) → B → B → B
by_key pick h p z = pick (nat_cmp (h p) (h z)) p z

module _ (pick : (A : Type 0) → Ordering → A → A → A) (seen : (A B : Type 0) (v : A → B) (o : Ordering) (p z : A) → v (pick A o p z) ≡ pick B o (v p) (v z))
    {A B F : Type 0} {v : A → B} (h : B → ℕ) (g : Mut F (Bor A × Unit {0}) ℕ) (f : F)
    (k : (x : A) (n : ℕ) (q : F) → CalledAt g f x n q → (q ≡ f) × (n ≡ h (v x))) where
  turns : (xs : List A) (p q : (F × ℕ) × A) → p.0.0 ≡ f → p.0.1 ≡ h (v p.1) → FoldsTo (KeyTurn (pick A) (pick ℕ) g nat_cmp) p xs q
      → v q.1 ≡ fold (by_key (pick B) h) (v p.1) (map v xs)
  turns [] p q a b c = ap (λ w. v w.1) (sym c)
  turns (x ∷ xs) p q a b c =
      let t = c.1 in
      let m = k x t.0 c.0.0.0 (subst (λ w. CalledAt g w x t.0 c.0.0.0) a t.2) in
      let e : v c.0.1 ≡ by_key (pick B) h (v p.1) (v x) =
      ap v t.5 ∙ seen A B v t.1 p.1 x ∙ ap (λ o. pick B o (v p.1) (v x)) (sym t.3 ∙ ap (λ w. nat_cmp w t.0) b ∙ ap (λ w. nat_cmp (h (v p.1)) w) m.1) in
      let i : c.0.0.1 ≡ h (v c.0.1) =
      t.4 ∙ ap (λ w. pick ℕ t.1 w t.0) b ∙ ap (λ w. pick ℕ t.1 (h (v p.1)) w) m.1 ∙ sym (seen A ℕ (λ w. h (v w)) t.1 p.1 x) ∙ ap (λ w. h (v w)) (sym t.5) in
      turns xs c.0 q m.0 i c.2 ∙ ap (λ w. fold (by_key (pick B) h) w (map v xs)) e

  picked : {S : Type 0} {steps : S → Option A → S → Type 0} {s : S} {all : List B} (r : Option A)
      → PicksByKey steps (pick A) (pick ℕ) g nat_cmp s f r → YieldsList steps v s all
      → option_map v r ≡ reduce (by_key (pick B) h) all
  picked {steps = steps} {s} {all} None d e = ap (reduce (by_key (pick B) h)) (gives_Drains steps v [] all s e.runs d)
  picked {steps = steps} {s} {all} (Some y) d e =
      let m = k d.0 d.2 d.3 d.6 in
      ap Some (turns d.1 ((d.3, d.2), d.0) (d.4, y) m.0 m.1 d.7) ∙ ap (reduce (by_key (pick B) h)) (gives_Drains steps v (d.0 ∷ d.1) all s e.runs d.5)

seen-most : {A B : Type 0} (v : A → B) (o : Ordering) (p z : A) → v (max_by_ordering o p z) ≡ max_by_ordering o (v p) (v z)
seen-most v Less p z = refl
seen-most v Equal p z = refl
seen-most v Greater p z = refl

module _ {A B F : Type 0} {v : A → B} (h : B → ℕ) (g : Mut F (Bor A × Unit {0}) ℕ) (f : F)
    (k : (x : A) (n : ℕ) (q : F) → CalledAt g f x n q → (q ≡ f) × (n ≡ h (v x)))
    {S : Type 0} {steps : S → Option A → S → Type 0} {s : S} {all : List B} (r : Option A) where
  pub most_from_max_by_key : PicksByKey steps max_by_ordering max_by_ordering g nat_cmp s f r → YieldsList steps v s all
      → option_map v r ≡ reduce (by_key max_by_ordering h) all
  most_from_max_by_key = picked (λ X o p z. max_by_ordering o p z) (λ X Y v o p z. seen-most v o p z) h g f k r

-- what `map` makes of an option, where the closure gives i of what v reads
pub mapped : {A B R : Type 0} {Q : A → R → Type 0} (v : A → B) (i : B → R) (o : Option A) (r : Option R) → MatchOption o (r ≡ None) (λ x. IsSomeAnd r (Q x))
    → ((x : A) (y : R) → Q x y → y ≡ i (v x)) → option_map i (option_map v o) ≡ r
mapped v i None r e k = sym e
mapped v i (Some x) (Some y) q k = ap Some (sym (k x y q))
mapped v i (Some x) None q k = absurd q
