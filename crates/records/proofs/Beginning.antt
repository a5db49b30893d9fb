-- Bytes that come later change nothing of what has been found: what is bad stays bad, and where none is found yet, none is until enough have come.
-- Assumes nothing.
use Prim.Native.Nat.{ℕ, zero, suc, ◌+◌, ◌*◌, ◌-◌, ◌≤◌, ◌<◌}
use mathlib.Core.Path.{◌≡◌, refl, subst, ◌∙◌}
use mathlib.Core.Bool.{Bool, true, false}
use mathlib.Core.List.{List, ◌++◌}
use native.Mathlib.Omega.{arith}
use borrow.Author.Tests.{lt-ltb, le-ltb}
use lib.Dec.{ltb}
use lib.ListN.{length, length-append, get_or-append}
use Rattle.records.specs.declared.types.Next.{Next}
use Rattle.records.specs.declared.types.Next.TheVariants as next
use Rattle.records.specs.Reader.{number_at, formed, create_in, value_in, next_in}
use Rattle.records.proofs.Found.{next_by}
use Rattle.records.proofs.Forms.{Form, open_form, create_form, write_form, complete_form, cut_form, form}

number_front : (w more : List ℕ) (at k : ℕ) → at + k ≤ length w → number_at (w ++ more) at k ≡ number_at w at k
unfolding number_at
number_front w more at zero l = refl
number_front w more at (suc k) l = rw (number_front w more at k (omega arith), get_or-append w more 0 (at + k) (omega arith))

-- what each answer says of the bytes with more behind them; a record says nothing here
After : List ℕ → List ℕ → Next → Type 0
After w more (next.Record f) = Unit {0}
After w more (next.NoneYet k) = (1 ≤ k) × (length w + k ≤ 1203) × (length more < k → next_in (w ++ more) ≡ next.NoneYet (k - length more))
After w more next.Bad = next_in (w ++ more) ≡ next.Bad

as_many : {a b : ℕ} → a ≡ b → next.NoneYet a ≡ next.NoneYet b
as_many e = cc

pub form_short : {t n : ℕ} → Form t n → n ≤ 1200
form_short open_form = omega arith
form_short (create_form k h) = h
form_short write_form = omega arith
form_short complete_form = omega arith
form_short cut_form = omega arith

module _ (w more : List ℕ) where
  both : length (w ++ more) ≡ length w + length more
  both = length-append w more

  -- the head is there
  module _ (l : 3 ≤ length w) where
    head_tag : number_at (w ++ more) 0 1 ≡ number_at w 0 1
    head_tag = number_front w more 0 1 (omega arith)

    head_size : number_at (w ++ more) 1 2 ≡ number_at w 1 2
    head_size = number_front w more 1 2 (omega arith)

    head_there : ltb (length (w ++ more)) 3 ≡ false
    head_there = le-ltb (length (w ++ more)) 3 (omega (arith, both))

  short_after : length w < 3 → After w more (next.NoneYet (3 - length w))
  unfolding After next_in
  short_after l = (
    omega arith,
    omega arith,
    λ h. rw (lt-ltb (length (w ++ more)) 3 (omega (arith, both)), both) (as_many (omega arith)),
  )

  unknown_after : 3 ≤ length w → formed (number_at w 0 1) (number_at w 1 2) ≡ false → After w more next.Bad
  unfolding After next_in
  unknown_after l f = rw (head_there l, head_tag l, head_size l, f)

  unfinished_after : 3 ≤ length w → formed (number_at w 0 1) (number_at w 1 2) ≡ true → length w < 3 + number_at w 1 2
      → After w more (next.NoneYet (3 + number_at w 1 2 - length w))
  unfolding After next_in
  unfinished_after l f h = (
    omega arith,
    omega (arith, form_short (form (number_at w 0 1) (number_at w 1 2) f)),
    λ q. rw (
      head_there l,
      head_tag l,
      head_size l,
      f,
      lt-ltb (length (w ++ more)) (3 + number_at w 1 2) (omega (arith, both)),
      both,
    ) (as_many (omega arith)),
  )

  -- a value that is all there is read the same
  whole_after : {t n : ℕ} → number_at w 0 1 ≡ t → number_at w 1 2 ≡ n → formed t n ≡ true → 3 + n ≤ length w → next_in (w ++ more) ≡ value_in (w ++ more) t n
  unfolding next_in
  whole_after {t} {n} et en f l =
      let l3 : 3 ≤ length w = omega arith in
      rw (head_there l3, head_tag l3 ∙ et, head_size l3 ∙ en, f, le-ltb (length (w ++ more)) (3 + n) (omega (arith, both)))

  -- and is bad only where a create's numbers run past its end
  create_after : (n : ℕ) → number_at w 0 1 ≡ 2 → number_at w 1 2 ≡ n → formed 2 n ≡ true → 4 ≤ n → 3 + n ≤ length w → After w more (create_in w n)
  unfolding After create_in value_in
  create_after n et en f k l = go (ltb n (4 + 4 * number_at w 6 1)) refl
    where
      go : (v : Bool) → ltb n (4 + 4 * number_at w 6 1) ≡ v → After w more (create_in w n)
      go true e = rw e (whole_after et en f l ∙ rw (number_front w more 6 1 (omega arith), e))
      go false e = rw e tt

  value_after_lem : {t n : ℕ} → Form t n → number_at w 0 1 ≡ t → number_at w 1 2 ≡ n → formed t n ≡ true → 3 + n ≤ length w → After w more (value_in w t n)
  unfolding After value_in
  value_after_lem open_form et en f l = tt
  value_after_lem {n = n} (create_form k h) et en f l = create_after n et en f k l
  value_after_lem write_form et en f l = tt
  value_after_lem complete_form et en f l = tt
  value_after_lem cut_form et en f l = tt

  next_after : After w more (next_in w)
  next_after =
      next_by w (After w more) short_after unknown_after unfinished_after
      (λ f l. value_after_lem (form (number_at w 0 1) (number_at w 1 2) f) refl refl f l)

  pub bad_stays : next_in w ≡ next.Bad → next_in (w ++ more) ≡ next.Bad
  unfolding After
  bad_stays e = subst (After w more) e next_after

  pub none_until : {k : ℕ} → next_in w ≡ next.NoneYet k
      → (1 ≤ k) × (length w + k ≤ 1203) × (length more < k → next_in (w ++ more) ≡ next.NoneYet (k - length more))
  unfolding After
  none_until e = subst (After w more) e next_after
