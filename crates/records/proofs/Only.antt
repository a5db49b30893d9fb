-- Bytes as one record and no more: they are the record of a call that fits, and the record of every call that fits is found so. Assumes nothing.
use Prim.Native.Nat.{ℕ, ◌+◌, ◌-◌, ◌*◌, ◌≤◌}
use mathlib.Core.Path.{◌≡◌, refl, sym, ap, subst, ◌∙◌}
use mathlib.Core.Bool.{Bool, true, false, cond}
use mathlib.Core.List.{List, [], ◌++◌, append-nil}
use native.Mathlib.Omega.{arith}
use borrow.Author.Tests.{le-ltb, ltb-false}
use lib.Dec.{ltb}
use lib.ListN.{length, drop_of_length-le}
use Rattle.ground.proofs.Decided.{clash}
use Rattle.records.specs.declared.types.Head.{Head}
use Rattle.records.specs.declared.types.Found.{Found}
use Rattle.records.specs.declared.types.Found.TheVariants as found
use Rattle.records.specs.declared.types.Next.{Next}
use Rattle.records.specs.declared.types.Next.TheVariants as next
use Rattle.records.specs.Record.{Call, value_of, record_of, AllIn, Fits}
use Rattle.records.specs.Reader.{number_at, create_in, value_in, next_in, only_in, call_in}
use Rattle.records.proofs.Forms.{Form, open_form, create_form, write_form, complete_form, cut_form, form}
use Rattle.records.proofs.Found.{next_by}
use Rattle.records.proofs.Reading.{number_in, length_record}
use Rattle.records.proofs.ReadBack.{Back, back, head_size, length_short}
use Rattle.records.proofs.RoundTrip.{is_record, record_begins}

-- nothing goes on behind it
pub only_next : (w : List ℕ) (f : Found) → only_in w ≡ next.Record f → (next_in w ≡ next.Record f) × (length w ≤ 3 + number_at w 1 2)
unfolding only_in is_record
only_next w f = go (ltb (3 + number_at w 1 2) (length w)) refl
  where
    go : (v : Bool) → ltb (3 + number_at w 1 2) (length w) ≡ v → cond v next.Bad (next_in w) ≡ next.Record f
        → (next_in w ≡ next.Record f) × (length w ≤ 3 + number_at w 1 2)
    go true e h = absurd (clash refl (sym (ap is_record h)))
    go false e h = (h, ltb-false (3 + number_at w 1 2) (length w) e)

-- the bytes are the record
pub only_record : (w : List ℕ) → AllIn 1 w → (f : Found) → only_in w ≡ next.Record f → Fits (call_in w f) × (w ≡ record_of (call_in w f))
only_record w b f e =
    let h = only_next w f e in
    let r = record_begins w b f h.0 in
    (r.0, r.1 ∙ ap (λ (l : List ℕ). record_of (call_in w f) ++ l) (drop_of_length-le w h.1) ∙ append-nil (record_of (call_in w f)))

-- the record of a call that fits is found
pub only_back : (c : Call) → Fits c → (f : Found) × (only_in (record_of c) ≡ next.Record f) × (call_in (record_of c) f ≡ c)
unfolding only_in
only_back c f =
    let r : Back c (record_of c) = subst (Back c) (append-nil (record_of c)) (back c f []) in
    let size : number_at (record_of c) 1 2 ≡ length (value_of c) =
    ap (λ (w : List ℕ). number_at w 1 2) (sym (append-nil (record_of c))) ∙ head_size c [] (omega (arith, length_short c f)) in
    (r.found, rw (le-ltb (3 + number_at (record_of c) 1 2) (length (record_of c)) (omega (arith, size, length_record c))) r.next, r.call)

-- where a create's numbers end and its data ends
HeadIn : List ℕ → Next → Type 0
HeadIn w (next.Record (found.Open n)) = Unit {0}
HeadIn w (next.Record (found.Create h)) = (h.names ≡ number_at w 6 1) × (4 + 4 * h.names + h.bytes ≡ number_at w 1 2) × (3 + number_at w 1 2 ≤ length w)
HeadIn w (next.Record (found.Write b)) = Unit {0}
HeadIn w (next.Record (found.Complete b)) = Unit {0}
HeadIn w (next.Record (found.Cut s)) = Unit {0}
HeadIn w (next.NoneYet k) = Unit {0}
HeadIn w next.Bad = Unit {0}

module _ (w : List ℕ) where
  create_head : (n : ℕ) → number_at w 1 2 ≡ n → 4 ≤ n → 3 + n ≤ length w → HeadIn w (create_in w n)
  unfolding HeadIn create_in
  create_head n en k l = go (ltb n (4 + 4 * number_at w 6 1)) refl
    where
      go : (v : Bool) → ltb n (4 + 4 * number_at w 6 1) ≡ v
          → HeadIn w (cond v next.Bad (next.Record (found.Create (record {
            block = number_at w 3 1;
            offset = number_at w 4 2;
            names = number_at w 6 1;
            bytes = n - (4 + 4 * number_at w 6 1);
          }))))
      go true e = tt
      go false e = let h = ltb-false n (4 + 4 * number_at w 6 1) e in (refl, omega arith, omega arith)

  value_head : {t n : ℕ} → Form t n → number_at w 1 2 ≡ n → 3 + n ≤ length w → HeadIn w (value_in w t n)
  unfolding HeadIn value_in
  value_head open_form en l = tt
  value_head {n = n} (create_form k h) en l = create_head n en k l
  value_head write_form en l = tt
  value_head complete_form en l = tt
  value_head cut_form en l = tt

  next_head : HeadIn w (next_in w)
  unfolding HeadIn
  next_head =
      next_by w (HeadIn w) (λ l. tt) (λ l f. tt) (λ l f h. tt) (λ f l. value_head (form (number_at w 0 1) (number_at w 1 2) f) refl l)

  -- a create's record has at most 255 numbers, and ends with its data
  pub create_there : AllIn 1 w → (h : Head) → only_in w ≡ next.Record (found.Create h) → (h.names ≤ 255) × (7 + 4 * h.names + h.bytes ≡ length w)
  unfolding HeadIn
  create_there b h e =
      let o = only_next w (found.Create h) e in
      let p = subst (HeadIn w) o.0 next_head in
      (omega (arith, p.0, number_in w b 6 1 (omega (arith, p.1, p.2))), omega (arith, p.1, p.2, o.1))
