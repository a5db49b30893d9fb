-- BAD KINDS: document 02's list, each shown of what is printed. An input that goes on begins with the record of a call, so its tag, its length and its
-- numbers are that call's. Assumes nothing.
use Prim.Native.Nat.{ℕ, ◌+◌, ◌*◌, ◌≤◌, ◌<◌}
use mathlib.Core.Path.{◌≡◌, refl, sym, ap, ap₂, subst, ◌∙◌}
use mathlib.Core.Bool.{true, false}
use mathlib.Core.List.{List, [], ◌∷◌, ◌++◌, append_assoc, append-nil}
use mathlib.Core.Logic.{◌⊎◌, ⊎_elim}
use native.Mathlib.Omega.{arith}
use lib.ListN.{length, length-append}
use Rattle.ground.proofs.Decided.{clash}
use Rattle.records.specs.Record.{Call, opens, creates, writes, completes, cuts, high_first, tag_of, value_of, record_of, Fits}
use Rattle.records.specs.Reader.{number_at, formed}
use Rattle.records.proofs.Forms.{form, open_long, create_long, write_long, complete_long, cut_long}
use Rattle.records.proofs.Beginning.{form_short}
use Rattle.records.proofs.Reading.{length_record}
use Rattle.records.proofs.ReadBack.{head_tag, head_size, known_form, length_short, many_there}
use Rattle.records.proofs.RoundTrip.{begins_one}
use Rattle.records.proofs.Values.{length_value}
use Rattle.trace.specs.declared.types.Phase.{Phase}
use Rattle.trace.specs.Run.{Run, is_in_order}
use Rattle.trace.specs.Printed as prints
use Rattle.trace.specs.Printed.{Ended, GoesOn}
use Rattle.trace.specs.BadKinds.{Bad, head, long, BadKinds}

module _ {r : Run} where
  -- what is left has not ended
  bad : (b : ℕ) (rest : List ℕ) → ((c : Call) → GoesOn r (b ∷ rest) c → ⊥) → Bad r (b ∷ rest)
  bad b rest none = prints.stops {input = b ∷ rest} (λ (e : Ended r (b ∷ rest)). absurd (omega (arith, ap length e.all_read))) none

  -- the record that the input goes on with
  begun_with : {input : List ℕ} {c : Call} (g : GoesOn r input c) → input ≡ record_of c ++ g.rest
  begun_with g = g.whole ∙ ap (λ (w : List ℕ). w ++ g.rest) g.good.bytes_are

  -- its head has a known form
  tag_is : {input : List ℕ} {c : Call} → GoesOn r input c → number_at input 0 1 ≡ tag_of c
  tag_is {c = c} g = ap (λ (w : List ℕ). number_at w 0 1) (begun_with g) ∙ head_tag c g.rest (omega (arith, length_short c g.good.fits))

  size_is : {input : List ℕ} {c : Call} → GoesOn r input c → number_at input 1 2 ≡ length (value_of c)
  size_is {c = c} g = ap (λ (w : List ℕ). number_at w 1 2) (begun_with g) ∙ head_size c g.rest (omega (arith, length_short c g.good.fits))

  known : {input : List ℕ} {c : Call} → GoesOn r input c → formed (number_at input 0 1) (number_at input 1 2) ≡ true
  known {c = c} g = rw (tag_is g, size_is g) (known_form c g.good.fits)

  bad_form : (tag high low : ℕ) (rest : List ℕ) → (formed tag (long high low) ≡ true → ⊥) → Bad r (head tag high low rest)
  unfolding number_at
  bad_form tag high low rest none =
      let t : number_at (head tag high low rest) 0 1 ≡ tag = omega arith in
      let n : number_at (head tag high low rest) 1 2 ≡ long high low = omega arith in
      bad tag (high ∷ low ∷ rest) (λ c g. none (sym (ap₂ formed t n) ∙ known g))

-- tags are 1 to 5
tag_least : (c : Call) → 1 ≤ tag_of c
tag_least (opens n) = omega arith
tag_least (creates c) = omega arith
tag_least (writes b) = omega arith
tag_least (completes b) = omega arith
tag_least (cuts s) = omega arith

tag_most : (c : Call) → tag_of c ≤ 5
tag_most (opens n) = omega arith
tag_most (creates c) = omega arith
tag_most (writes b) = omega arith
tag_most (completes b) = omega arith
tag_most (cuts s) = omega arith

-- the numbers of a create end with its value
numbers_fit : (c : Call) → Fits c → 2 ≡ tag_of c → (rest : List ℕ) → 4 + 4 * number_at (record_of c ++ rest) 6 1 ≤ length (value_of c)
numbers_fit (opens n) f e rest = absurd (omega arith)
numbers_fit (creates c) f e rest = omega (arith, many_there c rest f.sizes.many, length_value c)
numbers_fit (writes b) f e rest = absurd (omega arith)
numbers_fit (completes b) f e rest = absurd (omega arith)
numbers_fit (cuts s) f e rest = absurd (omega arith)

module _ (r : Run) where
  bad_tag : (tag : ℕ) (rest : List ℕ) → (tag ≡ 0) ⊎ (5 < tag) → Bad r (tag ∷ rest)
  unfolding number_at
  bad_tag tag rest u =
      bad tag rest (λ c g.
      let t : tag ≡ tag_of c = omega (arith, tag_is g) in
      ⊎_elim (λ z. absurd (omega (arith, t, tag_least c))) (λ l. absurd (omega (arith, t, tag_most c))) u)

  -- a create's numbers
  bad_numbers : (high low block high' low' many : ℕ) (rest : List ℕ) → long high low < 4 + 4 * many
      → Bad r (head 2 high low (block ∷ high' ∷ low' ∷ many ∷ rest))
  unfolding number_at
  bad_numbers high low block high' low' many rest l =
      bad 2 (high ∷ low ∷ block ∷ high' ∷ low' ∷ many ∷ rest) (λ c g.
      let numbers = numbers_fit c g.good.fits (omega (arith, tag_is g)) g.rest in
      let at-6 = ap (λ (w : List ℕ). number_at w 6 1) (begun_with g) in
      absurd (omega (arith, l, numbers, at-6, size_is g)))

  -- a record that is out of its order
  bad_order : (c : Call) → Fits c → is_in_order r.phase c ≡ false → (rest : List ℕ) → Bad r (record_of c ++ rest)
  unfolding record_of
  bad_order c f o rest =
      bad (tag_of c) ((high_first 2 (length (value_of c)) ++ value_of c) ++ rest) (λ d g.
      let same = (begins_one f g.good.fits (begun_with g)).0 in
      clash g.good.in_order (ap (is_in_order r.phase) (sym same) ∙ o))

  -- a record that ends early
  bad_end : (c : Call) → Fits c → (b more : ℕ) (front rest : List ℕ) → record_of c ≡ (b ∷ front) ++ (more ∷ rest) → Bad r (b ∷ front)
  bad_end c f b more front rest e =
      bad b front (λ d g.
      let whole = append-nil (record_of c) ∙ e ∙ ap (λ (w : List ℕ). w ++ (more ∷ rest)) (begun_with g) ∙ append_assoc (record_of d) g.rest (more ∷ rest) in
      let none = (begins_one f g.good.fits whole).1 in
      absurd (omega (arith, ap length none, length-append g.rest (more ∷ rest))))

  phase_order : {p : Phase} (c : Call) → r.phase ≡ p → is_in_order p c ≡ false → is_in_order r.phase c ≡ false
  phase_order c e o = subst (λ (p : Phase). is_in_order p c ≡ false) (sym e) o

  pub bad_kinds : BadKinds r
  bad_kinds = record {
    empty = λ e. prints.stops (λ (h : Ended r []). h.some_came e)
        (λ c g. absurd (omega (arith, ap length (begun_with g), length-append (record_of c) g.rest, length_record c)));
    unknown_tag = bad_tag;
    too_long = λ tag high low rest l. bad_form tag high low rest (λ e. absurd (omega (arith, form_short (form tag (long high low) e))));
    open_form = λ high low rest d. bad_form 1 high low rest (λ e. d (open_long (long high low) e));
    write_form = λ high low rest d. bad_form 3 high low rest (λ e. d (write_long (long high low) e));
    complete_form = λ high low rest d. bad_form 4 high low rest (λ e. d (complete_long (long high low) e));
    cut_form = λ high low rest d. bad_form 5 high low rest (λ e. d (cut_long (long high low) e));
    create_short = λ high low rest l. bad_form 2 high low rest (λ e. absurd (omega (arith, (create_long (long high low) e).0)));
    create_numbers = bad_numbers;
    ends_early = bad_end;
    open_missing = λ e c f o rest. bad_order c f (phase_order c e o) rest;
    open_again = λ e n f rest. bad_order (opens n) f (phase_order (opens n) e refl) rest;
    after-cut = λ e b rest. bad b rest (λ c g. clash g.good.in_order (phase_order c e refl));
  }
