-- READING BACK WHAT WAS WRITTEN: the record of a call that fits is found, whatever comes after it, and it is that call's. Assumes nothing.
use Prim.Native.Nat.{ℕ, zero, suc, ◌+◌, ◌*◌, ◌-◌, ◌≤◌}
use mathlib.Core.Path.{◌≡◌, refl, sym, ap, ◌∙◌}
use mathlib.Core.Bool.{true}
use mathlib.Core.List.{List, [], ◌∷◌, ◌++◌, append_assoc}
use native.Mathlib.Nat.{add-zero, add_assoc}
use native.Mathlib.Omega.{arith}
use borrow.Author.Tests.{le-ltb, le-leb}
use lib.ListN.{length, length-append}
use lib.Seq.{get_or-append-add, take-append_seam, drop_at}
use Rattle.ground.proofs.Decided.{true_and}
use Rattle.spans.specs.Spans.{part}
use Rattle.rules.specs.Create.{Change}
use Rattle.records.specs.declared.types.Found.{Found}
use Rattle.records.specs.declared.types.Found.TheVariants as found
use Rattle.records.specs.declared.types.Next.TheVariants as next
use Rattle.records.specs.Record.{Call, opens, creates, writes, completes, cuts, high_first, four_each, tag_of, value_of, record_of, In, AllIn, Fits}
use Rattle.records.specs.Record.{CreateFits, most_value}
use Rattle.records.specs.Reader.{number_at, numbers_at, formed, create_in, value_in, next_in, call_in}
use Rattle.records.proofs.Values.{length_value, length_each}
use Rattle.records.proofs.Reading.{length_record}

-- ---- numbers in their bytes

module _ (x : ℕ) (rest : List ℕ) where
  pub one_back : In 1 x → number_at (high_first 1 x ++ rest) 0 1 ≡ x
  unfolding number_at high_first
  one_back l = omega arith

  pub two_back : In 2 x → number_at (high_first 2 x ++ rest) 0 2 ≡ x
  unfolding number_at high_first
  two_back l = omega arith

  pub four_back : In 4 x → number_at (high_first 4 x ++ rest) 0 4 ≡ x
  unfolding number_at high_first
  four_back l = omega arith

  pub eight_back : In 8 x → number_at (high_first 8 x ++ rest) 0 8 ≡ x
  unfolding number_at high_first
  eight_back l = omega arith

-- bytes in front are passed over
number_past : (pre ys : List ℕ) (at k : ℕ) → number_at (pre ++ ys) (length pre + at) k ≡ number_at ys at k
unfolding number_at
number_past pre ys at zero = refl
number_past pre ys at (suc k) =
    rw (number_past pre ys at k, add_assoc (length pre) at k, get_or-append-add pre ys (at + k) 0)

numbers_past : (pre ys : List ℕ) (at n : ℕ) → numbers_at (pre ++ ys) (length pre + at) n ≡ numbers_at ys at n
unfolding numbers_at
numbers_past pre ys at zero = refl
numbers_past pre ys at (suc n) = rw (number_past pre ys at 4, add_assoc (length pre) at 4, numbers_past pre ys (at + 4) n)

numbers_back : (ns rest : List ℕ) → AllIn 4 ns → numbers_at (four_each ns ++ rest) 0 (length ns) ≡ ns
unfolding numbers_at four_each high_first
numbers_back [] rest l = refl
numbers_back (n ∷ ns) rest l =
    rw (four_back n (four_each ns ++ rest) (l 0 (omega arith)), numbers_past (high_first 4 n) (four_each ns ++ rest) 0 (length ns))
    (ap (λ (r : List ℕ). n ∷ r) (numbers_back ns rest (λ i h. l (suc i) (omega arith))))

-- ---- the head of a record, and what follows from it

module _ (c : Call) (rest : List ℕ) (s : In 2 (length (value_of c))) where
  pub head_tag : number_at (record_of c ++ rest) 0 1 ≡ tag_of c
  unfolding number_at record_of
  head_tag = omega arith

  pub head_size : number_at (record_of c ++ rest) 1 2 ≡ length (value_of c)
  unfolding number_at record_of high_first
  head_size = omega arith

  head_long : length (record_of c ++ rest) ≡ 3 + length (value_of c) + length rest
  head_long = omega (arith, length-append (record_of c) rest, length_record c)

  -- a form that is known is found
  found_there : formed (tag_of c) (length (value_of c)) ≡ true
      → next_in (record_of c ++ rest) ≡ value_in (record_of c ++ rest) (tag_of c) (length (value_of c))
  unfolding next_in
  found_there f =
      rw (
        le-ltb (length (record_of c ++ rest)) 3 (omega (arith, head_long)),
        head_tag,
        head_size,
        f,
        le-ltb (length (record_of c ++ rest)) (3 + length (value_of c)) (omega (arith, head_long)),
      )

-- the record is found, and is that of the call
pub record Back (c : Call) (w : List ℕ) : Type 0 where
  pub found : Found
  pub next : next_in w ≡ next.Record found
  pub call : call_in w found ≡ c

-- a call whose value is one number
module _ (rest : List ℕ) where
  open_back : (n : ℕ) → In 4 n → Back (opens n) (record_of (opens n) ++ rest)
  unfolding number_at high_first value_of record_of formed value_in call_in
  open_back n l = record {
    found = found.Open n;
    next = found_there (opens n) rest (omega arith) refl ∙ ap (λ (x : ℕ). next.Record (found.Open x)) (four_back n rest l);
    call = refl;
  }

  write_back : (b : ℕ) → In 1 b → Back (writes b) (record_of (writes b) ++ rest)
  unfolding number_at high_first value_of record_of formed value_in call_in
  write_back b l = record {
    found = found.Write b;
    next = found_there (writes b) rest (omega arith) refl ∙ ap (λ (x : ℕ). next.Record (found.Write x)) (one_back b rest l);
    call = refl;
  }

  complete_back : (b : ℕ) → In 1 b → Back (completes b) (record_of (completes b) ++ rest)
  unfolding number_at high_first value_of record_of formed value_in call_in
  complete_back b l = record {
    found = found.Complete b;
    next = found_there (completes b) rest (omega arith) refl ∙ ap (λ (x : ℕ). next.Record (found.Complete x)) (one_back b rest l);
    call = refl;
  }

  cut_back : (s : ℕ) → In 8 s → Back (cuts s) (record_of (cuts s) ++ rest)
  unfolding number_at high_first value_of record_of formed value_in call_in
  cut_back s l = record {
    found = found.Cut s;
    next = found_there (cuts s) rest (omega arith) refl ∙ ap (λ (x : ℕ). next.Record (found.Cut x)) (eight_back s rest l);
    call = refl;
  }

-- a create: the seven bytes before its numbers, the numbers, the data
module _ (c : Change) (rest : List ℕ) where
  abbrev front : List ℕ
  front = 2 ∷ (high_first 2 (length (value_of (creates c))) ++ (high_first 1 c.block ++ (high_first 2 c.offset ++ high_first 1 (length c.named))))

  stands : record_of (creates c) ++ rest ≡ front ++ (four_each c.named ++ (c.bytes ++ rest))
  unfolding high_first record_of value_of
  stands = ap (λ (r : List ℕ). front ++ r) (append_assoc (four_each c.named) c.bytes rest)

  length_front : length front ≡ 7
  unfolding high_first
  length_front = refl

  numbers_there : AllIn 4 c.named → numbers_at (record_of (creates c) ++ rest) 7 (length c.named) ≡ c.named
  unfolding numbers_at high_first
  numbers_there l =
      rw (stands, ← add-zero 7, ← length_front, numbers_past front (four_each c.named ++ (c.bytes ++ rest)) 0 (length c.named))
      (numbers_back c.named (c.bytes ++ rest) l)

  data_there : part (record_of (creates c) ++ rest) (7 + 4 * length c.named) (length c.bytes) ≡ c.bytes
  data_there =
      rw (
        stands ∙ sym (append_assoc front (four_each c.named) (c.bytes ++ rest)),
        drop_at (front ++ four_each c.named) (c.bytes ++ rest) (7 + 4 * length c.named)
            (length-append front (four_each c.named) ∙ (omega (arith, length_front, length_each c.named))),
      )
      (take-append_seam c.bytes rest)

  create_form_known : CreateFits c → formed 2 (length (value_of (creates c))) ≡ true
  unfolding formed
  create_form_known f =
      true_and (le-leb 4 (length (value_of (creates c))) (omega (arith, length_value c)))
      (le-leb (length (value_of (creates c))) most_value (omega (arith, length_value c, f.sizes.value)))

  block_there : In 1 c.block → number_at (record_of (creates c) ++ rest) 3 1 ≡ c.block
  unfolding number_at high_first record_of value_of
  block_there l = omega arith

  offset_there : In 2 c.offset → number_at (record_of (creates c) ++ rest) 4 2 ≡ c.offset
  unfolding number_at high_first record_of value_of
  offset_there l = omega arith

  pub many_there : In 1 (length c.named) → number_at (record_of (creates c) ++ rest) 6 1 ≡ length c.named
  unfolding number_at high_first record_of value_of
  many_there l = omega arith

  create_back : CreateFits c → Back (creates c) (record_of (creates c) ++ rest)
  unfolding create_in value_in call_in
  create_back f =
      let n = length (value_of (creates c)) in
      let left : n - (4 + 4 * length c.named) ≡ length c.bytes = omega (arith, length_value c) in
      record {
        found = found.Create (record { block = c.block; offset = c.offset; names = length c.named; bytes = length c.bytes });
        next = found_there (creates c) rest (omega (arith, length_value c, f.sizes.value)) (create_form_known f)
            ∙ rw (
              many_there f.sizes.many,
              block_there f.sizes.block,
              offset_there f.sizes.offset,
              le-ltb n (4 + 4 * length c.named) (omega (arith, length_value c)),
              left,
            );
        call = rw (data_there, numbers_there f.named);
      }

pub back : (c : Call) → Fits c → (rest : List ℕ) → Back c (record_of c ++ rest)
back (opens n) f rest = open_back rest n f
back (creates c) f rest = create_back c rest f
back (writes b) f rest = write_back rest b f
back (completes b) f rest = complete_back rest b f
back (cuts s) f rest = cut_back rest s f

-- tag and length of a record are of a known form
pub known_form : (c : Call) → Fits c → formed (tag_of c) (length (value_of c)) ≡ true
unfolding formed high_first value_of
known_form (opens n) f = refl
known_form (creates c) f = create_form_known c [] f
known_form (writes b) f = refl
known_form (completes b) f = refl
known_form (cuts s) f = refl

pub length_short : (c : Call) → Fits c → length (value_of c) ≤ most_value
unfolding high_first value_of
length_short (opens n) f = omega arith
length_short (creates c) f = omega (arith, length_value c, f.sizes.value)
length_short (writes b) f = omega arith
length_short (completes b) f = omega arith
length_short (cuts s) f = omega arith
