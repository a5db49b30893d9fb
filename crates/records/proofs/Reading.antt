-- READING AND WRITING. What the reader finds is a call that fits, with the bytes of its record; and the record of every call that fits is found, whatever
-- comes after it. Assumes nothing.
use Prim.Native.Nat.{ℕ, zero, suc, ◌+◌, ◌-◌, ◌*◌, ◌/◌, ◌%◌, ◌≤◌, ◌<◌, min}
use mathlib.Core.Path.{◌≡◌, refl, sym, ap, ap₂, subst, ◌∙◌}
use mathlib.Core.Bool.{Bool, true, false, cond}
use mathlib.Core.List.{List, [], ◌∷◌, ◌++◌}
use native.Mathlib.Nat.{add-zero}
use native.Mathlib.Omega.{arith}
use borrow.Author.Tests.{ltb-false}
use lib.Dec.{ltb}
use lib.ListN.{length, get_or, take, drop, length-append, length-drop, replicate, length-replicate}
use lib.Seq.{take-suc, take-add, drop-drop, get_or-drop, take_at}
use Rattle.spans.specs.Spans.{part}
use Rattle.spans.proofs.Laws.{length_part, part_in}
use Rattle.records.specs.declared.types.Head.{Head}
use Rattle.records.specs.declared.types.Found.{Found}
use Rattle.records.specs.declared.types.Found.TheVariants as found
use Rattle.records.specs.declared.types.Next.{Next}
use Rattle.records.specs.declared.types.Next.TheVariants as next
use Rattle.records.specs.Record.{Call, opens, creates, writes, completes, cuts, high_first, four_each, tag_of, value_of, record_of, In, AllIn, Fits}
use Rattle.records.specs.Reader.{number_at, numbers_at, create_in, value_in, next_in, numbers_in, call_in}
use Rattle.records.proofs.Found.{next_by}
use Rattle.records.proofs.Forms.{Form, open_form, create_form, write_form, complete_form, cut_form, form}

-- ---- parts of bytes

part_split : (w : List ℕ) (at a b : ℕ) → part w at (a + b) ≡ part w at a ++ part w (at + a) b
part_split w at a b = take-add a b (drop at w) ∙ ap (λ (r : List ℕ). take a (drop at w) ++ take b r) (drop-drop a at w)

-- ---- what is read, written again

module _ (w : List ℕ) (b : AllIn 1 w) where
  byte_lt : (i : ℕ) → i < length w → get_or w i 0 < 256
  byte_lt i l = omega (arith, b i l)

  high_back : (at k : ℕ) → at + k ≤ length w → high_first k (number_at w at k) ≡ part w at k
  unfolding high_first number_at
  high_back at zero l = refl
  high_back at (suc k) l =
      let x = number_at w at k in
      let y = get_or w (at + k) 0 in
      let low = byte_lt (at + k) (omega arith) in
      let high : (x * 256 + y) / 256 ≡ x = omega (arith, low) in
      let last : (x * 256 + y) % 256 ≡ y = omega (arith, low) in
      rw (high, last, high_back at k (omega arith))
      (sym (take-suc (drop at w) k 0 (omega (arith, length-drop at w)) ∙ ap (λ (z : ℕ). take k (drop at w) ++ (z ∷ [])) (get_or-drop at w k 0)))

  pub number_in : (at k : ℕ) → at + k ≤ length w → In k (number_at w at k)
  unfolding number_at
  number_in at zero l = omega arith
  number_in at (suc k) l = omega (arith, byte_lt (at + k) (omega arith), number_in at k (omega arith))

  each_back : (at n : ℕ) → at + 4 * n ≤ length w → four_each (numbers_at w at n) ≡ part w at (4 * n)
  unfolding four_each numbers_at
  each_back at zero l = refl
  each_back at (suc n) l =
      let more : 4 * suc n ≡ 4 + 4 * n = omega arith in
      rw (high_back at 4 (omega arith), each_back (at + 4) n (omega arith), more) (sym (part_split w at 4 (4 * n)))

  each_in : (at n : ℕ) → at + 4 * n ≤ length w → AllIn 4 (numbers_at w at n)
  unfolding numbers_at
  each_in at zero l i h = absurd (omega arith)
  each_in at (suc n) l zero h = number_in at 4 (omega arith)
  each_in at (suc n) l (suc i) h = each_in (at + 4) n (omega arith) i (omega arith)

pub length_numbers : (w : List ℕ) (at n : ℕ) → length (numbers_at w at n) ≡ n
unfolding numbers_at
length_numbers w at zero = refl
length_numbers w at (suc n) = ap suc (length_numbers w (at + 4) n)

-- one number more
pub numbers_more : (w : List ℕ) (at n : ℕ) → numbers_at w at (suc n) ≡ numbers_at w at n ++ (number_at w (at + 4 * n) 4 ∷ [])
unfolding numbers_at
numbers_more w at zero = ap (λ (a : ℕ). number_at w a 4 ∷ []) (sym (add-zero at))
numbers_more w at (suc n) =
    let on : at + 4 + 4 * n ≡ at + 4 * suc n = omega arith in
    ap (λ (r : List ℕ). number_at w at 4 ∷ r) (numbers_more w (at + 4) n)
    ∙ ap (λ (a : ℕ). number_at w at 4 ∷ (numbers_at w (at + 4) n ++ (number_at w a 4 ∷ []))) on

-- the numbers of a create, with zeros behind them: how many there are, and the first n
module _ (w : List ℕ) (n : ℕ) where
  pub length_in : length (numbers_in w n) ≡ 255
  unfolding numbers_in
  length_in =
      let m = min (min n 255) ((length w - 7) / 4) in
      length-append (numbers_at w 7 m) (replicate (255 - m) 0) ∙ (omega (arith, length_numbers w 7 m, length-replicate {A = ℕ} (255 - m) 0))

  pub first_in : n ≤ 255 → 7 + 4 * n ≤ length w → take n (numbers_in w n) ≡ numbers_at w 7 n
  unfolding numbers_in
  first_in l h =
      let all : min (min n 255) ((length w - 7) / 4) ≡ n = omega arith in
      rw all (take_at (numbers_at w 7 n) (replicate (255 - n) 0) n (length_numbers w 7 n))

-- what a record that is found comes to: its call fits, and tag, length and value of its record are the bytes that stand there
pub record Taken (w : List ℕ) (f : Found) : Type 0 where
  pub fits : Fits (call_in w f)
  pub tag : number_at w 0 1 ≡ tag_of (call_in w f)
  pub size : number_at w 1 2 ≡ length (value_of (call_in w f))
  pub long : 3 + length (value_of (call_in w f)) ≤ length w
  pub value : value_of (call_in w f) ≡ part w 3 (length (value_of (call_in w f)))

-- of a record that is found; of anything else this says nothing
TakenIn : List ℕ → Next → Type 0
TakenIn w (next.Record f) = Taken w f
TakenIn w (next.NoneYet k) = Unit {0}
TakenIn w next.Bad = Unit {0}

module _ (w : List ℕ) (b : AllIn 1 w) where
  -- a value of n bytes from place 3, and that it fits
  taken : (f : Found) (t n : ℕ) → number_at w 0 1 ≡ t → number_at w 1 2 ≡ n → 3 + n ≤ length w → tag_of (call_in w f) ≡ t
      → value_of (call_in w f) ≡ part w 3 n → Fits (call_in w f) → Taken w f
  taken f t n et en l e v fits =
      let size : length (value_of (call_in w f)) ≡ n = ap length v ∙ length_part w 3 n l in
      record { fits = fits; tag = et ∙ sym e; size = en ∙ sym size; long = omega (arith, size); value = v ∙ ap (part w 3) (sym size) }

  -- a create's value: block, offset, how many numbers, the numbers, the data
  create_value : (m d : ℕ) → number_at w 6 1 ≡ m → 7 + 4 * m + d ≤ length w
      → high_first 1 (number_at w 3 1)
      ++ (high_first 2 (number_at w 4 2) ++ (high_first 1 (length (numbers_at w 7 m)) ++ (four_each (numbers_at w 7 m) ++ part w (7 + 4 * m) d)))
      ≡ part w 3 (4 + 4 * m + d)
  create_value m d e l =
      let whole : 4 + 4 * m + d ≡ 1 + (2 + (1 + (4 * m + d))) = omega arith in
      rw (
        length_numbers w 7 m,
        ← e,
        high_back w b 3 1 (omega arith),
        high_back w b 4 2 (omega arith),
        high_back w b 6 1 (omega arith),
        e,
        each_back w b 7 m (omega arith),
        whole,
        part_split w 3 1 (2 + (1 + (4 * m + d))),
        part_split w 4 2 (1 + (4 * m + d)),
        part_split w 6 1 (4 * m + d),
        part_split w 7 (4 * m) d,
      )

  create_taken : (n : ℕ) → number_at w 0 1 ≡ 2 → number_at w 1 2 ≡ n → 3 + n ≤ length w → n ≤ 1200 → TakenIn w (create_in w n)
  unfolding TakenIn create_in call_in value_of
  create_taken n et en l h = go (ltb n (4 + 4 * number_at w 6 1)) refl
    where
      m : ℕ
      m = number_at w 6 1

      d : ℕ
      d = n - (4 + 4 * number_at w 6 1)

      head : Head
      head = record { block = number_at w 3 1; offset = number_at w 4 2; names = m; bytes = d }

      fit : 4 + 4 * m ≤ n → Fits (call_in w (found.Create head))
      fit k = record {
        sizes = record {
          block = number_in w b 3 1 (omega arith);
          offset = number_in w b 4 2 (omega arith);
          many = subst (λ (x : ℕ). x < 256) (sym (length_numbers w 7 m)) (number_in w b 6 1 (omega arith));
          value = omega (arith, length_numbers w 7 m, length_part w (7 + 4 * m) d (omega arith));
        };
        named = each_in w b 7 m (omega arith);
        bytes = λ i q. subst (λ (x : ℕ). x < 256) (sym (part_in w (7 + 4 * m) d i (omega (arith, length_part w (7 + 4 * m) d (omega arith)))))
            (byte_lt w b (7 + 4 * m + i) (omega (arith, length_part w (7 + 4 * m) d (omega arith))));
      }

      go : (v : Bool) → ltb n (4 + 4 * m) ≡ v → TakenIn w (cond v next.Bad (next.Record (found.Create head)))
      go true e = tt
      go false e =
          let k = ltb-false n (4 + 4 * m) e in
          let whole : 4 + 4 * m + d ≡ n = omega arith in
          taken (found.Create head) 2 n et en l refl (create_value m d refl (omega arith) ∙ ap (part w 3) whole) (fit k)

  value_taken : {t n : ℕ} → Form t n → number_at w 0 1 ≡ t → number_at w 1 2 ≡ n → 3 + n ≤ length w → TakenIn w (value_in w t n)
  unfolding TakenIn value_in call_in value_of
  value_taken open_form et en l =
      taken (found.Open (number_at w 3 4)) 1 4 et en l refl (high_back w b 3 4 (omega arith)) (number_in w b 3 4 (omega arith))
  value_taken {n = n} (create_form k h) et en l = create_taken n et en l h
  value_taken write_form et en l =
      taken (found.Write (number_at w 3 1)) 3 1 et en l refl (high_back w b 3 1 (omega arith)) (number_in w b 3 1 (omega arith))
  value_taken complete_form et en l =
      taken (found.Complete (number_at w 3 1)) 4 1 et en l refl (high_back w b 3 1 (omega arith)) (number_in w b 3 1 (omega arith))
  value_taken cut_form et en l =
      taken (found.Cut (number_at w 3 8)) 5 8 et en l refl (high_back w b 3 8 (omega arith)) (number_in w b 3 8 (omega arith))

  next_taken : TakenIn w (next_in w)
  unfolding TakenIn
  next_taken =
      next_by w (TakenIn w) (λ l. tt) (λ l f. tt) (λ l f h. tt)
      (λ f l. value_taken (form (number_at w 0 1) (number_at w 1 2) f) refl refl l)

  -- a record that is found: its call fits, and its bytes stand there
  pub found_taken : (f : Found) → next_in w ≡ next.Record f → Taken w f
  unfolding TakenIn
  found_taken f e = subst (TakenIn w) e next_taken

-- the bytes of the record, from those that stand there
tag_byte : (c : Call) → high_first 1 (tag_of c) ≡ tag_of c ∷ []
unfolding high_first
tag_byte (opens n) = refl
tag_byte (creates c) = refl
tag_byte (writes b) = refl
tag_byte (completes b) = refl
tag_byte (cuts s) = refl

pub length_record : (c : Call) → length (record_of c) ≡ 3 + length (value_of c)
unfolding high_first record_of
length_record c = omega arith

-- the bytes begin with the record, byte for byte
pub taken_bytes : (w : List ℕ) → AllIn 1 w → (f : Found) → Taken w f → take (length (record_of (call_in w f))) w ≡ record_of (call_in w f)
unfolding record_of
taken_bytes w b f k =
    let c = call_in w f in
    let n = length (value_of c) in
    let long = k.long in
    ap (λ (m : ℕ). take m w) (length_record c ∙ three n) ∙ part_split w 0 1 (2 + n) ∙ ap (λ (r : List ℕ). part w 0 1 ++ r) (part_split w 1 2 n)
    ∙ ap₂ (λ (x y : List ℕ). x ++ (y ++ part w 3 n))
    (sym (high_back w b 0 1 (omega arith)) ∙ ap (high_first 1) k.tag ∙ tag_byte c)
    (sym (high_back w b 1 2 (omega arith)) ∙ ap (high_first 2) k.size)
    ∙ ap (λ (r : List ℕ). tag_of c ∷ (high_first 2 n ++ r)) (sym k.value)
  where
    three : (n : ℕ) → 3 + n ≡ 1 + (2 + n)
    three n = omega arith
