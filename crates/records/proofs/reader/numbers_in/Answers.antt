-- `reader::numbers_in` meets its contract: the loop has put the first i numbers, and the rest are zeros. Assumes nothing.
use Rattle.std.proofs.Common.{ℕ, suc, ◌+◌, ◌-◌, ◌*◌, ◌<◌, ◌≡◌, ◌∙◌, ◌++◌, ◌∷◌, sym, ap, List, [], length, ◌≤◌, ◌/◌, min}
use Rattle.std.proofs.Common.{append-nil, length-take-le, append_assoc, arith, set, replicate, take, drop, add-one}
use native.Mathlib.Nat.{sub-zero}
use Rattle.std.proofs.lemmas.List.{take-replicate, drop-replicate}
use Rattle.std.proofs.Math.Seq.{set_at}
use Rattle.records.specs.Reader.{number_at, numbers_at, numbers_in}
use Rattle.records.proofs.Numbers.{read_4}
use Rattle.records.proofs.Reading.{length_numbers, numbers_more}
use Rattle.records.proofs.reader.numbers_in.Goals as goal

-- one number more is put where the first zero was
one_more : (w : List ℕ) (m i x : ℕ) → i < m → x ≡ number_at w (7 + 4 * i) 4
    → set (numbers_at w 7 i ++ replicate (m - i) 0) i x ≡ numbers_at w 7 (i + 1) ++ replicate (m - (i + 1)) 0
one_more w m i x l e =
    let more : m - i ≡ suc (m - suc i) = omega arith in
    rw (more, add-one i, numbers_more w 7 i, ← e)
    (set_at (numbers_at w 7 i) 0 (replicate (m - suc i) 0) x i (length_numbers w 7 i)
    ∙ sym (append_assoc (numbers_at w 7 i) (x ∷ []) (replicate (m - suc i) 0)))

-- the places that are lent to the loop
abbrev places : ℕ → List ℕ
places m = take m (replicate 255 0)

as_many : (m : ℕ) → m ≤ 255 → length (places m) ≡ m
as_many m l = length-take-le m (replicate 255 0) l

pub loop-i-init : goal.loop-i-init
unfolding numbers_at
loop-i-init c =
    let m = c.min-m.result in
    take-replicate {X = ℕ} m 255 0 (omega arith) ∙ ap (λ k. replicate {A = ℕ} k 0) (sym (sub-zero m))

pub loop-i-preserved : goal.loop-i-preserved
loop-i-preserved c =
    let w = c.args.bytes.now in
    let i = c.loop-i.i in
    let m = c.min-m.result in
    let inside : i < length (places m) = c.loop-i-test.true in
    let read = read_4 w (7 + 4 * i) c.from_be_bytes.ensures c.array_at.ensures in
    ap (λ ns. set ns i c.from_be_bytes.result) c.loop-i.invariant
    ∙ one_more w m i c.from_be_bytes.result (omega (arith, inside, as_many m (omega arith))) read

-- the places that were lent, all of them written, and the zeros behind them
all_there : (w items : List ℕ) (m i : ℕ) → items ≡ numbers_at w 7 i ++ replicate (m - i) 0 → i ≡ m
    → items ++ drop m (replicate 255 0) ≡ numbers_at w 7 m ++ replicate (255 - m) 0
all_there w items m i e f =
    let none : m - m ≡ 0 = omega arith in
    rw (e, f, none, append-nil, drop-replicate {X = ℕ})

pub returns : goal.returns
unfolding numbers_in
returns c =
    let w = c.args.bytes.now in
    let i = c.loop-i.i in
    let m = c.min-m.result in
    let past : length (places m) ≤ i = c.loop-i-test.false in
    let within : i ≤ length (places m) = c.loop-i.auto.i-end in
    let all : i ≡ m = omega (arith, past, within, as_many m (omega arith)) in
    let there : min (min c.args.n 255) ((length w - 7) / 4) ≡ m = omega arith in
    all_there w c.loop-i.number-items m i c.loop-i.invariant all ∙ rw there
