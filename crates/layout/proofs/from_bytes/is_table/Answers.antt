-- `from_bytes::is_table` meets its contract: the closure judges the tag of each slot. Assumes nothing.
use Rattle.std.proofs.Common.{ℕ, ◌≤◌, ◌<◌, ◌≡◌, ◌∙◌, Bool, true, false, List, length, get_or, refl, subst, zero-add, rules, tests, arith}
use Rattle.std.proofs.lemmas.Iterator.{YieldsList-from_range, cases_from_all}
use Rattle.std.proofs.lemmas.List.FromFn.{length-range_with_len, get_or-range_with_len}
use Rattle.std.specs.Bool.{MatchBool}
use Rattle.std.specs.List.{AllWithin, HoldsAt, range_with_len}
use Rattle.ground.specs.Decides.{Decides}
use Rattle.layout.specs.Layout.{table_bytes, number_at, slot_start, IsTable}
use Rattle.layout.proofs.from_bytes.is_table.Goals as goal

-- the tag of slot i is one, or none
abbrev Tag : List ℕ → ℕ → Type 0
Tag w i = number_at w (slot_start i) 4 ≤ 4

abbrev NoTag : List ℕ → ℕ → Type 0
NoTag w i = 4 < number_at w (slot_start i) 4

abbrev places : List ℕ
places = range_with_len 0 64

place : (i : ℕ) → i < 64 → get_or places i 0 ≡ i
place i l = get_or-range_with_len 0 64 i 0 l ∙ zero-add i

judged : (w : List ℕ) (r : Bool) → length w ≡ table_bytes
    → MatchBool r (AllWithin (Tag w) places 0 (length places)) ((k : ℕ) × (k < length places) × HoldsAt (NoTag w) places k) → Decides (IsTable w) r
judged w true e m = record { size = e; tags = λ i l. subst (Tag w) (place i l) (m i 0 (omega arith) (omega (arith, length-range_with_len 0 64))) }
judged w false e (k, l, h) = λ t.
    let i : k < 64 = omega (arith, length-range_with_len 0 64) in
    absurd (omega (arith, subst (NoTag w) (place k i) (h 0), t.tags k i))

pub returns-then-bytes-eq-TABLE_BYTES : goal.returns-then-bytes-eq-TABLE_BYTES
returns-then-bytes-eq-TABLE_BYTES c =
    let w = c.args.bytes.now in
    judged w c.all.result c.if-bytes-eq-TABLE_BYTES.true
    (cases_from_all _ _ _ (Tag w) (NoTag w) c.all.ensures.ran (YieldsList-from_range 0 64 64 refl refl)
    (λ x q k. search (rules, tests)) (λ x q k. search (rules, tests)))
