-- The value of a create's record: how long it is, and its numbers one after the other. Assumes nothing.
use Prim.Native.Nat.{ℕ, ◌+◌, ◌*◌, ◌<◌}
use mathlib.Core.Path.{◌≡◌, refl, sym, ap, ◌∙◌}
use mathlib.Core.List.{List, [], ◌∷◌, ◌++◌, append_assoc, append-nil}
use native.Mathlib.Numerals.{add-one}
use native.Mathlib.Omega.{arith}
use lib.ListN.{length, get_or, take, length-append}
use lib.Seq.{take-suc}
use Rattle.rules.specs.Create.{Change}
use Rattle.records.specs.Record.{creates, high_first, four_each, value_of, record_of}
use Rattle.records.proofs.Numbers.{length_4}

pub length_each : (ns : List ℕ) → length (four_each ns) ≡ 4 * length ns
unfolding four_each
length_each [] = refl
length_each (n ∷ ns) = length-append (high_first 4 n) (four_each ns) ∙ (omega (arith, length_4 n, length_each ns))

each_append : (ns ms : List ℕ) → four_each (ns ++ ms) ≡ four_each ns ++ four_each ms
unfolding four_each
each_append [] ms = refl
each_append (n ∷ ns) ms = ap (λ (l : List ℕ). high_first 4 n ++ l) (each_append ns ms) ∙ sym (append_assoc (high_first 4 n) (four_each ns) (four_each ms))

-- one number more
pub each_more : (ns : List ℕ) (i : ℕ) → i < length ns → four_each (take i ns) ++ high_first 4 (get_or ns i 0) ≡ four_each (take (i + 1) ns)
unfolding four_each
each_more ns i l =
    rw (add-one i, take-suc ns i 0 l)
    (sym (each_append (take i ns) (get_or ns i 0 ∷ []) ∙ ap (λ (l : List ℕ). four_each (take i ns) ++ l) (append-nil (high_first 4 (get_or ns i 0)))))

pub length_value : (c : Change) → length (value_of (creates c)) ≡ 4 + 4 * length c.named + length c.bytes
unfolding high_first value_of
length_value c = omega (arith, length-append (four_each c.named) c.bytes, length_each c.named)

pub length_create : (c : Change) → length (record_of (creates c)) ≡ 7 + 4 * length c.named + length c.bytes
unfolding high_first record_of
length_create c = omega (arith, length_value c)

-- the record of a create, from what is laid one after the other
pub create_laid : (c : Change) (n : ℕ) → n ≡ 4 + 4 * length c.named + length c.bytes
    → (((((high_first 1 2 ++ high_first 2 n) ++ high_first 1 c.block) ++ high_first 2 c.offset) ++ high_first 1 (length c.named)) ++ four_each c.named)
    ++ c.bytes ≡ record_of (creates c)
unfolding high_first value_of record_of
create_laid c n e = rw (e ∙ sym (length_value c))
