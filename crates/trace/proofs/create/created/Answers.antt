-- `create::created` meets its contract: the numbers and the data are those of the record. Assumes nothing.
use Prim.Native.Nat.{ℕ, ◌+◌, ◌-◌, ◌*◌}
use mathlib.Core.Path.{◌≡◌, sym, ap, subst, ◌∙◌}
use mathlib.Core.List.{List}
use native.Mathlib.Omega.{arith}
use lib.ListN.{length, take, drop}
use lib.Seq.{length-take-le}
use Rattle.rules.specs.Create.{Change, change_of}
use Rattle.rules.specs.Calls.{Creates}
use Rattle.cache.specs.Seen.{seen, creation}
use Rattle.records.specs.Record.{AllIn}
use Rattle.records.proofs.Reading.{length_in, first_in}
use Rattle.records.proofs.Only.{create_there}
use Rattle.trace.proofs.create.created.Goals as goal

same_change : {b o : ℕ} {xs ys ns ms : List ℕ} → xs ≡ ys → ns ≡ ms → change_of b o xs ns ≡ change_of b o ys ms
same_change p q = cc

pub overflow_mul-start : goal.overflow_mul-start
overflow_mul-start c =
    let bytes : AllIn 1 c.args.bytes.now = λ i l. omega (arith, c.type_inv.bytes i) in
    let there = create_there c.args.bytes.now bytes c.args.head c.requires in
    record { fits = omega (arith, there.0) }

pub overflow_add-start : goal.overflow_add-start
overflow_add-start c =
    let bytes : AllIn 1 c.args.bytes.now = λ i l. omega (arith, c.type_inv.bytes i) in
    let there = create_there c.args.bytes.now bytes c.args.head c.requires in
    record { fits = omega (arith, there.0) }

pub slice_bounds-change-count : goal.slice_bounds-change-count
slice_bounds-change-count c =
    let bytes : AllIn 1 c.args.bytes.now = λ i l. omega (arith, c.type_inv.bytes i) in
    omega (arith, (create_there c.args.bytes.now bytes c.args.head c.requires).1)

pub slice_bounds-change-start : goal.slice_bounds-change-start
slice_bounds-change-start c =
    let bytes : AllIn 1 c.args.bytes.now = λ i l. omega (arith, c.type_inv.bytes i) in
    omega (arith, (create_there c.args.bytes.now bytes c.args.head c.requires).1)

pub slice_bounds-named-end : goal.slice_bounds-named-end
slice_bounds-named-end c =
    let w = c.args.bytes.now in
    let n = c.args.head.names in
    let bytes : AllIn 1 w = λ i l. omega (arith, c.type_inv.bytes i) in
    let numbered : length c.numbers_in-named.result ≡ 255 = ap length c.numbers_in-named.ensures ∙ length_in w n in
    omega (arith, (create_there w bytes c.args.head c.requires).0, numbered)

pub slice_bounds-change-end-2 : goal.slice_bounds-change-end-2
slice_bounds-change-end-2 c =
    let w = c.args.bytes.now in
    let n = c.args.head.names in
    let bytes : AllIn 1 w = λ i l. omega (arith, c.type_inv.bytes i) in
    let numbered : length c.numbers_in-named.result ≡ 255 = ap length c.numbers_in-named.ensures ∙ length_in w n in
    sym (length-take-le _ _ (omega (arith, (create_there w bytes c.args.head c.requires).0, numbered)))

pub returns : goal.returns
returns c =
    let a = c.args in
    let w = a.bytes.now in
    let n = a.head.names in
    let bytes : AllIn 1 w = λ i l. omega (arith, c.type_inv.bytes i) in
    let ends = create_there w bytes a.head c.requires in
    let left : length w - (7 + 4 * n) ≡ a.head.bytes = omega (arith, ends.1) in
    let numbers = ap (take n) c.numbers_in-named.ensures ∙ first_in w n ends.0 (omega (arith, ends.1)) in
    let o = creation c.create.result c.create.new.image c.create.new.undo in
    subst (λ (x : Change). Creates (seen a.t) a.image.now a.undo.now x o)
    (same_change (ap (λ (m : ℕ). take m (drop (7 + 4 * n) w)) left) numbers) c.create.ensures
