-- `reader::create_in` meets its contract. Assumes nothing.
use Rattle.std.proofs.Common.{ℕ, ◌+◌, ◌*◌, ◌≡◌, ◌∙◌, sym, arith}
use borrow.Author.Tests.{lt-ltb, le-ltb}
use Rattle.records.specs.declared.types.Found.TheVariants as found
use Rattle.records.specs.declared.types.Next.{Next}
use Rattle.records.specs.declared.types.Next.TheVariants as next
use Rattle.records.specs.Reader.{number_at, create_in}
use Rattle.records.proofs.Numbers.{number_1, read_2}
use Rattle.records.proofs.reader.create_in.Goals as goal

abbrev made : ℕ → ℕ → ℕ → ℕ → Next
made block offset names bytes = next.Record (found.Create (record { block = block; offset = offset; names = names; bytes = bytes }))

same_head : {b b' o o' n n' m m' : ℕ} → b ≡ b' → o ≡ o' → n ≡ n' → m ≡ m' → made b o n m ≡ made b' o' n' m'
same_head p q r s = cc

pub returns-in_default : goal.returns-in_default
unfolding create_in
returns-in_default c =
    let a = c.args in
    let short = lt-ltb a.n (4 + 4 * number_at a.bytes.now 6 1) (omega (arith, number_1 a.bytes.now 6, c.in_default.ensures)) in
    rw short

pub returns : goal.returns
unfolding create_in
returns c =
    let n = c.args.n in
    let w = c.args.bytes.now in
    let names = c.from-names.ensures ∙ sym (number_1 w 6) in
    let fits = c.in-Some.ensures in
    let block = c.from.ensures ∙ sym (number_1 w 3) in
    let offset = c.from-2.ensures ∙ read_2 w 4 c.from_be_bytes.ensures c.array_at.ensures in
    rw (le-ltb n (4 + 4 * number_at w 6 1) (omega (arith, names, fits))) (same_head block offset names (omega (arith, names, fits)))
