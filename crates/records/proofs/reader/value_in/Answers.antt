-- `reader::value_in` meets its contract: each tag in turn. Assumes nothing.
use Rattle.std.proofs.Common.{ℕ, ◌≡◌, true, subst, arith, rules}
use Rattle.records.specs.declared.tag.Tag.{Tag}
use Rattle.records.specs.Inside.{tag_number}
use Rattle.records.specs.Reader.{formed, value_in}
use Rattle.records.proofs.Forms.{open_long, create_long, write_long, complete_long, cut_long}
use Rattle.records.proofs.Numbers.{number_1, read_4, read_8}
use Rattle.records.proofs.reader.value_in.Goals as goal

-- a value with the tag of the arm has its arm's form
of_tag : {tag t : Tag} (n : ℕ) → tag ≡ t → formed (tag_number tag) n ≡ true → formed (tag_number t) n ≡ true
of_tag n e f = subst (λ (x : Tag). formed (tag_number x) n ≡ true) e f

pub array_at-requires : goal.array_at-requires
array_at-requires c = let long = open_long c.args.n (of_tag c.args.n c.in-Open.is c.requires.n_value) in search rules

pub create_in-requires-clause-le_n : goal.create_in-requires-clause-le_n
create_in-requires-clause-le_n c = (create_long c.args.n (of_tag c.args.n c.in-Create.is c.requires.n_value)).0

pub bounds-bytes-3 : goal.bounds-bytes-3
bounds-bytes-3 c = omega (arith, write_long c.args.n (of_tag c.args.n c.in-Write.is c.requires.n_value))

pub bounds-bytes-3-in-Complete : goal.bounds-bytes-3-in-Complete
bounds-bytes-3-in-Complete c = omega (arith, complete_long c.args.n (of_tag c.args.n c.in-Complete.is c.requires.n_value))

pub array_at-requires-in-Cut : goal.array_at-requires-in-Cut
array_at-requires-in-Cut c = let long = cut_long c.args.n (of_tag c.args.n c.in-Cut.is c.requires.n_value) in search rules

pub returns-in-Open : goal.returns-in-Open
unfolding value_in
returns-in-Open c = rw (c.in-Open.is, read_4 c.args.bytes.now 3 c.from_be_bytes.ensures c.array_at.ensures)

pub returns-in-Create : goal.returns-in-Create
unfolding value_in
returns-in-Create c = rw c.in-Create.is c.create_in.ensures

pub returns-in-Write : goal.returns-in-Write
unfolding value_in
returns-in-Write c = rw (c.in-Write.is, c.from.ensures, number_1)

pub returns-in-Complete : goal.returns-in-Complete
unfolding value_in
returns-in-Complete c = rw (c.in-Complete.is, c.from-in-Complete.ensures, number_1)

pub returns-in-Cut : goal.returns-in-Cut
unfolding value_in
returns-in-Cut c = rw (c.in-Cut.is, read_8 c.args.bytes.now 3 c.from_be_bytes-in-Cut.ensures c.array_at-in-Cut.ensures)
