-- `reader::only_in` meets its contract. Assumes nothing.
use Rattle.std.proofs.Common.{◌+◌, ◌≤◌, length, arith}
use borrow.Author.Tests.{lt-ltb, le-ltb}
use Rattle.records.specs.Reader.{number_at, only_in}
use Rattle.records.proofs.Numbers.{size_read}
use Rattle.records.proofs.reader.only_in.Goals as goal
use Rattle.records.proofs.reader.only_in.Goals.{in_default, in-len3-up+else-n-bytes}

pub returns-then-n-bytes : goal.returns-then-n-bytes
unfolding only_in
returns-then-n-bytes c =
    let w = c.args.bytes.now in
    rw (lt-ltb (3 + number_at w 1 2) (length w) (omega (arith, c.from-n.ensures, c.from_be_bytes.ensures, size_read w)))

pub returns : goal.returns
unfolding only_in
returns c =
    let w = c.args.bytes.now in
    let ends : length w ≤ 3 + number_at w 1 2 = elim c.if-bytes-lt3.branch [
      | in_default v ↦ omega arith
      | in-len3-up+else-n-bytes v ↦ omega (arith, v.from-n.ensures, v.from_be_bytes.ensures, size_read w)
    ] in
    rw (le-ltb (3 + number_at w 1 2) (length w) ends) c.next_in.ensures
