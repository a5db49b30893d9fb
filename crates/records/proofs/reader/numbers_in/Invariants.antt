-- `reader::numbers_in` meets its contract: the loop has put the first i numbers, and the rest are zeros. Assumes nothing.
use Rattle.std.proofs.Common.{◌-◌, ◌≡◌, ◌++◌, replicate}
use Rattle.records.specs.Reader.{numbers_at}
use Rattle.records.proofs.reader.numbers_in.Given as goal

abbrev pub invariant-loop-i : goal.invariant-loop-i
invariant-loop-i l = l.number-items ≡ numbers_at l.bytes 7 l.i ++ replicate (l.m - l.i) 0
