-- What one more read gives stands behind what had come.
use Rattle.std.proofs.Common.{rules}
use Rattle.replay.proofs.Behind.{more_come}
use Rattle.replay.proofs.read_full.Goals as goal

pub loop-have-preserved : goal.loop-have-preserved
loop-have-preserved g c =
    let had = c.loop-have.invariant in
    let read = c.in_ok-n.ensures in
    (search rules, search rules, more_come _ _ _ c.loop-have.have _ c.in_ok-n.n c.loop-have.bytes c.read.new.buf had.1 read.bound.0 had.2 read.bytes.0)
