-- What came stands behind what was there.
use Rattle.std.proofs.Common.{arith}
use Rattle.replay.proofs.Behind.{only_behind}
use Rattle.replay.proofs.read_on.Goals as goal

pub returns-clause-read : goal.returns-clause-read
returns-clause-read g c =
    let came = c.in_ok-read_full.ensures in
    only_behind _ _ c.args.have _ c.in_ok-read_full.field-0 c.args.bytes.now c.read_full.new.bytes (omega (arith, c.if-bytes-have.false)) came.bound.0 came.read
