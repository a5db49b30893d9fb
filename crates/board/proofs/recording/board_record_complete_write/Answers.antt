-- `recording::board_record_complete_write` meets its contract. Assumes nothing.
use Rattle.records.specs.Writer.{recording}
use Rattle.records.proofs.OneAnswer.{joint_record_short}
use Rattle.board.proofs.recording.board_record_complete_write.Goals as goal

pub recorded-requires : goal.recorded-requires
recorded-requires c =
    let a = c.args in
    joint_record_short _ a.x a.y a.first (recording _ _) c.complete_write.ensures
