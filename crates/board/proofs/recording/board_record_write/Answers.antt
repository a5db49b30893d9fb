-- `recording::board_record_write` meets its contract. Assumes nothing.
use Rattle.records.specs.Record.{writes}
use Rattle.records.specs.Writer.{recording}
use Rattle.records.proofs.OneAnswer.{record_short}
use Rattle.board.proofs.recording.board_record_write.Goals as goal

pub recorded-requires : goal.recorded-requires
recorded-requires c = record_short _ (writes _) (recording _ _) c.write.ensures
