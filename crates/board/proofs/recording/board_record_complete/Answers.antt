-- `recording::board_record_complete` meets its contract. Assumes nothing.
use Rattle.records.specs.Record.{completes}
use Rattle.records.specs.Writer.{recording}
use Rattle.records.proofs.OneAnswer.{record_short}
use Rattle.board.proofs.recording.board_record_complete.Goals as goal

pub recorded-requires : goal.recorded-requires
recorded-requires c = record_short _ (completes _) (recording _ _) c.complete.ensures
