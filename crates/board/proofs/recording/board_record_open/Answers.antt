-- `recording::board_record_open` meets its contract. Assumes nothing.
use Rattle.records.specs.Record.{opens}
use Rattle.records.specs.Writer.{recording}
use Rattle.records.proofs.OneAnswer.{record_short}
use Rattle.board.proofs.recording.board_record_open.Goals as goal

pub recorded-requires : goal.recorded-requires
recorded-requires c = record_short _ (opens _) (recording _ _) c.open.ensures
