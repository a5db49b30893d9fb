-- `recording::board_record_create` meets its contract. Assumes nothing.
use Rattle.records.specs.Record.{creates}
use Rattle.records.specs.Writer.{recording}
use Rattle.records.proofs.OneAnswer.{record_short}
use Rattle.board.proofs.recording.board_record_create.Goals as goal

pub recorded-requires : goal.recorded-requires
recorded-requires c = record_short _ (creates _) (recording _ _) c.create.ensures
