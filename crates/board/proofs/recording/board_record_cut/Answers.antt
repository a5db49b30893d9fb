-- `recording::board_record_cut` meets its contract. Assumes nothing.
use Rattle.records.specs.Record.{cuts}
use Rattle.records.specs.Writer.{recording}
use Rattle.records.proofs.OneAnswer.{record_short}
use Rattle.board.proofs.recording.board_record_cut.Goals as goal

pub recorded-requires : goal.recorded-requires
recorded-requires c = record_short _ (cuts _) (recording _ _) c.cut.ensures
