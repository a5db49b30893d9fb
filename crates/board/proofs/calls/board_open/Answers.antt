-- `calls::board_open` meets its contract. Assumes nothing.
use mathlib.Core.Path.{refl, ◌∙◌}
use Rattle.cache.specs.Seen.{opening}
use Rattle.layout.proofs.Length.{stored_whole}
use Rattle.board.proofs.Answers.{open_here}
use Rattle.board.proofs.calls.board_open.Goals as goal

pub returns : goal.returns
returns c =
    let sized = c.if-table-ne-TABLE_BYTES.false in
    rw c.answer_number.ensures
    (open_here (opening c.open-opened.result) c.open-opened.result.answer sized c.open-opened.ensures refl (c.store.ensures ∙ stored_whole _ _ sized))
