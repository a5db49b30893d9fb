-- `calls::board_create` meets its contract. Assumes nothing.
use mathlib.Core.Path.{◌∙◌}
use mathlib.Core.Logic.{inl, inr, ⊎_elim}
use Rattle.rules.proofs.Cases.{holds, passes}
use Rattle.cache.specs.Seen.{creation}
use Rattle.layout.proofs.Length.{read_whole, stored_whole}
use Rattle.board.proofs.Answers.{create-none, hold_fits, create_granted_here, create_refused_here}
use Rattle.board.proofs.calls.board_create.Goals as goal

pub returns-then-image-ne-IMAGE_BYTES : goal.returns-then-image-ne-IMAGE_BYTES
returns-then-image-ne-IMAGE_BYTES c =
    rw c.number.ensures
    (create-none _ _ _ _ 1 c.if-not-is_table.ensures (holds (⊎_elim (λ e. inl e) (λ m. inr m.1) c.then-image-ne-IMAGE_BYTES.either)))

pub returns-then-not-is_table : goal.returns-then-not-is_table
returns-then-not-is_table c =
    let none_here = c.if-not-is_table.ensures in
    rw c.number-then-not-is_table.ensures
    (create-none _ _ _ _ 2 none_here
    (passes (⊎_elim (λ n. n c.if-image-ne-IMAGE_BYTES.false) (λ n. n c.if-undo-ne-UNDO_BYTES.false)) (holds none_here)))

pub hold_number-requires : goal.hold_number-requires
hold_number-requires c = hold_fits c.create-created.ensures c.in-Ok.is

pub returns-in-Ok : goal.returns-in-Ok
returns-in-Ok c =
    let table_here = c.if-not-is_table.ensures in
    let seen_here = c.table_in.ensures ∙ read_whole _ table_here.size in
    create_granted_here (creation c.create-created.result c.create-created.new.image c.create-created.new.undo) table_here
    seen_here c.create-created.ensures c.in-Ok.patch c.in-Ok.is c.hold_number.ensures
    (c.store.ensures ∙ stored_whole _ _ table_here.size)

pub returns-in-Err : goal.returns-in-Err
returns-in-Err c =
    let table_here = c.if-not-is_table.ensures in
    let seen_here = c.table_in.ensures ∙ read_whole _ table_here.size in
    rw c.number-in-Err.ensures
    (create_refused_here (creation c.create-created.result c.create-created.new.image c.create-created.new.undo) table_here
    seen_here c.create-created.ensures c.in-Err.refusal c.in-Err.is)
