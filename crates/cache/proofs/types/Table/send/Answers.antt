-- `Table::send` meets its contract: what is judged early, the largest set, the block handed out and the patches sent. Assumes nothing.
use mathlib.Core.Path.{sym, ap, ap₂, subst, ◌∙◌}
use mathlib.Core.List.{List}
use Rattle.std.proofs.lemmas.Result.{err_from_is_err_and}
use Rattle.rules.specs.declared.Slot.{Slot}
use Rattle.rules.specs.Table.{with_slots}
use Rattle.rules.specs.Write.{Largest, sent}
use Rattle.rules.specs.Rounds.{searched}
use Rattle.rules.proofs.Rounds.{searched_largest}
use Rattle.send.proofs.Handed.{handed_out_lem}
use Rattle.cache.specs.Seen.{seen}
use Rattle.cache.proofs.Early.{write-refused, write_ready}
use Rattle.cache.proofs.Sent.{write_only_empty, write_granted_lem}
use Rattle.cache.proofs.types.Table.send.Goals as goal

pub returns-in_err-ready_to_write : goal.returns-in_err-ready_to_write
returns-in_err-ready_to_write c =
    let a = c.args in
    let p = err_from_is_err_and c.from_residual.result c.from_residual.ensures.1 in
    rw (p.1, p.2)
    (write-refused (seen a.self.now) c.is_sound-sound.result c.is_sound-sound.ensures a.block c.patches_on-on.ensures a.image.now a.undo.now
    a.handed.now _ c.in_err-ready_to_write.ensures)

pub returns-then-set-eq0 : goal.returns-then-set-eq0
returns-then-set-eq0 c =
    let a = c.args in
    let ss = a.self.now.slots in
    let on = c.patches_on-on.ensures in
    let ready =
    write_ready (seen a.self.now) c.is_sound-sound.result c.is_sound-sound.ensures a.block on a.image.now a.undo.now a.handed.now
    c.in_ok-ready_to_write.ensures in
    let largest = subst (Largest ss _) (sym (c.largest-set.ensures ∙ ap₂ (searched ss) on.hard on.waiting)) (searched_largest ss _) in
    write_only_empty (seen a.self.now) a.image.now a.undo.now a.handed.now a.block ready (subst (Largest ss a.block) c.if-set-eq0.true largest)

pub returns : goal.returns
unfolding sent
returns c =
    let a = c.args in
    let t = a.self.now in
    let on = c.patches_on-on.ensures in
    let set = c.largest-set.result in
    let ready =
    write_ready (seen t) c.is_sound-sound.result c.is_sound-sound.ensures a.block on a.image.now a.undo.now a.handed.now c.in_ok-ready_to_write.ensures in
    let largest = subst (Largest t.slots _) (sym (c.largest-set.ensures ∙ ap₂ (searched t.slots) on.hard on.waiting)) (searched_largest t.slots _) in
    write_granted_lem (seen t) a.image.now a.undo.now a.handed.now a.block ready set c.if-set-eq0.false largest
    (seen c.with_slots.result) c.hand_out.new.out
    (c.with_slots.ensures ∙ ap (λ (ss : List Slot). with_slots ss (seen t)) c.sent.ensures)
    (c.hand_out.ensures
    ∙ handed_out_lem t.setting t.first t.next a.block set t.slots a.image.now a.undo.now a.handed.now
    ready.sound ready.is_block ready.image_whole ready.block_whole on.waiting)
