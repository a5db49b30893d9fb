-- `Table::complete_write` meets its contract: both calls meet theirs. Assumes nothing.
use Rattle.cache.specs.Seen.{seen, completion}
use Rattle.cache.proofs.Joint.{joint_stops, joint_goes}
use Rattle.cache.proofs.types.Table.complete_write.Goals as goal

pub returns-in_default : goal.returns-in_default
returns-in_default c =
    let a = c.args in
    joint_stops (seen a.self) a.image.now a.undo.now a.handed.now a.x a.y (completion c.complete-completed.result) c.complete-completed.ensures _
    c.in_default.is

-- refused or not, the write's answer is the second
pub returns-in_default-answer : goal.returns-in_default-answer
returns-in_default-answer c =
    let a = c.args in
    joint_goes (seen a.self) a.image.now a.undo.now a.handed.now a.x a.y (completion c.complete-completed.result) c.complete-completed.ensures
    c.in-Ok.is _ c.write-written.ensures

pub returns : goal.returns
returns c =
    let a = c.args in
    joint_goes (seen a.self) a.image.now a.undo.now a.handed.now a.x a.y (completion c.complete-completed.result) c.complete-completed.ensures
    c.in-Ok.is _ c.write-written.ensures
