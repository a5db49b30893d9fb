-- `run::made_call` meets its contract: each call in turn. Assumes nothing.
use Rattle.records.specs.Reader.{call_in}
use Rattle.trace.proofs.run.made_call.Goals as goal

pub returns-in-Open : goal.returns-in-Open
unfolding call_in
returns-in-Open c = rw c.in-Open.is (c.make_open.ensures _ _)

pub returns-in-Write : goal.returns-in-Write
unfolding call_in
returns-in-Write c = rw c.in-Write.is c.make_write.ensures

pub returns-in-Complete : goal.returns-in-Complete
unfolding call_in
returns-in-Complete c = rw c.in-Complete.is (c.make_complete.ensures _ _)

pub returns-in-Cut : goal.returns-in-Cut
unfolding call_in
returns-in-Cut c = rw c.in-Cut.is (c.make_cut.ensures _ _)
