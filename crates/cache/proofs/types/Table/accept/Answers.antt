-- `Table::accept` meets its contract: what is judged early, then what becomes of the change: it joins, or takes a slot. Assumes nothing.
use mathlib.Core.Path.{subst}
use Rattle.std.proofs.lemmas.Result.{err_from_is_err_and}
use Rattle.accept.specs.Asked.{Means}
use Rattle.accept.proofs.FreeRooms.{enters_means}
use Rattle.cache.specs.Seen.{seen}
use Rattle.cache.proofs.Early.{verdict_decides, create-refused, create_ready}
use Rattle.cache.proofs.Accepted.{create-joined}
use Rattle.cache.proofs.types.Table.accept.Goals as goal

pub returns-in_err-in_use : goal.returns-in_err-in_use
returns-in_err-in_use c =
    let p = err_from_is_err_and c.from_residual.result c.from_residual.ensures.1 in
    rw (p.1, p.2) (create-refused (seen c.args.self.now) _ (verdict_decides c.judge-verdict.ensures) _ _ _ _ c.in_err-in_use.ensures.refusal)

pub take-requires : goal.take-requires
take-requires c =
    let t = c.args.self.now in
    let ready = create_ready (seen t) _ (verdict_decides c.judge-verdict.ensures) _ _ _ c.in_ok-in_use.ensures.refusal in
    let in_use = c.judge-verdict.ensures.sound _ c.in_ok-in_use.ensures.passes in
    let means = subst (Means t.setting t.slots _) c.in-Own.is (enters_means t.setting t.slots in_use.taken-rooms c.entry_for.ensures) in
    record { ready = ready; own = means.0; is-used = in_use.used_slots; held = means.1 }

pub returns-in-Joins : goal.returns-in-Joins
returns-in-Joins c =
    let t = c.args.self.now in
    let ready = create_ready (seen t) _ (verdict_decides c.judge-verdict.ensures) _ _ _ c.in_ok-in_use.ensures.refusal in
    let in_use = c.judge-verdict.ensures.sound _ c.in_ok-in_use.ensures.passes in
    let means = subst (Means t.setting t.slots _) c.in-Joins.is (enters_means t.setting t.slots in_use.taken-rooms c.entry_for.ensures) in
    rw (c.join.ensures c.args.undo.now) (create-joined _ _ _ _ ready c.in-Joins.j means.0 means.1)
