-- `send::hand_out::highest` meets its contract: the chain's list is that of the slots from the last down. Assumes nothing.
use Prim.Native.Nat.{ℕ}
use mathlib.Core.Bool.{◌&&◌}
use mathlib.Core.Path.{subst}
use lib.Dec.{ltb}
use lib.ListN.{length}
use Rattle.std.proofs.Common.{rules, tests}
use Rattle.std.proofs.lemmas.Iterator.Consumers.{YieldsList-from_filter, YieldsList-at}
use Rattle.masks.specs.Sets.{has}
use Rattle.rules.specs.declared.Slot.{Slot}
use Rattle.send.proofs.ByKey.{mapped, most_from_max_by_key}
use Rattle.send.specs.Back.{HighestOr}
use Rattle.send.proofs.Most.{YieldsList-from_rev, YieldsList-from_enumerate_back, highest_of_most}
use Rattle.send.proofs.hand_out.highest.Goals as goal

pub returns : goal.returns
returns c =
    let a = c.args in
    let e = most_from_max_by_key (λ (p : ℕ × Slot). p.1.number) _ _ (λ x n q k. search (rules, tests)) c.max_by_key.result c.max_by_key.ensures.ran
    (YieldsList-from_rev (YieldsList-at c.rev.ensures.source (YieldsList-from_filter _ (λ (p : ℕ × Slot). has a.left p.0 && ltb p.1.number a.top)
    (YieldsList-at c.filter.ensures.source (YieldsList-from_enumerate_back a.slots.now (cc) (cc)))
    c.filter.ensures.closure (λ x r q k. search (rules, tests))))) in
    let w = highest_of_most a.slots.now a.left a.top _ e in
    let m = mapped (λ x. (x.0, x.1.now)) (λ x. x.0) c.max_by_key.result c.map.result c.map.ensures.cases (λ x y k. search (rules, tests)) in
    subst (λ n. HighestOr a.slots.now a.left a.top n c.map.result) c.told-slots (subst (λ r. HighestOr a.slots.now a.left a.top (length a.slots.now) r) m w)
