-- What further calls keep: an accepted change stays accepted, and a number that has landed stays landed.
use Prim.Native.Nat.{ℕ}
use mathlib.Core.Path.{◌≡◌, ◌∙◌}
use mathlib.Core.Bool.{true}
use mathlib.Core.List.{List, ◌++◌, Memᴰ}
use lib.Dec.{eqb}
use Rattle.ground.proofs.Decided.{true_or_r}
use Rattle.std.specs.Prelude.{Result, Ok, Err}
use Rattle.rules.specs.declared.Created.{Created}
use Rattle.rules.specs.declared.refusals.Refusal.{Refusal}
use Rattle.rules.specs.Create.{Change}
use Rattle.demands.specs.History.{History, Accepted, Sent, accepted_by, after_create, after_write, those, now_landed, after_complete, Call}
use Rattle.demands.specs.Demand3.{on_store, sent_in, has_landed, Later, ForGood}
use Rattle.demands.proofs.Notes.{sent_in_both}

-- of two lists of writes, what the second sent
after_others : (n : ℕ) (a b : List Sent) → sent_in n b ≡ true → sent_in n (a ++ b) ≡ true
after_others n a b e = sent_in_both n a b ∙ true_or_r (sent_in n a) e

landed_still : (n b : ℕ) (out landed : List Sent) (answer : Result (Unit {0}) Refusal) → sent_in n landed ≡ true
    → sent_in n (now_landed answer b out landed) ≡ true
landed_still n b out landed (Ok u) e = after_others n (those (λ w. eqb w.block b) out) landed e
landed_still n b out landed (Err r) e = e

accepted_still : (a : Accepted) (c : Change) (older : List Accepted) (answer : Result Created Refusal) → Memᴰ a older → Memᴰ a (accepted_by answer c older)
accepted_still a c older (Ok x) m = Memᴰ.tail m
accepted_still a c older (Err r) m = m

-- the change is accepted, and its number has landed
abbrev Landed : Accepted → History → Type 0
Landed a h = Memᴰ a h.accepted × (sent_in a.number h.landed ≡ true)

call_keeps : (a : Accepted) {h h' : History} → Call h h' → Landed a h → Landed a h'
unfolding after_create after_write after_complete
call_keeps a {h} (Call.creates c o p) k = (accepted_still a c h.accepted o.answer k.0, k.1)
call_keeps a (Call.writes b lent o p) k = k
call_keeps a {h} (Call.completes b o p) k = (k.0, landed_still a.number b h.in_flight h.landed o.answer k.1)
call_keeps a (Call.asks n s p) k = k
call_keeps a (Call.counts b s p) k = k

later_keeps : (a : Accepted) {h h' : History} → Later h h' → Landed a h → Landed a h'
later_keeps a Later.now k = k
later_keeps a (Later.then l c) k = call_keeps a c (later_keeps a l k)

pub landed_for_good : (h : History) (a : Accepted) → Memᴰ a h.accepted → sent_in a.number h.landed ≡ true → ForGood h a
unfolding has_landed on_store
landed_for_good h a m e h' l new =
    let k = later_keeps a l (m, e) in (k.0, after_others a.number (those (λ w. new w.block) h'.in_flight) h'.landed k.1)
