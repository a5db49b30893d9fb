-- `sound::judge::room_set` meets its contract: each arm of the match is a case of has_room. Assumes nothing.
use Prim.Native.Nat.{ℕ}
use mathlib.Core.Path.{◌≡◌, sym, ap, ◌∙◌}
use mathlib.Core.Bool.{Bool, false, ◌||◌}
use lib.Dec.{eqb}
use Rattle.std.proofs.Common.{rules}
use Rattle.masks.specs.Sets.{set_of}
use Rattle.masks.proofs.Laws.{has_none, has_set, set_ext, set_lt, no_member}
use Rattle.rules.specs.Slots.{has_room}
use Rattle.sound.proofs.judge.room_set.Goals as goal

-- where no room passes, the set is empty
none_of : (p : ℕ → Bool) → ((r : ℕ) → p r ≡ false) → 0 ≡ set_of p
none_of p f = sym (no_member (set_of p) (set_lt p) (λ r l. has_set p r l ∙ f r))

pub returns-in-Waiting-Soft : goal.returns-in-Waiting-Soft
returns-in-Waiting-Soft c = c.with.ensures ∙ set_ext _ _ (λ r l. ap (λ (b : Bool). b || eqb r c.in-Waiting-Soft.r) (has_none r) ∙ search rules)

pub returns-in_default : goal.returns-in_default
returns-in_default c = none_of (has_room c.args.u) (λ r. search rules)

pub returns-in_default-2 : goal.returns-in_default-2
returns-in_default-2 c = none_of (has_room c.args.u) (λ r. search rules)
