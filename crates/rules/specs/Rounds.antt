-- Between crates, need not be believed: the search for the largest set that may go (document 01, "Shortcuts seen on the bench"): the striking goes in
-- rounds until a round strikes nothing. It is said of any slots, of any set to start from and of any set that counts as hard. From a block's waiting
-- patches, with its hard ones, it ends at the largest set that may go: that is a law, in proofs/Rounds.antt.
use Rattle.std.specs.Prelude.{ℕ, zero, suc, Bool, cond, ◌&&◌, not, List}
use Rattle.masks.specs.Sets.{has, set_of, some_below, within}
use Rattle.rules.specs.declared.Slot.{Slot}
use Rattle.rules.specs.Sizes.{slots}
use Rattle.rules.specs.Table.{slot_at}

-- a round that begins with the set s strikes slot i: it is in s and has a before outside s
abbrev pub strikes : List Slot → ℕ → ℕ → Bool
strikes ss s i = has s i && not (within (slot_at ss i).befores s)

-- what a round that begins with s leaves: what it does not strike of s, and nothing if it strikes a hard one
unfoldable pub round : List Slot → ℕ → ℕ → ℕ
round ss hard s = cond (some_below (λ i. has hard i && strikes ss s i) slots) 0 (set_of (λ i. has s i && not (strikes ss s i)))

-- what n rounds leave of s
unfoldable pub rounds : List Slot → ℕ → ℕ → ℕ → ℕ
rounds ss hard zero s = s
rounds ss hard (suc n) s = rounds ss hard n (round ss hard s)

-- what is left at the end. A round that strikes takes a slot away, so after 64 rounds none strikes any more
unfoldable pub searched : List Slot → ℕ → ℕ → ℕ
searched ss hard s = rounds ss hard slots s
