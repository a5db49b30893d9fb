-- The radio's whole life: power-ups one after the other. Each has a history of its own, ends in a cut at any moment (a sleep with the radio switched off is
-- one too), and is opened on the store that the cut before it left.
use Rattle.std.specs.Prelude.{ℕ, ◌≤◌, ◌<◌, ◌≡◌, Bool, true, false, List, [], ◌∷◌, ◌++◌, length}
use Rattle.rules.specs.Sizes.{slots, image_bytes}
use Rattle.rules.specs.Table.{used}
use Rattle.demands.specs.History.{History, Accepted, Happened, those}
use Rattle.demands.specs.Demand3.{store_after_cut, has_landed}

-- what happened from an opening to the cut, and of which blocks the cut let the write in flight be there
pub record PowerUp : Type 0 where
  pub history : History
  pub new : ℕ → Bool

abbrev pub power_up : History → (ℕ → Bool) → PowerUp
power_up h new = record { history = h; new = new }

-- what the store holds after a life, its newest power-up first, if it held `store` before it
unfoldable pub store_left : List PowerUp → List ℕ → List ℕ
store_left [] store = store
store_left (u ∷ older) store = store_after_cut u.new u.history

-- a life that can be: on any store of 16,384 bytes any number of histories, each opened at any first number and with the image filled from what the cut
-- before it left
pub data Lived (store : List ℕ) : List PowerUp → Type 0 where
  begins : length store ≡ image_bytes → Lived store []
  again : {life : List PowerUp} (h : History) (new : ℕ → Bool) → Lived store life → Happened h → h.opening ≡ store_left life store
      → Lived store (power_up h new ∷ life)

-- the landed changes of a power-up, and those of a life, newest first
unfoldable pub landed_in : PowerUp → List Accepted
landed_in u = those (has_landed u.new u.history) u.history.accepted

unfoldable pub all_landed : List PowerUp → List Accepted
all_landed [] = []
all_landed (u ∷ older) = landed_in u ++ all_landed older

-- every change, where a test is asked for
abbrev pub every : Accepted → Bool
every a = true

-- each power-up was opened at a number not below the next of the one before it
pub data Onward : List PowerUp → Type 0 where
  none : Onward []
  one : {u : PowerUp} → Onward (u ∷ [])
  then : {u v : PowerUp} {older : List PowerUp} → v.history.table.next ≤ u.history.table.first → Onward (v ∷ older) → Onward (u ∷ v ∷ older)

-- no patch waits, and none is in flight
abbrev pub AtRest : History → Type 0
AtRest h = (i : ℕ) → i < slots → used h.table.slots i ≡ false
