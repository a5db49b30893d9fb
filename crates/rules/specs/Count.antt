-- Document 01, "Count".
use Rattle.std.specs.Prelude.{ℕ, List}
use Rattle.masks.specs.Sets.{how_many}
use Rattle.rules.specs.Sizes.{slots}
use Rattle.rules.specs.declared.Slot.{Slot}
use Rattle.rules.specs.Table.{waits_on}

-- the number of waiting patches of block b
abbrev pub waiting_on : List Slot → ℕ → ℕ
waiting_on ss b = how_many (waits_on ss b) slots
