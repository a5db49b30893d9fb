-- Document 01, "Open".
use Rattle.std.specs.Prelude.{ℕ}
use Rattle.rules.specs.declared.Setting.{Setting}
use Rattle.rules.specs.Slots.{free_slot}
use Rattle.rules.specs.Table.{Table, table_of, slots_by}

-- an empty table whose first and next are n, with the setting that is asked for
abbrev pub opened : Setting → ℕ → Table
opened g n = table_of g n n (slots_by (λ i. free_slot))
