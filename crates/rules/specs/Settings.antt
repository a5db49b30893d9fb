-- Document 02, requests a and j: the settings under which the same calls run. A table carries its own, and these three definitions alone take it apart.
use Rattle.std.specs.Prelude.{ℕ, ◌*◌, Bool, true, false}
use Rattle.rules.specs.declared.Setting.{Setting}
use Rattle.rules.specs.declared.Setting.TheVariants as setting
use Rattle.rules.specs.Sizes.{room_bytes}

-- how many undo rooms there are: 16 on the board, numbered 0 to 15
unfoldable pub rooms : Setting → ℕ
rooms setting.Board = 16
rooms setting.AllSoft = 64
rooms setting.HardRule = 64

-- whether a creation that would be hard joins a waiting patch of its block
unfoldable pub joins : Setting → Bool
joins setting.Board = true
joins setting.AllSoft = false
joins setting.HardRule = false

-- whether every patch is soft
unfoldable pub all_soft : Setting → Bool
all_soft setting.Board = false
all_soft setting.AllSoft = true
all_soft setting.HardRule = false

-- the undo area has 64 bytes for each room: 1,024 on the board
abbrev pub undo_bytes : Setting → ℕ
undo_bytes g = room_bytes * rooms g
