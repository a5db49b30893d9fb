-- How many undo rooms a setting has: at least one, and no more than a set can tell apart.
use Prim.Native.Nat.{◌≤◌, ◌<◌}
use native.Mathlib.Omega.{arith}
use Rattle.rules.specs.declared.Setting.{Setting}
use Rattle.rules.specs.declared.Setting.TheVariants as setting
use Rattle.rules.specs.Settings.{rooms}

pub some_room : (g : Setting) → 0 < rooms g
unfolding rooms
some_room setting.Board = omega arith
some_room setting.AllSoft = omega arith
some_room setting.HardRule = omega arith

pub rooms_most : (g : Setting) → rooms g ≤ 64
unfolding rooms
rooms_most setting.Board = omega arith
rooms_most setting.AllSoft = omega arith
rooms_most setting.HardRule = omega arith
