-- Document 01, "Sizes".
use Rattle.std.specs.Prelude.{ℕ, ◌*◌}

-- blocks, numbered 0 to 63, of 256 bytes each
abbrev pub blocks : ℕ
blocks = 64

abbrev pub block_bytes : ℕ
block_bytes = 256

-- the working image; block b starts at 256 x b
abbrev pub image_bytes : ℕ
image_bytes = 16384

abbrev pub block_start : ℕ → ℕ
block_start b = block_bytes * b

-- the undo area: rooms of 64 bytes, numbered from 0; Settings.antt says how many
abbrev pub room_bytes : ℕ
room_bytes = 64

abbrev pub room_start : ℕ → ℕ
room_start r = room_bytes * r

-- the table: 64 slots, numbered 0 to 63
abbrev pub slots : ℕ
slots = 64

-- the data of one change is 1 to 64 bytes
abbrev pub most_bytes : ℕ
most_bytes = 64

-- 0 to 8 numbers are named before a change
abbrev pub most_named : ℕ
most_named = 8

-- patch numbers are 1 to 1,000,000,000
abbrev pub last_number : ℕ
last_number = 1_000_000_000
