-- Between crates, need not be believed by who reads `demands`: what a change is, and what a store holds once changes are carried out.
-- The first of the three files that a reader of this crate's theorem has to believe (question four is said in words of its
-- own, in `demands`). It speaks of bytes and of the order in which changes were accepted, and of no cache: whoever carries
-- changes out singly, one after the other, gets `after`.
use Rattle.std.specs.Prelude.{ℕ, ◌+◌, ◌-◌, ◌≡◌, Bool, true, cond, ◌&&◌, eqb, leb, ltb, length, get_or}
use mathlib.Core.List.{List, [], ◌∷◌, Memᴰ}

-- A store, or an image of one: for each block the byte at each of its places.
abbrev pub Store : Type 0
Store = ℕ → ℕ → ℕ

-- One accepted change. Several may have one number, and two may be equal in every field.
pub record Logged : Type 0 where
  -- the number that the change was answered
  pub number : ℕ
  -- the one block it writes to
  pub block : ℕ
  -- the first place it writes
  pub offset : ℕ
  -- the bytes it writes, from that place on
  pub bytes : List ℕ

-- Does the change write place i of block b?
unfoldable pub covers : Logged → ℕ → ℕ → Bool
covers c b i = eqb b c.block && (leb c.offset i && ltb i (c.offset + length c.bytes))

-- The byte that the change writes at place i of its block, if it covers the place.
abbrev pub byte_of : Logged → ℕ → ℕ
byte_of c i = get_or c.bytes (i - c.offset) 0

-- One change carried out: its own byte where it covers the place, and what was there elsewhere.
unfoldable pub carry_out : Logged → Store → Store
carry_out c s b i = cond (covers c b i) (byte_of c i) (s b i)

-- The changes of a log carried out singly, in the order accepted. A log has its newest change first.
unfoldable pub after : List Logged → Store → Store
after [] s = s
after (c ∷ older) s = carry_out c (after older s)

-- Those changes of a log that pass a test, in their order.
unfoldable pub only : (Logged → Bool) → List Logged → List Logged
only test [] = []
only test (c ∷ older) = cond (test c) (c ∷ only test older) (only test older)

-- In this log x was accepted before y. (A change that was accepted twice may be earlier than itself.)
pub data Earlier : List Logged → Logged → Logged → Type 0 where
  -- y is the newest change, and x is among the older ones
  here : {c x : Logged} {older : List Logged} → Memᴰ x older → Earlier (c ∷ older) c x
  -- or both are among the older ones, in this order
  there : {c y x : Logged} {older : List Logged} → Earlier older y x → Earlier (c ∷ older) y x

-- The two changes share a byte: there is a place that both cover.
pub record Share (y x : Logged) : Type 0 where
  -- the block of the shared byte
  pub in_block : ℕ
  -- its place in that block
  pub place : ℕ
  -- the one change covers it
  pub mine : covers y in_block place ≡ true
  -- and so does the other
  pub yours : covers x in_block place ≡ true
