-- Inside this crate, need not be believed: what a private function that lays a text leaves. No public promise cites this file.
use Rattle.std.specs.Prelude.{ℕ, ◌+◌, ◌≡◌, List, length}
use Rattle.spans.specs.Spans.{splice}
use Rattle.lines.specs.declared.text.Text.{Text}

-- the text is laid over the bytes from place `at` on, and r is the place after it
pub record Laid (was : List ℕ) (at : ℕ) (text now : List ℕ) (r : ℕ) : Type 0 where
  pub bytes : now ≡ splice was at text
  pub next : r ≡ at + length text
  pub size : length now ≡ length was

-- the text is added to a line's, in the buffer that was lent
pub record Adds (text : List ℕ) (was now : Text) : Type 0 where
  pub laid : Laid was.buffer.now was.len text now.buffer.now now.len
  pub lent : now.buffer.ghost_name ≡ was.buffer.ghost_name
