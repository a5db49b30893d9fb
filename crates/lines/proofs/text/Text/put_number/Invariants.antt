-- `Text::put_number` meets its contract. Before each turn, with the digits of what is left of the number laid up to where the turn ends, the bytes would
-- be as promised. Assumes nothing.
use Rattle.std.proofs.Common.{◌-◌, ◌≡◌, length}
use Rattle.spans.specs.Spans.{splice}
use Rattle.lines.specs.Decimal.{decimal}
use Rattle.lines.proofs.FromTheRight.{last_digits}
use Rattle.lines.proofs.text.Text.put_number.Given as goal

abbrev pub invariant-loop-i : goal.invariant-loop-i
invariant-loop-i l = record {
  bytes : splice l.self.buffer.now l.self.len (last_digits (l.i - l.self.len) l.rest) ≡ splice l.initial.self.buffer.now l.initial.self.len (decimal l.n);
  size : length l.self.buffer.now ≡ length l.initial.self.buffer.now;
  place : l.self.len ≡ l.initial.self.len;
  lent : l.self.buffer.ghost_name ≡ l.initial.self.buffer.ghost_name;
}
