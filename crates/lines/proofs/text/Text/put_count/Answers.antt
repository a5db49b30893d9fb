-- `Text::put_count` meets its contract: a space, and the digits right after it. Assumes nothing.
use Rattle.std.proofs.Common.{ap}
use Rattle.lines.specs.Decimal.{decimal}
use Rattle.lines.proofs.Steps.{and_then, same_text}
use Rattle.lines.proofs.text.Text.put_count.Goals as goal

pub returns-clause-adds : goal.returns-clause-adds
returns-clause-adds c = and_then c.put.ensures (same_text c.put_number.ensures.adds (ap decimal c.from.ensures))
