-- `spell` meets its contract: the parts of a line, each right after the one before. Assumes nothing.
use Rattle.std.proofs.Common.{◌∙◌, zero-add}
use Rattle.lines.specs.Line.{text_of}
use Rattle.lines.specs.Laid.{Laid}
use Rattle.lines.proofs.Steps.{and_then, same_text, in_parts}
use Rattle.lines.proofs.spell.Goals as goal
use Rattle.lines.proofs.spell.Goals.{After-put-2}

line : (c : After-put-2) → Laid c.args.buffer.now 0 (text_of c.args.line) c.put-2.new.self.buffer.now c.put-2.new.self.len
line c =
    let to_word = and_then c.put_number.ensures.adds (same_text c.put.ensures c.word_text.ensures.text) in
    let to_number = and_then to_word c.put_number-2.ensures.adds in
    let to_more = and_then to_number c.put_more.ensures.adds in
    (same_text (and_then to_more c.put-2.ensures) (in_parts c.args.line)).laid

pub returns-clause-buffer_after : goal.returns-clause-buffer_after
returns-clause-buffer_after c = (line c).bytes

pub returns-clause-value : goal.returns-clause-value
returns-clause-value c = (line c).next ∙ zero-add _
