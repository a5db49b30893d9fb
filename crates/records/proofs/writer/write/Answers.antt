-- `writer::write` meets its contract. Assumes nothing.
use Rattle.std.proofs.Common.{refl}
use Rattle.records.specs.Record.{writes, high_first, value_of, record_of}
use Rattle.records.proofs.writer.write.Goals as goal

pub returns : goal.returns
unfolding high_first value_of record_of
returns c = c.block_record.ensures (writes c.args.block) (record { bytes = refl; fits = λ l. l; fits_not = λ l. l })
