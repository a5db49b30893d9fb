-- `from_bytes::table_in` meets its contract: field by field. Assumes nothing.
use Rattle.std.proofs.Common.{sym, ◌∙◌}
use Rattle.cache.specs.Seen.{opening}
use Rattle.layout.specs.Layout.{table_in}
use Rattle.layout.proofs.Length.{read_whole, read_other, opens_one}
use Rattle.layout.proofs.from_bytes.table_in.Goals as goal

pub returns-then-bytes-ne-TABLE_BYTES : goal.returns-then-bytes-ne-TABLE_BYTES
returns-then-bytes-ne-TABLE_BYTES c =
    opens_one (opening c.open.result) c.open.ensures ∙ sym (read_other _ c.if-bytes-ne-TABLE_BYTES.true)

pub returns : goal.returns
unfolding table_in
returns c =
    let bytes = c.args.bytes.now in
    ◌∙◌ {b = table_in bytes} (cc) (sym (read_whole bytes c.if-bytes-ne-TABLE_BYTES.false))
