use Rattle.std.proofs.Common.{◌∙◌, ap, arith, take}
use Rattle.canon_bytes.proofs.LowBytes.{low_bytes_stored}
use Rattle.canon_bytes.proofs.write.put_first.Goals as goal

pub returns-clause-stored : goal.returns-clause-stored
returns-clause-stored g c =
    low_bytes_stored c.args.memory.now c.copy_from_slice.new.self c.args.at c.args.number g.row.N _ c.requires.room c.requires.few (omega arith)
    (c.copy_from_slice.ensures.after ∙ ap (take g.row.N) c.to_le_bytes-bytes.ensures)
