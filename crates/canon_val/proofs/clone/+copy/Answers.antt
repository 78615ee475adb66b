use Rattle.canon_val.proofs.Copied.{err_copied, flags_copied, map_copied, ok_copied, record_copied}
use Rattle.canon_val.proofs.clone.+copy.Goals as goal

pub copy-returns-in_ok-copy_pairs-in-Map : goal.copy-returns-in_ok-copy_pairs-in-Map
copy-returns-in_ok-copy_pairs-in-Map t c =
    let copied = c.in_ok-copy_pairs-in-Map in
    map_copied c.args.value.now copied.field-0 c.in-Map.pairs c.deref-in-Map.result.now c.in-Map.is c.deref-in-Map.ensures.value copied.ensures

pub copy-returns-in_ok-copy_fields-in-Record : goal.copy-returns-in_ok-copy_fields-in-Record
copy-returns-in_ok-copy_fields-in-Record t c =
    let copied = c.in_ok-copy_fields-in-Record in
    record_copied c.args.value.now copied.field-0 c.in-Record.fields c.deref-in-Record.result.now c.in-Record.is c.deref-in-Record.ensures.value copied.ensures.names copied.ensures.values

pub copy-returns-in_ok-copy_payload-in-Ok : goal.copy-returns-in_ok-copy_payload-in-Ok
copy-returns-in_ok-copy_payload-in-Ok t c =
    let copied = c.in_ok-copy_payload-in-Ok in
    ok_copied c.args.value.now c.in-Result.result copied.field-0 c.in-Ok.payload c.in-Result.is c.in-Ok.is copied.ensures

pub copy-returns-in_ok-copy_payload-in-Err : goal.copy-returns-in_ok-copy_payload-in-Err
copy-returns-in_ok-copy_payload-in-Err t c =
    let copied = c.in_ok-copy_payload-in-Err in
    err_copied c.args.value.now c.in-Result.result copied.field-0 c.in-Err.payload c.in-Result.is c.in-Err.is copied.ensures

pub copy-returns-in_ok-copy_names-in-Flags : goal.copy-returns-in_ok-copy_names-in-Flags
copy-returns-in_ok-copy_names-in-Flags t c =
    let copied = c.in_ok-copy_names-in-Flags in
    flags_copied c.args.value.now copied.field-0 c.in-Flags.names c.deref-in-Flags.result.now c.in-Flags.is c.deref-in-Flags.ensures.value copied.ensures
