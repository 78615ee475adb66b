use Rattle.std.proofs.Common.{List, ap, sym, ◌∙◌}
use Rattle.canon_model.specs.Shape.{of_fields, of_places, product}
use Rattle.canon_types.specs.Keeps.{field_members}
use Rattle.canon_types.specs.Table.{members_of}
use Rattle.canon_types.specs.declared.types.InterfaceType.{InterfaceType}
use Rattle.canon_types.specs.declared.types.RecordField.{RecordField}
use Rattle.canon_layout.proofs.Offsets.{row_fits}
use Rattle.canon_layout.proofs.lines.print_parts.Goals as goal

pub print_fields-requires-clause-fits : goal.print_fields-requires-clause-fits
print_fields-requires-clause-fits c =
    row_fits c.record.result.now.abi _ of_fields (field_members c.args.table.now c.deref.result.now) c.record.ensures.abi
    (c.record.ensures.entry.shape ∙ ap (λ (fs : List RecordField). product of_fields (field_members c.args.table.now fs)) (sym c.deref.ensures.value))

pub print_members-requires-clause-fits : goal.print_members-requires-clause-fits
print_members-requires-clause-fits c =
    row_fits c.tuple.result.now.abi _ of_places (members_of c.args.table.now c.deref-in-Tuple.result.now) c.tuple.ensures.abi
    (c.tuple.ensures.entry.shape ∙ ap (λ (ts : List InterfaceType). product of_places (members_of c.args.table.now ts)) (sym c.deref-in-Tuple.ensures.value))
