use Rattle.std.proofs.Common.{ap, sym, ◌∙◌}
use Rattle.canon_transcript.specs.Text.{fields_printing, pairs_printing, value_printing}
use Rattle.canon_transcript.proofs.Rows.{printed_as, value_of_map, value_of_record}
use Rattle.canon_transcript.proofs.values.+print.Goals as goal

pub print_value-returns-in-Record : goal.print_value-returns-in-Record
print_value-returns-in-Record t c =
    printed_as _ _ _ _ _ (ap fields_printing c.deref-in-Record.ensures.value ∙ (sym (value_of_record c.in-Record.fields) ∙ sym (ap value_printing c.in-Record.is))) c.print_record.ensures

pub print_value-returns-in-Map : goal.print_value-returns-in-Map
print_value-returns-in-Map t c =
    printed_as _ _ _ _ _ (ap pairs_printing c.deref-in-Map.ensures.value ∙ (sym (value_of_map c.in-Map.pairs) ∙ sym (ap value_printing c.in-Map.is))) c.print_map.ensures
