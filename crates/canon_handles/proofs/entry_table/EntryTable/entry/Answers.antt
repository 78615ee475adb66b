use Rattle.std.proofs.Common.{ap, ◌∙◌}
use Rattle.std.specs.Option.{option_flatten}
use Rattle.canon_handles.proofs.CellsLemmas.{entries}
use Rattle.canon_handles.proofs.entry_table.EntryTable.entry.Goals as goal

pub returns : goal.returns
returns g c = c.flatten.ensures ∙ ap option_flatten (c.copied.ensures ∙ c.get.ensures.value) ∙ entries c.self.invariant c.self.view_is c.args.index
