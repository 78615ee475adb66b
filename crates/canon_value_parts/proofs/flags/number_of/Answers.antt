use Rattle.canon_value_parts.proofs.FlagNames.{named_at, named_nowhere, names_differ}
use Rattle.canon_value_parts.proofs.flags.number_of.Goals as goal

pub returns-clause-some : goal.returns-clause-some
returns-clause-some c = named_at c.args.types.now c.args.i c.flags.result.now c.args.name.now c.as_str.result.now c.flags.ensures.entry c.as_str.ensures.value c.get_index_of.result c.get_index_of.ensures.index

pub returns-clause-none : goal.returns-clause-none
returns-clause-none c = named_nowhere c.args.types.now c.args.i c.flags.result.now c.args.name.now c.as_str.result.now c.flags.ensures.entry c.as_str.ensures.value c.get_index_of.result c.get_index_of.ensures.index

pub returns-clause-differ : goal.returns-clause-differ
returns-clause-differ c = names_differ c.args.types.now c.args.i c.flags.result.now c.flags.ensures.entry c.flags.ensures.names
