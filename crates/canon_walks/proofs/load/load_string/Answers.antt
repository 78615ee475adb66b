use Rattle.std.proofs.Common.{◌∙◌}
use Rattle.canon_abi.specs.Options.{encoding_of}
use Rattle.canon_value_parts.proofs.LoadedBytes.{string_loaded, string_refused}
use Rattle.canon_walks.proofs.load.load_string.Goals as goal

pub returns-in-Ok-clause-ok : goal.returns-in-Ok-clause-ok
returns-in-Ok-clause-ok c =
    string_loaded (encoding_of c.args.source.now.encoding) c.args.source.now.memory.now c.args.at c.from-pointer.result c.from-length.result c.args.fuel.now
    (c.from-pointer.ensures ∙ c.load_u32.ensures) (c.from-length.ensures ∙ c.load_u32-2.ensures) c.load_text.new.fuel c.in-Ok.text c.requires.inside c.in-Ok.ensures.ok

pub returns-in-Err-clause-err : goal.returns-in-Err-clause-err
returns-in-Err-clause-err c =
    string_refused (encoding_of c.args.source.now.encoding) c.args.source.now.memory.now c.args.at c.from-pointer.result c.from-length.result c.args.fuel.now
    (c.from-pointer.ensures ∙ c.load_u32.ensures) (c.from-length.ensures ∙ c.load_u32-2.ensures) c.in-Err.fault c.in-Err.ensures.err
