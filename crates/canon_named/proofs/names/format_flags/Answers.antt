use Rattle.std.proofs.Common.{rules}
use Rattle.canon_named.proofs.SetNames.{text_written}
use Rattle.canon_named.proofs.names.format_flags.Goals as goal

pub returns-clause-styled : goal.returns-clause-styled
returns-clause-styled g c flush ok =
    let opened = c.write_str.ensures.styled flush (search rules) in
    let named = c.write_set_names.ensures opened.flush (search rules) in
    text_written g.W.Write.write_str_gives _ _ _ _ _ opened named (c.write_str-2.ensures.styled named.flush ok)
