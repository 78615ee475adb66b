use Rattle.std.proofs.Common.{◌≡◌, ◌++◌, rules, string_bytes}
use Rattle.std.specs.Prelude.{codes}
use Rattle.canon_transcript.specs.Text.{flag_text}
use Rattle.canon_transcript.proofs.Rows.{row_begins}
use Rattle.canon_transcript.proofs.values.print_flags.Goals as goal

pub loop-name-init : goal.loop-name-init
loop-name-init c =
    let opened : string_bytes c.push_str.new.self ≡ string_bytes c.args.text.now ++ codes "<" = search rules in
    row_begins 0x7C flag_text c.args.names.now _ _ (codes "<") opened
