use Rattle.std.proofs.Common.{◌≡◌, true, rules}
use Rattle.canon_cli.proofs.Numbers.{count_parses}
use Rattle.canon_cli.specs.Gen.{is_count}
use Rattle.canon_cli.proofs.gen_words.count_of.Goals as goal

pub returns-in_default-2 : goal.returns-in_default-2
returns-in_default-2 c =
    let counted : is_count c.args.word.now ≡ true = search rules in
    let e = count_parses c.args.word.now c.parse.result c.parse.ensures.value.0 counted in absurd (cc)
