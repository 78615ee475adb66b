use Rattle.std.proofs.Common.{List, ap, ◌++◌, ◌∙◌, ℕ}
use Rattle.std.specs.Prelude.{get_or}
use Rattle.canon_gen.specs.Lines.{gen_text}
use Rattle.canon_gen.proofs.Sessions.{only_one}
use Rattle.canon_gen.proofs.lines.gen_text.Goals as goal

pub returns : goal.returns
returns c =
    let call = c.index-records-0.result in (
      call,
      only_one c.args.transcript.now call c.requires (c.index-records-0.is ∙ ap (λ records. get_or records 0 call) c.records.ensures),
      c.in_ok-print_call.ensures ∙ ap (λ (text : List ℕ). text ++ gen_text c.args.n c.args.list.now call) c.new-text.ensures.bytes,
    )
