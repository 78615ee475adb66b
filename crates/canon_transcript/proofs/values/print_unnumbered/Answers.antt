use Rattle.canon_transcript.proofs.Numbered.{unnumbered}
use Rattle.canon_transcript.proofs.values.print_unnumbered.Goals as goal

pub returns : goal.returns
returns c = unnumbered c.print_values.result _ _ _ c.args.values.now c.print_values.ensures
