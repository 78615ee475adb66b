use Rattle.std.proofs.lemmas.List.{nil_from_length}
use Rattle.std.proofs.lemmas.Str.{IsUtf8-past_char}
use Rattle.canon_transcript.proofs.Names.{name_ends, name_more}
use Rattle.canon_transcript.proofs.values.print_name.Goals as goal

pub loop-c-preserved : goal.loop-c-preserved
loop-c-preserved c = record {
  utf8 = IsUtf8-past_char _ _ c.in-Some.c c.loop-c.invariant.utf8 c.in-Some.ensures.steps.0;
  printed = name_more _ _ _ _ _ c.in-Some.c c.loop-c.invariant.utf8 c.in-Some.ensures.steps.0 c.in_ok-print_escaped.ensures c.loop-c.invariant.printed;
}

pub returns : goal.returns
returns c = name_ends _ _ _ (nil_from_length _ c.in-None.ensures.steps.0.0) c.loop-c.invariant.printed
