use Rattle.canon_replay.proofs.calls.enter.Goals as goal

pub returns : goal.returns
returns c = record {
  refused = c.call.ensures.refused;
  unchanged = c.call.ensures.unchanged;
  call = c.call.ensures.call;
  runs = c.call.ensures.runs;
  same = c.call.ensures.same;
  turns_kept = c.call.ensures.turns;
  plan = c.call.ensures.plan;
}
