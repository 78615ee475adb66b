use Rattle.canon_serve.proofs.session.call_in.Goals as goal

pub returns : goal.returns
returns g c = record {
  refused = c.call.ensures.refused;
  unchanged = c.call.ensures.unchanged;
  call = c.call.ensures.call;
  trapped = c.call.ensures.trapped;
  runs = c.call.ensures.runs;
  same = c.call.ensures.same;
  turns = c.call.ensures.turns;
}
