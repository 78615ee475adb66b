use Rattle.std.proofs.Common.{refl, rules}
use Rattle.canon_script.specs.Script.{play_of}
use Rattle.canon_serve.proofs.Beginning.{no_script, unsound_script}
use Rattle.canon_serve.proofs.begin.store_of.Goals as goal

pub returns-in-Err-BadScript-clause-none : goal.returns-in-Err-BadScript-clause-none
returns-in-Err-BadScript-clause-none g c = λ same. no_script c.args.json.now (c.in-Err-BadScript.ensures.none (search rules))

pub returns-then-not-check-clause-none : goal.returns-then-not-check-clause-none
returns-then-not-check-clause-none g c = λ same. unsound_script c.args.json.now (play_of c.in-Ok.script) c.in-Ok-component_of.component c.in-Ok.ensures.play (search rules) (search rules)

pub returns-in_default-instantiated-clause-not_instantiated : goal.returns-in_default-instantiated-clause-not_instantiated
returns-in_default-instantiated-clause-not_instantiated g c = λ same. (play_of c.in-Ok.script, c.in-Ok.ensures.play, c.in-Ok-component_of.component, search rules, c.if-not-check.ensures.0 refl)

pub returns-clause-begun : goal.returns-clause-begun
returns-clause-begun g c = record {
  play = play_of c.in-Ok.script;
  has = c.in-Ok.ensures.play;
  component = c.in-Ok-component_of.component;
  served = search rules;
  sound = c.if-not-check.ensures.0 refl;
  relay = c.in-Some.relay;
  memory = c.in-Some.memory;
  instantiated = search rules;
  is = simp (c.new-4.ensures, c.in-Ok-new-2.ensures, c.new-3.ensures, c.watched-guest.ensures, c.new-guest.ensures, c.new-host.ensures, c.from_u64-id.ensures);
}
