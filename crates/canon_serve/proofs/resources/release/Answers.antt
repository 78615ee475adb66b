use Rattle.canon_serve.proofs.resources.release.Goals as goal

pub returns : goal.returns
returns g c = record {
  no_handle = c.resource_drop.ensures.no_handle;
  refused = c.resource_drop.ensures.refused;
  drops = c.resource_drop.ensures.drops;
  same = c.resource_drop.ensures.same;
  turns = c.resource_drop.ensures.turns;
  imports = c.resource_drop.ensures.imports;
}
