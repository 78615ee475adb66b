use Rattle.std.proofs.Common.{All, List, ap, arith, length, refl, subst, sym, ◌<◌, ◌∙◌}
use Rattle.std.proofs.lemmas.List.Elements.{All-push}
use Rattle.canon_types.specs.declared.types.TypeResourceTable.{TypeResourceTable}
use Rattle.std.proofs.lemmas.List.{length_push}
use Rattle.canon_types.proofs.Funcs.{entries_fit-resources, funcs-same}
use Rattle.canon_types.proofs.table.ComponentTypes.add_resource_table.Goals as goal

pub invariant_of-self-2 : goal.invariant_of-self-2
invariant_of-self-2 c =
    let more = ap length c.in_ok-push.ensures.items ∙ length_push c.self.inside.resources.items c.args.t in
    record {
      plain = c.self.invariant.plain;
      entries = entries_fit-resources c.self.inside c.push.new.self.items (omega arith) c.self.invariant.entries;
      funcs = funcs-same c.self.inside c.self.inside.entries.items c.self.inside.funcs.items c.push.new.self.items refl c.self.invariant.funcs;
      instances = subst (λ (rs : List TypeResourceTable). All (λ r. r.instance < 256) rs) (sym c.in_ok-push.ensures.items)
          (All-push (λ (r : TypeResourceTable). r.instance < 256) c.self.inside.resources.items c.args.t c.self.invariant.instances (omega arith));
    }
