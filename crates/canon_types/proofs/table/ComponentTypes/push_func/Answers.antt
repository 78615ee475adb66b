use Rattle.std.proofs.Common.{All, subst, sym, ◌≡◌, ◌+◌, ◌++◌, ◌∷◌, [], List, ap, ◌∙◌, length, arith}
use Rattle.std.proofs.lemmas.Grind.{common_steps}
use Rattle.canon_types.specs.declared.table.Entry.{Entry}
use Rattle.canon_types.specs.declared.types.TypeFunc.{TypeFunc}
use Rattle.canon_types.specs.Keeps.{IsFunc, entry_of}
use Rattle.canon_types.proofs.Funcs.{func_table_along, funcs-func, funcs-same}
use Rattle.canon_types.proofs.Growth.{definitions_of, kept-push_two, kept-same}
use Rattle.canon_types.proofs.table.ComponentTypes.push_func.Goals as goal

pub invariant_of-self-2 : goal.invariant_of-self-2
invariant_of-self-2 c =
    let same : c.push_reserved-2.new.self.items ≡ c.self.inside.entries.items ++ (entry_of c.args.params) ∷ [] ++ (entry_of c.args.results) ∷ [] =
    c.push_reserved-2.ensures.items
    ∙ ap (λ (xs : List Entry). xs ++ (entry_of c.args.results) ∷ []) (c.push_reserved.ensures.items ∙ ap (λ (xs : List Entry). xs ++ (entry_of c.args.params) ∷ []) c.reserve.ensures.items) in
    let f : TypeFunc = record { params = c.from_u32.result; results = c.from_u32-2.result; async_ = c.args.async_ } in
    let added : c.push_reserved-3.new.self.items ≡ c.self.inside.funcs.items ++ f ∷ [] =
    c.push_reserved-3.ensures.items ∙ ap (λ (xs : List TypeFunc). xs ++ f ∷ []) c.reserve-2.ensures.items in
    let at : c.from_u32.result ≡ length c.args.self.now.definitions = grind (arith, common_steps) in
    let after : c.from_u32-2.result ≡ length c.args.self.now.definitions + 1 = omega (arith, c.from_u32-2.ensures, c.from_u32.ensures, at) in
    record {
      plain = c.self.invariant.plain;
      entries = kept-push_two c.self.inside c.args.self.now c.push_reserved-2.new.self.items (entry_of c.args.params)
          (entry_of c.args.results) c.push_reserved-3.new.self.items c.self.view_is same c.self.invariant.entries c.requires.params_entry c.requires.results_entry;
      funcs = funcs-func c.self.inside c.args.self.now c.push_reserved-2.new.self.items (entry_of c.args.params)
          (entry_of c.args.results) c.push_reserved-3.new.self.items f c.self.view_is same added at after c.requires.params_tuple
          c.requires.results_tuple c.requires.results_entry c.requires.results_plain c.self.invariant.funcs;
      instances = c.self.invariant.instances;
    }

pub returns-clause-ok : goal.returns-clause-ok
returns-clause-ok c =
    let same : c.push_reserved-2.new.self.items ≡ c.self.inside.entries.items ++ (entry_of c.args.params) ∷ [] ++ (entry_of c.args.results) ∷ [] =
    c.push_reserved-2.ensures.items
    ∙ ap (λ (xs : List Entry). xs ++ (entry_of c.args.results) ∷ []) (c.push_reserved.ensures.items ∙ ap (λ (xs : List Entry). xs ++ (entry_of c.args.params) ∷ []) c.reserve.ensures.items) in
    let f : TypeFunc = record { params = c.from_u32.result; results = c.from_u32-2.result; async_ = c.args.async_ } in
    let added : c.push_reserved-3.new.self.items ≡ c.self.inside.funcs.items ++ f ∷ [] =
    c.push_reserved-3.ensures.items ∙ ap (λ (xs : List TypeFunc). xs ++ f ∷ []) c.reserve-2.ensures.items in
    let at : c.from_u32.result ≡ length c.args.self.now.definitions = grind (arith, common_steps) in
    let after : c.from_u32-2.result ≡ length c.args.self.now.definitions + 1 = omega (arith, c.from_u32-2.ensures, c.from_u32.ensures, at) in
    (grind (arith, common_steps), func_table_along c.self.inside c.args.self.now c.push_reserved-2.new.self.items (entry_of c.args.params) (entry_of c.args.results) c.push_reserved-3.new.self.items f c.self.view_is same added at after)

pub invariant_of-self : goal.invariant_of-self
invariant_of-self c = record {
  plain = c.self.invariant.plain;
  entries = kept-same c.self.inside c.reserve.new.self.items c.self.inside.funcs.items c.reserve.ensures.items c.self.invariant.entries;
  funcs = funcs-same c.self.inside c.reserve.new.self.items c.self.inside.funcs.items c.self.inside.resources.items c.reserve.ensures.items c.self.invariant.funcs;
  instances = c.self.invariant.instances;
}

pub invariant_of-self-in_err-reserve-2 : goal.invariant_of-self-in_err-reserve-2
invariant_of-self-in_err-reserve-2 c = record {
  plain = c.self.invariant.plain;
  entries = kept-same c.self.inside c.reserve.new.self.items c.reserve-2.new.self.items c.reserve.ensures.items c.self.invariant.entries;
  funcs = subst (λ (fs : List TypeFunc). All (IsFunc (record { definitions = definitions_of c.reserve.new.self.items; funcs = c.reserve-2.new.self.items; resources = c.self.inside.resources.items })) fs) (sym c.reserve-2.ensures.items)
      (funcs-same c.self.inside c.reserve.new.self.items c.reserve-2.new.self.items c.self.inside.resources.items c.reserve.ensures.items c.self.invariant.funcs);
  instances = c.self.invariant.instances;
}
