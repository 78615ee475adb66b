use Rattle.std.proofs.Common.{◌≡◌, ◌<◌, ◌++◌, ◌∷◌, ◌∙◌, List, String, [], ap, append-nil, append_assoc, arith, length, refl, string_bytes, sym}
use Rattle.std.proofs.lemmas.List.{length-append}
use Rattle.std.specs.declared.alloc.Global.{Global}
use Rattle.std.specs.Vec.Iter.{into_iter_items}
use Rattle.canon_model.specs.Shape.{Name, member_count}
use Rattle.canon_types.specs.Depth.{product_members}
use Rattle.canon_types.specs.Table.{shape_of}
use Rattle.canon_types.specs.declared.types.InterfaceType.TheVariants as ty
use Rattle.canon_val.specs.Value.{member_names, names_in, values_in}
use Rattle.canon_val.specs.declared.val.Val.{Val}
use Rattle.canon_value_parts.proofs.Planning.{name_end, name_next, value_nothing_left}
use Rattle.canon_plan.proofs.Lookups.{field_member, in_fields, members_from-all}
use Rattle.canon_value_parts.proofs.rebuilt.rebuild_record.Goals as goal

pub loop-value-init : goal.loop-value-init
loop-value-init c =
    let none = c.in_ok-named.ensures.items in
    let given = c.into_iter-value-iterator.ensures.into_iter_gives in
    let all : List Name = member_names (product_members (shape_of c.args.types.now (ty.Record c.args.i))) in
    (refl, given.1 ∙ (c.args.values.ok.0 ∙ ap length (sym given.0)), refl, ap values_in none, ap (λ (named : List (String Global × Val)). names_in named ++ all) none)

pub index-requires : goal.index-requires
index-requires c =
    let t = c.args.types.now in
    let at = c.loop-value in
    let all : at.yielded ++ (c.in-Some.value ∷ into_iter_items c.next.new.self) ≡ c.args.values.items = rw c.in-Some.ensures.steps.0 at (at.invariant.0 ∙ c.into_iter-value-iterator.ensures.into_iter_gives.0) in
    let more : at.k < length c.args.values.items = omega (arith, at.invariant.2, ap length all, length-append at.yielded (c.in-Some.value ∷ into_iter_items c.next.new.self)) in
    omega (arith, in_fields t t c.args.i at.k (length c.args.values.items) c.record.result.now.fields.items refl c.record.ensures.entry c.requires.count more, c.record.result.now.fields.ok.0)

pub overflow_add-k : goal.overflow_add-k
overflow_add-k c =
    let at = c.loop-value in
    let all : at.yielded ++ (c.in-Some.value ∷ into_iter_items c.next.new.self) ≡ c.args.values.items = rw c.in-Some.ensures.steps.0 at (at.invariant.0 ∙ c.into_iter-value-iterator.ensures.into_iter_gives.0) in
    omega (arith, at.invariant.2, ap length all, length-append at.yielded (c.in-Some.value ∷ into_iter_items c.next.new.self), c.args.values.ok.0, c.args.values.small)

pub loop-value-preserved : goal.loop-value-preserved
loop-value-preserved c =
    let t = c.args.types.now in
    let at = c.loop-value in
    let x = c.in-Some.value in
    let rest = into_iter_items c.next.new.self in
    let fields = c.record.result.now.fields.items in
    let ms = product_members (shape_of t (ty.Record c.args.i)) in
    let steps : into_iter_items at.value-iterator ≡ x ∷ rest = c.in-Some.ensures.steps.0 in
    let there : at.yielded ++ (x ∷ rest) ≡ into_iter_items c.into_iter-value-iterator.result = rw steps at at.invariant.0 in
    let all : at.yielded ++ (x ∷ rest) ≡ c.args.values.items = there ∙ c.into_iter-value-iterator.ensures.into_iter_gives.0 in
    let more : at.k < length c.args.values.items = omega (arith, at.invariant.2, ap length all, length-append at.yielded (x ∷ rest)) in
    let lt = in_fields t t c.args.i at.k (length c.args.values.items) fields refl c.record.ensures.entry c.requires.count more in
    let split = field_member t t c.args.i at.k fields c.index.result.now c.index.result.now refl c.record.ensures.entry c.index.ensures lt in
    let gone = c.in-Some.ensures.steps.1 in (
      append_assoc at.yielded (x ∷ []) rest ∙ there,
      omega (arith, at.invariant.1, gone, ap length steps),
      omega (arith, at.invariant.2, length-append at.yielded (x ∷ [])),
      c.in_ok-keep_field.ensures.values ∙ ap (λ (vs : List Val). vs ++ x ∷ []) at.invariant.3,
      name_next ms at.k (string_bytes c.index.result.now.name) (shape_of t c.index.result.now.ty) (names_in at.named.items) (names_in c.keep_field.new.named.items) split c.in_ok-keep_field.ensures.names at.invariant.4,
    )

pub returns-clause-ok : goal.returns-clause-ok
returns-clause-ok c =
    let t = c.args.types.now in
    let at = c.loop-value in
    let ms = product_members (shape_of t (ty.Record c.args.i)) in
    let empty : into_iter_items at.value-iterator ≡ [] = value_nothing_left _ (sym at.invariant.1 ∙ c.in-None.ensures.steps.0) in
    let all : at.yielded ≡ c.args.values.items = sym (append-nil at.yielded) ∙ (rw empty at at.invariant.0 ∙ c.into_iter-value-iterator.ensures.into_iter_gives.0) in
    let over : at.k ≡ member_count ms = omega (arith, at.invariant.2, ap length all, c.requires.count) in
    (at.named, refl, sym (name_end _ _ _ (members_from-all ms at.k over) at.invariant.4), sym (at.invariant.3 ∙ all))
