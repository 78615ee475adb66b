use Rattle.std.proofs.Common.{◌≡◌, ◌++◌, length}
use Rattle.std.specs.Vec.Iter.{into_iter_items, into_iter_len}
use Rattle.canon_types.specs.Depth.{product_members}
use Rattle.canon_types.specs.Table.{shape_of}
use Rattle.canon_types.specs.declared.types.InterfaceType.TheVariants as ty
use Rattle.canon_val.specs.Value.{member_names, names_in, values_in}
use Rattle.canon_plan.specs.Plan.{members_from}
use Rattle.canon_value_parts.proofs.rebuilt.rebuild_record.Given as goal

abbrev pub invariant-loop-value : goal.invariant-loop-value
invariant-loop-value l =
    let ms = product_members (shape_of l.fn.types (ty.Record l.fn.i)) in
    (l.yielded ++ into_iter_items l.value-iterator ≡ into_iter_items l.initial.value-iterator)
    × (into_iter_len l.value-iterator ≡ length (into_iter_items l.value-iterator))
    × (l.k ≡ length l.yielded)
    × (values_in l.named.items ≡ l.yielded)
    × (names_in l.named.items ++ member_names (members_from l.k ms) ≡ member_names ms)
