use Rattle.std.proofs.Common.{◌<◌, arith, length, refl, string_bytes}
use Rattle.canon_model.specs.Shape.{member_count}
use Rattle.canon_types.specs.Depth.{product_members}
use Rattle.canon_types.specs.Table.{shape_of}
use Rattle.canon_types.specs.declared.types.InterfaceType.TheVariants as ty
use Rattle.canon_plan.proofs.Lookups.{field_is_known, field_member, in_fields}
use Rattle.canon_plan.proofs.plan.field_slot.Goals.{After-record}
use Rattle.canon_plan.proofs.plan.field_slot.Goals as goal

in_record : (c : After-record) → c.args.k < length c.record.result.now.fields.items
in_record c = in_fields c.args.types.now c.args.types.now c.args.i c.args.k
    (member_count (product_members (shape_of c.args.types.now (ty.Record c.args.i)))) c.record.result.now.fields.items refl c.record.ensures.entry refl c.requires.inside

pub index-field-requires : goal.index-field-requires
index-field-requires c = omega (arith, in_record c, c.record.result.now.fields.ok.0)

pub returns : goal.returns
returns c =
    let t = c.args.types.now in
    let fields = c.record.result.now.fields.items in
    let f = c.index-field.result.now in
    let lt = in_record (goal.at.returns c).After-record in
    record {
      known = field_is_known t c.args.i c.args.k fields f f c.record.ensures.entry c.index-field.ensures lt;
      name = string_bytes f.name;
      name_is = omega (arith, c.len.ensures);
      shapes = field_member t t c.args.i c.args.k fields f f refl c.record.ensures.entry c.index-field.ensures lt;
    }
