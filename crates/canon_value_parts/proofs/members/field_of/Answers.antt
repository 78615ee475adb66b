use Rattle.std.proofs.Common.{◌<◌, arith, length, refl, string_bytes}
use Rattle.canon_plan.proofs.Lookups.{named_by, field_is_known, field_member, in_fields}
use Rattle.canon_value_parts.proofs.Lookups.{names_at, values_at}
use Rattle.canon_value_parts.proofs.members.field_of.Goals.{After-record}
use Rattle.canon_value_parts.proofs.members.field_of.Goals as goal

in_record : (c : After-record) → c.args.k < length c.record.result.now.fields.items
in_record c = in_fields c.args.types.now c.args.types.now c.args.i c.args.k (length c.args.values.now) c.record.result.now.fields.items refl c.record.ensures.entry c.requires.count c.requires.inside

pub index-field-requires : goal.index-field-requires
index-field-requires c = omega (arith, in_record c, c.record.result.now.fields.ok.0)

pub returns : goal.returns
returns c =
    let t = c.args.types.now in
    let fields = c.record.result.now.fields.items in
    let f = c.index-field.result.now in
    let x = c.index-values-k.result in
    let lt = in_record (goal.at.returns c).After-record in
    record {
      known = field_is_known t c.args.i c.args.k fields f f c.record.ensures.entry c.index-field.ensures lt;
      name = string_bytes f.name;
      named = string_bytes x.0;
      same = named_by (string_bytes x.0) (string_bytes f.name) c.eq-is_named.result c.eq-is_named.ensures;
      shapes = field_member t t c.args.i c.args.k fields f f refl c.record.ensures.entry c.index-field.ensures lt;
      names = names_at c.args.values.now c.args.k x x c.index-values-k.is c.requires.inside;
      values = values_at c.args.values.now c.args.k x x c.index-values-k.is c.requires.inside;
    }
