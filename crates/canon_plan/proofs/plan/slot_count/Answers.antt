use Rattle.std.proofs.Common.{ap, arith, length, refl, sym}
use Rattle.canon_model.specs.Shape.{member_count}
use Rattle.canon_types.specs.Table.{shape_of, types_of}
use Rattle.canon_types.specs.declared.types.InterfaceType.TheVariants as ty
use Rattle.canon_plan.proofs.Lookups.{count_fields, record_members, copies_count}
use Rattle.canon_plan.proofs.Pairs.{pair_slots}
use Rattle.canon_plan.proofs.plan.slot_count.Goals as goal
use Rattle.canon_types.proofs.Measures.{count_members}

pub returns-in-Fields : goal.returns-in-Fields
returns-in-Fields c =
    let t = c.args.types.now in
    let fields = c.record.result.now.fields.items in
    rw c.in-Fields.is (omega (arith, c.len.ensures, c.record.result.now.fields.ok.0, ap member_count (record_members t t c.in-Fields.i fields refl c.record.ensures.entry), count_fields t fields))

pub returns-in-Places : goal.returns-in-Places
returns-in-Places c =
    let t = c.args.types.now in
    rw c.in-Places.is (omega (arith, c.len-in-Places.ensures, c.tuple.result.now.types.ok.0, ap length c.tuple.ensures.types, count_members t (types_of t c.in-Places.i)))

pub returns-in-Items : goal.returns-in-Items
returns-in-Items c = rw c.in-Items.is (sym (copies_count c.in-Items.count (shape_of c.args.types.now c.in-Items.field-0)))

pub returns-in-Pairs : goal.returns-in-Pairs
returns-in-Pairs c =
    let t = c.args.types.now in
    let (known, is, few) = rw c.in-Pairs.is at c.requires.known in
    rw c.in-Pairs.is (pair_slots (shape_of t (ty.Map c.in-Pairs.field-0)) c.in-Pairs.count is)
