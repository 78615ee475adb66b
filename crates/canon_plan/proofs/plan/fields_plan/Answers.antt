use Rattle.std.proofs.Common.{◌≡◌, refl, subst, sym}
use Rattle.canon_model.specs.Shape.{Shape, of_fields, product}
use Rattle.canon_types.specs.Depth.{product_members}
use Rattle.canon_types.specs.Table.{shape_of}
use Rattle.canon_types.specs.declared.types.InterfaceType.TheVariants as ty
use Rattle.canon_plan.specs.Plan.{Unnamed, LiesAs}
use Rattle.canon_plan.proofs.Lookups.{record_shape_of}
use Rattle.canon_plan.proofs.plan.fields_plan.Goals as goal

pub returns : goal.returns
returns c =
    let t = c.args.types.now in
    let s = shape_of t (ty.Record c.args.i) in
    let e : s ≡ product of_fields (product_members s) = record_shape_of t t c.args.i c.record-record.result.now.fields.items refl c.record-record.ensures.entry in
    let there = subst (λ (x : Shape). LiesAs x (product_members s) × Unnamed x) (sym e) (refl, tt) in
    (c.requires.known, there.0, e, there.1)
