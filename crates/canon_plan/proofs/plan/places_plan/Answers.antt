use Rattle.std.proofs.Common.{◌≡◌, refl, subst, sym}
use Rattle.canon_model.specs.Cost.{names_length}
use Rattle.canon_model.specs.Shape.{Shape, of_places, product}
use Rattle.canon_types.specs.Depth.{product_members}
use Rattle.canon_types.specs.Table.{shape_of, tuple_members, types_of}
use Rattle.canon_types.specs.declared.types.InterfaceType.TheVariants as ty
use Rattle.canon_plan.specs.Plan.{Unnamed, LiesAs}
use Rattle.canon_plan.proofs.TypeKinds.{no_length}
use Rattle.canon_plan.proofs.Lookups.{tuple_shape_of}
use Rattle.canon_plan.proofs.plan.places_plan.Goals as goal

pub returns : goal.returns
returns c =
    let t = c.args.types.now in
    let s = shape_of t (ty.Tuple c.args.i) in
    let ms = tuple_members t c.args.i in
    let e : s ≡ product of_places ms = tuple_shape_of t t c.args.i c.tuple-tuple.result.now.types.items refl c.tuple-tuple.ensures.entry c.tuple-tuple.ensures.types in
    let none : names_length ms ≡ 0 = no_length t (types_of t c.args.i) in
    let there = subst (λ (x : Shape). LiesAs x ms × Unnamed x × ((x ≡ product of_places (product_members x)) × (names_length (product_members x) ≡ 0))) (sym e) (refl, none, (refl, none)) in
    (c.requires.known, there.0, there.2, there.1)
