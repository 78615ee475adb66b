use Rattle.std.proofs.Common.{◌≡◌, ap, refl, subst, sym, ℕ}
use Rattle.canon_lowering.specs.Copies.{copies}
use Rattle.canon_model.specs.Shape.{Shape, fixed}
use Rattle.canon_types.specs.Table.{shape_of}
use Rattle.canon_types.specs.declared.types.InterfaceType.TheVariants as ty
use Rattle.canon_plan.specs.Plan.{Unnamed, LiesAs}
use Rattle.canon_plan.proofs.Lookups.{fixed_known, fixed_shape}
use Rattle.canon_plan.proofs.plan.fixed_plan.Goals as goal

pub returns : goal.returns
returns c =
    let t = c.args.types.now in
    let list = c.fixed_length_list-list.result.now in
    let s = shape_of t (ty.FixedLengthList c.args.i) in
    let part = shape_of t list.element in
    let e : s ≡ fixed list.size part = fixed_shape t t c.args.i list.size list.element refl c.fixed_length_list-list.ensures.entry in
    let there = subst (λ (x : Shape). LiesAs x (copies c.from.result part) × Unnamed x) (sym e) (ap (λ (n : ℕ). copies n part) c.from.ensures, tt) in
    (fixed_known t t c.args.i list.size list.element refl c.fixed_length_list-list.ensures.entry, there.0, (list.size, part, e), there.1)
