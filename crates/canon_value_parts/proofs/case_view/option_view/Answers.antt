use Rattle.std.proofs.Common.{[], ◌≡◌, ◌∙◌, ◌∷◌, None, Some, ap, arith, refl, subst}
use Rattle.canon_abi.specs.Abi.{HasInfo}
use Rattle.canon_model.specs.Shape.{Shape, of_option, option_of}
use Rattle.canon_types.specs.Depth.{variant_cases}
use Rattle.canon_types.specs.Table.{shape_of}
use Rattle.canon_types.specs.declared.types.InterfaceType.TheVariants as ty
use Rattle.canon_value_parts.specs.Fails.{mismatch}
use Rattle.canon_val.specs.declared.val.Val.{Val}
use Rattle.canon_val.specs.declared.val.Val.TheVariants as val
use Rattle.canon_value_parts.proofs.Steps.{own_failure}
use Rattle.canon_value_parts.proofs.case_view.option_view.Goals.{After-option-option}
use Rattle.canon_value_parts.proofs.case_view.option_view.Goals as goal

shape : (c : After-option-option) → shape_of c.args.types.now (ty.Option c.args.i) ≡ option_of (shape_of c.args.types.now c.option-option.result.now.ty)
shape c = c.option-option.ensures.entry.shape

info : (c : After-option-option) → HasInfo c.option-option.result.now.info (variant_cases (option_of (shape_of c.args.types.now c.option-option.result.now.ty)))
info c = subst (λ (s : Shape). HasInfo c.option-option.result.now.info (variant_cases s)) (shape c) c.option-option.ensures.info

pub returns-in-None : goal.returns-in-None
returns-in-None c =
    let here = (goal.at.returns-in-None c).After-option-option in
    record {
      kind = of_option;
      cases = variant_cases (option_of (shape_of c.args.types.now c.option-option.result.now.ty));
      shape = shape here;
      info = info here;
      inside = omega arith;
      known = tt;
      shapes = refl;
      is = (None, c.in-Option.is ∙ ap val.Option c.in-None.is, refl, refl, omega arith);
      names = refl;
      count = refl;
    }

pub returns-in-Some : goal.returns-in-Some
returns-in-Some c =
    let here = (goal.at.returns-in-Some c).After-option-option in
    record {
      kind = of_option;
      cases = variant_cases (option_of (shape_of c.args.types.now c.option-option.result.now.ty));
      shape = shape here;
      info = info here;
      inside = omega arith;
      known = c.option-option.ensures.entry.known 0 c.option-option.result.now.ty (omega arith);
      shapes = refl;
      is = (Some c.in-Some.payload, c.in-Option.is ∙ ap val.Option c.in-Some.is, ap (λ (v : Val). v ∷ []) c.deref.ensures, refl, omega arith);
      names = refl;
      count = refl;
    }

pub returns-in_default : goal.returns-in_default
returns-in_default c = own_failure mismatch _ _ c.args.value.now c.args.place (shape (goal.at.returns-in_default c).After-option-option) (λ p e. c.in_default.not-Option p e)
