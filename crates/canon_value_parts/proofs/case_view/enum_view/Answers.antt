use Rattle.std.proofs.Common.{◌≡◌, ◌∙◌, arith, sym}
use Rattle.canon_model.specs.Shape.{enum_of}
use Rattle.canon_types.specs.Keeps.{names_of}
use Rattle.canon_types.specs.Table.{shape_of}
use Rattle.canon_types.specs.declared.types.InterfaceType.TheVariants as ty
use Rattle.canon_value_parts.specs.Fails.{mismatch}
use Rattle.canon_value_parts.proofs.CaseViews.{enum_first, value_enum_info, enum_seen, enum_unknown, name_few}
use Rattle.canon_value_parts.proofs.Steps.{own_failure}
use Rattle.canon_value_parts.proofs.case_view.enum_view.Goals.{After-enum_-names}
use Rattle.canon_value_parts.proofs.case_view.enum_view.Goals as goal

shape : (c : After-enum_-names) → shape_of c.args.types.now (ty.Enum c.args.i) ≡ enum_of (names_of c.enum_-names.result.now.names.keys)
shape c = c.enum_-names.ensures.entry.shape

pub returns-in_default : goal.returns-in_default
returns-in_default c = own_failure mismatch _ _ c.args.value.now c.args.place (shape (goal.at.returns-in_default c).After-enum_-names) (λ n e. c.in_default.not-Enum n e)

pub returns-in_default-get_index_of : goal.returns-in_default-get_index_of
returns-in_default-get_index_of c =
    let names = c.enum_-names.result.now in
    let here = shape (goal.at.returns-in_default-get_index_of c).After-enum_-names in
    enum_unknown c.args.types.now _ c.args.value.now names.info names.names.keys c.in-Enum.name c.as_str.result.now here c.enum_-names.ensures.info c.in-Enum.is c.as_str.ensures.value
    c.args.place (sym c.get_index_of.ensures.index ∙ c.in_default-get_index_of.is)

pub overflow_cast-result : goal.overflow_cast-result
overflow_cast-result c =
    let names = c.enum_-names.result.now in
    let here = shape (goal.at.overflow_cast-result c).After-enum_-names in
    let first =
    enum_first c.args.types.now _ c.args.value.now names.info names.names.keys c.in-Enum.name c.as_str.result.now here c.enum_-names.ensures.info c.in-Enum.is c.as_str.ensures.value
    c.in-Some.tag (sym c.get_index_of.ensures.index ∙ c.in-Some.is) in
    omega (
      arith,
      name_few _ names.info _ c.in-Some.tag
          (value_enum_info c.args.types.now _ c.args.value.now names.info names.names.keys c.in-Enum.name c.as_str.result.now here c.enum_-names.ensures.info c.in-Enum.is c.as_str.ensures.value) first,
    )

pub returns : goal.returns
returns c =
    let names = c.enum_-names.result.now in
    let here = shape (goal.at.returns c).After-enum_-names in
    enum_seen c.args.types.now _ c.args.value.now names.info names.names.keys c.in-Enum.name c.as_str.result.now here c.enum_-names.ensures.info c.in-Enum.is c.as_str.ensures.value
    c.in-Some.tag (sym c.get_index_of.ensures.index ∙ c.in-Some.is)
