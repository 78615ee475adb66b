-- A value as the shape of its type sees it, or why it isn't of its type.
use Rattle.std.specs.Prelude.{◌≡◌, ◌<◌, Err, List, Ok, Result, length, ℕ}
use Rattle.canon_abi.specs.Abi.{HasInfo}
use Rattle.canon_lowering.specs.Copies.{case_members}
use Rattle.canon_model.specs.Shape.{Cases, Name, Shape, VariantKind, case_count, fixed, member_count, product, string, variant}
use Rattle.canon_types.specs.Table.{TypeTable, shape_of}
use Rattle.canon_types.specs.declared.types.InterfaceType.{InterfaceType}
use Rattle.canon_plan.specs.Element.{IsKnown, list_shape}
use Rattle.canon_value_parts.specs.Elements.{element_in, list_value}
use Rattle.canon_value_parts.specs.Fails.{Fails, mismatch, payload_expected, payload_not_expected, unknown_case, wrong_length}
use Rattle.canon_value_parts.specs.Flags.{IsFlagsType}
use Rattle.canon_val.specs.Value.{IsCase, IsFixedListValue, IsProduct, member_names, no_names}
use Rattle.canon_value_parts.specs.View.{HaveKnownTypes, viewed_names, viewed_shapes, viewed_values}
use Rattle.canon_value_parts.specs.Words.{IsWordOf}
use Rattle.canon_value_parts.specs.declared.case_view.Case.{Case}
use Rattle.canon_context.specs.declared.fault.Fault.{Fault}
use Rattle.canon_context.specs.declared.fault.Fault.TheVariants as fault
use Rattle.canon_val.specs.declared.val.Val.{Val}
use Rattle.canon_val.specs.declared.val.Val.TheVariants as val
use Rattle.canon_value_parts.specs.declared.view.View.{View}
use Rattle.canon_value_parts.specs.declared.view.View.TheVariants as view
use Rattle.canon_plan.specs.Plan.{LiesAs, type_of_handle}

-- the value is of the shape's kind, and these are its members
abbrev pub HasMembers : Shape → List Name → List Val → Val → Type 0
HasMembers (product k ms) names vs v = IsProduct k names vs v
HasMembers (fixed n s) names vs v = (names ≡ no_names vs) × IsFixedListValue vs v
HasMembers _ names vs v = ⊥

-- the shape is a variant of these cases, and the value one of them, with its payload
pub record IsCaseSeen (t : TypeTable) (s : Shape) (v : Val) (c : Case) : Type 0 where
  pub kind : VariantKind
  pub cases : Cases
  pub shape : s ≡ variant kind cases
  pub info : HasInfo c.info cases
  pub inside : c.tag < case_count cases
  pub known : HaveKnownTypes t c.payload
  pub shapes : viewed_shapes t c.payload ≡ case_members cases c.tag
  pub is : IsCase kind cases c.tag (viewed_values c.payload) v
  pub names : viewed_names c.payload ≡ member_names (viewed_shapes t c.payload)
  pub count : length (viewed_values c.payload) ≡ member_count (viewed_shapes t c.payload)

abbrev pub Views : TypeTable → InterfaceType → Val → View → Type 0
Views t type v (view.Scalar word) = IsWordOf type v word
Views t type v (view.Text s) = (shape_of t type ≡ string) × (v ≡ val.String s.now)
Views t type v (view.List xs) = IsKnown t (element_in xs) × (shape_of t type ≡ list_shape t (element_in xs)) × (v ≡ list_value xs)
Views t type v (view.Members ms) = HaveKnownTypes t ms × LiesAs (shape_of t type) (viewed_shapes t ms) × HasMembers (shape_of t type) (viewed_names ms) (viewed_values ms) v × (length (viewed_values ms) ≡ member_count (viewed_shapes t ms))
Views t type v (view.Case c) = IsCaseSeen t (shape_of t type) v c
Views t type v (view.Handle h x) = (type ≡ type_of_handle h) × (v ≡ val.Resource x)
Views t type v (view.Flags names) = IsFlagsType type × (v ≡ val.Flags names.now)

-- The fault says of the value itself, which has this place, how it isn't of its type. What it holds isn't looked at, and no names of
-- fields or of flags.
abbrev pub BlamesItself : Shape → Val → ℕ → Fault → Type 0
BlamesItself s v place (fault.TypeMismatch k) = (k ≡ place) × Fails mismatch s v
BlamesItself s v place (fault.LengthMismatch k) = (k ≡ place) × Fails wrong_length s v
BlamesItself s v place (fault.UnknownCase k) = (k ≡ place) × Fails unknown_case s v
BlamesItself s v place (fault.PayloadExpected k) = (k ≡ place) × Fails payload_expected s v
BlamesItself s v place (fault.PayloadNotExpected k) = (k ≡ place) × Fails payload_not_expected s v
BlamesItself s v place _ = ⊥

-- of a value that has this place: it is seen so, or it isn't of its type
abbrev pub Viewed : TypeTable → InterfaceType → Val → ℕ → Result View Fault → Type 0
Viewed t type v place (Ok x) = Views t type v x
Viewed t type v place (Err e) = BlamesItself (shape_of t type) v place e
