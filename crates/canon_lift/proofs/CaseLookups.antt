-- What the look-up of an option or a result says of its type.
use Rattle.std.proofs.Common.{◌≡◌, ◌<◌, [], Option, ℕ}
use Rattle.canon_abi.specs.declared.abi.VariantInfo.{VariantInfo}
use Rattle.canon_model.specs.Layout.{payload_shape}
use Rattle.canon_model.specs.Shape.{case_count, case_for, no_cases, option_of, result_of}
use Rattle.canon_types.specs.Depth.{variant_cases}
use Rattle.canon_types.specs.Table.{IsDefined, Knows, KnowsPayload, OptionType, ResultType, TypeTable, all_shapes, payload_in, shape_of}
use Rattle.canon_types.specs.declared.types.InterfaceType.{InterfaceType}
use Rattle.canon_types.specs.declared.types.InterfaceType.TheVariants as ty
use Rattle.canon_lift_parts.proofs.Lookups.{error_known, error_payload, ok_known, ok_payload, option_few, lift_option_known, lift_option_payload, lift_option_shape, result_few, lift_result_shape}

pub record IsOptionThere (t : TypeTable) (type some : InterfaceType) : Type 0 where
  pub shape : shape_of t type ≡ option_of (shape_of t some)
  pub known : Knows t some
  pub payload : shape_of t some ≡ payload_shape (variant_cases (shape_of t type)) 1
  pub few : 1 < case_count (variant_cases (shape_of t type))

pub option_there : (t t2 : TypeTable) (j : ℕ) (type some : InterfaceType) (info : VariantInfo) → t2 ≡ t → type ≡ ty.Option j
    → IsDefined t2 (ty.Option j) (OptionType some) → IsOptionThere t type some
option_there t t2 j type some info same is d = record {
  shape = lift_option_shape t t2 j type some info [] 0 same is d;
  known = lift_option_known t t2 j type some info [] 0 same is d;
  payload = lift_option_payload t t2 j type some info [] 0 same is d;
  few = option_few t t2 j type some info [] 0 same is d;
}

pub record IsResultThere (t : TypeTable) (type : InterfaceType) (ok error : Option InterfaceType) : Type 0 where
  pub shape : shape_of t type ≡ result_of (payload_in (all_shapes t) ok) (payload_in (all_shapes t) error)
  pub ok_known : KnowsPayload t ok
  pub error_known : KnowsPayload t error
  pub ok_payload : payload_shape (case_for (payload_in (all_shapes t) ok) no_cases) 0 ≡ payload_shape (variant_cases (shape_of t type)) 0
  pub error_payload : payload_shape (case_for (payload_in (all_shapes t) error) no_cases) 0 ≡ payload_shape (variant_cases (shape_of t type)) 1
  pub few : (k : ℕ) → k < 2 → k < case_count (variant_cases (shape_of t type))

pub result_there : (t t2 : TypeTable) (j : ℕ) (type : InterfaceType) (ok error : Option InterfaceType) → t2 ≡ t → type ≡ ty.Result j
    → IsDefined t2 (ty.Result j) (ResultType ok error) → IsResultThere t type ok error
result_there t t2 j type ok error same is d = record {
  shape = lift_result_shape t t2 j type ok error same is d;
  ok_known = ok_known t t2 j type ok error same is d;
  error_known = error_known t t2 j type ok error same is d;
  ok_payload = ok_payload t t2 j type ok error same is d;
  error_payload = error_payload t t2 j type ok error same is d;
  few = result_few t t2 j type ok error same is d;
}
