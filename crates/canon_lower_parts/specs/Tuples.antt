-- The types of a tuple's members, by number.
use Rattle.std.specs.Prelude.{List, [], drop, slice_index_or, ℕ}
use Rattle.canon_model.specs.Shape.{Members}
use Rattle.canon_types.specs.Table.{TypeTable, members_of, types_of}
use Rattle.canon_types.specs.declared.types.InterfaceType.{InterfaceType}
use Rattle.canon_types.specs.declared.types.InterfaceType.TheVariants as ty

abbrev pub types_of_tuple : TypeTable → InterfaceType → List InterfaceType
types_of_tuple t (ty.Tuple i) = types_of t i
types_of_tuple t _ = []

abbrev pub member_type : TypeTable → InterfaceType → ℕ → InterfaceType
member_type t type k = slice_index_or (types_of_tuple t type) k ty.Bool

-- from number k on
abbrev pub types_from : TypeTable → InterfaceType → ℕ → List InterfaceType
types_from t type k = drop k (types_of_tuple t type)

abbrev pub members_after : TypeTable → InterfaceType → ℕ → Members
members_after t type k = members_of t (types_from t type k)
