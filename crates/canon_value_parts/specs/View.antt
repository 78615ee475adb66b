-- A value as the shape of its type sees it.
use Rattle.std.specs.Prelude.{IsTrue, List, [], drop, length, ℕ, ⊤, ◌+◌, ◌<◌, ◌^◌, ◌↔◌, ◌∷◌, ◌≡◌}
use Rattle.canon_lowering.specs.Copies.{copies}
use Rattle.canon_model.specs.Shape as shape
use Rattle.canon_model.specs.Shape.{Name, member, member_count, no_members}
use Rattle.canon_types.specs.Depth.{product_members}
use Rattle.canon_types.specs.Table.{HasTuple, Knows, TypeTable, shape_of, tuple_members}
use Rattle.canon_types.specs.declared.types.InterfaceType.TheVariants as ty
use Rattle.canon_plan.specs.Element.{IsMap, row_of}
use Rattle.canon_value_parts.specs.Elements.{by_turns}
use Rattle.canon_val.specs.Value.{names_in, no_names, values_in}
use Rattle.canon_value_parts.specs.declared.members.Member.{Member}
use Rattle.canon_value_parts.specs.declared.members.Members.{Members}
use Rattle.canon_value_parts.specs.declared.members.Members.TheVariants as members
use Rattle.canon_val.specs.declared.val.Val.{Val}
use Rattle.canon_plan.specs.Plan.{members_from}

-- their shapes, by the table, their values and their names
abbrev pub viewed_shapes : TypeTable → Members → shape.Members
viewed_shapes t (members.Fields i values) = product_members (shape_of t (ty.Record i))
viewed_shapes t (members.Places i values) = tuple_members t i
viewed_shapes t (members.Items type values) = copies (length values.now) (shape_of t type)
viewed_shapes t members.Empty = no_members
viewed_shapes t (members.Single type value) = member [] (shape_of t type) no_members
viewed_shapes t (members.Pairs i values) = row_of (shape_of t (ty.Map i)) (length values.now)

abbrev pub viewed_values : Members → List Val
viewed_values (members.Fields i values) = values_in values.now
viewed_values (members.Places i values) = values.now
viewed_values (members.Items type values) = values.now
viewed_values members.Empty = []
viewed_values (members.Single type value) = value.now ∷ []
viewed_values (members.Pairs i values) = by_turns values.now

abbrev pub viewed_names : Members → List Name
viewed_names (members.Fields i values) = names_in values.now
viewed_names (members.Places i values) = no_names values.now
viewed_names (members.Items type values) = no_names values.now
viewed_names members.Empty = []
viewed_names (members.Single type value) = [] ∷ []
viewed_names (members.Pairs i values) = no_names (by_turns values.now)

-- the table knows their types, as many as there are values
abbrev pub HaveKnownTypes : TypeTable → Members → Type 0
HaveKnownTypes t (members.Fields i values) = Knows t (ty.Record i) × (length values.now ≡ member_count (product_members (shape_of t (ty.Record i))))
HaveKnownTypes t (members.Places i values) = HasTuple t i × (length values.now ≡ member_count (tuple_members t i))
HaveKnownTypes t (members.Items type values) = Knows t type
HaveKnownTypes t members.Empty = Unit {0}
HaveKnownTypes t (members.Single type value) = Knows t type
HaveKnownTypes t (members.Pairs i values) = Knows t (ty.Map i) × IsMap (shape_of t (ty.Map i)) × (length values.now < 2 ^ 32)

-- of pairs there are fewer than 2^32
abbrev pub AreFew : Members → Type 0
AreFew (members.Pairs i values) = length values.now < 2 ^ 32
AreFew _ = ⊤

-- of members of these shapes, names and values, the one of number k
pub record IsMember (t : TypeTable) (ms : shape.Members) (all : List Name) (vs : List Val) (k : ℕ) (m : Member) : Type 0 where
  pub known : Knows t m.ty
  pub name : Name
  pub named : Name
  pub same : IsTrue m.is_named ↔ (named ≡ name)
  pub shapes : members_from k ms ≡ member name (shape_of t m.ty) (members_from (k + 1) ms)
  pub names : drop k all ≡ named ∷ drop (k + 1) all
  pub values : drop k vs ≡ m.value.now ∷ drop (k + 1) vs
