-- What an element of a list or a map is: an item of one type, or a pair of a key and a value.
use Rattle.std.specs.Prelude.{◌≡◌, ℕ}
use Rattle.canon_lowering.specs.Copies.{copies, pairs_of}
use Rattle.canon_model.specs.Cost.{pair_cost, val_cost}
use Rattle.canon_model.specs.Layout.{member_shape}
use Rattle.canon_model.specs.Memory.{Memory}
use Rattle.canon_model.specs.Reach.{At, Kind, ListFault, StoredFault, list_reach, pair_parts_reach, reach_cost}
use Rattle.canon_model.specs.Shape.{Members, Shape, list, map_of, no_members, of_items, of_pairs}
use Rattle.canon_model.specs.Text.{Encoding}
use Rattle.canon_types.specs.Depth.{element_shape, product_members}
use Rattle.canon_types.specs.Table.{Knows, TypeTable, shape_of}
use Rattle.canon_types.specs.declared.types.InterfaceType.TheVariants as ty
use Rattle.canon_plan.specs.declared.element.Element.{Element}
use Rattle.canon_plan.specs.declared.element.Element.TheVariants as element

-- the two shapes of a pair
abbrev pub first_of : Shape → Shape
first_of s = member_shape (product_members s) 0

abbrev pub second_of : Shape → Shape
second_of s = member_shape (product_members s) 1

-- the shape is a map's
abbrev pub IsMap : Shape → Type 0
IsMap s = s ≡ map_of (first_of (element_shape s)) (second_of (element_shape s))

-- n elements of a list of the shape, as members: of a map each key and its value
abbrev pub row_of : Shape → ℕ → Members
row_of (list of_items s) n = copies n s
row_of (list of_pairs s) n = pairs_of n (first_of s) (second_of s)
row_of _ n = no_members

-- what an element of a list of the shape is charged itself, and its parts at an address
abbrev pub element_cost : Shape → ℕ
element_cost (list of_pairs s) = pair_cost
element_cost _ = val_cost

abbrev pub element_reach : Encoding → Memory → Shape → ℕ → ℕ
element_reach enc m (list of_items s) a = reach_cost enc m s a
element_reach enc m (list of_pairs s) a = pair_parts_reach enc m s a
element_reach enc m _ a = 0

-- a fault of a list of the shape, of n elements at p, whose pointer stands at `at`, and the charges of all that is reached there
abbrev pub ItemsFault : Encoding → Memory → Shape → At → ℕ → ℕ → Kind → At → Type 0
ItemsFault enc m s at p n k x = ListFault enc m (λ b j y. StoredFault enc m (element_shape s) b j y) (element_shape s) at p n k x

abbrev pub items_reach : Encoding → Memory → Shape → ℕ → ℕ → ℕ
items_reach enc m s p n = list_reach enc m (λ b. element_reach enc m s b) (element_cost s) (element_shape s) p n

-- the shape of a list of these
abbrev pub list_shape : TypeTable → Element → Shape
list_shape t (element.Item type) = list of_items (shape_of t type)
list_shape t (element.Pair i) = shape_of t (ty.Map i)

abbrev pub IsKnown : TypeTable → Element → Type 0
IsKnown t (element.Item type) = Knows t type
IsKnown t (element.Pair i) = Knows t (ty.Map i) × IsMap (shape_of t (ty.Map i))
