-- A list or a map with its elements.
use Rattle.std.specs.Prelude.{List, [], ◌∷◌, length, ℕ}
use Rattle.canon_plan.specs.declared.element.Element.{Element}
use Rattle.canon_plan.specs.declared.element.Element.TheVariants as element
use Rattle.canon_value_parts.specs.declared.elements.Elements.{Elements}
use Rattle.canon_value_parts.specs.declared.elements.Elements.TheVariants as elements
use Rattle.canon_val.specs.declared.val.Val.{Val}
use Rattle.canon_val.specs.declared.val.Val.TheVariants as val

-- keys and their values by turns
abbrev pub by_turns : List (Val × Val) → List Val
by_turns [] = []
by_turns (p ∷ ps) = p.0 ∷ p.1 ∷ by_turns ps

abbrev pub element_in : Elements → Element
element_in (elements.Items type xs) = element.Item type
element_in (elements.Pairs i xs) = element.Pair i

abbrev pub list_value : Elements → Val
list_value (elements.Items type xs) = val.List xs.now
list_value (elements.Pairs i xs) = val.Map xs.now

abbrev pub list_length : Elements → ℕ
list_length (elements.Items type xs) = length xs.now.items
list_length (elements.Pairs i xs) = length xs.now.items

-- the values of its members
abbrev pub values_listed : Elements → List Val
values_listed (elements.Items type xs) = xs.now.items
values_listed (elements.Pairs i xs) = by_turns xs.now.items
