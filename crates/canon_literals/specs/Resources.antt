-- The resources in parts of values, and others in their place.
use Rattle.std.specs.Prelude.{Box, List, None, Option, Some, String, [], map, string_bytes, ◌++◌}
use Rattle.std.specs.declared.alloc.Global.{Global}
use Rattle.canon_resources.specs.Held.{Any}
use Rattle.canon_value_parts.specs.Resources.{joined, resources}
use Rattle.canon_val.specs.declared.val.Val.{Val}
use Rattle.canon_model.specs.Shape.{Name}
use Rattle.canon_literals.specs.Literals.{Literal, literal_view, replaced}

-- of keys and values, by turns
abbrev pub pair_resources : List (Val × Val) → List Any
pair_resources ps = joined (map (λ p. resources p.0 ++ resources p.1) ps)

abbrev pub payload_resources : Option (Box Val Global) → List Any
payload_resources None = []
payload_resources (Some v) = resources v.value

-- a key and its value with other resources, and a field
abbrev pub pair_replaced : (Any → Any) → Literal × Literal → Literal × Literal
pair_replaced f p = (replaced f p.0, replaced f p.1)

abbrev pub field_replaced : (Any → Any) → Name × Literal → Name × Literal
field_replaced f x = (x.0, replaced f x.1)

abbrev pub field_view : String Global × Val → Name × Literal
field_view x = (string_bytes x.0, literal_view x.1)
