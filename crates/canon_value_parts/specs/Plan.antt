-- What lifted members make up.
use Rattle.std.specs.Prelude.{List, false, length, ℕ, ◌+◌, ◌/◌, ◌≡◌}
use Rattle.canon_lowering.specs.Copies.{case_members, case_tree, copies, paired}
use Rattle.canon_model.specs.Cost.{cost}
use Rattle.canon_model.specs.Memory.{Inside, Memory}
use Rattle.canon_model.specs.Rep.{IsList, RepMem, Stored}
use Rattle.canon_model.specs.Shape.{Members, Shape, fixed, list, no_members, of_items, of_pairs, product}
use Rattle.canon_model.specs.Text.{Encoding}
use Rattle.canon_model.specs.Tree.{Tree, Trees, items, parts}
use Rattle.canon_types.specs.Depth.{element_shape, variant_cases}
use Rattle.canon_plan.specs.Element.{row_of}
use Rattle.canon_val.specs.Value.{IsLiftedFrom, AreLiftedFrom}
use Rattle.canon_val.specs.declared.val.Val.{Val}

-- the members of a value of the shape that has n of them; of a map they are keys and values
abbrev pub parts_of : Shape → ℕ → Members
parts_of (product k ms) n = ms
parts_of (fixed m s) n = copies m s
parts_of (list of_items s) n = copies n s
parts_of (list of_pairs s) n = row_of (list of_pairs s) (n / 2)
parts_of _ n = no_members

abbrev pub whole_tree : Shape → Trees → Tree
whole_tree (list of_items s) ts = items ts
whole_tree (list of_pairs s) ts = items (paired ts)
whole_tree _ ts = parts ts

-- whatever trees the members have, the value has the tree that these make up
abbrev pub IsRebuilt : Shape → List Val → Val → Type 0
IsRebuilt s vs v = (ts : Trees) → AreLiftedFrom (parts_of s (length vs)) vs ts → IsLiftedFrom s v (whole_tree s ts)

-- Members of a value of the shape at an address were loaded, whatever is made of them: their trees make up what the bytes
-- represent, and its cost was taken from the fuel.
abbrev pub ArePartsLoaded : Encoding → Memory → Shape → ℕ → ℕ → ℕ → List Val → Type 0
ArePartsLoaded enc m s a before after vs = (ts : Trees) × RepMem false enc m a s (whole_tree s ts) × AreLiftedFrom (parts_of s (length vs)) vs ts × (before ≡ after + cost s (whole_tree s ts))

-- whatever trees the payload has, if there is one, the value has that of the case
abbrev pub IsCaseRebuilt : Shape → ℕ → List Val → Val → Type 0
IsCaseRebuilt s tag vs v = (ts : Trees) → AreLiftedFrom (case_members (variant_cases s) tag) vs ts → IsLiftedFrom s v (case_tree tag ts)

-- the same of the elements of a list of the shape, of which n stand at p
abbrev pub IsListLoaded : Encoding → Memory → Shape → ℕ → ℕ → ℕ → ℕ → List Val → Type 0
IsListLoaded enc m s p n before after vs = (ts : Trees) × IsList (Inside m) false enc m (λ a t. Stored (Inside m) false enc m (element_shape s) a t) (element_shape s) p n (whole_tree s ts)
    × AreLiftedFrom (parts_of s (length vs)) vs ts × (before ≡ after + cost s (whole_tree s ts))
