-- Objects and arrays of JSON, as lists.
use Rattle.std.proofs.Common.{◌≡◌, ◌≢◌, suc, List, [], ◌∷◌, length, None, Some, option_map, slice_get, refl, ap, arith, String, Global, string_bytes}
use Rattle.serde_json.specs.View.{items_view, members_view, view}
use Rattle.serde_json.specs.declared.value.Value.{Value}
use Rattle.canon_json.specs.Json.{members_len, only_item, only_member, two_items}

pub members_len_view : (es : List (String Global × Value)) → members_len (members_view es) ≡ length es
members_len_view [] = refl
members_len_view (e ∷ es) = ap suc (members_len_view es)

-- an array of another length has no only item
pub only_of_none : (vs : List Value) → length vs ≢ 1 → only_item (items_view vs) ≡ None
only_of_none [] h = refl
only_of_none (v ∷ []) h = absurd (h refl)
only_of_none (v ∷ w ∷ vs) h = refl

-- an array of another length has no two items
pub two_of_none : (vs : List Value) → length vs ≢ 2 → two_items (items_view vs) ≡ None
two_of_none [] h = refl
two_of_none (v ∷ []) h = refl
two_of_none (v ∷ w ∷ []) h = absurd (h refl)
two_of_none (v ∷ w ∷ x ∷ vs) h = refl

-- an object of another number of members has no only one
pub only_member_of_none : (es : List (String Global × Value)) → length es ≢ 1 → only_member (members_view es) ≡ None
only_member_of_none [] h = refl
only_member_of_none (e ∷ []) h = absurd (h refl)
only_member_of_none (e ∷ f ∷ es) h = refl

-- the only member is the first
pub only_member_first : (es : List (String Global × Value)) (name : String Global) (value : Value) → length es ≡ 1 → slice_get es 0 ≡ Some (name, value) → only_member (members_view es) ≡ Some (string_bytes name, view value)
only_member_first [] name value h g = absurd (omega arith)
only_member_first (e ∷ []) name value h g = let same : Some e ≡ Some (name, value) = g in ap (option_map (λ (p : String Global × Value). (string_bytes p.0, view p.1))) same
only_member_first (e ∷ f ∷ es) name value h g = absurd (omega arith)
