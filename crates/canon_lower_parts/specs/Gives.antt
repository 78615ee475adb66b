-- What the handles in a typed value do to the ledger, in order.
use Rattle.std.specs.HashMap.{HashMap}
use Rattle.std.specs.Prelude.{Bool, Err, List, None, Ok, Option, Result, Some, [], false, flat_map, true, ℕ, ◌++◌, ◌∷◌}
use Rattle.canon_resources.specs.Parts.{Part}
use Rattle.canon_model.specs.Layout.{payload_shape}
use Rattle.canon_model.specs.Shape.{Members, Shape, fixed, list, member, product, variant}
use Rattle.canon_types.specs.Instance.{Instance}

-- of a type that has no handles
abbrev pub no_handles : {A : Type 0} → Instance → Shape → A → List (List Part)
no_handles i s v = []

-- the shape of the payload of case d, and of an item
abbrev pub case_shape : ℕ → Shape → Shape
case_shape d (variant k cs) = payload_shape cs d
case_shape d s = s

abbrev pub item_shape : Shape → Shape
item_shape (list k s) = s
item_shape (fixed n s) = s
item_shape s = s

abbrev pub option_gives : {A : Type 0} → (Instance → Shape → A → List (List Part)) → Instance → Shape → Option A → List (List Part)
option_gives gives i s None = []
option_gives gives i s (Some x) = gives i (case_shape 1 s) x

-- of the payload of case d, if it has one
abbrev pub payload_gives : {A : Type 0} → Bool → (Instance → Shape → A → List (List Part)) → ℕ → Instance → Shape → A → List (List Part)
payload_gives true gives d i s x = []
payload_gives false gives d i s x = gives i (case_shape d s) x

abbrev pub result_gives : {A B : Type 0} → Bool → (Instance → Shape → A → List (List Part)) → Bool → (Instance → Shape → B → List (List Part)) → Instance → Shape → Result A B → List (List Part)
result_gives ok_is_unit f error_is_unit g i s (Ok x) = payload_gives ok_is_unit f 0 i s x
result_gives ok_is_unit f error_is_unit g i s (Err y) = payload_gives error_is_unit g 1 i s y

-- of members in a row, each of which gives so where its shape is
abbrev pub row_gives : Members → List (Shape → List (List Part)) → List (List Part)
row_gives (member name s ms) (f ∷ fs) = f s ++ row_gives ms fs
row_gives _ _ = []

abbrev pub product_gives : List (Shape → List (List Part)) → Shape → List (List Part)
product_gives fs (product k ms) = row_gives ms fs
product_gives fs s = []

-- of a pair of a map: the key, and then the value
abbrev pub pair_gives : {K V : Type 0} → (Instance → Shape → K → List (List Part)) → (Instance → Shape → V → List (List Part)) → Instance → Shape → K × V → List (List Part)
pair_gives f g i s p = product_gives ((λ u. f i u p.0) ∷ (λ u. g i u p.1) ∷ []) s

-- of a map, in the order of its entries
abbrev pub map_gives : {K V S : Type 0} → (Instance → Shape → K → List (List Part)) → (Instance → Shape → V → List (List Part)) → Instance → Shape → HashMap K V S → List (List Part)
map_gives f g i s m = flat_map (pair_gives f g i (item_shape s)) m.entries
