-- Values in a row that are read from an image of their tuple, with borrows of their numbers for resources.
use Rattle.std.specs.Prelude.{Bool, Err, List, Ok, Result, Vec, length, map, ◌≡◌, ℕ}
use Rattle.std.specs.declared.alloc.Global.{Global}
use Rattle.canon_image_parts.specs.Read.{IsNumberedRead}
use Rattle.canon_image_parts.specs.declared.error.ImageError.{ImageError}
use Rattle.canon_literals.specs.Literals.{all_known, held_among, listed_resource, literals_view, replaced}
use Rattle.canon_model.specs.Shape.{Shape}
use Rattle.canon_resources.specs.Held.{Any}
use Rattle.canon_val.specs.declared.val.Val.{Val}
use Rattle.canon_val.specs.declared.val.Val.TheVariants as val

abbrev pub IsReadRow : Shape → List ℕ → Result (Vec Val Global) ImageError → Type 0
IsReadRow s bytes (Ok values) = IsNumberedRead s bytes (Ok (val.Tuple values))
IsReadRow s bytes (Err e) = IsNumberedRead s bytes (Err e)

-- ---- numbers of a list

-- these are the values that were read, with the resource of the list in the place of each number
abbrev pub AreLooked : List Any → List Val → List Val → Type 0
AreLooked list given values = literals_view values ≡ map (replaced (listed_resource list)) (literals_view given)

-- each number in them is one of the list
abbrev pub are_listed : List Any → List Val → Bool
are_listed list given = all_known (length list) (held_among (literals_view given))
