-- How deep a type is, and whether a borrowed handle occurs in it.
use Rattle.std.specs.Prelude.{ℕ, ◌+◌, max, Bool, true, false, ◌||◌}
use Rattle.canon_model.specs.Shape.{Cases, Members, Shape, bare, borrow, fixed, flags, list, member, no_cases, no_members, of_items, of_pairs, own, payload, product, scalar, string, variant}

-- A scalar, a text, a handle and flags have depth 1, another type one more than its deepest part. The pair of a map
-- counts for the map.
abbrev mutual
  pub depth : Shape → ℕ
  depth (scalar k) = 1
  depth string = 1
  depth (own r) = 1
  depth (borrow r) = 1
  depth (list of_items s) = 1 + depth s
  depth (list of_pairs s) = depth s
  depth (fixed n s) = 1 + depth s
  depth (product k ms) = 1 + deepest ms
  depth (variant k cs) = 1 + deepest_case cs
  depth (flags names) = 1

  pub deepest : Members → ℕ
  deepest no_members = 0
  deepest (member name s ms) = max (depth s) (deepest ms)

  pub deepest_case : Cases → ℕ
  deepest_case no_cases = 0
  deepest_case (bare name cs) = deepest_case cs
  deepest_case (payload name s cs) = max (depth s) (deepest_case cs)

abbrev mutual
  pub has_borrow : Shape → Bool
  has_borrow (scalar k) = false
  has_borrow string = false
  has_borrow (own r) = false
  has_borrow (borrow r) = true
  has_borrow (list k s) = has_borrow s
  has_borrow (fixed n s) = has_borrow s
  has_borrow (product k ms) = member_borrows ms
  has_borrow (variant k cs) = case_borrows cs
  has_borrow (flags names) = false

  pub member_borrows : Members → Bool
  member_borrows no_members = false
  member_borrows (member name s ms) = has_borrow s || member_borrows ms

  pub case_borrows : Cases → Bool
  case_borrows no_cases = false
  case_borrows (bare name cs) = case_borrows cs
  case_borrows (payload name s cs) = has_borrow s || case_borrows cs

-- ---- parts of a shape

-- the members of a product
abbrev pub product_members : Shape → Members
product_members (product k ms) = ms
product_members _ = no_members

-- the cases of a variant
abbrev pub variant_cases : Shape → Cases
variant_cases (variant k cs) = cs
variant_cases _ = no_cases

-- the elements of a list, which of a map are pairs
abbrev pub element_shape : Shape → Shape
element_shape (list k s) = s
element_shape s = s
