-- Images of values with resources: each handle is the number of its resource in a list, in 4 bytes.
use Rattle.std.specs.Prelude.{List, [], length, map, pos, suc, zero, ℕ, ◌+◌, ◌++◌, ◌∷◌, ◌≡◌}
use Rattle.canon_model.specs.Image.{Image}
use Rattle.canon_model.specs.Shape.{Cases, Members, Shape, bare, borrow, fixed, flags, list, member, no_cases, no_members, own, payload, product, scalar, string, u32, variant}
use Rattle.canon_model.specs.Tree.{Tree, Trees, case_of, handle, items, no_trees, number, parts, tree}
use Rattle.canon_resources.specs.Held.{Any, any}
use Rattle.canon_resources.specs.declared.any.ResourceAnyHandle.TheVariants.{Synthetic}
use Rattle.canon_types.specs.declared.resource.ResourceType.TheVariants.{HostDynamic}

-- ---- types and trees

abbrev mutual
  -- the type with a u32 in the place of each handle
  pub numbered_shape : Shape → Shape
  numbered_shape (scalar k) = scalar k
  numbered_shape string = string
  numbered_shape (own r) = scalar u32
  numbered_shape (borrow r) = scalar u32
  numbered_shape (list k s) = list k (numbered_shape s)
  numbered_shape (fixed n s) = fixed n (numbered_shape s)
  numbered_shape (product k ms) = product k (numbered_members ms)
  numbered_shape (variant k cs) = variant k (numbered_cases cs)
  numbered_shape (flags names) = flags names

  pub numbered_members : Members → Members
  numbered_members no_members = no_members
  numbered_members (member name s ms) = member name (numbered_shape s) (numbered_members ms)

  pub numbered_cases : Cases → Cases
  numbered_cases no_cases = no_cases
  numbered_cases (bare name cs) = bare name (numbered_cases cs)
  numbered_cases (payload name s cs) = payload name (numbered_shape s) (numbered_cases cs)

abbrev mutual
  -- the tree with a number in the place of each handle
  pub numbered_tree : Tree → Tree
  numbered_tree (items ts) = items (numbered_trees ts)
  numbered_tree (parts ts) = parts (numbered_trees ts)
  numbered_tree (case_of d t) = case_of d (numbered_tree t)
  numbered_tree (handle h) = number (pos h)
  numbered_tree t = t

  pub numbered_trees : Trees → Trees
  numbered_trees no_trees = no_trees
  numbered_trees (tree t ts) = tree (numbered_tree t) (numbered_trees ts)

abbrev mutual
  -- the handles in a tree, depth first
  pub handles_in : Tree → List ℕ
  handles_in (items ts) = all_handles ts
  handles_in (parts ts) = all_handles ts
  handles_in (case_of d t) = handles_in t
  handles_in (handle h) = h ∷ []
  handles_in t = []

  pub all_handles : Trees → List ℕ
  all_handles no_trees = []
  all_handles (tree t ts) = handles_in t ++ all_handles ts

-- the bytes are the image of the tree, with a number in the place of each handle
abbrev pub NumberedImage : Shape → Tree → List ℕ → Type 0
NumberedImage s t bs = Image (numbered_shape s) (numbered_tree t) bs

-- ---- resources

-- What stands for the resource of a number until it is looked up: a borrow that the host made of it.
abbrev pub stand_in : ℕ → Any
stand_in n = any (Synthetic n) (HostDynamic 0)

-- these stand for the resources of these numbers
abbrev pub StandFor : List ℕ → List Any → Type 0
StandFor ns xs = xs ≡ map stand_in ns

-- so many numbers, from one on
abbrev pub numbers_after : ℕ → ℕ → List ℕ
numbers_after first zero = []
numbers_after first (suc n) = first ∷ numbers_after (first + 1) n

-- Resources were added to a list, and have these numbers there.
pub record AreAdded (before after xs : List Any) (ns : List ℕ) : Type 0 where
  pub list : after ≡ before ++ xs
  pub numbers : ns ≡ numbers_after (length before) (length xs)
