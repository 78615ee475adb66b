-- What lifting a typed value charges of the fuel: the spelled bytes of a text, and for each item of a list or a map the bytes
-- that it takes in the host.
use Rattle.std.specs.Prelude.{List, [], suc, zero, ◌*◌, ◌+◌, ◌∷◌, ℕ}
use Rattle.canon_model.specs.Tree.{Tree, Trees, case_of, no_trees, sum_of, tree, tree_count, trees_of}

-- scalars and handles
abbrev pub free : Tree → ℕ
free t = 0

abbrev pub option_cost : (Tree → ℕ) → Tree → ℕ
option_cost c (case_of d u) = c u
option_cost c _ = 0

abbrev pub result_cost : (Tree → ℕ) → (Tree → ℕ) → Tree → ℕ
result_cost c d (case_of zero u) = c u
result_cost c d (case_of (suc n) u) = d u
result_cost c d _ = 0

-- each item has so many bytes in the host
abbrev pub list_cost : ℕ → (Tree → ℕ) → Tree → ℕ
list_cost bytes c t = tree_count (trees_of t) * bytes + sum_of c (trees_of t)

-- the items of a list of fixed length, which is free itself
abbrev pub row_cost : (Tree → ℕ) → Tree → ℕ
row_cost c t = sum_of c (trees_of t)

-- of the trees in order, each by its own charge
abbrev pub each_cost : List (Tree → ℕ) → Trees → ℕ
each_cost [] ts = 0
each_cost (c ∷ cs) no_trees = 0
each_cost (c ∷ cs) (tree t ts) = c t + each_cost cs ts

abbrev pub product_cost : List (Tree → ℕ) → Tree → ℕ
product_cost cs t = each_cost cs (trees_of t)
