-- The trees of a Rust value: what it means over each component type that is its type's.
use Rattle.std.specs.Prelude.{Bool, Err, List, None, Ok, Option, Result, Some, String, [], false, true, ◌∷◌, ◌≡◌, string_bytes, ℕ}
use Rattle.canon_model.specs.Text.{Spells, in_utf8}
use Rattle.canon_model.specs.Tree.{Tree, Trees, case, case_of, handle, items, no_trees, parts, text, tree}

abbrev pub OptionMeans : {A : Type 0} → (A → Tree → Type 0) → Option A → Tree → Type 0
OptionMeans Means None t = t ≡ case 0
OptionMeans Means (Some x) t = (u : Tree) × (t ≡ case_of 1 u) × Means x u

-- case d with the payload x, or alone where its type is the unit
abbrev pub CaseMeans : {A : Type 0} → Bool → (A → Tree → Type 0) → ℕ → A → Tree → Type 0
CaseMeans true Means d x t = t ≡ case d
CaseMeans false Means d x t = (u : Tree) × (t ≡ case_of d u) × Means x u

abbrev pub ResultMeans : {A B : Type 0} → Bool → (A → Tree → Type 0) → Bool → (B → Tree → Type 0) → Result A B → Tree → Type 0
ResultMeans ok_is_unit M error_is_unit N (Ok x) t = CaseMeans ok_is_unit M 0 x t
ResultMeans ok_is_unit M error_is_unit N (Err y) t = CaseMeans error_is_unit N 1 y t

-- each has its tree, in the same order
abbrev pub EachMeans : {A : Type 0} → (A → Tree → Type 0) → List A → Trees → Type 0
EachMeans Means [] ts = ts ≡ no_trees
EachMeans Means (x ∷ xs) ts = (t : Tree) × (rest : Trees) × (ts ≡ tree t rest) × Means x t × EachMeans Means xs rest

abbrev pub ListMeans : {A : Type 0} → (A → Tree → Type 0) → List A → Tree → Type 0
ListMeans Means xs t = (ts : Trees) × (t ≡ items ts) × EachMeans Means xs ts

-- of a list of fixed length
abbrev pub RowMeans : {A : Type 0} → (A → Tree → Type 0) → List A → Tree → Type 0
RowMeans Means xs t = (ts : Trees) × (t ≡ parts ts) × EachMeans Means xs ts

-- a first tree, and others
abbrev pub FirstAnd : (Tree → Type 0) → (Trees → Type 0) → Trees → Type 0
FirstAnd Has Have ts = (t : Tree) × (rest : Trees) × (ts ≡ tree t rest) × Has t × Have rest

abbrev pub NoTrees : Trees → Type 0
NoTrees ts = ts ≡ no_trees

-- the members of a product have these trees
abbrev pub ProductMeans : (Trees → Type 0) → Tree → Type 0
ProductMeans Have t = (ts : Trees) × (t ≡ parts ts) × Have ts

abbrev pub PairMeans : {K V : Type 0} → (K → Tree → Type 0) → (V → Tree → Type 0) → K × V → Tree → Type 0
PairMeans M N p = ProductMeans (FirstAnd (M p.0) (FirstAnd (N p.1) NoTrees))

-- ---- texts and handles

-- a text of these scalar values; how many bytes spell it is left out
abbrev pub TextMeans : {Z : Type 0} → String Z → Tree → Type 0
TextMeans s t = (cs : List ℕ) × (n : ℕ) × (t ≡ text cs n) × Spells in_utf8 (string_bytes s) cs

-- a handle: which one stands for a resource the ledger tells
abbrev pub IsHandle : Tree → Type 0
IsHandle t = (h : ℕ) × (t ≡ handle h)
