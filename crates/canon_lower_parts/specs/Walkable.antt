-- Each value walks a tree, since each of its parts does.
use Rattle.std.proofs.Common.{[], ◌∷◌, Bool, Err, List, None, Ok, Some, String, false, refl, true, ℕ}
use Rattle.std.proofs.lemmas.Str.{IsUtf8-string_bytes}
use Rattle.std.specs.HashMap.{HashMap}
use Rattle.canon_model.specs.Tree.{Tree, Trees, case, case_of, handle, items, no_trees, parts, text, tree}
use Rattle.canon_typed.specs.Maps.{MapWalks}
use Rattle.canon_typed.specs.Meaning.{CaseMeans, EachMeans, FirstAnd, IsHandle, ListMeans, NoTrees, OptionMeans, PairMeans, ProductMeans, ResultMeans, RowMeans, TextMeans}

-- there is a tree, or there are trees, of which this holds
abbrev pub SomeTreeIs : (Tree → Type 0) → Type 0
SomeTreeIs Has = (t : Tree) × Has t

abbrev pub SomeTreesAre : (Trees → Type 0) → Type 0
SomeTreesAre Have = (ts : Trees) × Have ts

-- each value has a tree
abbrev pub IsWalkable : {A : Type 0} → (A → Tree → Type 0) → Type 0
IsWalkable {A} Walks = (v : A) → SomeTreeIs (Walks v)

pub option_walkable : {A : Type 0} (Walks : A → Tree → Type 0) → IsWalkable Walks → IsWalkable (OptionMeans Walks)
option_walkable Walks law None = (case 0, refl)
option_walkable Walks law (Some v) = let (u, has) = law v in (case_of 1 u, (u, refl, has))

pub case_walkable : {A : Type 0} (unit : Bool) (Walks : A → Tree → Type 0) → IsWalkable Walks → (d : ℕ) → IsWalkable (CaseMeans unit Walks d)
case_walkable true Walks law d v = (case d, refl)
case_walkable false Walks law d v = let (u, has) = law v in (case_of d u, (u, refl, has))

pub result_walkable : {A B : Type 0} (unit : Bool) (Walks : A → Tree → Type 0) (unit2 : Bool) (Walks2 : B → Tree → Type 0) → IsWalkable Walks → IsWalkable Walks2 → IsWalkable (ResultMeans unit Walks unit2 Walks2)
result_walkable unit Walks unit2 Walks2 law law2 (Ok v) = case_walkable unit Walks law 0 v
result_walkable unit Walks unit2 Walks2 law law2 (Err w) = case_walkable unit2 Walks2 law2 1 w

pub each_walkable : {A : Type 0} (Walks : A → Tree → Type 0) → IsWalkable Walks → (xs : List A) → SomeTreesAre (EachMeans Walks xs)
each_walkable Walks law [] = (no_trees, refl)
each_walkable Walks law (x ∷ xs) =
    let (t, has) = law x in
    let (rest, each) = each_walkable Walks law xs in
    (tree t rest, (t, rest, refl, has, each))

pub list_walkable : {A : Type 0} (Walks : A → Tree → Type 0) → IsWalkable Walks → (xs : List A) → SomeTreeIs (ListMeans Walks xs)
list_walkable Walks law xs = let (ts, each) = each_walkable Walks law xs in (items ts, (ts, refl, each))

-- of a list of fixed length
pub row_walkable : {A : Type 0} (Walks : A → Tree → Type 0) → IsWalkable Walks → (xs : List A) → SomeTreeIs (RowMeans Walks xs)
row_walkable Walks law xs = let (ts, each) = each_walkable Walks law xs in (parts ts, (ts, refl, each))

-- ---- members in a row

pub none_walkable : SomeTreesAre NoTrees
none_walkable = (no_trees, refl)

pub first_walkable : {Has : Tree → Type 0} {Have : Trees → Type 0} → SomeTreeIs Has → SomeTreesAre Have → SomeTreesAre (FirstAnd Has Have)
first_walkable (t, has) (rest, have) = (tree t rest, (t, rest, refl, has, have))

pub product_walkable : {Have : Trees → Type 0} → SomeTreesAre Have → SomeTreeIs (ProductMeans Have)
product_walkable (ts, have) = (parts ts, (ts, refl, have))

pair_walkable : {K V : Type 0} (Walks : K → Tree → Type 0) (Walks2 : V → Tree → Type 0) → IsWalkable Walks → IsWalkable Walks2 → IsWalkable (PairMeans Walks Walks2)
pair_walkable Walks Walks2 law law2 p = product_walkable (first_walkable (law p.0) (first_walkable (law2 p.1) none_walkable))

-- the pairs of a map in the order of its entries
pub map_walkable : {K V S : Type 0} (Walks : K → Tree → Type 0) (Walks2 : V → Tree → Type 0) → IsWalkable Walks → IsWalkable Walks2 → (m : HashMap K V S) → SomeTreeIs (MapWalks Walks Walks2 m)
map_walkable Walks Walks2 law law2 m = let (ts, each) = each_walkable (PairMeans Walks Walks2) (pair_walkable Walks Walks2 law law2) m.entries in (items ts, (ts, refl, each))

-- ---- texts and handles

-- a text's bytes are the UTF-8 of some scalar values
pub text_walkable : {Z : Type 0} (s : String Z) → SomeTreeIs (TextMeans s)
text_walkable s = let (cs, (can, is)) = IsUtf8-string_bytes s in (text cs 0, (cs, 0, refl, record { can = can; is = is }))

pub handle_walkable : SomeTreeIs IsHandle
handle_walkable = (handle 0, (0, refl))
