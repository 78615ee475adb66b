-- What a lowering makes of a value is one of the value's trees, since it is so of its parts.
use Rattle.std.proofs.Common.{[], ◌∷◌, Bool, Err, List, None, Ok, Some, false, true, ℕ}
use Rattle.canon_model.specs.Tree.{Tree, Trees}
use Rattle.canon_typed.specs.Meaning.{CaseMeans, EachMeans, FirstAnd, ListMeans, NoTrees, OptionMeans, ProductMeans, ResultMeans, RowMeans}

-- what one relation says of a value, the other says
abbrev pub IsWalked : {A : Type 0} → (A → Tree → Type 0) → (A → Tree → Type 0) → Type 0
IsWalked {A} Walks Means = (v : A) (t : Tree) → Walks v t → Means v t

pub option_walked : {A : Type 0} (Walks Means : A → Tree → Type 0) → IsWalked Walks Means → IsWalked (OptionMeans Walks) (OptionMeans Means)
option_walked Walks Means law None t h = h
option_walked Walks Means law (Some v) t (u, e, has) = (u, e, law v u has)

pub case_walked : {A : Type 0} (unit : Bool) (Walks Means : A → Tree → Type 0) → IsWalked Walks Means → (d : ℕ) → IsWalked (CaseMeans unit Walks d) (CaseMeans unit Means d)
case_walked true Walks Means law d v t h = h
case_walked false Walks Means law d v t (u, e, has) = (u, e, law v u has)

pub result_walked : {A B : Type 0} (unit : Bool) (Walks Means : A → Tree → Type 0) (unit2 : Bool) (Walks2 Means2 : B → Tree → Type 0)
    → IsWalked Walks Means → IsWalked Walks2 Means2 → IsWalked (ResultMeans unit Walks unit2 Walks2) (ResultMeans unit Means unit2 Means2)
result_walked unit Walks Means unit2 Walks2 Means2 law law2 (Ok v) t h = case_walked unit Walks Means law 0 v t h
result_walked unit Walks Means unit2 Walks2 Means2 law law2 (Err w) t h = case_walked unit2 Walks2 Means2 law2 1 w t h

pub each_walked : {A : Type 0} (Walks Means : A → Tree → Type 0) → IsWalked Walks Means → (xs : List A) (ts : Trees) → EachMeans Walks xs ts → EachMeans Means xs ts
each_walked Walks Means law [] ts e = e
each_walked Walks Means law (x ∷ xs) ts (t, rest, e, has, each) = (t, rest, e, law x t has, each_walked Walks Means law xs rest each)

pub list_walked : {A : Type 0} (Walks Means : A → Tree → Type 0) → IsWalked Walks Means → (xs : List A) (t : Tree) → ListMeans Walks xs t → ListMeans Means xs t
list_walked Walks Means law xs t (ts, e, each) = (ts, e, each_walked Walks Means law xs ts each)

pub row_walked : {A : Type 0} (Walks Means : A → Tree → Type 0) → IsWalked Walks Means → (xs : List A) (t : Tree) → RowMeans Walks xs t → RowMeans Means xs t
row_walked Walks Means law xs t (ts, e, each) = (ts, e, each_walked Walks Means law xs ts each)

-- ---- members in a row

pub none_walked : (ts : Trees) → NoTrees ts → NoTrees ts
none_walked ts e = e

pub first_walked : (Has Has2 : Tree → Type 0) (Have Have2 : Trees → Type 0) → ((t : Tree) → Has t → Has2 t) → ((ts : Trees) → Have ts → Have2 ts) → (ts : Trees) → FirstAnd Has Have ts → FirstAnd Has2 Have2 ts
first_walked Has Has2 Have Have2 one more ts (t, rest, e, has, have) = (t, rest, e, one t has, more rest have)

pub product_walked : (Have Have2 : Trees → Type 0) → ((ts : Trees) → Have ts → Have2 ts) → (t : Tree) → ProductMeans Have t → ProductMeans Have2 t
product_walked Have Have2 more t (ts, e, have) = (ts, e, more ts have)
