-- The trees of a Rust value are those of each component type that is its type's.
use Rattle.std.proofs.Common.{ap, suc, length, ◌∙◌, ℕ, false, None, Some, [], ◌∷◌, ◌≡◌, List, Bool, Option, Ok, Err, subst, sym, true}
use Rattle.canon_model.specs.Fits.{AllTrees, Fits}
use Rattle.canon_model.specs.Shape.{Cases, Shape, case_for, no_cases}
use Rattle.canon_model.specs.Tree.{Tree, Trees, tree_count}
use Rattle.canon_types.specs.Instance.{Instance}
use Rattle.canon_types.specs.Table.{all_shapes, members_of, payload_in, shape_of}
use Rattle.canon_types.specs.declared.resource.ResourceType.{ResourceType}
use Rattle.canon_types.specs.declared.types.InterfaceType.{InterfaceType}
use Rattle.canon_types.specs.declared.types.InterfaceType.TheVariants as ty
use Rattle.canon_typed.specs.Meaning.{CaseMeans, EachMeans, FirstAnd, IsHandle, ListMeans, NoTrees, OptionMeans, ProductMeans, ResultMeans, RowMeans}
use Rattle.canon_typed.specs.Trees.{AreTreesOf, IsCaseOf, IsTreeOf, tree_fits}
use Rattle.canon_typed.specs.Types.{AreOf, IsFixedOf, IsHandleOf, IsHandleType, IsListOf, IsOptionOf, IsPayloadOf, IsResultOf, IsTupleOf}
use Rattle.canon_typed.specs.Walked.{IsWalked}

-- each is a tree of each type that fits
abbrev pub AreTyped : (Instance → InterfaceType → Type 0) → (Tree → Type 0) → Type 0
AreTyped Fit Has = (i : Instance) (type : InterfaceType) (u : Tree) → Fit i type → Has u → IsTreeOf (shape_of i.types type) u

abbrev pub IsTyped : {A : Type 0} → (Instance → InterfaceType → Type 0) → (A → Tree → Type 0) → Type 0
IsTyped {A} Fit Means = (v : A) → AreTyped Fit (Means v)

-- ---- what lowering to words asks of a value's trees (`Fits`)

abbrev pub IsShaped : {A : Type 0} → (Instance → InterfaceType → Type 0) → (A → Tree → Type 0) → Type 0
IsShaped {A} Fit Means = (v : A) (i : Instance) (type : InterfaceType) (u : Tree) → Fit i type → Means v u → Fits (shape_of i.types type) u

-- of those that its lowering makes
pub walked_shaped : {A : Type 0} (Fit : Instance → InterfaceType → Type 0) (Walks Means : A → Tree → Type 0) → IsTyped Fit Means → IsWalked Walks Means → IsShaped Fit Walks
walked_shaped Fit Walks Means typed walked v i type u f h = tree_fits (shape_of i.types type) u (typed v i type u f (walked v u h))

-- ---- types without parts

pub scalar_typed : {A : Type 0} (type : InterfaceType) (Means : A → Tree → Type 0) → ((i : Instance) (v : A) (u : Tree) → Means v u → IsTreeOf (shape_of i.types type) u) → IsTyped (λ i t. t ≡ type) Means
scalar_typed type Means typed v i t u e h = subst (λ (x : InterfaceType). IsTreeOf (shape_of i.types x) u) (sym e) (typed i v u h)

pub handle_typed : AreTyped IsHandleType IsHandle
handle_typed i (ty.Own r) u f h = h
handle_typed i (ty.Borrow r) u f h = h
handle_typed i _ u f h = absurd f

pub kind_typed : {D : Type 0} (checked : ResourceType → Option D) → AreTyped (IsHandleOf checked) IsHandle
kind_typed checked i (ty.Own r) u f h = h
kind_typed checked i (ty.Borrow r) u f h = h
kind_typed checked i _ u (kind, d, none, e) h = absurd (cc)

-- ---- lists

pub each_typed : {A : Type 0} (Means : A → Tree → Type 0) (Is : Tree → Type 0) → ((x : A) (t : Tree) → Means x t → Is t) → (xs : List A) (ts : Trees) → EachMeans Means xs ts → AllTrees Is ts
each_typed Means Is law [] ts e = subst (λ (us : Trees). AllTrees Is us) (sym e) tt
each_typed Means Is law (x ∷ xs) ts (t, rest, e, has, each) = subst (λ (us : Trees). AllTrees Is us) (sym e) (law x t has, each_typed Means Is law xs rest each)

each_count : {A : Type 0} (Means : A → Tree → Type 0) (xs : List A) (ts : Trees) → EachMeans Means xs ts → tree_count ts ≡ length xs
each_count Means [] ts e = ap tree_count e
each_count Means (x ∷ xs) ts (t, rest, e, has, each) = ap tree_count e ∙ ap suc (each_count Means xs rest each)

pub list_typed : {A : Type 0} (Fit : Instance → InterfaceType → Type 0) (Means : A → Tree → Type 0) → IsTyped Fit Means → (xs : List A) → AreTyped (IsListOf Fit) (ListMeans Means xs)
list_typed Fit Means law xs i (ty.List x) u (element, d, f) (ts, e, each) =
    subst (λ (s : Shape). IsTreeOf s u) (sym d.shape) (ts, e, each_typed Means (λ w. IsTreeOf (shape_of i.types element) w) (λ v w h. law v i element w f h) xs ts each)
list_typed Fit Means law xs i _ u f h = absurd f

pub fixed_typed : {A : Type 0} (n : ℕ) (Fit : Instance → InterfaceType → Type 0) (Means : A → Tree → Type 0) → IsTyped Fit Means → (xs : List A) → length xs ≡ n → AreTyped (IsFixedOf n Fit) (RowMeans Means xs)
fixed_typed n Fit Means law xs count i (ty.FixedLengthList x) u (some, (element, d, f)) (ts, e, each) =
    subst (λ (s : Shape). IsTreeOf s u) (sym d.shape) (ts, e, each_count Means xs ts each ∙ count, each_typed Means (λ w. IsTreeOf (shape_of i.types element) w) (λ v w h. law v i element w f h) xs ts each)
fixed_typed n Fit Means law xs count i _ u f h = absurd f

-- ---- options and results

pub option_typed : {A : Type 0} (Fit : Instance → InterfaceType → Type 0) (Means : A → Tree → Type 0) → IsTyped Fit Means → IsTyped (IsOptionOf Fit) (OptionMeans Means)
option_typed Fit Means law None i (ty.Option x) u (some, d, f) e = subst (λ (s : Shape). IsTreeOf s u) (sym d.shape) (0, e)
option_typed Fit Means law (Some v) i (ty.Option x) u (some, d, f) (w, e, has) = subst (λ (s : Shape). IsTreeOf s u) (sym d.shape) (1, (w, e, law v i some w f has))
option_typed Fit Means law v i _ u f h = absurd f

-- the first of the cases, with the payload x or alone
case_typed : {A : Type 0} (unit : Bool) (Fit : Instance → InterfaceType → Type 0) (Means : A → Tree → Type 0) → IsTyped Fit Means → (d : ℕ) (x : A) (i : Instance) (type : Option InterfaceType) (cs : Cases) (u : Tree)
    → IsPayloadOf unit Fit i type → CaseMeans unit Means d x u → IsCaseOf (case_for (payload_in (all_shapes i.types) type) cs) 0 d u
case_typed true Fit Means law d x i None cs u f e = e
case_typed false Fit Means law d x i (Some type) cs u f (w, e, has) = (w, e, law x i type w f has)
case_typed true Fit Means law d x i (Some type) cs u f h = absurd f
case_typed false Fit Means law d x i None cs u f h = absurd f

-- behind another one
later_case : (first : Option Shape) (cs : Cases) (i d : ℕ) (u : Tree) → IsCaseOf cs i d u → IsCaseOf (case_for first cs) (suc i) d u
later_case None cs i d u h = h
later_case (Some s) cs i d u h = h

pub result_typed : {A B : Type 0} (unit : Bool) (Fit : Instance → InterfaceType → Type 0) (Means : A → Tree → Type 0) (unit2 : Bool) (Fit2 : Instance → InterfaceType → Type 0) (Means2 : B → Tree → Type 0)
    → IsTyped Fit Means → IsTyped Fit2 Means2 → IsTyped (IsResultOf unit Fit unit2 Fit2) (ResultMeans unit Means unit2 Means2)
result_typed unit Fit Means unit2 Fit2 Means2 law law2 (Ok x) i (ty.Result n) u (ok, error, d, f, g) h = subst (λ (s : Shape). IsTreeOf s u) (sym d.shape)
    (0, case_typed unit Fit Means law 0 x i ok (case_for (payload_in (all_shapes i.types) error) no_cases) u f h)
result_typed unit Fit Means unit2 Fit2 Means2 law law2 (Err y) i (ty.Result n) u (ok, error, d, f, g) h = subst (λ (s : Shape). IsTreeOf s u) (sym d.shape)
    (1, later_case (payload_in (all_shapes i.types) ok) (case_for (payload_in (all_shapes i.types) error) no_cases) 0 1 u (case_typed unit2 Fit2 Means2 law2 1 y i error no_cases u g h))
result_typed unit Fit Means unit2 Fit2 Means2 law law2 v i _ u f h = absurd f

-- ---- tuples, a member at a time

abbrev pub AreMembersTyped : (Instance → List InterfaceType → Type 0) → (Trees → Type 0) → Type 0
AreMembersTyped Fit Have = (i : Instance) (types : List InterfaceType) (ts : Trees) → Fit i types → Have ts → AreTreesOf (members_of i.types types) ts

pub none_typed : AreMembersTyped (AreOf []) NoTrees
none_typed i [] ts f e = e
none_typed i (type ∷ types) ts f e = absurd f

pub first_typed : (Fit : Instance → InterfaceType → Type 0) (rest : List (Instance → InterfaceType → Type 0)) (Has : Tree → Type 0) (Have : Trees → Type 0)
    → AreTyped Fit Has → AreMembersTyped (AreOf rest) Have → AreMembersTyped (AreOf (Fit ∷ rest)) (FirstAnd Has Have)
first_typed Fit rest Has Have one more i [] ts f h = absurd f
first_typed Fit rest Has Have one more i (type ∷ types) ts (f, fs) (t, us, e, has, have) = (t, us, e, one i type t f has, more i types us fs have)

pub tuple_typed : {A : Type 0} (all : List (Instance → InterfaceType → Type 0)) (Have : A → Trees → Type 0) → ((v : A) → AreMembersTyped (AreOf all) (Have v)) → IsTyped (IsTupleOf all) (λ v. ProductMeans (Have v))
tuple_typed all Have law v i (ty.Tuple x) u (types, d, f) (ts, e, have) = subst (λ (s : Shape). IsTreeOf s u) (sym d.shape) (ts, e, law v i types ts f have)
tuple_typed all Have law v i _ u f h = absurd f
