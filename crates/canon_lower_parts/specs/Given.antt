-- How the handles of a value are given: what it does to the ledger are the ways of the handles of its tree, in order.
use Rattle.std.proofs.Common.{◌++◌, ◌≡◌, ◌∷◌, Bool, Err, List, None, Ok, Option, Some, [], ap, false, inl, inr, refl, subst, sym, true, ℕ}
use Rattle.std.specs.HashMap.{HashMap}
use Rattle.std.specs.Prelude.{⊤, ◌⊎◌, flat_map}
use Rattle.canon_resources.specs.Parts.{Part, lower_parts, passed}
use Rattle.canon_lower_parts.specs.Gives.{case_shape, item_shape, map_gives, no_handles, option_gives, pair_gives, payload_gives, product_gives, result_gives, row_gives}
use Rattle.canon_lower_parts.specs.Handles.{handle_gives, held_gives, held_parts}
use Rattle.canon_model.specs.Leaves.{Leaf, case_leaves, leaves, members_leaves}
use Rattle.canon_model.specs.Shape.{Cases, Members, Scalar, Shape, case_for, fixed, list_of, map_of, member, no_cases, no_members, of_places, of_result, option_of, product, result_of, scalar, string, tuple, variant}
use Rattle.canon_model.specs.Tree.{Tree, Trees, case, case_number, list_of_each, payload_of, trees_of}
use Rattle.canon_resources.specs.Held.{Any}
use Rattle.canon_resources.specs.declared.host.ResourceState.{ResourceState}
use Rattle.canon_types.specs.Instance.{Instance}
use Rattle.canon_types.specs.Table.{all_shapes, members_of, payload_in, shape_of}
use Rattle.canon_types.specs.declared.resource.ResourceType.{ResourceType}
use Rattle.canon_types.specs.declared.types.InterfaceType.{InterfaceType}
use Rattle.canon_types.specs.declared.types.InterfaceType.TheVariants as ty
use Rattle.canon_typed.specs.Maps.{MapWalks}
use Rattle.canon_typed.specs.Meaning.{CaseMeans, EachMeans, FirstAnd, IsHandle, ListMeans, NoTrees, OptionMeans, PairMeans, ProductMeans, ResultMeans, RowMeans}
use Rattle.canon_typed.specs.Scalars.{IsOfScalar}
use Rattle.canon_typed.specs.Types.{AreOf, IsFixedOf, IsHandleOf, IsHandleType, IsListOf, IsMapOf, IsOptionOf, IsPayloadOf, IsResultOf, IsTupleOf}

-- It is given as a resource of any type is ("lower_own", "lower_borrow"), or as one that the host holds is, of a type and where it is now.
-- Either is refused where the type is another, and else ends in the guest's table as a handle of this type, or as its bare representation.
abbrev pub IsGivenBy : Instance → Leaf → List Part → Type 0
IsGivenBy i leaf ps =
    ((x : Any) × (ps ≡ lower_parts i (passed leaf.owned leaf.resource x)))
    ⊎ ((kind : ResourceType) × (at : ResourceState) × (rep : ℕ) × (ps ≡ held_parts leaf.owned i leaf.resource kind at rep))

-- handles, one after another
abbrev pub AreGivenBy : Instance → List Leaf → List (List Part) → Type 0
AreGivenBy i [] [] = ⊤
AreGivenBy i (leaf ∷ leaves) (ps ∷ rest) = IsGivenBy i leaf ps × AreGivenBy i leaves rest
AreGivenBy i _ _ = ⊥

-- over one component type: of a value's tree, and what it gives
abbrev pub AreGiven : (Instance → InterfaceType → Type 0) → (Tree → Type 0) → (Instance → Shape → List (List Part)) → Type 0
AreGiven Fit Has gives = (i : Instance) (type : InterfaceType) (t : Tree) → Fit i type → Has t → AreGivenBy i (leaves (shape_of i.types type) t) (gives i (shape_of i.types type))

-- of each value
abbrev pub IsGiven : {A : Type 0} → (Instance → InterfaceType → Type 0) → (A → Tree → Type 0) → (Instance → Shape → A → List (List Part)) → Type 0
IsGiven {A} Fit Walks gives = (v : A) → AreGiven Fit (Walks v) (λ i s. gives i s v)

pub given_then : (i : Instance) (ls ms : List Leaf) (ps qs : List (List Part)) → AreGivenBy i ls ps → AreGivenBy i ms qs → AreGivenBy i (ls ++ ms) (ps ++ qs)
given_then i [] ms [] qs h g = g
given_then i [] ms (p ∷ ps) qs h g = absurd h
given_then i (l ∷ ls) ms [] qs h g = absurd h
given_then i (l ∷ ls) ms (p ∷ ps) qs (first, rest) g = (first, given_then i ls ms ps qs rest g)

-- ---- types without parts

no_scalar_given : (i : Instance) (k : Scalar) (t : Tree) → AreGivenBy i (leaves (scalar k) t) []
unfolding leaves
no_scalar_given i k t = tt

pub scalar_given : {A : Type 0} {Fit : Instance → InterfaceType → Type 0} (k : Scalar) (Walks : A → Tree → Type 0) → IsOfScalar k Fit → IsGiven Fit Walks no_handles
scalar_given k Walks is v i u t f h = subst (λ (s : Shape). AreGivenBy i (leaves s t) []) (sym (is i u f)) (no_scalar_given i k t)

no_text_given : (i : Instance) (t : Tree) → AreGivenBy i (leaves string t) []
unfolding leaves
no_text_given i t = tt

pub text_given : {A : Type 0} (Walks : A → Tree → Type 0) → IsGiven (λ i t. t ≡ ty.String) Walks no_handles
text_given Walks v i u t e h = subst (λ (x : InterfaceType). AreGivenBy i (leaves (shape_of i.types x) t) []) (sym e) (no_text_given i t)

pub handle_given : IsGiven IsHandleType (λ (x : Any). IsHandle) handle_gives
unfolding leaves
handle_given x i (ty.Own r) t f h = (inl (x, refl), tt)
handle_given x i (ty.Borrow r) t f h = (inl (x, refl), tt)
handle_given x i _ t f h = absurd f

pub held_given : {D : Type 0} (checked : ResourceType → Option D) (kind : ResourceType) (at : ResourceState) (rep : ℕ) → AreGiven (IsHandleOf checked) IsHandle (held_gives kind at rep)
unfolding leaves
held_given checked kind at rep i (ty.Own r) t f h = (inr (kind, at, rep, refl), tt)
held_given checked kind at rep i (ty.Borrow r) t f h = (inr (kind, at, rep, refl), tt)
held_given checked kind at rep i _ t (other, d, none, e) h = absurd (cc)

-- ---- lists

each_given : {A : Type 0} (i : Instance) (s : Shape) (Walks : A → Tree → Type 0) (gives : A → List (List Part)) → ((v : A) (t : Tree) → Walks v t → AreGivenBy i (leaves s t) (gives v))
    → (xs : List A) (ts : Trees) → EachMeans Walks xs ts → AreGivenBy i (list_of_each (λ u. leaves s u) ts) (flat_map gives xs)
each_given i s Walks gives law [] ts e = subst (λ (us : Trees). AreGivenBy i (list_of_each (λ u. leaves s u) us) []) (sym e) tt
each_given i s Walks gives law (x ∷ xs) ts (t, rest, e, has, each) =
    subst (λ (us : Trees). AreGivenBy i (list_of_each (λ u. leaves s u) us) (gives x ++ flat_map gives xs)) (sym e)
    (given_then i (leaves s t) (list_of_each (λ u. leaves s u) rest) (gives x) (flat_map gives xs) (law x t has) (each_given i s Walks gives law xs rest each))

module _ {A : Type 0} (Fit : Instance → InterfaceType → Type 0) (Walks : A → Tree → Type 0) (gives : Instance → Shape → A → List (List Part)) (law : IsGiven Fit Walks gives) where
  items_given : (i : Instance) (element : InterfaceType) → Fit i element → (xs : List A) (t : Tree) → ListMeans Walks xs t
      → AreGivenBy i (leaves (list_of (shape_of i.types element)) t) (flat_map (gives i (shape_of i.types element)) xs)
  unfolding leaves
  items_given i element f xs t (ts, e, each) =
      let s : Shape = shape_of i.types element in
      subst (λ (u : Tree). AreGivenBy i (list_of_each (λ w. leaves s w) (trees_of u)) (flat_map (gives i s) xs)) (sym e)
      (each_given i s Walks (gives i s) (λ v w h. law v i element w f h) xs ts each)

  pub list_given : (xs : List A) → AreGiven (IsListOf Fit) (ListMeans Walks xs) (λ i s. flat_map (gives i (item_shape s)) xs)
  list_given xs i (ty.List x) t (element, d, f) h =
      subst (λ (s : Shape). AreGivenBy i (leaves s t) (flat_map (gives i (item_shape s)) xs)) (sym d.shape) (items_given i element f xs t h)
  list_given xs i _ t f h = absurd f

  row_given : (n : ℕ) (i : Instance) (element : InterfaceType) → Fit i element → (xs : List A) (t : Tree) → RowMeans Walks xs t
      → AreGivenBy i (leaves (fixed n (shape_of i.types element)) t) (flat_map (gives i (shape_of i.types element)) xs)
  unfolding leaves
  row_given n i element f xs t (ts, e, each) =
      let s : Shape = shape_of i.types element in
      subst (λ (u : Tree). AreGivenBy i (list_of_each (λ w. leaves s w) (trees_of u)) (flat_map (gives i s) xs)) (sym e)
      (each_given i s Walks (gives i s) (λ v w h. law v i element w f h) xs ts each)

  pub fixed_given : (n : ℕ) (xs : List A) → AreGiven (IsFixedOf n Fit) (RowMeans Walks xs) (λ i s. flat_map (gives i (item_shape s)) xs)
  fixed_given n xs i (ty.FixedLengthList x) t (some, (element, d, f)) h =
      subst (λ (s : Shape). AreGivenBy i (leaves s t) (flat_map (gives i (item_shape s)) xs)) (sym d.shape) (row_given n i element f xs t h)
  fixed_given n xs i _ t f h = absurd f

  -- ---- options and results

  some_given : (i : Instance) (some : InterfaceType) → Fit i some → (v : A) (t : Tree) → OptionMeans Walks (Some v) t
      → AreGivenBy i (leaves (option_of (shape_of i.types some)) t) (gives i (shape_of i.types some) v)
  unfolding leaves
  some_given i some f v t (u, e, has) =
      let s : Shape = shape_of i.types some in
      subst (λ (w : Tree). AreGivenBy i (case_leaves (case_for None (case_for (Some s) no_cases)) (case_number w) (payload_of w)) (gives i s v)) (sym e) (law v i some u f has)

  none_is_given : (i : Instance) (s : Shape) (t : Tree) → t ≡ case 0 → AreGivenBy i (leaves (option_of s) t) []
  unfolding leaves
  none_is_given i s t e = subst (λ (w : Tree). AreGivenBy i (case_leaves (case_for None (case_for (Some s) no_cases)) (case_number w) (payload_of w)) []) (sym e) tt

  pub option_given : IsGiven (IsOptionOf Fit) (OptionMeans Walks) (option_gives gives)
  option_given None i (ty.Option x) t (some, d, f) e = subst (λ (s : Shape). AreGivenBy i (leaves s t) []) (sym d.shape) (none_is_given i (shape_of i.types some) t e)
  option_given (Some v) i (ty.Option x) t (some, d, f) h = subst (λ (s : Shape). AreGivenBy i (leaves s t) (gives i (case_shape 1 s) v)) (sym d.shape) (some_given i some f v t h)
  option_given v i _ t f h = absurd f

  -- the first of the cases, with the payload x or alone
  case_given : (unit : Bool) (d : ℕ) (x : A) (i : Instance) (type : Option InterfaceType) (cs : Cases) (t : Tree) → IsPayloadOf unit Fit i type → CaseMeans unit Walks d x t
      → AreGivenBy i (case_leaves (case_for (payload_in (all_shapes i.types) type) cs) 0 (payload_of t)) (payload_gives unit gives 0 i (variant of_result (case_for (payload_in (all_shapes i.types) type) cs)) x)
  unfolding leaves
  case_given true d x i None cs t f e = tt
  case_given false d x i (Some type) cs t f (u, e, has) = subst (λ (w : Tree). AreGivenBy i (leaves (shape_of i.types type) (payload_of w)) (gives i (shape_of i.types type) x)) (sym e) (law x i type u f has)
  case_given true d x i (Some type) cs t f h = absurd f
  case_given false d x i None cs t f h = absurd f

  -- and behind another one
  later_given : (unit : Bool) (d : ℕ) (x : A) (i : Instance) (first : Option Shape) (type : Option InterfaceType) (t : Tree) → IsPayloadOf unit Fit i type → CaseMeans unit Walks d x t
      → AreGivenBy i (case_leaves (case_for first (case_for (payload_in (all_shapes i.types) type) no_cases)) 1 (payload_of t))
      (payload_gives unit gives 1 i (variant of_result (case_for first (case_for (payload_in (all_shapes i.types) type) no_cases))) x)
  unfolding leaves
  later_given true d x i None None t f e = tt
  later_given true d x i (Some s) None t f e = tt
  later_given false d x i None (Some type) t f (u, e, has) = subst (λ (w : Tree). AreGivenBy i (leaves (shape_of i.types type) (payload_of w)) (gives i (shape_of i.types type) x)) (sym e) (law x i type u f has)
  later_given false d x i (Some s) (Some type) t f (u, e, has) = subst (λ (w : Tree). AreGivenBy i (leaves (shape_of i.types type) (payload_of w)) (gives i (shape_of i.types type) x)) (sym e) (law x i type u f has)
  later_given true d x i first (Some type) t f h = absurd f
  later_given false d x i first None t f h = absurd f

number_is : (unit : Bool) {A : Type 0} (Walks : A → Tree → Type 0) (d : ℕ) (x : A) (t : Tree) → CaseMeans unit Walks d x t → case_number t ≡ d
number_is true Walks d x t e = ap case_number e
number_is false Walks d x t (u, e, has) = ap case_number e

module _ {A B : Type 0} (unit : Bool) (Fit : Instance → InterfaceType → Type 0) (Walks : A → Tree → Type 0) (gives : Instance → Shape → A → List (List Part)) (law : IsGiven Fit Walks gives)
    (unit2 : Bool) (Fit2 : Instance → InterfaceType → Type 0) (Walks2 : B → Tree → Type 0) (gives2 : Instance → Shape → B → List (List Part)) (law2 : IsGiven Fit2 Walks2 gives2) where
  ok_given : (i : Instance) (ok error : Option InterfaceType) → IsPayloadOf unit Fit i ok → (x : A) (t : Tree) → CaseMeans unit Walks 0 x t
      → AreGivenBy i (leaves (result_of (payload_in (all_shapes i.types) ok) (payload_in (all_shapes i.types) error)) t)
      (payload_gives unit gives 0 i (result_of (payload_in (all_shapes i.types) ok) (payload_in (all_shapes i.types) error)) x)
  unfolding leaves
  ok_given i ok error f x t h =
      let cs : Cases = case_for (payload_in (all_shapes i.types) error) no_cases in
      subst (λ n. AreGivenBy i (case_leaves (case_for (payload_in (all_shapes i.types) ok) cs) n (payload_of t)) (payload_gives unit gives 0 i (variant of_result (case_for (payload_in (all_shapes i.types) ok) cs)) x))
      (sym (number_is unit Walks 0 x t h)) (case_given Fit Walks gives law unit 0 x i ok cs t f h)

  error_given : (i : Instance) (ok error : Option InterfaceType) → IsPayloadOf unit2 Fit2 i error → (y : B) (t : Tree) → CaseMeans unit2 Walks2 1 y t
      → AreGivenBy i (leaves (result_of (payload_in (all_shapes i.types) ok) (payload_in (all_shapes i.types) error)) t)
      (payload_gives unit2 gives2 1 i (result_of (payload_in (all_shapes i.types) ok) (payload_in (all_shapes i.types) error)) y)
  unfolding leaves
  error_given i ok error f y t h =
      let cs : Cases = case_for (payload_in (all_shapes i.types) ok) (case_for (payload_in (all_shapes i.types) error) no_cases) in
      subst (λ n. AreGivenBy i (case_leaves cs n (payload_of t)) (payload_gives unit2 gives2 1 i (variant of_result cs) y))
      (sym (number_is unit2 Walks2 1 y t h)) (later_given Fit2 Walks2 gives2 law2 unit2 1 y i (payload_in (all_shapes i.types) ok) error t f h)

  pub result_given : IsGiven (IsResultOf unit Fit unit2 Fit2) (ResultMeans unit Walks unit2 Walks2) (result_gives unit gives unit2 gives2)
  result_given (Ok x) i (ty.Result n) t (ok, error, d, f, g) h =
      subst (λ (s : Shape). AreGivenBy i (leaves s t) (payload_gives unit gives 0 i s x)) (sym d.shape) (ok_given i ok error f x t h)
  result_given (Err y) i (ty.Result n) t (ok, error, d, f, g) h =
      subst (λ (s : Shape). AreGivenBy i (leaves s t) (payload_gives unit2 gives2 1 i s y)) (sym d.shape) (error_given i ok error g y t h)
  result_given v i _ t f h = absurd f

-- ---- tuples, a member at a time

abbrev pub AreMembersGiven : (Instance → List InterfaceType → Type 0) → (Trees → Type 0) → (Instance → List (Shape → List (List Part))) → Type 0
AreMembersGiven Fit Have gives = (i : Instance) (types : List InterfaceType) (ts : Trees) → Fit i types → Have ts
    → AreGivenBy i (members_leaves (members_of i.types types) ts) (row_gives (members_of i.types types) (gives i))

pub none_given : AreMembersGiven (AreOf []) NoTrees (λ i. [])
unfolding leaves
none_given i [] ts f e = tt
none_given i (type ∷ types) ts f e = absurd f

pub first_given : {Fit : Instance → InterfaceType → Type 0} (rest : List (Instance → InterfaceType → Type 0)) {Has : Tree → Type 0} {Have : Trees → Type 0}
    (gives : Instance → Shape → List (List Part)) (more : Instance → List (Shape → List (List Part)))
    → AreGiven Fit Has gives → AreMembersGiven (AreOf rest) Have more → AreMembersGiven (AreOf (Fit ∷ rest)) (FirstAnd Has Have) (λ i. gives i ∷ more i)
unfolding leaves
first_given rest gives more one others i [] ts f h = absurd f
first_given rest gives more one others i (type ∷ types) ts (f, fs) (t, us, e, has, have) =
    let s : Shape = shape_of i.types type in
    let ms : Members = members_of i.types types in
    subst (λ (ws : Trees). AreGivenBy i (members_leaves (member [] s ms) ws) (gives i s ++ row_gives ms (more i))) (sym e)
    (given_then i (leaves s t) (members_leaves ms us) (gives i s) (row_gives ms (more i)) (one i type t f has) (others i types us fs have))

product_given : (i : Instance) (ms : Members) (gives : List (Shape → List (List Part))) (Have : Trees → Type 0) → ((ts : Trees) → Have ts → AreGivenBy i (members_leaves ms ts) (row_gives ms gives))
    → (t : Tree) → ProductMeans Have t → AreGivenBy i (leaves (product of_places ms) t) (row_gives ms gives)
unfolding leaves
product_given i ms gives Have law t (ts, e, have) = subst (λ (u : Tree). AreGivenBy i (members_leaves ms (trees_of u)) (row_gives ms gives)) (sym e) (law ts have)

-- of no members
no_members_given : (i : Instance) (t : Tree) → AreGivenBy i (leaves (product of_places no_members) t) []
unfolding leaves
no_members_given i t = tt

pub empty_given : {A : Type 0} → IsGiven (IsTupleOf []) (λ (v : A). ProductMeans NoTrees) no_handles
empty_given v i (ty.Tuple x) t ([], d, f) h = subst (λ (s : Shape). AreGivenBy i (leaves s t) []) (sym d.shape) (no_members_given i t)
empty_given v i (ty.Tuple x) t (type ∷ types, d, f) h = absurd f
empty_given v i _ t f h = absurd f

pub tuple_given : {A : Type 0} (all : List (Instance → InterfaceType → Type 0)) {Have : A → Trees → Type 0} (gives : A → Instance → List (Shape → List (List Part)))
    → ((v : A) → AreMembersGiven (AreOf all) (Have v) (gives v)) → IsGiven (IsTupleOf all) (λ v. ProductMeans (Have v)) (λ i s v. product_gives (gives v i) s)
tuple_given all {Have = Have} gives law v i (ty.Tuple x) t (types, d, f) h = subst (λ (s : Shape). AreGivenBy i (leaves s t) (product_gives (gives v i) s)) (sym d.shape)
    (product_given i (members_of i.types types) (gives v i) (Have v) (λ ts have. law v i types ts f have) t h)
tuple_given all gives law v i _ t f h = absurd f

-- ---- maps, by their pairs

module _ {K V : Type 0} (Fit Fit2 : Instance → InterfaceType → Type 0) (Walks : K → Tree → Type 0) (Walks2 : V → Tree → Type 0)
    (gives : Instance → Shape → K → List (List Part)) (gives2 : Instance → Shape → V → List (List Part)) (law : IsGiven Fit Walks gives) (law2 : IsGiven Fit2 Walks2 gives2) where
  pair_given : (i : Instance) (key value : InterfaceType) → Fit i key → Fit2 i value → (p : K × V) (t : Tree) → PairMeans Walks Walks2 p t
      → AreGivenBy i (leaves (tuple (shape_of i.types key ∷ shape_of i.types value ∷ [])) t) (pair_gives gives gives2 i (tuple (shape_of i.types key ∷ shape_of i.types value ∷ [])) p)
  pair_given i key value f g p t h =
      product_given i (members_of i.types (key ∷ value ∷ [])) ((λ u. gives i u p.0) ∷ (λ u. gives2 i u p.1) ∷ []) (FirstAnd (Walks p.0) (FirstAnd (Walks2 p.1) NoTrees))
      (λ ts have. first_given (Fit2 ∷ []) (λ j u. gives j u p.0) _ (law p.0) (first_given [] (λ j u. gives2 j u p.1) _ (law2 p.1) none_given) i (key ∷ value ∷ []) ts (f, (g, tt)) have) t h

  entries_given : {S : Type 0} (i : Instance) (key value : InterfaceType) → Fit i key → Fit2 i value → (m : HashMap K V S) (t : Tree) → MapWalks Walks Walks2 m t
      → AreGivenBy i (leaves (map_of (shape_of i.types key) (shape_of i.types value)) t) (map_gives gives gives2 i (map_of (shape_of i.types key) (shape_of i.types value)) m)
  unfolding leaves
  entries_given i key value f g m t (ts, e, each) =
      let s : Shape = tuple (shape_of i.types key ∷ shape_of i.types value ∷ []) in
      subst (λ (u : Tree). AreGivenBy i (list_of_each (λ w. leaves s w) (trees_of u)) (flat_map (pair_gives gives gives2 i s) m.entries)) (sym e)
      (each_given i s (PairMeans Walks Walks2) (pair_gives gives gives2 i s) (pair_given i key value f g) m.entries ts each)

  pub map_given : {S : Type 0} → IsGiven (IsMapOf Fit Fit2) (MapWalks Walks Walks2) (map_gives {S = S} gives gives2)
  map_given m i (ty.Map x) t (key, value, d, f, g) h =
      subst (λ (s : Shape). AreGivenBy i (leaves s t) (map_gives gives gives2 i s m)) (sym d.shape) (entries_given i key value f g m t h)
  map_given m i _ t f h = absurd f
