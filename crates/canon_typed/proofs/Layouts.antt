-- How component types lie, by how their parts do.
use Rattle.std.proofs.Common.{◌≡◌, Bool, List, None, Option, Some, [], ◌∷◌, arith, refl, subst, sym}
use Rattle.std.specs.Bool.{⊤}
use Rattle.canon_abi.specs.Abi.{AreOfCases, AreOfMembers, HasInfo, HasLayout, TellsLayout}
use Rattle.canon_abi.specs.declared.abi.CanonicalAbiInfo.{CanonicalAbiInfo}
use Rattle.canon_abi.specs.declared.abi.VariantInfo.{VariantInfo}
use Rattle.canon_model.specs.Layout.{scalar_size}
use Rattle.canon_model.specs.Shape.{Cases, Members, ProductKind, of_places, product, Scalar, Shape, VariantKind, bare, case_for, no_cases, of_option, of_result, payload, scalar, string, variant}
use Rattle.canon_types.proofs.Laid.{told_below}
use Rattle.canon_types.proofs.Plain.{borrow_layout, list_layout, own_layout, scalar_layout, text_layout}
use Rattle.canon_types.specs.Depth.{variant_cases}
use Rattle.canon_types.specs.Instance.{Instance}
use Rattle.canon_types.specs.Table.{IsDefined, KnowsPayload, ResultType, TypeTable, all_shapes, members_of, payload_in, shape_of}
use Rattle.canon_types.specs.declared.resource.ResourceType.{ResourceType}
use Rattle.canon_types.specs.declared.types.InterfaceType.{InterfaceType}
use Rattle.canon_types.specs.declared.types.InterfaceType.TheVariants as ty
use Rattle.canon_typed.specs.Numbers.{IsShapeOfCases, TellsInfo, TellsPayload}
use Rattle.canon_typed.specs.Types.{AreOf, IsTupleOf, IsHandleOf, IsHandleType, IsListOf, IsMapOf, IsOptionOf, IsPayloadOf, IsResultOf}

-- a type without parts
pub plain_abi : (known : InterfaceType) (abi : CanonicalAbiInfo) → ((t : TypeTable) → HasLayout abi (shape_of t known)) → (i : Instance) (type : InterfaceType) → type ≡ known → HasLayout abi (shape_of i.types type)
plain_abi known abi has i type e = subst (λ (x : InterfaceType). HasLayout abi (shape_of i.types x)) (sym e) (has i.types)

pub scalar_abi : (k : Scalar) (abi : CanonicalAbiInfo) → abi.size32 ≡ scalar_size k → abi.align32 ≡ scalar_size k → abi.size64 ≡ scalar_size k → abi.align64 ≡ scalar_size k → abi.flat ≡ Some 1 → HasLayout abi (scalar k)
scalar_abi k abi size align size64 align64 flat = scalar_layout abi (scalar_size k) (record { size32 = size; align32 = align; size64 = size64; align64 = align64; words = flat }) k refl

-- a pointer and a length
pub text_abi : (abi : CanonicalAbiInfo) → abi.size32 ≡ 8 → abi.align32 ≡ 4 → abi.size64 ≡ 16 → abi.align64 ≡ 8 → abi.flat ≡ Some 2 → HasLayout abi string
text_abi abi size align size64 align64 flat = text_layout abi (record { size32 = size; align32 = align; size64 = size64; align64 = align64; words = flat })

pub list_abi : (Fit : Instance → InterfaceType → Type 0) (abi : CanonicalAbiInfo) → HasLayout abi string → (i : Instance) (type : InterfaceType) → IsListOf Fit i type → HasLayout abi (shape_of i.types type)
list_abi Fit abi pair i (ty.List x) (element, d, f) = list_layout abi pair _ _ _ d.shape
list_abi Fit abi pair i _ f = absurd f

pub map_abi : (Key Value : Instance → InterfaceType → Type 0) (abi : CanonicalAbiInfo) → HasLayout abi string → (i : Instance) (type : InterfaceType) → IsMapOf Key Value i type → HasLayout abi (shape_of i.types type)
map_abi Key Value abi pair i (ty.Map x) (key, value, d, f, g) = list_layout abi pair _ _ _ d.shape
map_abi Key Value abi pair i _ f = absurd f

-- a handle
pub handle_abi : (abi : CanonicalAbiInfo) → abi.size32 ≡ 4 → abi.align32 ≡ 4 → abi.size64 ≡ 4 → abi.align64 ≡ 4 → abi.flat ≡ Some 1 → (i : Instance) (type : InterfaceType) → IsHandleType i type → HasLayout abi (shape_of i.types type)
handle_abi abi size align size64 align64 flat i (ty.Own r) f = own_layout abi (record { size32 = size; align32 = align; size64 = size64; align64 = align64; words = flat }) r
handle_abi abi size align size64 align64 flat i (ty.Borrow r) f = borrow_layout abi (record { size32 = size; align32 = align; size64 = size64; align64 = align64; words = flat }) r
handle_abi abi size align size64 align64 flat i _ f = absurd f

pub is_handle : {D : Type 0} (checked : ResourceType → Option D) (i : Instance) (type : InterfaceType) → IsHandleOf checked i type → IsHandleType i type
is_handle checked i (ty.Own r) f = tt
is_handle checked i (ty.Borrow r) f = tt
is_handle checked i _ (kind, d, none, e) = absurd (cc)

-- ---- types of cases

-- the numbers of a type of these cases, and its discriminant's
abbrev pub LiesAsCases : CanonicalAbiInfo → VariantInfo → Shape → Type 0
LiesAsCases abi info s = HasLayout abi s × IsShapeOfCases s × HasInfo info (variant_cases s)

cases_lie : (abi : CanonicalAbiInfo) (info : VariantInfo) (k : VariantKind) (cs : Cases) → HasLayout abi (variant k cs) × HasInfo info cs → LiesAsCases abi info (variant k cs)
cases_lie abi info k cs h = (h.0, tt, h.1)

-- a discriminant is told of a type of cases whose sizes have 32 bits
pub info_told : (abi : CanonicalAbiInfo) (info : VariantInfo) (s : Shape) → LiesAsCases abi info s → TellsInfo (Some info) s
info_told abi info s h = (told_below abi s h.0, h.1, h.2)

pub option_abi : (Fit : Instance → InterfaceType → Type 0) (some abi : CanonicalAbiInfo) (info : VariantInfo) → ((i : Instance) (type : InterfaceType) → Fit i type → HasLayout some (shape_of i.types type))
    → ((k : VariantKind) (cs : Cases) → AreOfCases (None ∷ Some some ∷ []) cs → HasLayout abi (variant k cs) × HasInfo info cs)
    → (i : Instance) (type : InterfaceType) → IsOptionOf Fit i type → LiesAsCases abi info (shape_of i.types type)
option_abi Fit some abi info part lay i (ty.Option x) (type, d, f) =
    subst (λ (s : Shape). LiesAsCases abi info s) (sym d.shape)
    (cases_lie abi info of_option (bare [] (payload [] (shape_of i.types type) no_cases)) (lay of_option (bare [] (payload [] (shape_of i.types type) no_cases)) (part i type f, tt)))
option_abi Fit some abi info part lay i _ f = absurd f

-- a payload's numbers are those of the case that it makes
pub cases_of : (p q : Option CanonicalAbiInfo) (s z : Option Shape) → TellsPayload (Some p) s → TellsPayload (Some q) z → AreOfCases (p ∷ q ∷ []) (case_for s (case_for z no_cases))
cases_of None None None None h g = tt
cases_of None (Some b) None (Some z) h g = (g, tt)
cases_of (Some a) None (Some s) None h g = (h, tt)
cases_of (Some a) (Some b) (Some s) (Some z) h g = (h, (g, tt))
cases_of None q (Some s) z h g = absurd h
cases_of (Some a) q None z h g = absurd h
cases_of p None s (Some z) h g = absurd g
cases_of p (Some b) s None h g = absurd g

pub result_abi : (unit : Bool) (Fit : Instance → InterfaceType → Type 0) (unit2 : Bool) (Fit2 : Instance → InterfaceType → Type 0) (p q : Option CanonicalAbiInfo) (abi : CanonicalAbiInfo) (info : VariantInfo)
    → ((i : Instance) (type : Option InterfaceType) → IsPayloadOf unit Fit i type → TellsPayload (Some p) (payload_in (all_shapes i.types) type))
    → ((i : Instance) (type : Option InterfaceType) → IsPayloadOf unit2 Fit2 i type → TellsPayload (Some q) (payload_in (all_shapes i.types) type))
    → ((k : VariantKind) (cs : Cases) → AreOfCases (p ∷ q ∷ []) cs → HasLayout abi (variant k cs) × HasInfo info cs)
    → (i : Instance) (type : InterfaceType) → IsResultOf unit Fit unit2 Fit2 i type → LiesAsCases abi info (shape_of i.types type)
result_abi unit Fit unit2 Fit2 p q abi info one two lay i (ty.Result x) (ok, error, d, f, g) =
    let s : Option Shape = payload_in (all_shapes i.types) ok in
    let z : Option Shape = payload_in (all_shapes i.types) error in
    subst (λ (s : Shape). LiesAsCases abi info s) (sym d.shape) (cases_lie abi info of_result (case_for s (case_for z no_cases)) (lay of_result (case_for s (case_for z no_cases)) (cases_of p q s z (one i ok f) (two i error g))))
result_abi unit Fit unit2 Fit2 p q abi info one two lay i _ f = absurd f

-- ---- tuples

-- each of the types has its numbers
abbrev pub AreAbis : List (Instance → InterfaceType → Type 0) → List CanonicalAbiInfo → Type 0
AreAbis [] [] = ⊤
AreAbis (Fit ∷ all) (abi ∷ abis) = ((i : Instance) (type : InterfaceType) → Fit i type → HasLayout abi (shape_of i.types type)) × AreAbis all abis
AreAbis _ _ = ⊥

members_abis : (all : List (Instance → InterfaceType → Type 0)) (abis : List CanonicalAbiInfo) → AreAbis all abis → (i : Instance) (types : List InterfaceType) → AreOf all i types → AreOfMembers abis (members_of i.types types)
members_abis [] [] are i [] f = tt
members_abis (Fit ∷ all) (abi ∷ abis) (is, are) i (type ∷ types) (f, fs) = (is i type f, members_abis all abis are i types fs)
members_abis [] [] are i (type ∷ types) f = absurd f
members_abis (Fit ∷ all) (abi ∷ abis) are i [] f = absurd f
members_abis [] (abi ∷ abis) are i types f = absurd are
members_abis (Fit ∷ all) [] are i types f = absurd are

pub tuple_abi : (all : List (Instance → InterfaceType → Type 0)) (abis : List CanonicalAbiInfo) (told : Option CanonicalAbiInfo) → AreAbis all abis
    → ((k : ProductKind) (ms : Members) → AreOfMembers abis ms → TellsLayout told (product k ms)) → (i : Instance) (type : InterfaceType) → IsTupleOf all i type → TellsLayout told (shape_of i.types type)
tuple_abi all abis told are lay i (ty.Tuple x) (types, d, f) =
    subst (λ (s : Shape). TellsLayout told s) (sym d.shape) (lay of_places (members_of i.types types) (members_abis all abis are i types f))
tuple_abi all abis told are lay i _ f = absurd f

-- ---- what a table knows

pub ok_known : (t : TypeTable) (type : InterfaceType) (ok error : Option InterfaceType) → IsDefined t type (ResultType ok error) → KnowsPayload t ok
ok_known t type None error d = tt
ok_known t type (Some part) error d = d.known 0 part (omega arith)

pub error_known : (t : TypeTable) (type : InterfaceType) (ok error : Option InterfaceType) → IsDefined t type (ResultType ok error) → KnowsPayload t error
error_known t type ok None d = tt
error_known t type None (Some part) d = d.known 0 part (omega arith)
error_known t type (Some first) (Some part) d = d.known 1 part (omega arith)
