-- A type with a part that is too large for a size of 32 bits is too large itself. A type is too large where one of its sizes for the two widths is.
use Rattle.std.proofs.Common.{◌≡◌, ◌≤◌, ◌<◌, ◌*◌, ◌^◌, ◌⊎◌, ◌++◌, Bool, List, None, Option, Some, [], ◌∷◌, ap, arith, false, inl, inr, refl, subst, sym, suc, true, ℕ}
use Rattle.canon_abi.specs.Abi.{AreOfCases, TellsLayout, wider_size}
use Rattle.canon_abi.specs.declared.abi.CanonicalAbiInfo.{CanonicalAbiInfo}
use Rattle.canon_abi.specs.declared.abi.VariantInfo.{VariantInfo}
use Rattle.canon_model.proofs.Layouts.{members_fit, payloads_fit}
use Rattle.canon_model.specs.Layout.{member_shape, payload_shape, size}
use Rattle.canon_model.specs.Shape.{Cases, Members, Shape, bare, case_count, case_for, fixed, member_count, no_cases, of_option, of_places, of_result, VariantKind, option_of, payload, product, variant}
use Rattle.canon_types.specs.Instance.{Instance}
use Rattle.canon_types.specs.Table.{all_shapes, members_of, payload_in, shape_of}
use Rattle.canon_types.specs.declared.types.InterfaceType.{InterfaceType}
use Rattle.canon_types.specs.declared.types.InterfaceType.TheVariants as ty
use Rattle.canon_typed.proofs.Layouts.{cases_of}
use Rattle.canon_typed.specs.Numbers.{TellsInfo, TellsPayload}
use Rattle.canon_typed.specs.Types.{AreOf, IsFixedOf, IsOptionOf, IsPayloadOf, IsResultOf, IsTupleOf}

-- each type that fits is too large
abbrev pub AreTooLarge : (Instance → InterfaceType → Type 0) → Type 0
AreTooLarge Fit = (i : Instance) (type : InterfaceType) → Fit i type → 2 ^ 32 ≤ wider_size (shape_of i.types type)

-- so no numbers are told
pub no_abi : (Fit : Instance → InterfaceType → Type 0) (told : Option CanonicalAbiInfo) → told ≡ None → AreTooLarge Fit → (i : Instance) (type : InterfaceType) → Fit i type → TellsLayout told (shape_of i.types type)
no_abi Fit told e large i type f = subst (λ (x : Option CanonicalAbiInfo). TellsLayout x (shape_of i.types type)) (sym e) (large i type f)

pub no_info : (Fit : Instance → InterfaceType → Type 0) (told : Option VariantInfo) → told ≡ None → AreTooLarge Fit → (i : Instance) (type : InterfaceType) → Fit i type → TellsInfo told (shape_of i.types type)
no_info Fit told e large i type f = subst (λ (x : Option VariantInfo). TellsInfo x (shape_of i.types type)) (sym e) (large i type f)

-- what takes no more room for either width than another has no larger size
wider_le : (u s : Shape) → ((wide : Bool) → size wide u ≤ size wide s) → wider_size u ≤ wider_size s
wider_le u s h = omega (arith, h false, h true)

-- each payload takes no more room than the choice
payload_wider : (k : VariantKind) (cs : Cases) (d : ℕ) → d < case_count cs → wider_size (payload_shape cs d) ≤ wider_size (variant k cs)
payload_wider k cs d h = wider_le (payload_shape cs d) (variant k cs) (λ wide. omega (arith, (payloads_fit wide k cs).inside d h))

pub option_too_large : (Fit : Instance → InterfaceType → Type 0) → AreTooLarge Fit → AreTooLarge (IsOptionOf Fit)
option_too_large Fit large i (ty.Option x) (some, d, f) =
    let u : Shape = shape_of i.types some in
    let room : wider_size u ≤ wider_size (option_of u) = payload_wider of_option (bare [] (payload [] u no_cases)) 1 (omega arith) in
    omega (arith, large i some f, room, ap wider_size d.shape)
option_too_large Fit large i _ f = absurd f

-- ---- results

-- a payload that is too large makes its case's type so
payload_too_large : (s z : Option Shape) (u : Shape) → ((s ≡ Some u) ⊎ (z ≡ Some u)) → 2 ^ 32 ≤ wider_size u → 2 ^ 32 ≤ wider_size (variant of_result (case_for s (case_for z no_cases)))
payload_too_large (Some s) z u (inl e) h =
    let same : s ≡ u = cc in
    let room : wider_size s ≤ wider_size (variant of_result (payload [] s (case_for z no_cases))) = payload_wider of_result (payload [] s (case_for z no_cases)) 0 (omega arith) in
    omega (arith, h, room, ap wider_size same)
payload_too_large None z u (inl e) h = absurd (cc)
payload_too_large None (Some z) u (inr e) h =
    let same : z ≡ u = cc in
    let room : wider_size z ≤ wider_size (variant of_result (bare [] (payload [] z no_cases))) = payload_wider of_result (bare [] (payload [] z no_cases)) 1 (omega arith) in
    omega (arith, h, room, ap wider_size same)
payload_too_large (Some s) (Some z) u (inr e) h =
    let same : z ≡ u = cc in
    let room : wider_size z ≤ wider_size (variant of_result (payload [] s (payload [] z no_cases))) = payload_wider of_result (payload [] s (payload [] z no_cases)) 1 (omega arith) in
    omega (arith, h, room, ap wider_size same)
payload_too_large s None u (inr e) h = absurd (cc)

-- a payload without numbers
abbrev pub HaveNoNumbers : Bool → (Instance → InterfaceType → Type 0) → Type 0
HaveNoNumbers unit Fit = (i : Instance) (type : Option InterfaceType) → IsPayloadOf unit Fit i type → TellsPayload None (payload_in (all_shapes i.types) type)

pub ok_too_large : (unit : Bool) (Fit : Instance → InterfaceType → Type 0) (unit2 : Bool) (Fit2 : Instance → InterfaceType → Type 0) → HaveNoNumbers unit Fit → AreTooLarge (IsResultOf unit Fit unit2 Fit2)
ok_too_large unit Fit unit2 Fit2 none i (ty.Result x) (Some type, error, d, f, g) =
    let z : Option Shape = payload_in (all_shapes i.types) error in
    omega (arith, payload_too_large (Some (shape_of i.types type)) z (shape_of i.types type) (inl refl) (none i (Some type) f), ap wider_size d.shape)
ok_too_large unit Fit unit2 Fit2 none i (ty.Result x) (None, error, d, f, g) = absurd (none i None f)
ok_too_large unit Fit unit2 Fit2 none i _ f = absurd f

pub error_too_large : (unit : Bool) (Fit : Instance → InterfaceType → Type 0) (unit2 : Bool) (Fit2 : Instance → InterfaceType → Type 0) → HaveNoNumbers unit2 Fit2 → AreTooLarge (IsResultOf unit Fit unit2 Fit2)
error_too_large unit Fit unit2 Fit2 none i (ty.Result x) (ok, Some type, d, f, g) =
    let s : Option Shape = payload_in (all_shapes i.types) ok in
    omega (arith, payload_too_large s (Some (shape_of i.types type)) (shape_of i.types type) (inr refl) (none i (Some type) g), ap wider_size d.shape)
error_too_large unit Fit unit2 Fit2 none i (ty.Result x) (ok, None, d, f, g) = absurd (none i None g)
error_too_large unit Fit unit2 Fit2 none i _ f = absurd f

-- or the type of both cases is too large itself
pub result_too_large : (unit : Bool) (Fit : Instance → InterfaceType → Type 0) (unit2 : Bool) (Fit2 : Instance → InterfaceType → Type 0) (p q : Option CanonicalAbiInfo)
    → ((i : Instance) (type : Option InterfaceType) → IsPayloadOf unit Fit i type → TellsPayload (Some p) (payload_in (all_shapes i.types) type))
    → ((i : Instance) (type : Option InterfaceType) → IsPayloadOf unit2 Fit2 i type → TellsPayload (Some q) (payload_in (all_shapes i.types) type))
    → ((k : VariantKind) (cs : Cases) → AreOfCases (p ∷ q ∷ []) cs → 2 ^ 32 ≤ wider_size (variant k cs)) → AreTooLarge (IsResultOf unit Fit unit2 Fit2)
result_too_large unit Fit unit2 Fit2 p q one two large i (ty.Result x) (ok, error, d, f, g) =
    let s : Option Shape = payload_in (all_shapes i.types) ok in
    let z : Option Shape = payload_in (all_shapes i.types) error in
    omega (arith, large of_result (case_for s (case_for z no_cases)) (cases_of p q s z (one i ok f) (two i error g)), ap wider_size d.shape)
result_too_large unit Fit unit2 Fit2 p q one two large i _ f = absurd f

-- ---- tuples and lists of fixed length

-- one of the members, at some place, is too large
has_large : (front back : List (Instance → InterfaceType → Type 0)) (Fit : Instance → InterfaceType → Type 0) → AreTooLarge Fit → (i : Instance) (types : List InterfaceType) → AreOf (front ++ Fit ∷ back) i types
    → (k : ℕ) × (k < member_count (members_of i.types types)) × (2 ^ 32 ≤ wider_size (member_shape (members_of i.types types) k))
has_large [] back Fit large i (type ∷ types) (f, fs) = (0, omega arith, large i type f)
has_large [] back Fit large i [] f = absurd f
has_large (G ∷ front) back Fit large i (type ∷ types) (f, fs) =
    let more = has_large front back Fit large i types fs in
    (suc more.0, omega (arith, more.1), more.2)
has_large (G ∷ front) back Fit large i [] f = absurd f

-- each member takes no more room than the row
member_wider : (ms : Members) (d : ℕ) → d < member_count ms → wider_size (member_shape ms d) ≤ wider_size (product of_places ms)
member_wider ms d h = wider_le (member_shape ms d) (product of_places ms) (λ wide. omega (arith, (members_fit wide of_places ms).inside d h))

pub member_too_large : (front back : List (Instance → InterfaceType → Type 0)) (Fit : Instance → InterfaceType → Type 0) → AreTooLarge Fit → AreTooLarge (IsTupleOf (front ++ Fit ∷ back))
member_too_large front back Fit large i (ty.Tuple x) (types, d, f) =
    let one = has_large front back Fit large i types f in
    omega (arith, one.2, member_wider (members_of i.types types) one.0 one.1, ap wider_size d.shape)
member_too_large front back Fit large i _ f = absurd f

fixed_room : (n z : ℕ) → 1 ≤ n → z ≤ n * z
fixed_room n z h = grind arith

-- an element takes no more room than a list that isn't empty
element_wider : (n : ℕ) (u : Shape) → 1 ≤ n → wider_size u ≤ wider_size (fixed n u)
unfolding size
element_wider n u some = wider_le u (fixed n u) (λ wide. fixed_room n (size wide u) some)

pub fixed_too_large : (n : ℕ) (Fit : Instance → InterfaceType → Type 0) → AreTooLarge Fit → AreTooLarge (IsFixedOf n Fit)
fixed_too_large n Fit large i (ty.FixedLengthList x) (some, (element, d, f)) =
    omega (arith, large i element f, element_wider n (shape_of i.types element) some, ap wider_size d.shape)
fixed_too_large n Fit large i _ f = absurd f
