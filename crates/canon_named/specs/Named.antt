-- Types of these names: records and variants whose parts have types that pass a test, enums and flags.
use Rattle.std.specs.Prelude.{◌≡◌, ◌⊎◌, ⊤, Err, List, Ok, Option, None, Result, Some, ◌∷◌, length}
use Rattle.std.specs.Borrow.{Bor}
use Rattle.std.specs.List.{AllZip, zip}
use Rattle.canon_model.specs.Shape.{Name}
use Rattle.canon_types.specs.Instance.{Instance}
use Rattle.canon_types.specs.Table.{EnumType, FlagsType, IsDefined, RecordType, TypeTable, VariantType}
use Rattle.canon_types.specs.declared.types.InterfaceType.{InterfaceType}
use Rattle.canon_types.specs.declared.types.InterfaceType.TheVariants as ty
use Rattle.canon_named.specs.declared.error.TypecheckFailed.{TypecheckFailed}

-- ---- the types

-- a record of the table whose fields have these names, in this order, and these types
abbrev pub HasFields : List Name → TypeTable → InterfaceType → List InterfaceType → Type 0
HasFields names t (ty.Record i) types = IsDefined t (ty.Record i) (RecordType (zip names types)) × (length names ≡ length types)
HasFields names t _ types = ⊥

-- a variant of the table whose cases have these names, in this order, and these payloads
abbrev pub HasCases : List Name → TypeTable → InterfaceType → List (Option InterfaceType) → Type 0
HasCases names t (ty.Variant i) payloads = IsDefined t (ty.Variant i) (VariantType (zip names payloads)) × (length names ≡ length payloads)
HasCases names t _ payloads = ⊥

-- an enum of the table with these names, in this order, and flags
abbrev pub IsEnumOf : List Name → TypeTable → InterfaceType → Type 0
IsEnumOf names t (ty.Enum i) = IsDefined t (ty.Enum i) (EnumType names)
IsEnumOf names t _ = ⊥

abbrev pub IsFlagsOf : List Name → TypeTable → InterfaceType → Type 0
IsFlagsOf names t (ty.Flags i) = IsDefined t (ty.Flags i) (FlagsType names)
IsFlagsOf names t _ = ⊥

-- ---- what tests of the parts answer

-- what a test answers
abbrev pub TestAnswer : Type 0
TestAnswer = Result (Unit {0}) TypecheckFailed

abbrev pub test_passed : TestAnswer
test_passed = Ok tt

abbrev pub test_failed : TestAnswer
test_failed = Err (record {})

-- R holds of the elements at some place
abbrev pub AnyZip : {A B : Type 0} → (A → B → Type 0) → List A → List B → Type 0
AnyZip R (x ∷ xs) (y ∷ ys) = R x y ⊎ AnyZip R xs ys
AnyZip R _ _ = ⊥

-- what calls of a test may answer, at references to a type and to the types of a component
abbrev pub Calls : Type 0 → Type 1
Calls F = F → Bor InterfaceType → Bor Instance → TestAnswer → Type 0

-- a call of the test at this type may answer so
pub record AnswersTest {F : Type 0} (May : Calls F) (types : Instance) (r : TestAnswer) (test : F) (type : InterfaceType) : Type 0 where
  pub shown : Bor InterfaceType
  pub shows : shown.now ≡ type
  pub beside : Bor Instance
  pub holds : beside.now ≡ types
  pub says : May test shown beside r

-- ---- records

-- a record with these names, whose fields' types passed their tests
abbrev pub PassesRecord : {F : Type 0} → Calls F → Instance → List Name → List F → InterfaceType → Type 0
PassesRecord May types names tests type = (fields : List InterfaceType) × HasFields names types.types type fields × AllZip (AnswersTest May types test_passed) tests fields

-- none with these names, or the type of some field failed its test
abbrev pub FailsRecord : {F : Type 0} → Calls F → Instance → List Name → List F → InterfaceType → Type 0
FailsRecord May types names tests type = (fields : List InterfaceType) → HasFields names types.types type fields → AnyZip (AnswersTest May types test_failed) tests fields

-- ---- variants

-- a payload passes where its test does, and no payload where there is no test
abbrev pub PassesPayload : {F : Type 0} → Calls F → Instance → Option F → Option InterfaceType → Type 0
PassesPayload May types None None = ⊤
PassesPayload May types (Some test) (Some type) = AnswersTest May types test_passed test type
PassesPayload May types _ _ = ⊥

-- it fails where its test does, or where there is one of the two alone
abbrev pub FailsPayload : {F : Type 0} → Calls F → Instance → Option F → Option InterfaceType → Type 0
FailsPayload May types None None = ⊥
FailsPayload May types (Some test) (Some type) = AnswersTest May types test_failed test type
FailsPayload May types _ _ = ⊤

-- a variant with these names, whose payloads passed their tests
abbrev pub PassesVariant : {F : Type 0} → Calls F → Instance → List Name → List (Option F) → InterfaceType → Type 0
PassesVariant May types names tests type = (payloads : List (Option InterfaceType)) × HasCases names types.types type payloads × AllZip (PassesPayload May types) tests payloads

-- none with these names, or some payload failed
abbrev pub FailsVariant : {F : Type 0} → Calls F → Instance → List Name → List (Option F) → InterfaceType → Type 0
FailsVariant May types names tests type = (payloads : List (Option InterfaceType)) → HasCases names types.types type payloads → AnyZip (FailsPayload May types) tests payloads
