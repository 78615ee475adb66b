-- There are values of a definition where there are of its parts, which are less deep.
use Rattle.std.proofs.Common.{◌≡◌, ◌≤◌, ◌<◌, ◌||◌, ◌∙◌, All, Bool, List, None, Option, Some, String, [], ◌∷◌, ap, arith, false, filter_map, map, refl, subst, sym, true}
use Rattle.std.specs.Prelude.{⊤}
use Rattle.canon_model.specs.Shape.{Name, Shape, bare_cases}
use Rattle.canon_types.proofs.Made.{case_parts, result_parts}
use Rattle.canon_types.proofs.Measures.{depth_defined}
use Rattle.canon_types.specs.Depth.{deepest, depth}
use Rattle.canon_types.specs.Keeps.{cases_type, enum_type}
use Rattle.canon_types.specs.declared.types.TypeEnum.{TypeEnum}
use Rattle.canon_types.specs.declared.types.InterfaceType.{InterfaceType}
use Rattle.canon_types.specs.Table.{Definition, EnumType, FixedListType, FlagsType, IsDefined, Knows, ListType, MapType, OptionType, RecordType, ResultType, TupleType, TypeTable, VariantType, all_shapes, cases_in, defined_shape, fields_in, members_in, members_of, parts, shape_in, shape_of}
use Rattle.canon_context.specs.Quiet.{cases_have_block, has_block, have_block}

block-fields : (known : List Shape) (fs : List (Name × InterfaceType)) → have_block (fields_in known fs) ≡ have_block (members_in known (map (λ f. f.1) fs))
block-fields known [] = refl
block-fields known (f ∷ fs) = ap (λ (b : Bool). has_block (shape_in known f.1) || b) (block-fields known fs)

block-cases : (known : List Shape) (cs : List (Name × Option InterfaceType)) → cases_have_block (cases_in known cs) ≡ have_block (members_in known (filter_map (λ c. c.1) cs))
block-cases known [] = refl
block-cases known ((name, None) ∷ cs) = block-cases known cs
block-cases known ((name, Some t) ∷ cs) = ap (λ (b : Bool). has_block (shape_in known t) || b) (block-cases known cs)

block-names : (names : List Name) → cases_have_block (bare_cases names) ≡ false
block-names [] = refl
block-names (n ∷ ns) = block-names ns

or_false : (b : Bool) → b ≡ (b || false)
or_false true = refl
or_false false = refl

-- it is no list and no map
abbrev IsPlain : Definition → Type 0
IsPlain (ListType element) = ⊥
IsPlain (MapType key value) = ⊥
IsPlain _ = ⊤

pub block_defined : (known : List Shape) (d : Definition) → IsPlain d → has_block (defined_shape known d) ≡ have_block (members_in known (parts d))
block_defined known (ListType e) p = absurd p
block_defined known (MapType k v) p = absurd p
block_defined known (RecordType fs) p = block-fields known fs
block_defined known (TupleType ts) p = refl
block_defined known (VariantType cs) p = block-cases known cs
block_defined known (EnumType ns) p = block-names ns
block_defined known (OptionType t) p = refl
block_defined known (ResultType None None) p = refl
block_defined known (ResultType (Some a) None) p = refl
block_defined known (ResultType None (Some b)) p = refl
block_defined known (ResultType (Some a) (Some b)) p = refl
block_defined known (FlagsType ns) p = refl
block_defined known (FixedListType e n) p = or_false _

-- ---- what a look-up gives

-- a type of a definition and the types it names, of which there are values where there are of the type
pub record HasPartBlocks (t : TypeTable) (type : InterfaceType) (types : List InterfaceType) : Type 0 where
  pub falls : deepest (members_of t types) < depth (shape_of t type)
  pub known : All (Knows t) types
  pub block : have_block (members_of t types) ≡ has_block (shape_of t type)

has_parts : (t : TypeTable) (type : InterfaceType) (d : Definition) → IsPlain d → IsDefined t type d → HasPartBlocks t type (parts d)
has_parts t type d p h = record {
  falls = omega (arith, ap depth h.shape, depth_defined (all_shapes t) d);
  known = h.known;
  block = sym (ap has_block h.shape ∙ block_defined (all_shapes t) d p);
}

-- the payloads of a variant
pub recorded_case_payloads : {Z : Type 0} (t : TypeTable) (type : InterfaceType) (cases : List (String Z × Option InterfaceType)) (ps : List (Option InterfaceType)) → ps ≡ map (λ c. c.1) cases → IsDefined t type (cases_type cases)
    → HasPartBlocks t type (filter_map (λ p. p) ps)
recorded_case_payloads t type cases ps e h =
    let same : parts (cases_type cases) ≡ filter_map (λ p. p) ps = sym (case_parts cases) ∙ ap (λ (xs : List (Option InterfaceType)). filter_map (λ p. p) xs) (sym e) in
    subst (HasPartBlocks t type) same (has_parts t type (cases_type cases) tt h)

pub recorded_result_payloads : (t : TypeTable) (type : InterfaceType) (ok err : Option InterfaceType) → IsDefined t type (ResultType ok err) → HasPartBlocks t type (filter_map (λ p. p) (ok ∷ err ∷ []))
recorded_result_payloads t type ok err h = subst (HasPartBlocks t type) (sym (result_parts ok err)) (has_parts t type (ResultType ok err) tt h)

pub enum_block : (t : TypeTable) (type : InterfaceType) (e : TypeEnum) → IsDefined t type (enum_type e) → false ≡ has_block (shape_of t type)
enum_block t type e h = (has_parts t type (enum_type e) tt h).block
