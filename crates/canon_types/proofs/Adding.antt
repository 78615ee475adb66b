-- What adding an accepted definition gives.
use Rattle.std.proofs.Common.{lit<, ◌+◌, ◌≡◌, ℕ, ◌<◌, ◌≤◌, ◌^◌, Bool, true, false, not, ◌&&◌, if◌then◌else◌, Option, Some, None, List, [], ◌∷◌, ◌++◌, length, get_or, slice_get, All, IsTrue, refl, sym, ap, ◌∙◌, subst, arith}
use Rattle.std.specs.List.{list_all}
use Rattle.std.specs.Option.{option_map_or}
use Rattle.canon_types.specs.declared.error.TypeError.{TypeError}
use Rattle.canon_types.specs.declared.error.TypeError.TheVariants as error
use Rattle.std.proofs.lemmas.List.{get_or_push}
use Rattle.std.proofs.lemmas.List.Elements.{All-nil, All-cons}
use Rattle.canon_types.specs.declared.types.InterfaceType.{InterfaceType}
use Rattle.canon_model.specs.Layout.{size}
use Rattle.canon_abi.specs.Abi.{wider_size}
use Rattle.canon_model.specs.Shape.{ListKind, Shape, list}
use Rattle.canon_types.specs.Depth.{deepest, depth}
use Rattle.std.proofs.lemmas.Bool.Decides.{nat_tests}
use Rattle.canon_types.specs.Table.{Definition, Knows, TypeTable, all_shapes, defined_shape, definition_at, has, knows, members_of, no_shape, parts, place, plain_shape, shape_of}
use Rattle.canon_types.specs.Measured.{FitsWithRoom}
use Rattle.canon_types.specs.Refusal.{Adds, first_error, is_empty, is_full_for, laid_shape, most_names, names, names_refusal, or_else, parts_refusal, refusal, shape_refusal, with_definition}
use Rattle.canon_types.proofs.Measures.{depth_defined}
use Rattle.canon_types.proofs.Growth.{all_shapes-with, length-all_shapes, defined_shape-with, shape_of-with, knows-with}

and_true : (a b : Bool) → (a && b) ≡ true → (a ≡ true) × (b ≡ true)
and_true true b h = (refl, h)
and_true false b h = cc

all_from_list_all : (test : InterfaceType → Bool) (types : List InterfaceType) → list_all test types ≡ true → All (λ type. IsTrue (test type)) types
all_from_list_all test [] h = All-nil (λ type. IsTrue (test type))
all_from_list_all test (t ∷ ts) h =
    let both = and_true (test t) (list_all test ts) h in
    All-cons (λ type. IsTrue (test type)) t ts both.0 (all_from_list_all test ts both.1)

-- a refusal goes by its three parts
pub refusal_parts : (t : TypeTable) (d : Definition) → refusal t d ≡ or_else (parts_refusal t (parts d) (is_empty d))
    (or_else (names_refusal (names d) (most_names d)) (shape_refusal t (depth (defined_shape (all_shapes t) d)) (wider_size (laid_shape (all_shapes t) d))))
refusal_parts t d = refl

pub refused_at_parts : (t : TypeTable) (d : Definition) (e : TypeError) → parts_refusal t (parts d) (is_empty d) ≡ Some e → refusal t d ≡ Some e
refused_at_parts t d e h = refusal_parts t d ∙ ap (λ (o : Option TypeError). or_else o (or_else (names_refusal (names d) (most_names d)) (shape_refusal t (depth (defined_shape (all_shapes t) d)) (wider_size (laid_shape (all_shapes t) d))))) h

pub refused_at_names : (t : TypeTable) (d : Definition) (o : Option TypeError) → parts_refusal t (parts d) (is_empty d) ≡ None → names_refusal (names d) (most_names d) ≡ o
    → refusal t d ≡ or_else o (shape_refusal t (depth (defined_shape (all_shapes t) d)) (wider_size (laid_shape (all_shapes t) d)))
refused_at_names t d o parts_pass h =
    refusal_parts t d
    ∙ ap (λ (x : Option TypeError). or_else x (or_else (names_refusal (names d) (most_names d)) (shape_refusal t (depth (defined_shape (all_shapes t) d)) (wider_size (laid_shape (all_shapes t) d))))) parts_pass
    ∙ ap (λ (x : Option TypeError). or_else x (shape_refusal t (depth (defined_shape (all_shapes t) d)) (wider_size (laid_shape (all_shapes t) d)))) h

-- past the parts and the names, the shape decides
pub refused_at_shape : (t : TypeTable) (d : Definition) → parts_refusal t (parts d) (is_empty d) ≡ None → names_refusal (names d) (most_names d) ≡ None
    → refusal t d ≡ shape_refusal t (depth (defined_shape (all_shapes t) d)) (wider_size (laid_shape (all_shapes t) d))
refused_at_shape t d parts_pass names_pass = refused_at_names t d None parts_pass names_pass

accepted_passes : (t : TypeTable) (d : Definition) → refusal t d ≡ None → parts_refusal t (parts d) (is_empty d) ≡ None
accepted_passes t d h = go (parts_refusal t (parts d) (is_empty d)) refl
  where
    go : (o : Option TypeError) → parts_refusal t (parts d) (is_empty d) ≡ o → parts_refusal t (parts d) (is_empty d) ≡ None
    go None e = e
    go (Some x) e = let refused = refused_at_parts t d x e in cc

passes_known : (known : Bool) (later : Option TypeError) → (if not known then Some error.UnknownIndex else later) ≡ None → known ≡ true
passes_known true later h = refl
passes_known false later h = cc

pub passed_parts : (t : TypeTable) (types : List InterfaceType) (empty : Bool) → parts_refusal t types empty ≡ None → All (Knows t) types
passed_parts t types empty h = all_from_list_all (knows t) types (passes_known (list_all (knows t) types) _ h)

-- the parts of an accepted definition are known
accepted_parts : (t : TypeTable) (d : Definition) → refusal t d ≡ None → All (Knows t) (parts d)
accepted_parts t d h = passed_parts t (parts d) (is_empty d) (accepted_passes t d h)

-- ---- the stages, one by one

pub refused_by_parts : (t : TypeTable) (d : Definition) (types : List InterfaceType) (empty : Bool) (e : TypeError) → types ≡ parts d → empty ≡ is_empty d → Some e ≡ parts_refusal t types empty → refusal t d ≡ Some e
refused_by_parts t d types empty e same_types same_empty h =
    refused_at_parts t d e (sym (h ∙ ap (λ (ts : List InterfaceType). parts_refusal t ts empty) same_types ∙ ap (parts_refusal t (parts d)) same_empty))

-- parts and names are as they should be
pub record Passes (t : TypeTable) (d : Definition) : Type 0 where
  pub parts_pass : parts_refusal t (parts d) (is_empty d) ≡ None
  pub names_pass : names_refusal (names d) (most_names d) ≡ None

pub passes_by : (t : TypeTable) (d : Definition) (types : List InterfaceType) (empty : Bool) → types ≡ parts d → empty ≡ is_empty d → None ≡ parts_refusal t types empty → names_refusal (names d) (most_names d) ≡ None → Passes t d
passes_by t d types empty same_types same_empty h names_pass = record {
  parts_pass = sym (h ∙ ap (λ (ts : List InterfaceType). parts_refusal t ts empty) same_types ∙ ap (parts_refusal t (parts d)) same_empty);
  names_pass = names_pass;
}

shape_deep : (t : TypeTable) (deep bytes : ℕ) → 100 < deep → shape_refusal t deep bytes ≡ Some error.TooDeep
shape_deep t deep bytes h = grind (arith, nat_tests)

shape_large : (t : TypeTable) (deep bytes : ℕ) → deep ≤ 100 → 2 ^ 32 ≤ bytes → shape_refusal t deep bytes ≡ Some error.SizeTooLarge
shape_large t deep bytes h k = grind (arith, nat_tests)

pub refused_deep : (t : TypeTable) (d : Definition) → Passes t d → 100 < depth (defined_shape (all_shapes t) d) → refusal t d ≡ Some error.TooDeep
refused_deep t d p h = refused_at_shape t d p.parts_pass p.names_pass ∙ shape_deep t _ (wider_size (laid_shape (all_shapes t) d)) h

pub refused_large : (t : TypeTable) (d : Definition) → Passes t d → depth (defined_shape (all_shapes t) d) ≤ 100 → 2 ^ 32 ≤ wider_size (laid_shape (all_shapes t) d) → refusal t d ≡ Some error.SizeTooLarge
refused_large t d p h k = refused_at_shape t d p.parts_pass p.names_pass ∙ shape_large t _ _ h k

-- parts, names and depth are as they should be
pub record Before (t : TypeTable) (d : Definition) : Type 0 where
  pub passes : Passes t d
  pub shallow : depth (defined_shape (all_shapes t) d) ≤ 100

pub before : (t : TypeTable) (d : Definition) (types measured : List InterfaceType) (empty : Bool) (m : ℕ) → types ≡ parts d → measured ≡ parts d → empty ≡ is_empty d
    → None ≡ parts_refusal t types empty → names_refusal (names d) (most_names d) ≡ None
    → m ≡ 1 + deepest (members_of t measured) → m ≤ 100 → Before t d
before t d types measured empty m same_types same_measured same_empty h names_pass deep few = record {
  passes = passes_by t d types empty same_types same_empty h names_pass;
  shallow = omega (arith, depth_defined (all_shapes t) d, deep, ap (λ (ts : List InterfaceType). deepest (members_of t ts)) same_measured);
}

pub deep_refused : (t : TypeTable) (d : Definition) (types measured : List InterfaceType) (empty : Bool) → types ≡ parts d → measured ≡ parts d → empty ≡ is_empty d
    → None ≡ parts_refusal t types empty → names_refusal (names d) (most_names d) ≡ None
    → 100 < 1 + deepest (members_of t measured) → refusal t d ≡ Some error.TooDeep
deep_refused t d types measured empty same_types same_measured same_empty h names_pass deep =
    refused_deep t d (passes_by t d types empty same_types same_empty h names_pass)
    (omega (arith, depth_defined (all_shapes t) d, deep, ap (λ (ts : List InterfaceType). deepest (members_of t ts)) same_measured))

pub large_refused : (t : TypeTable) (d : Definition) → Before t d → 2 ^ 32 ≤ wider_size (laid_shape (all_shapes t) d) → refusal t d ≡ Some error.SizeTooLarge
large_refused t d b h = refused_large t d b.passes b.shallow h

shape_room : (t : TypeTable) (deep bytes : ℕ) → deep ≤ 100 → bytes < 2 ^ 32 → shape_refusal t deep bytes ≡ first_error ((is_full_for 1 t, error.TooManyTypes) ∷ [])
shape_room t deep bytes h k = grind (arith, nat_tests)

pub fits_with_room : (t : TypeTable) (d : Definition) → Before t d → wider_size (laid_shape (all_shapes t) d) < 2 ^ 32 → FitsWithRoom t d
fits_with_room t d b h = refused_at_shape t d b.passes.parts_pass b.passes.names_pass ∙ shape_room t _ _ b.shallow h

pub list_small : (k : ListKind) (s : Shape) → wider_size (list k s) < 2 ^ 32
unfolding size
list_small k s = lit< tt

slice_get-last : (ds : List Definition) (d : Definition) → slice_get (ds ++ d ∷ []) (length ds) ≡ Some d
slice_get-last [] d = refl
slice_get-last (x ∷ xs) d = slice_get-last xs d

-- the new definition is at its place
pub has_new : (test : Definition → Bool) (t : TypeTable) (d : Definition) (n : ℕ) → n ≡ length t.definitions → test d ≡ true → has test (with_definition t d) n ≡ true
has_new test t d n at h = grind (arith, slice_get-last t.definitions d)

new_definition : (t : TypeTable) (d : Definition) (type : InterfaceType) → place type ≡ Some (length t.definitions) → definition_at (with_definition t d) type ≡ Some d
new_definition t d type e =
    ap (λ (o : Option ℕ). option_map_or (slice_get (with_definition t d).definitions) o None) e ∙ slice_get-last t.definitions d

pub new_shape : (t : TypeTable) (d : Definition) (type : InterfaceType) → place type ≡ Some (length t.definitions) → shape_of (with_definition t d) type ≡ defined_shape (all_shapes t) d
new_shape t d type e =
    ap (λ (o : Option ℕ). option_map_or (λ i. get_or (all_shapes (with_definition t d)) i no_shape) o (plain_shape type)) e
    ∙ ap (λ (known : List Shape). get_or known (length t.definitions) no_shape) (all_shapes-with t d)
    ∙ get_or_push (all_shapes t) (defined_shape (all_shapes t) d) no_shape (length t.definitions) (length-all_shapes t)

pub adds : (t : TypeTable) (d : Definition) (type : InterfaceType) (new : TypeTable) → refusal t d ≡ None → new ≡ with_definition t d → place type ≡ Some (length t.definitions) → Knows (with_definition t d) type → Adds t d type new
adds t d type new accepted grown at known =
    let parts_known = accepted_parts t d accepted in
    let added : Adds t d type (with_definition t d) = record {
      accepted = accepted;
      table = refl;
      place = at;
      known = known;
      defined = record {
        definition = new_definition t d type at;
        shape = new_shape t d type at ∙ sym (defined_shape-with t d d parts_known);
        known = λ k x lt. knows-with t d _ (parts_known k x lt);
      };
      others_known = λ x h. knows-with t d x h;
      others = λ x h. shape_of-with t d x h;
    } in
    subst (λ (x : TypeTable). Adds t d type x) (sym grown) added
