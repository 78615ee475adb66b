-- What a look-up gives: members by their numbers, their names and their values, and kinds of types.
use Rattle.std.proofs.Common.{◌≡◌, ◌<◌, ◌+◌, ◌∙◌, List, [], ◌∷◌, add-one, ap, arith, drop, get_or, length, refl, String, string_bytes, suc, sym, zero, ℕ}
use Rattle.std.specs.declared.alloc.Global.{Global}
use Rattle.canon_model.specs.Shape.{Name, member_count}
use Rattle.canon_types.specs.declared.types.InterfaceType.{InterfaceType}
use Rattle.canon_types.specs.Table.{TypeTable, members_of, tuple_members, types_of as tuple_types_of}
use Rattle.canon_val.specs.Value.{member_names, no_names, values_in, names_in}
use Rattle.canon_val.specs.declared.val.Val.{Val}
use Rattle.canon_types.proofs.Measures.{count_members}

-- ---- the fields of a record and the members of a tuple, one after another

-- ---- fields

-- ---- members

-- ---- what a look-up gives

-- as many members as values have their names
pub member_names-members_of : (t : TypeTable) (types : List InterfaceType) (vs : List Val) → length vs ≡ length types → member_names (members_of t types) ≡ no_names vs
member_names-members_of t [] [] e = refl
member_names-members_of t [] (v ∷ vs) e = cc
member_names-members_of t (type ∷ types) [] e = cc
member_names-members_of t (type ∷ types) (v ∷ vs) e = ap (λ (ns : List Name). [] ∷ ns) (member_names-members_of t types vs (omega (arith, e)))

pub count_values : (fields : List (String Global × Val)) → length (values_in fields) ≡ length fields
count_values [] = refl
count_values (f ∷ fields) = ap suc (count_values fields)

pub tuple_names : (t : TypeTable) (j : ℕ) (vs : List Val) → length vs ≡ member_count (tuple_members t j) → no_names vs ≡ member_names (tuple_members t j)
tuple_names t j vs e = sym (member_names-members_of t (tuple_types_of t j) vs (e ∙ count_members t (tuple_types_of t j)))

-- ---- loops that store the fields of a record or the members of a tuple: what is left completes what is done

-- ---- what a look-up gives, where the table is that of the start

-- the names and the values from a number on
names_from : (values : List (String Global × Val)) (i : ℕ) (d x : String Global × Val) → x ≡ get_or values i d → i < length values → drop i (names_in values) ≡ string_bytes x.0 ∷ drop (suc i) (names_in values)
names_from [] i d x e h = absurd (omega (arith, h))
names_from (v ∷ values) zero d x e h = ap (λ (y : String Global × Val). string_bytes y.0 ∷ names_in values) (sym e)
names_from (v ∷ values) (suc i) d x e h = names_from values i d x e (omega (arith, h))

pub names_at : (values : List (String Global × Val)) (i : ℕ) (d x : String Global × Val) → x ≡ get_or values i d → i < length values → drop i (names_in values) ≡ string_bytes x.0 ∷ drop (i + 1) (names_in values)
names_at values i d x e h = names_from values i d x e h ∙ ap (λ n. string_bytes x.0 ∷ drop n (names_in values)) (sym (add-one i))

values_from : (values : List (String Global × Val)) (i : ℕ) (d x : String Global × Val) → x ≡ get_or values i d → i < length values → drop i (values_in values) ≡ x.1 ∷ drop (suc i) (values_in values)
values_from [] i d x e h = absurd (omega (arith, h))
values_from (v ∷ values) zero d x e h = ap (λ (y : String Global × Val). y.1 ∷ values_in values) (sym e)
values_from (v ∷ values) (suc i) d x e h = values_from values i d x e (omega (arith, h))

pub values_at : (values : List (String Global × Val)) (i : ℕ) (d x : String Global × Val) → x ≡ get_or values i d → i < length values → drop i (values_in values) ≡ x.1 ∷ drop (i + 1) (values_in values)
values_at values i d x e h = values_from values i d x e h ∙ ap (λ n. x.1 ∷ drop n (values_in values)) (sym (add-one i))

pub value_count_names : (values : List (String Global × Val)) → length (names_in values) ≡ length values
value_count_names [] = refl
value_count_names (v ∷ values) = ap suc (value_count_names values)

no_names_from : (vs : List Val) (i : ℕ) → i < length vs → drop i (no_names vs) ≡ [] ∷ drop (suc i) (no_names vs)
no_names_from [] i h = absurd (omega (arith, h))
no_names_from (v ∷ vs) zero h = refl
no_names_from (v ∷ vs) (suc i) h = no_names_from vs i (omega (arith, h))

pub no_names_at : (vs : List Val) (i : ℕ) → i < length vs → drop i (no_names vs) ≡ [] ∷ drop (i + 1) (no_names vs)
no_names_at vs i h = no_names_from vs i h ∙ ap (λ n. [] ∷ drop n (no_names vs)) (sym (add-one i))

pub count_no_names : (vs : List Val) → length (no_names vs) ≡ length vs
count_no_names [] = refl
count_no_names (v ∷ vs) = ap suc (count_no_names vs)

-- ---- what a look-up gives, where the table is that of the start

-- ---- the members of a view, one of them
