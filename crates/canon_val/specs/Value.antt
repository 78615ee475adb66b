-- Values and their trees (canon_model: what memory and words represent).
use Rattle.std.specs.Prelude.{◌≡◌, ℕ, ℤ, ◌+◌, ◌-◌, ◌<◌, ◌↔◌, All, Any, Bool, Box, Err, IsTrue, List, None, Ok, Option, Result, Some, String, Vec, [], ◌∷◌, false, length, map, pos, slice_get, string_bytes, suc, true, zero}
use Rattle.std.specs.declared.alloc.Global.{Global}
use Rattle.canon_lowering.specs.Copies.{case_tree}
use Rattle.canon_model.specs.Shape.{Cases, Members, Name, ProductKind, Scalar, Shape, VariantKind, bare, borrow, case_count, fixed, flags, list, member, member_count}
use Rattle.canon_model.specs.Shape.{no_cases, no_members, of_cases, of_fields, of_items, of_names, of_option, of_pairs, of_places, of_result, own, payload, product, scalar, string, variant}
use Rattle.canon_model.specs.Shape as shape
use Rattle.canon_model.specs.Text.{Spells, in_utf8}
use Rattle.canon_model.specs.Tree.{Tree, Trees, bits, code_point, handle, items, no_trees, number, parts, text, tree, truth}
use Rattle.canon_resources.specs.Held.{Any as AnyResource}
use Rattle.canon_val.specs.declared.val.Val.{Val, fold-Val}
use Rattle.canon_val.specs.declared.val.Val.TheOpen.{Val-F}
use Rattle.canon_val.specs.declared.val.Val.TheVariants as val

-- the value is of the scalar type and has this tree
abbrev pub HasScalar : Scalar → Val → Tree → Type 0
HasScalar shape.bool v t = (b : Bool) × (v ≡ val.Bool b) × (t ≡ truth b)
HasScalar shape.s8 v t = (z : ℤ) × (v ≡ val.S8 z) × (t ≡ number z)
HasScalar shape.u8 v t = (n : ℕ) × (v ≡ val.U8 n) × (t ≡ number (pos n))
HasScalar shape.s16 v t = (z : ℤ) × (v ≡ val.S16 z) × (t ≡ number z)
HasScalar shape.u16 v t = (n : ℕ) × (v ≡ val.U16 n) × (t ≡ number (pos n))
HasScalar shape.s32 v t = (z : ℤ) × (v ≡ val.S32 z) × (t ≡ number z)
HasScalar shape.u32 v t = (n : ℕ) × (v ≡ val.U32 n) × (t ≡ number (pos n))
HasScalar shape.s64 v t = (z : ℤ) × (v ≡ val.S64 z) × (t ≡ number z)
HasScalar shape.u64 v t = (n : ℕ) × (v ≡ val.U64 n) × (t ≡ number (pos n))
HasScalar shape.f32 v t = (n : ℕ) × (v ≡ val.Float32 n) × (t ≡ number (pos n))
HasScalar shape.f64 v t = (n : ℕ) × (v ≡ val.Float64 n) × (t ≡ number (pos n))
HasScalar shape.char v t = (n : ℕ) × (v ≡ val.Char n) × (t ≡ code_point n)

-- the names and the values of fields
abbrev pub names_in : List (String Global × Val) → List Name
names_in fields = map (λ f. string_bytes f.0) fields

abbrev pub values_in : List (String Global × Val) → List Val
values_in fields = map (λ f. f.1) fields

-- as many empty names as values
abbrev pub no_names : List Val → List Name
no_names vs = map (λ v. []) vs

abbrev pub member_names : Members → List Name
member_names no_members = []
member_names (member name s ms) = name ∷ member_names ms

-- the value is a record of these names and members, or a tuple, whose names are empty
abbrev pub IsProduct : ProductKind → List Name → List Val → Val → Type 0
IsProduct of_fields names vs v = (fields : Vec (String Global × Val) Global) × (v ≡ val.Record fields) × (names ≡ names_in fields.items) × (vs ≡ values_in fields.items)
IsProduct of_places names vs v = (members : Vec Val Global) × (v ≡ val.Tuple members) × (names ≡ no_names members.items) × (vs ≡ members.items)

-- the value is a text of these scalar values
abbrev pub IsTextValue : List ℕ → Val → Type 0
IsTextValue cs v = (s : String Global) × (v ≡ val.String s) × Spells in_utf8 (string_bytes s) cs

-- it is a list of these items, and a list of fixed length
abbrev pub IsItems : List Val → Val → Type 0
IsItems vs v = (members : Vec Val Global) × (v ≡ val.List members) × (vs ≡ members.items)

abbrev pub IsFixedListValue : List Val → Val → Type 0
IsFixedListValue vs v = (members : Vec Val Global) × (v ≡ val.FixedLengthList members) × (vs ≡ members.items)

-- it is a map of these keys and values
abbrev pub IsPairs : List (Val × Val) → Val → Type 0
IsPairs pairs v = (entries : Vec (Val × Val) Global) × (v ≡ val.Map entries) × (pairs ≡ entries.items)

-- what a map's elements are: products of a key and a value
abbrev pub IsPairShape : Shape → Type 0
IsPairShape (product k ms) = member_count ms ≡ 2
IsPairShape _ = ⊥

-- Each value has its tree, in the same order.
abbrev pub EachHas : {A : Type 0} → (A → Tree → Type 0) → List A → Trees → Type 0
EachHas Has [] ts = ts ≡ no_trees
EachHas Has (v ∷ vs) ts = (t : Tree) × (rest : Trees) × (ts ≡ tree t rest) × Has v t × EachHas Has vs rest

-- ---- cases

abbrev pub case_names : Cases → List Name
case_names no_cases = []
case_names (bare name cs) = name ∷ case_names cs
case_names (payload name s cs) = name ∷ case_names cs

-- the name stands at place i of these, and at none before
abbrev pub IsFirst : Name → List Name → ℕ → Type 0
IsFirst name names i = (slice_get names i ≡ Some name) × ((j : ℕ) → j < i → ¬ (slice_get names j ≡ Some name))

-- a payload, as no value or one
abbrev pub unboxed : Option (Box Val Global) → List Val
unboxed None = []
unboxed (Some b) = b.value ∷ []

-- the case of a result, ok or error, and its payload
abbrev pub result_case : Result (Option (Box Val Global)) (Option (Box Val Global)) → ℕ
result_case (Ok p) = 0
result_case (Err p) = 1

abbrev pub result_payload : Result (Option (Box Val Global)) (Option (Box Val Global)) → List Val
result_payload (Ok p) = unboxed p
result_payload (Err p) = unboxed p

-- The value is case d of these, with this payload, no value or one. A variant and an enum name the case; an
-- option's are none and some.
abbrev pub IsCase : VariantKind → Cases → ℕ → List Val → Val → Type 0
IsCase of_cases cs d vs v = (name : String Global) × (p : Option (Box Val Global)) × (v ≡ val.Variant name p) × (vs ≡ unboxed p) × IsFirst (string_bytes name) (case_names cs) d
IsCase of_names cs d vs v = (name : String Global) × (v ≡ val.Enum name) × (vs ≡ []) × IsFirst (string_bytes name) (case_names cs) d
IsCase of_option cs d vs v = (p : Option (Box Val Global)) × (v ≡ val.Option p) × (vs ≡ unboxed p) × (d ≡ length vs) × (d < case_count cs)
IsCase of_result cs d vs v = (r : Result (Option (Box Val Global)) (Option (Box Val Global))) × (v ≡ val.Result r) × (vs ≡ result_payload r) × (d ≡ result_case r) × (d < case_count cs)

-- ---- flags

-- the value is flags of which these are set
abbrev pub IsFlags : List Name → Val → Type 0
IsFlags set v = (names : Vec (String Global) Global) × (v ≡ val.Flags names) × (set ≡ map (λ s. string_bytes s) names.items)

abbrev pub Occurs : Name → List Name → Type 0
Occurs name names = Any (λ n. n ≡ name) names

-- for each name, whether it is set
abbrev pub AreMarked : List Name → List Name → List Bool → Type 0
AreMarked set [] bs = bs ≡ []
AreMarked set (name ∷ names) bs = (b : Bool) × (rest : List Bool) × (bs ≡ b ∷ rest) × (IsTrue b ↔ Occurs name set) × AreMarked set names rest

-- the names whose bits are set, in the order of these
abbrev pub chosen : List Name → List Bool → List Name
chosen [] bs = []
chosen (name ∷ names) [] = []
chosen (name ∷ names) (true ∷ bs) = name ∷ chosen names bs
chosen (name ∷ names) (false ∷ bs) = chosen names bs

-- ---- trees

module _ (lifted : Bool) where
  abbrev mutual
    -- The value is of the type and has this tree; a record's names are the type's. Flags are named in any order, with repeats,
    -- but where the value was lifted: then in the type's order, each once. How many bytes spell a text is left out, and so is which
    -- handle stands for a resource: the ledger says which.
    pub HasTreeAs : Shape → Val → Tree → Type 0
    HasTreeAs (scalar k) v t = HasScalar k v t
    HasTreeAs string v t = (cs : List ℕ) × (n : ℕ) × IsTextValue cs v × (t ≡ text cs n)
    HasTreeAs (own r) v t = (x : AnyResource) × (h : ℕ) × (v ≡ val.Resource x) × (t ≡ handle h)
    HasTreeAs (borrow r) v t = (x : AnyResource) × (h : ℕ) × (v ≡ val.Resource x) × (t ≡ handle h)
    HasTreeAs (list of_items s) v t = (vs : List Val) × (ts : Trees) × IsItems vs v × (t ≡ items ts) × EachHas (λ w u. HasTreeAs s w u) vs ts
    HasTreeAs (list of_pairs s) v t = IsPairShape s × ((pairs : List (Val × Val)) × (ts : Trees) × IsPairs pairs v × (t ≡ items ts) × EachHas (λ p u. PairHas s p u) pairs ts)
    HasTreeAs (fixed n s) v t = (vs : List Val) × (ts : Trees) × IsFixedListValue vs v × (length vs ≡ n) × (t ≡ parts ts) × EachHas (λ w u. HasTreeAs s w u) vs ts
    HasTreeAs (product k ms) v t = (vs : List Val) × (ts : Trees) × IsProduct k (member_names ms) vs v × (t ≡ parts ts) × HaveTreesAs ms vs ts
    HasTreeAs (variant k cs) v t = (d : ℕ) × (vs : List Val) × (ts : Trees) × IsCase k cs d vs v × (t ≡ case_tree d ts) × CaseHas cs d vs ts
    HasTreeAs (flags names) v t = (set : List Name) × (bs : List Bool) × IsFlags set v × All (λ n. Occurs n names) set × (t ≡ bits bs) × AreMarked set names bs × (IsTrue lifted → set ≡ chosen names bs)

    -- Values in a row, each of its member's type and with its tree.
    pub HaveTreesAs : Members → List Val → Trees → Type 0
    HaveTreesAs no_members vs ts = (vs ≡ []) × (ts ≡ no_trees)
    HaveTreesAs (member name s ms) vs ts = (v : Val) × (others : List Val) × (t : Tree) × (rest : Trees) × (vs ≡ v ∷ others) × (ts ≡ tree t rest)
        × HasTreeAs s v t × HaveTreesAs ms others rest

    -- a key and a value have the tree of the product of both
    pub PairHas : Shape → Val × Val → Tree → Type 0
    PairHas (product k ms) p t = (ts : Trees) × (t ≡ parts ts) × HaveTreesAs ms (p.0 ∷ p.1 ∷ []) ts
    PairHas _ p t = ⊥

    -- case d has this payload, no value or one
    pub CaseHas : Cases → ℕ → List Val → Trees → Type 0
    CaseHas no_cases d vs ts = ⊥
    CaseHas (bare name cs) zero vs ts = (vs ≡ []) × (ts ≡ no_trees)
    CaseHas (bare name cs) (suc d) vs ts = CaseHas cs d vs ts
    CaseHas (payload name s cs) zero vs ts = (v : Val) × (t : Tree) × (vs ≡ v ∷ []) × (ts ≡ tree t no_trees) × HasTreeAs s v t
    CaseHas (payload name s cs) (suc d) vs ts = CaseHas cs d vs ts

-- as values are given: flags in any order
abbrev pub HasTree : Shape → Val → Tree → Type 0
HasTree = HasTreeAs false

abbrev pub HaveTrees : Members → List Val → Trees → Type 0
HaveTrees = HaveTreesAs false

-- as they are lifted: flags in the type's order, each once
abbrev pub IsLiftedFrom : Shape → Val → Tree → Type 0
IsLiftedFrom = HasTreeAs true

abbrev pub AreLiftedFrom : Members → List Val → Trees → Type 0
AreLiftedFrom = HaveTreesAs true

-- ---- places

abbrev pub total : List ℕ → ℕ
total [] = 0
total (n ∷ ns) = n + total ns

-- of a value whose members take so many
abbrev pub places_step : Val-F ℕ → ℕ
places_step (Val-F.Record fields) = 1 + total (map (λ f. f.1) fields.items)
places_step (Val-F.Tuple members) = 1 + total members.items
places_step (Val-F.List members) = 1 + total members.items
places_step (Val-F.FixedLengthList members) = 1 + total members.items
places_step (Val-F.Map pairs) = 1 + total (map (λ p. p.0 + p.1) pairs.items)
places_step (Val-F.Variant name (Some b)) = 1 + b.value
places_step (Val-F.Option (Some b)) = 1 + b.value
places_step (Val-F.Result (Ok (Some b))) = 1 + b.value
places_step (Val-F.Result (Err (Some b))) = 1 + b.value
places_step _ = 1

-- how many places a value takes: itself and its members, or its payload; a key and its value have one each
abbrev pub places : Val → ℕ
places = fold-Val ℕ places_step

abbrev pub all_places : List Val → ℕ
all_places vs = total (map places vs)

abbrev pub pair_places : Val × Val → ℕ
pair_places p = places p.0 + places p.1

-- ---- the same value

-- each value is the same as the one in its place
abbrev pub EachSame : {A : Type 0} → (A → A → Type 0) → List A → List A → Type 0
EachSame {A} Same [] ws = ws ≡ []
EachSame {A} Same (v ∷ vs) ws = (w : A) × (rest : List A) × (ws ≡ w ∷ rest) × Same v w × EachSame Same vs rest

abbrev mutual
  -- Values of the type are the same, where a vector and a text are the list of their items, and of flags the same are set; both
  -- are resources of a handle's type, whichever they are.
  pub IsSame : Shape → Val → Val → Type 0
  IsSame (product k ms) v w = (names : List Name) × (vs ws : List Val) × IsProduct k names vs v × IsProduct k names ws w × AreSame ms vs ws
  IsSame (scalar k) v w = v ≡ w
  IsSame string v w = (cs : List ℕ) × IsTextValue cs v × IsTextValue cs w
  IsSame (own r) v w = (x y : AnyResource) × (v ≡ val.Resource x) × (w ≡ val.Resource y)
  IsSame (borrow r) v w = (x y : AnyResource) × (v ≡ val.Resource x) × (w ≡ val.Resource y)
  IsSame (list of_items s) v w = (vs ws : List Val) × IsItems vs v × IsItems ws w × EachSame (λ x y. IsSame s x y) vs ws
  IsSame (list of_pairs s) v w = (ps qs : List (Val × Val)) × IsPairs ps v × IsPairs qs w × EachSame (λ p q. PairSame s p q) ps qs
  IsSame (fixed n s) v w = (vs ws : List Val) × IsFixedListValue vs v × IsFixedListValue ws w × EachSame (λ x y. IsSame s x y) vs ws
  IsSame (variant k cs) v w = (d : ℕ) × (vs ws : List Val) × IsCase k cs d vs v × IsCase k cs d ws w × CaseSame cs d vs ws
  IsSame (flags names) v w = (set other : List Name) × IsFlags set v × IsFlags other w × ((n : Name) → Occurs n set ↔ Occurs n other)

  pub AreSame : Members → List Val → List Val → Type 0
  AreSame no_members vs ws = (vs ≡ []) × (ws ≡ [])
  AreSame (member name s ms) vs ws = (v w : Val) × (others those : List Val) × (vs ≡ v ∷ others) × (ws ≡ w ∷ those) × IsSame s v w × AreSame ms others those

  pub PairSame : Shape → Val × Val → Val × Val → Type 0
  PairSame (product k ms) p q = AreSame ms (p.0 ∷ p.1 ∷ []) (q.0 ∷ q.1 ∷ [])
  PairSame _ p q = ⊥

  pub CaseSame : Cases → ℕ → List Val → List Val → Type 0
  CaseSame no_cases d vs ws = ⊥
  CaseSame (bare name cs) zero vs ws = (vs ≡ []) × (ws ≡ [])
  CaseSame (bare name cs) (suc d) vs ws = CaseSame cs d vs ws
  CaseSame (payload name s cs) zero vs ws = (v w : Val) × (vs ≡ v ∷ []) × (ws ≡ w ∷ []) × IsSame s v w
  CaseSame (payload name s cs) (suc d) vs ws = CaseSame cs d vs ws
