-- Values with the same literals have the same trees, where their types reach no handle.
use Rattle.std.proofs.Common.{Bool, Box, Err, List, None, Ok, Option, Some, String, Vec, [], ap, ap₂, false, length, map, refl, string_bytes, subst, suc, sym, true≢false, zero, ℕ, ◌∙◌, ◌∷◌, ◌≡◌}
use Rattle.std.specs.Prelude.{⊤}
use Rattle.std.specs.declared.alloc.Global.{Global}
use Rattle.canon_context.specs.Quiet.{cases_have_handle, has_handle, have_handle}
use Rattle.canon_literals.proofs.Views.{literal-Enum, literal-Err, literal-FixedLengthList, literal-Flags, literal-List, literal-Map, literal-Ok, literal-Option, literal-Record, literal-String, literal-Tuple, literal-Variant}
use Rattle.canon_literals.specs.Literals.{Literal, bool, char, enum, error, f32, f64, fields, fields_of, fields_view, fixed, flags, literal_pairs, literal_step, literal_view, literals_of, literals_view, ok, option, pair_view, pairs, pairs_view, payload_view, s16, s32, s64, s8, tuple, u16, u32, u64, u8, variant}
use Rattle.canon_literals.specs.Literals as literals
use Rattle.canon_model.specs.Shape as shape
use Rattle.canon_model.specs.Shape.{Cases, Members, Name, ProductKind, Scalar, Shape, VariantKind, bare, borrow, list, member, no_cases, no_members, of_cases, of_fields, of_items, of_names, of_option, of_pairs, of_places, of_result, own, payload, product, scalar, string}
use Rattle.canon_model.specs.Text.{Spells, in_utf8}
use Rattle.canon_model.specs.Tree.{Tree, Trees}
use Rattle.canon_val.specs.Value.{CaseHas, EachHas, HasScalar, HasTreeAs, HaveTreesAs, IsCase, IsFirst, IsFixedListValue, IsItems, IsPairs, IsProduct, PairHas, case_names, member_names, names_in, no_names, unboxed, values_in}
use Rattle.canon_val.specs.declared.val.Val.{Val}
use Rattle.canon_val.specs.declared.val.Val.TheFolds.{fold-roll-Val, ind-Val, map-Val}
use Rattle.canon_val.specs.declared.val.Val.TheOpen.{Val-F, Val-F as F}
use Rattle.canon_val.specs.declared.val.Val.TheViews.{roll-Val}
use Rattle.canon_val.specs.declared.val.Val.TheVariants as val
use Rattle.canon_replay.proofs.Blockless.{first_none, later_none}

-- ---- the value of a literal

-- what is known of a value with this literal; nothing of a resource
abbrev IsOfLiteral : Literal → Val → Type 0
IsOfLiteral (bool b) v = v ≡ val.Bool b
IsOfLiteral (s8 z) v = v ≡ val.S8 z
IsOfLiteral (u8 n) v = v ≡ val.U8 n
IsOfLiteral (s16 z) v = v ≡ val.S16 z
IsOfLiteral (u16 n) v = v ≡ val.U16 n
IsOfLiteral (s32 z) v = v ≡ val.S32 z
IsOfLiteral (u32 n) v = v ≡ val.U32 n
IsOfLiteral (s64 z) v = v ≡ val.S64 z
IsOfLiteral (u64 n) v = v ≡ val.U64 n
IsOfLiteral (f32 n) v = v ≡ val.Float32 n
IsOfLiteral (f64 n) v = v ≡ val.Float64 n
IsOfLiteral (char n) v = v ≡ val.Char n
IsOfLiteral (literals.text bs) v = (s : String Global) × (v ≡ val.String s) × (bs ≡ string_bytes s)
IsOfLiteral (literals.list xs) v = (members : Vec Val Global) × (v ≡ val.List members) × (xs ≡ literals_of (literals_view members.items))
IsOfLiteral (pairs ps) v = (entries : Vec (Val × Val) Global) × (v ≡ val.Map entries) × (ps ≡ literal_pairs (pairs_view entries.items))
IsOfLiteral (tuple xs) v = (members : Vec Val Global) × (v ≡ val.Tuple members) × (xs ≡ literals_of (literals_view members.items))
IsOfLiteral (fixed xs) v = (members : Vec Val Global) × (v ≡ val.FixedLengthList members) × (xs ≡ literals_of (literals_view members.items))
IsOfLiteral (fields fs) v = (members : Vec (String Global × Val) Global) × (v ≡ val.Record members) × (fs ≡ fields_of (fields_view members.items))
IsOfLiteral (variant name p) v = (n : String Global) × (q : Option (Box Val Global)) × (v ≡ val.Variant n q) × (name ≡ string_bytes n) × (p ≡ payload_view q)
IsOfLiteral (enum name) v = (n : String Global) × (v ≡ val.Enum n) × (name ≡ string_bytes n)
IsOfLiteral (option p) v = (q : Option (Box Val Global)) × (v ≡ val.Option q) × (p ≡ payload_view q)
IsOfLiteral (ok p) v = (q : Option (Box Val Global)) × (v ≡ val.Result (Ok q)) × (p ≡ payload_view q)
IsOfLiteral (error p) v = (q : Option (Box Val Global)) × (v ≡ val.Result (Err q)) × (p ≡ payload_view q)
IsOfLiteral (flags names) v = (set : Vec (String Global) Global) × (v ≡ val.Flags set) × (names ≡ map (λ s. string_bytes s) set.items)
IsOfLiteral _ v = ⊤

level : (x : Val-F Val) → IsOfLiteral (literal_step (map-Val Val Literal literal_view x)) (roll-Val x)
level (F.Bool b) = val.rolls-Bool b
level (F.S8 z) = val.rolls-S8 z
level (F.U8 n) = val.rolls-U8 n
level (F.S16 z) = val.rolls-S16 z
level (F.U16 n) = val.rolls-U16 n
level (F.S32 z) = val.rolls-S32 z
level (F.U32 n) = val.rolls-U32 n
level (F.S64 z) = val.rolls-S64 z
level (F.U64 n) = val.rolls-U64 n
level (F.Float32 n) = val.rolls-Float32 n
level (F.Float64 n) = val.rolls-Float64 n
level (F.Char n) = val.rolls-Char n
level (F.String s) = (s, val.rolls-String s, refl)
level (F.List xs) = (xs, val.rolls-List xs, refl)
level (F.Map ps) = (ps, val.rolls-Map ps, refl)
level (F.Tuple xs) = (xs, val.rolls-Tuple xs, refl)
level (F.FixedLengthList xs) = (xs, val.rolls-FixedLengthList xs, refl)
level (F.Record fs) = (fs, val.rolls-Record fs, refl)
level (F.Variant n None) = (n, None, val.rolls-Variant n None, refl, refl)
level (F.Variant n (Some b)) = (n, Some b, val.rolls-Variant n (Some b), refl, refl)
level (F.Enum n) = (n, val.rolls-Enum n, refl)
level (F.Option None) = (None, val.rolls-Option None, refl)
level (F.Option (Some b)) = (Some b, val.rolls-Option (Some b), refl)
level (F.Result (Ok None)) = (None, val.rolls-Result (Ok None), refl)
level (F.Result (Ok (Some b))) = (Some b, val.rolls-Result (Ok (Some b)), refl)
level (F.Result (Err None)) = (None, val.rolls-Result (Err None), refl)
level (F.Result (Err (Some b))) = (Some b, val.rolls-Result (Err (Some b)), refl)
level (F.Flags names) = (names, val.rolls-Flags names, refl)
level y = tt

is_of : (v : Val) → IsOfLiteral (literal_view v) v
is_of = ind-Val (λ v. IsOfLiteral (literal_view v) v) (λ x y is. subst (λ l. IsOfLiteral l (roll-Val x)) (sym (fold-roll-Val Literal literal_step x)) (level x))

pub by_literal : (l : Literal) (w : Val) → literal_view w ≡ l → IsOfLiteral l w
by_literal l w e = subst (λ x. IsOfLiteral x w) e (is_of w)

-- ---- scalars

scalar_literal : (x : Val-F Val) (v : Val) → roll-Val x ≡ v → literal_view v ≡ literal_step (map-Val Val Literal literal_view x)
scalar_literal x v e = ap literal_view (sym e) ∙ fold-roll-Val Literal literal_step x

scalar_same : (k : Scalar) (v w : Val) (t : Tree) → literal_view v ≡ literal_view w → HasScalar k v t → HasScalar k w t
scalar_same shape.bool v w t e (b, ev, et) = (b, by_literal (bool b) w (sym e ∙ scalar_literal (F.Bool b) v (val.rolls-Bool b ∙ sym ev)), et)
scalar_same shape.s8 v w t e (z, ev, et) = (z, by_literal (s8 z) w (sym e ∙ scalar_literal (F.S8 z) v (val.rolls-S8 z ∙ sym ev)), et)
scalar_same shape.u8 v w t e (n, ev, et) = (n, by_literal (u8 n) w (sym e ∙ scalar_literal (F.U8 n) v (val.rolls-U8 n ∙ sym ev)), et)
scalar_same shape.s16 v w t e (z, ev, et) = (z, by_literal (s16 z) w (sym e ∙ scalar_literal (F.S16 z) v (val.rolls-S16 z ∙ sym ev)), et)
scalar_same shape.u16 v w t e (n, ev, et) = (n, by_literal (u16 n) w (sym e ∙ scalar_literal (F.U16 n) v (val.rolls-U16 n ∙ sym ev)), et)
scalar_same shape.s32 v w t e (z, ev, et) = (z, by_literal (s32 z) w (sym e ∙ scalar_literal (F.S32 z) v (val.rolls-S32 z ∙ sym ev)), et)
scalar_same shape.u32 v w t e (n, ev, et) = (n, by_literal (u32 n) w (sym e ∙ scalar_literal (F.U32 n) v (val.rolls-U32 n ∙ sym ev)), et)
scalar_same shape.s64 v w t e (z, ev, et) = (z, by_literal (s64 z) w (sym e ∙ scalar_literal (F.S64 z) v (val.rolls-S64 z ∙ sym ev)), et)
scalar_same shape.u64 v w t e (n, ev, et) = (n, by_literal (u64 n) w (sym e ∙ scalar_literal (F.U64 n) v (val.rolls-U64 n ∙ sym ev)), et)
scalar_same shape.f32 v w t e (n, ev, et) = (n, by_literal (f32 n) w (sym e ∙ scalar_literal (F.Float32 n) v (val.rolls-Float32 n ∙ sym ev)), et)
scalar_same shape.f64 v w t e (n, ev, et) = (n, by_literal (f64 n) w (sym e ∙ scalar_literal (F.Float64 n) v (val.rolls-Float64 n ∙ sym ev)), et)
scalar_same shape.char v w t e (n, ev, et) = (n, by_literal (char n) w (sym e ∙ scalar_literal (F.Char n) v (val.rolls-Char n ∙ sym ev)), et)

-- ---- parts

pub literals_inside : (xs ys : List Literal) → literals_of xs ≡ literals_of ys → xs ≡ ys
literals_inside [] [] e = refl
literals_inside [] (y ∷ ys) e = cc
literals_inside (x ∷ xs) [] e = cc
literals_inside (x ∷ xs) (y ∷ ys) e =
    let first : x ≡ y = cc in
    let others : literals_of xs ≡ literals_of ys = cc in
    ap₂ (λ (z : Literal) (zs : List Literal). z ∷ zs) first (literals_inside xs ys others)

pub as_many : (vs ws : List Val) → literals_view vs ≡ literals_view ws → length vs ≡ length ws
as_many [] [] e = refl
as_many [] (w ∷ ws) e = cc
as_many (v ∷ vs) [] e = cc
as_many (v ∷ vs) (w ∷ ws) e = let others : literals_view vs ≡ literals_view ws = cc in ap suc (as_many vs ws others)

unnamed_same : (vs ws : List Val) → literals_view vs ≡ literals_view ws → no_names vs ≡ no_names ws
unnamed_same [] [] e = refl
unnamed_same [] (w ∷ ws) e = cc
unnamed_same (v ∷ vs) [] e = cc
unnamed_same (v ∷ vs) (w ∷ ws) e = let others : literals_view vs ≡ literals_view ws = cc in ap (λ (ns : List Name). [] ∷ ns) (unnamed_same vs ws others)

fields_inside : (fs gs : List (String Global × Val)) → fields_of (fields_view fs) ≡ fields_of (fields_view gs) → (names_in fs ≡ names_in gs) × (literals_view (values_in fs) ≡ literals_view (values_in gs))
fields_inside [] [] e = (refl, refl)
fields_inside [] (g ∷ gs) e = cc
fields_inside (f ∷ fs) [] e = cc
fields_inside (f ∷ fs) (g ∷ gs) e =
    let name : string_bytes f.0 ≡ string_bytes g.0 = cc in
    let first : literal_view f.1 ≡ literal_view g.1 = cc in
    let others : fields_of (fields_view fs) ≡ fields_of (fields_view gs) = cc in
    let more = fields_inside fs gs others in
    (ap₂ (λ (n : Name) (ns : List Name). n ∷ ns) name more.0, ap₂ (λ (x : Literal) (xs : List Literal). x ∷ xs) first more.1)

unboxed_same : (p q : Option (Box Val Global)) → payload_view p ≡ payload_view q → literals_view (unboxed p) ≡ literals_view (unboxed q)
unboxed_same None None e = refl
unboxed_same None (Some b) e = cc
unboxed_same (Some a) None e = cc
unboxed_same (Some a) (Some b) e = let first : literal_view a.value ≡ literal_view b.value = cc in ap (λ (x : Literal). x ∷ []) first

none_then : (vs ws : List Val) → vs ≡ [] → literals_view vs ≡ literals_view ws → ws ≡ []
none_then vs [] none e = refl
none_then vs (w ∷ ws) none e = let same : [] ≡ literals_view (w ∷ ws) = ap literals_view (sym none) ∙ e in cc

pub product_same : (k : ProductKind) (names : List Name) (vs : List Val) (v w : Val) → literal_view v ≡ literal_view w → IsProduct k names vs v → (ws : List Val) × IsProduct k names ws w × (literals_view vs ≡ literals_view ws)
product_same of_places names vs v w e (members, ev, en, es) =
    let (others, ew, rows) = by_literal (tuple (literals_of (literals_view members.items))) w (sym e ∙ (ap literal_view ev ∙ literal-Tuple members)) in
    let same = literals_inside (literals_view members.items) (literals_view others.items) rows in
    (others.items, (others, ew, en ∙ unnamed_same members.items others.items same, refl), ap literals_view es ∙ same)
product_same of_fields names vs v w e (members, ev, en, es) =
    let (others, ew, rows) = by_literal (fields (fields_of (fields_view members.items))) w (sym e ∙ (ap literal_view ev ∙ literal-Record members)) in
    let same = fields_inside members.items others.items rows in
    (values_in others.items, (others, ew, en ∙ same.0, refl), ap literals_view es ∙ same.1)

pub case_same : (k : VariantKind) (cs : Cases) (d : ℕ) (vs : List Val) (v w : Val) → literal_view v ≡ literal_view w → IsCase k cs d vs v → (ws : List Val) × IsCase k cs d ws w × (literals_view vs ≡ literals_view ws)
case_same of_cases cs d vs v w e (name, p, ev, es, first) =
    let (n, q, ew, en, ep) = by_literal (variant (string_bytes name) (payload_view p)) w (sym e ∙ (ap literal_view ev ∙ literal-Variant name p)) in
    (unboxed q, (n, q, ew, refl, subst (λ (b : Name). IsFirst b (case_names cs) d) en first), ap literals_view es ∙ unboxed_same p q ep)
case_same of_names cs d vs v w e (name, ev, es, first) =
    let (n, ew, en) = by_literal (enum (string_bytes name)) w (sym e ∙ (ap literal_view ev ∙ literal-Enum name)) in
    ([], (n, ew, refl, subst (λ (b : Name). IsFirst b (case_names cs) d) en first), ap literals_view es)
case_same of_option cs d vs v w e (p, ev, es, ed, lt) =
    let (q, ew, ep) = by_literal (option (payload_view p)) w (sym e ∙ (ap literal_view ev ∙ literal-Option p)) in
    let same : literals_view vs ≡ literals_view (unboxed q) = ap literals_view es ∙ unboxed_same p q ep in
    (unboxed q, (q, ew, refl, ed ∙ as_many vs (unboxed q) same, lt), same)
case_same of_result cs d vs v w e (Ok p, ev, es, ed, lt) =
    let (q, ew, ep) = by_literal (ok (payload_view p)) w (sym e ∙ (ap literal_view ev ∙ literal-Ok p)) in
    (unboxed q, (Ok q, ew, refl, ed, lt), ap literals_view es ∙ unboxed_same p q ep)
case_same of_result cs d vs v w e (Err p, ev, es, ed, lt) =
    let (q, ew, ep) = by_literal (error (payload_view p)) w (sym e ∙ (ap literal_view ev ∙ literal-Err p)) in
    (unboxed q, (Err q, ew, refl, ed, lt), ap literals_view es ∙ unboxed_same p q ep)

-- the bytes, the members, the entries of a value with the same literal
pub text_same : (s : String Global) (v w : Val) → literal_view v ≡ literal_view w → v ≡ val.String s → (z : String Global) × (w ≡ val.String z) × (string_bytes s ≡ string_bytes z)
text_same s v w e ev = by_literal (literals.text (string_bytes s)) w (sym e ∙ (ap literal_view ev ∙ literal-String s))

pub items_of_literals : (vs : List Val) (v w : Val) → literal_view v ≡ literal_view w → IsItems vs v → (ws : List Val) × IsItems ws w × (literals_view vs ≡ literals_view ws)
items_of_literals vs v w e (members, ev, es) =
    let (others, ew, rows) = by_literal (literals.list (literals_of (literals_view members.items))) w (sym e ∙ (ap literal_view ev ∙ literal-List members)) in
    (others.items, (others, ew, refl), ap literals_view es ∙ literals_inside (literals_view members.items) (literals_view others.items) rows)

pub fixed_of_literals : (vs : List Val) (v w : Val) → literal_view v ≡ literal_view w → IsFixedListValue vs v → (ws : List Val) × IsFixedListValue ws w × (literals_view vs ≡ literals_view ws)
fixed_of_literals vs v w e (members, ev, es) =
    let (others, ew, rows) = by_literal (fixed (literals_of (literals_view members.items))) w (sym e ∙ (ap literal_view ev ∙ literal-FixedLengthList members)) in
    (others.items, (others, ew, refl), ap literals_view es ∙ literals_inside (literals_view members.items) (literals_view others.items) rows)

pairs_inside : (ps qs : List (Literal × Literal)) → literal_pairs ps ≡ literal_pairs qs → ps ≡ qs
pairs_inside [] [] e = refl
pairs_inside [] (q ∷ qs) e = cc
pairs_inside (p ∷ ps) [] e = cc
pairs_inside (p ∷ ps) (q ∷ qs) e =
    let key : p.0 ≡ q.0 = cc in
    let value : p.1 ≡ q.1 = cc in
    let others : literal_pairs ps ≡ literal_pairs qs = cc in
    ap₂ (λ (x : Literal × Literal) (xs : List (Literal × Literal)). x ∷ xs) (ap₂ (λ (x y : Literal). (x, y)) key value) (pairs_inside ps qs others)

pub entries_same : (ps : List (Val × Val)) (v w : Val) → literal_view v ≡ literal_view w → IsPairs ps v → (qs : List (Val × Val)) × IsPairs qs w × (pairs_view ps ≡ pairs_view qs)
entries_same ps v w e (entries, ev, es) =
    let (others, ew, rows) = by_literal (pairs (literal_pairs (pairs_view entries.items))) w (sym e ∙ (ap literal_view ev ∙ literal-Map entries)) in
    (others.items, (others, ew, refl), ap pairs_view es ∙ pairs_inside (pairs_view entries.items) (pairs_view others.items) rows)

-- a key and its value as values in a row
pub pair_row : (p q : Val × Val) → pair_view p ≡ pair_view q → literals_view (p.0 ∷ p.1 ∷ []) ≡ literals_view (q.0 ∷ q.1 ∷ [])
pair_row p q e = ap (λ (x : Literal × Literal). x.0 ∷ x.1 ∷ []) e

each_same : {A X : Type 0} (view : A → X) (Has : A → Tree → Type 0) → ((v w : A) (t : Tree) → view v ≡ view w → Has v t → Has w t)
    → (vs ws : List A) (ts : Trees) → map view vs ≡ map view ws → EachHas Has vs ts → EachHas Has ws ts
each_same view Has one [] [] ts e h = h
each_same view Has one [] (w ∷ ws) ts e h = cc
each_same view Has one (v ∷ vs) [] ts e h = cc
each_same view Has one (v ∷ vs) (w ∷ ws) ts e (t, rest, et, has, have) =
    let first : view v ≡ view w = cc in
    let others : map view vs ≡ map view ws = cc in
    (t, rest, et, one v w t first has, each_same view Has one vs ws rest others have)

-- ---- values

module _ (lifted : Bool) where
  mutual
    same_tree : (s : Shape) (v w : Val) (t : Tree) → has_handle s ≡ false → literal_view v ≡ literal_view w → HasTreeAs lifted s v t → HasTreeAs lifted s w t
    same_tree (scalar k) v w t plain e h = scalar_same k v w t e h
    same_tree string v w t plain e (cs, n, (s, ev, spelled), et) =
        let (z, ew, bytes) = text_same s v w e ev in
        (cs, n, (z, ew, subst (λ (bs : Name). Spells in_utf8 bs cs) bytes spelled), et)
    same_tree (own r) v w t plain e h = absurd (true≢false plain)
    same_tree (borrow r) v w t plain e h = absurd (true≢false plain)
    same_tree (list of_items s) v w t plain e (vs, ts, is, et, have) =
        let (ws, isw, rows) = items_of_literals vs v w e is in
        (ws, ts, isw, et, each_same literal_view (λ x u. HasTreeAs lifted s x u) (λ x y u f g. same_tree s x y u plain f g) vs ws ts rows have)
    same_tree (list of_pairs s) v w t plain e (shaped, (ps, ts, is, et, have)) =
        let (qs, isw, rows) = entries_same ps v w e is in
        (shaped, (qs, ts, isw, et, each_same pair_view (λ p u. PairHas lifted s p u) (λ p q u f g. same_pair s p q u plain f g) ps qs ts rows have))
    same_tree (shape.fixed n s) v w t plain e (vs, ts, is, count, et, have) =
        let (ws, isw, rows) = fixed_of_literals vs v w e is in
        (ws, ts, isw, sym (as_many vs ws rows) ∙ count, et, each_same literal_view (λ x u. HasTreeAs lifted s x u) (λ x y u f g. same_tree s x y u plain f g) vs ws ts rows have)
    same_tree (product k ms) v w t plain e (vs, ts, is, et, have) =
        let (ws, isw, rows) = product_same k (member_names ms) vs v w e is in
        (ws, ts, isw, et, same_trees ms vs ws ts plain rows have)
    same_tree (shape.variant k cs) v w t plain e (d, vs, ts, is, et, have) =
        let (ws, isw, rows) = case_same k cs d vs v w e is in
        (d, ws, ts, isw, et, same_case cs d vs ws ts plain rows have)
    same_tree (shape.flags names) v w t plain e (set, bs, (given, ev, es), all, et, marked, order) =
        let (others, ew, en) = by_literal (flags (map (λ s. string_bytes s) given.items)) w (sym e ∙ (ap literal_view ev ∙ literal-Flags given)) in
        (set, bs, (others, ew, es ∙ en), all, et, marked, order)

    -- of values in a row
    pub same_trees : (ms : Members) (vs ws : List Val) (ts : Trees) → have_handle ms ≡ false → literals_view vs ≡ literals_view ws → HaveTreesAs lifted ms vs ts → HaveTreesAs lifted ms ws ts
    same_trees no_members vs ws ts plain e h = (none_then vs ws h.0 e, h.1)
    same_trees (member name s ms) vs [] ts plain e (v, others, t, rest, ev, et, has, have) = let no : literals_view (v ∷ others) ≡ [] = ap literals_view (sym ev) ∙ e in cc
    same_trees (member name s ms) vs (w ∷ ws) ts plain e (v, others, t, rest, ev, et, has, have) =
        let both : literals_view (v ∷ others) ≡ literals_view (w ∷ ws) = ap literals_view (sym ev) ∙ e in
        let first : literal_view v ≡ literal_view w = cc in
        let more : literals_view others ≡ literals_view ws = cc in (
          w,
          ws,
          t,
          rest,
          refl,
          et,
          same_tree s v w t (first_none (has_handle s) (have_handle ms) plain) first has,
          same_trees ms others ws rest (later_none (has_handle s) (have_handle ms) plain) more have,
        )

    same_pair : (s : Shape) (p q : Val × Val) (t : Tree) → has_handle s ≡ false → pair_view p ≡ pair_view q → PairHas lifted s p t → PairHas lifted s q t
    same_pair (product k ms) p q t plain e (ts, et, have) = (ts, et, same_trees ms (p.0 ∷ p.1 ∷ []) (q.0 ∷ q.1 ∷ []) ts plain (pair_row p q e) have)
    same_pair (scalar k) p q t plain e h = absurd h
    same_pair string p q t plain e h = absurd h
    same_pair (own r) p q t plain e h = absurd h
    same_pair (borrow r) p q t plain e h = absurd h
    same_pair (list k s) p q t plain e h = absurd h
    same_pair (shape.fixed n s) p q t plain e h = absurd h
    same_pair (shape.variant k cs) p q t plain e h = absurd h
    same_pair (shape.flags names) p q t plain e h = absurd h

    same_case : (cs : Cases) (d : ℕ) (vs ws : List Val) (ts : Trees) → cases_have_handle cs ≡ false → literals_view vs ≡ literals_view ws → CaseHas lifted cs d vs ts → CaseHas lifted cs d ws ts
    same_case no_cases d vs ws ts plain e h = h
    same_case (bare name cs) zero vs ws ts plain e h = (none_then vs ws h.0 e, h.1)
    same_case (bare name cs) (suc d) vs ws ts plain e h = same_case cs d vs ws ts plain e h
    same_case (payload name s cs) zero vs [] ts plain e (v, t, ev, et, has) = let no : literals_view (v ∷ []) ≡ [] = ap literals_view (sym ev) ∙ e in cc
    same_case (payload name s cs) zero vs (w ∷ x ∷ ws) ts plain e (v, t, ev, et, has) = let no : literals_view (v ∷ []) ≡ literals_view (w ∷ x ∷ ws) = ap literals_view (sym ev) ∙ e in cc
    same_case (payload name s cs) zero vs (w ∷ []) ts plain e (v, t, ev, et, has) =
        let both : literals_view (v ∷ []) ≡ literals_view (w ∷ []) = ap literals_view (sym ev) ∙ e in
        let first : literal_view v ≡ literal_view w = cc in
        (w, t, refl, et, same_tree s v w t (first_none (has_handle s) (cases_have_handle cs) plain) first has)
    same_case (payload name s cs) (suc d) vs ws ts plain e h = same_case cs d vs ws ts (later_none (has_handle s) (cases_have_handle cs) plain) e h
