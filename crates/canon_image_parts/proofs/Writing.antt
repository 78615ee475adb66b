-- Steps of writing an image, over plain lists.
use Rattle.std.proofs.Common.{Bool, Err, IsTrue, List, Ok, Result, String, Vec, [], append-nil, append_assoc, ap, ap₂, arith, drop, false, inl, inr, length, refl, rules, string_bytes, subst, suc, sym, true, zero, ℕ, ◌%◌, ◌+◌, ◌++◌, ◌<◌, ◌^◌, ◌∙◌, ◌∷◌, ◌≡◌}
use Rattle.std.proofs.Math.Nat.{mod-lt, one-le-pow}
use Rattle.std.specs.Str.{encode_utf8_all}
use Rattle.std.specs.declared.alloc.Global.{Global}
use Rattle.canon_lowering.specs.Copies.{case_members, case_tree, copies}
use Rattle.canon_model.specs.Image.{CaseImage, EachImage, Image, IsField, MembersImage, le_bytes}
use Rattle.canon_model.specs.Layout.{scalar_size, size, tag_size}
use Rattle.canon_model.specs.Shape.{Cases, Members, Name, Shape, VariantKind, bare, borrow, case_count, fixed, flags, list, member, member_count, no_cases, no_members, of_items, own, payload, product, scalar, string, variant}
use Rattle.canon_model.specs.Text.{utf8}
use Rattle.canon_model.specs.Tree.{Tree, Trees, handle, items, no_trees, parts, text, tree, tree_count}
use Rattle.canon_abi.specs.Sizes.{tag_bytes}
use Rattle.canon_types.specs.Table.{TypeTable, shape_of}
use Rattle.canon_types.specs.declared.types.InterfaceType.{InterfaceType}
use Rattle.canon_value_parts.specs.Fails.{FailsAt, MemberFails}
use Rattle.canon_val.specs.Value.{HaveTrees, IsCase, IsProduct, member_names, no_names, places}
use Rattle.canon_model.specs.Memory.{cap}
use Rattle.canon_plan.specs.Plan.{LiesAs, members_from}
use Rattle.canon_value_parts.specs.View.{IsMember, viewed_names, viewed_shapes, viewed_values}
use Rattle.canon_value_parts.specs.Viewed.{BlamesItself, HasMembers, IsCaseSeen}
use Rattle.canon_value_parts.specs.Words.{IsWordOf}
use Rattle.canon_context.specs.declared.fault.Fault.{Fault}
use Rattle.canon_context.specs.declared.fault.Fault.TheVariants as fault
use Rattle.canon_value_parts.specs.declared.case_view.Case.{Case}
use Rattle.canon_value_parts.specs.declared.members.Member.{Member}
use Rattle.canon_val.specs.declared.val.Val.{Val, the_lemmas}
use Rattle.canon_val.specs.declared.val.Val.TheVariants as val
use Rattle.canon_value_parts.proofs.Cases.{case_has}
use Rattle.canon_value_parts.proofs.Contents.{places_list, places_text, spelled}
use Rattle.canon_plan.proofs.Lookups.{copies_count, drop_all, members_from-all}
use Rattle.canon_plan.proofs.ScalarTypes.{scalar_shape}
use Rattle.canon_value_parts.proofs.Scalars.{scalar_places}
use Rattle.canon_value_parts.proofs.Steps.{blames_first, blames_itself, blames_later}
use Rattle.canon_passing.proofs.Shapes.{least_low}
use Rattle.canon_value_parts.proofs.StoreSteps.{heads}
use Rattle.canon_value_parts.proofs.WalkCases.{tag_fits}
use Rattle.canon_value_parts.proofs.Walks.{copies_fail, copies_have, copies_names}
use Rattle.canon_model.proofs.NumberBytes.{le_bytes_low}
use Rattle.canon_image_parts.proofs.Counting.{image_case_counted, image_count_members, image_fields_count, image_fixed_counted, image_product_counts}
use Rattle.canon_plan.specs.Plan.{shape_of_handle, shaped_handle}
use Rattle.canon_plan.specs.declared.plan.HandleType.{HandleType}
use Rattle.canon_resources.specs.Held.{Any}
use Rattle.canon_value_parts.proofs.LiftedValues.{fixed_resources}
use Rattle.canon_value_parts.proofs.ResourcesOf.{case_resources, product_resources, resources_list, resources_resource, scalar_has_none, text_has_none}
use Rattle.canon_value_parts.specs.Resources.{all_resources, resources}
use Rattle.canon_image_parts.proofs.Numbering.{added_both, added_none, added_one, numbered_case, numbered_copies, numbered_count, numbered_payload, payload_handles, scalar_plain}
use Rattle.canon_image_parts.specs.Numbered.{AreAdded, all_handles, handles_in, numbered_cases, numbered_members, numbered_shape, numbered_tree, numbered_trees}
use Rattle.canon_image_parts.specs.Written.{AddsImage, CountsFields, IsTold, PartsWriteTo, Sink, WritesTo}

-- ---- bytes after bytes, and resources after resources

-- bytes alone
abbrev pub Puts : Sink → Sink → List ℕ → Type 0
Puts a b bs = (b.bytes ≡ a.bytes ++ bs) × (b.list ≡ a.list)

pub adds_nothing : (a : Sink) → AddsImage a a [] [] []
adds_nothing a = record { bytes = sym (append-nil a.bytes); list = added_none a.list }

pub adds_both : (a b c : Sink) (bs cs : List ℕ) (xs ys : List Any) (ns ms : List ℕ) → AddsImage a b bs xs ns → AddsImage b c cs ys ms → AddsImage a c (bs ++ cs) (xs ++ ys) (ns ++ ms)
adds_both a b c bs cs xs ys ns ms h g = record {
  bytes = g.bytes ∙ ap (λ l. l ++ cs) h.bytes ∙ append_assoc a.bytes bs cs;
  list = added_both a.list b.list c.list xs ys ns ms h.list g.list;
}

pub puts_first : (a b c : Sink) (bs cs : List ℕ) (xs : List Any) (ns : List ℕ) → Puts a b bs → AddsImage b c cs xs ns → AddsImage a c (bs ++ cs) xs ns
puts_first a b c bs cs xs ns h g = record {
  bytes = g.bytes ∙ ap (λ l. l ++ cs) h.0 ∙ append_assoc a.bytes bs cs;
  list = subst (λ l. AreAdded l c.list xs ns) h.1 g.list;
}

-- bytes of a value without resources
pub puts_plain : (a b : Sink) (bs : List ℕ) (v : Val) (t : Tree) → Puts a b bs → resources v ≡ [] → handles_in t ≡ [] → AddsImage a b bs (resources v) (handles_in t)
puts_plain a b bs v t h none nor = record {
  bytes = h.0;
  list = subst (λ xs. AreAdded a.list b.list xs (handles_in t)) (sym none) (subst (λ ns. AreAdded a.list b.list [] ns) (sym nor) (subst (λ l. AreAdded a.list l [] []) (sym h.1) (added_none a.list)));
}

-- the same of a value whose members these are
pub adds_of : (a b : Sink) (bs : List ℕ) (v : Val) (xs : List Any) (ns ms : List ℕ) → resources v ≡ xs → ms ≡ ns → AddsImage a b bs xs ns → AddsImage a b bs (resources v) ms
adds_of a b bs v xs ns ms e f h = subst (λ ys. AddsImage a b bs ys ms) (sym e) (subst (λ os. AddsImage a b bs xs os) (sym f) h)

-- ---- members in a row

pub image_parts_none : (a : Sink) (place from : ℕ) → from < 2 ^ 64 → PartsWriteTo a a place no_members [] [] from (Ok from)
image_parts_none a place from few = record {
  written = (no_trees, [], adds_nothing a, (refl, refl), (refl, refl));
  counted = (refl, omega (arith, few));
  told = tt;
}

pub image_parts_cons : (a b c : Sink) (place : ℕ) (name named : Name) (s : Shape) (ms : Members) (names : List Name) (v : Val) (vs : List Val) (from mid : ℕ) (r : Result ℕ Fault) → named ≡ name
    → WritesTo a b s v from (Ok mid) → PartsWriteTo b c place ms names vs mid r → PartsWriteTo a c place (member name s ms) (named ∷ names) (v ∷ vs) from r
image_parts_cons a b c place name named s ms names v vs from mid (Err e) en h k = record {
  written = tt;
  counted = image_fields_count place name named s ms names v vs from mid (Err e) en h.counted k.counted;
  told = k.told;
}
image_parts_cons a b c place name named s ms names v vs from mid (Ok to) en h k =
    let (t, xs, eb, has, is) = h.written in
    let (ts, ys, ec, have, are) = k.written in
    record {
      written = (
        tree t ts,
        xs ++ ys,
        adds_both a b c xs ys (resources v) (all_resources vs) (handles_in t) (all_handles ts) eb ec,
        (v, vs, t, ts, refl, refl, has, have),
        (numbered_tree t, numbered_trees ts, xs, ys, refl, refl, is, are),
      );
      counted = image_fields_count place name named s ms names v vs from mid (Ok to) en h.counted k.counted;
      told = tt;
    }

pub image_parts_stop : (a b : Sink) (place : ℕ) (name named : Name) (s : Shape) (ms : Members) (names : List Name) (v : Val) (vs : List Val) (from : ℕ) (e : Fault) → WritesTo a b s v from (Err e)
    → PartsWriteTo a b place (member name s ms) (named ∷ names) (v ∷ vs) from (Err e)
image_parts_stop a b place name named s ms names v vs from e h = record {
  written = tt;
  counted = inr (blames_first utf8 (λ how k. FailsAt how s v k) (λ how k. MemberFails how (member name s ms) (v ∷ vs) k) from e (λ how j f. inl f) h.counted);
  told = h.told;
}

pub image_parts_named : (a : Sink) (place : ℕ) (name named : Name) (s : Shape) (ms : Members) (names : List Name) (v : Val) (vs : List Val) (from : ℕ) → ¬ (named ≡ name)
    → PartsWriteTo a a place (member name s ms) (named ∷ names) (v ∷ vs) from (Err (fault.FieldName place))
image_parts_named a place name named s ms names v vs from other = record {
  written = tt;
  counted = inl (refl, λ same. other (heads named name names (member_names ms) same));
  told = tt;
}

-- What is left to write after i members completes what is done.
pub record AreWritten (a : Sink) (place : ℕ) (ms : Members) (names : List Name) (vs : List Val) (from : ℕ) (now : Sink) (next i : ℕ) : Type 0 where
  pub few : next < 2 ^ 64
  pub rest : (z : Sink) (r : Result ℕ Fault) → PartsWriteTo now z place (members_from i ms) (drop i names) (drop i vs) next r → PartsWriteTo a z place ms names vs from r

module _ (a : Sink) (place : ℕ) (ms : Members) (names : List Name) (vs : List Val) (from : ℕ) (now : Sink) (next i : ℕ) (h : AreWritten a place ms names vs from now next i) where
  module _ (t : TypeTable) (m : Member) (is : IsMember t ms names vs i m) where
    abbrev s : Shape
    s = shape_of t m.ty

    -- the rest with its first member
    told : (z : Sink) (r : Result ℕ Fault) → PartsWriteTo now z place (member is.name s (members_from (i + 1) ms)) (is.named ∷ drop (i + 1) names) (m.value.now ∷ drop (i + 1) vs) next r
        → PartsWriteTo now z place (members_from i ms) (drop i names) (drop i vs) next r
    told z r g =
        subst (λ (xs : Members). PartsWriteTo now z place xs (drop i names) (drop i vs) next r) (sym is.shapes)
        (subst (λ (xs : List Name). PartsWriteTo now z place (member is.name s (members_from (i + 1) ms)) xs (drop i vs) next r) (sym is.names)
        (subst (λ (xs : List Val). PartsWriteTo now z place (member is.name s (members_from (i + 1) ms)) (is.named ∷ drop (i + 1) names) xs next r) (sym is.values) g))

    pub image_go_on : (now2 : Sink) (next2 : ℕ) → IsTrue m.is_named → next2 < 2 ^ 64 → WritesTo now now2 s m.value.now next (Ok next2) → AreWritten a place ms names vs from now2 next2 (i + 1)
    image_go_on now2 next2 named few g = record {
      few = few;
      rest = λ z r more. h.rest z r (told z r (image_parts_cons now now2 z place is.name is.named s (members_from (i + 1) ms) (drop (i + 1) names) m.value.now (drop (i + 1) vs) next next2 r (is.same.0 named) g more));
    }

    pub image_stop : (now2 : Sink) (e : Fault) → WritesTo now now2 s m.value.now next (Err e) → PartsWriteTo a now2 place ms names vs from (Err e)
    image_stop now2 e g = h.rest now2 (Err e) (told now2 (Err e) (image_parts_stop now now2 place is.name is.named s (members_from (i + 1) ms) (drop (i + 1) names) m.value.now (drop (i + 1) vs) next e g))

    pub image_misnamed : ¬ (IsTrue m.is_named) → PartsWriteTo a now place ms names vs from (Err (fault.FieldName place))
    image_misnamed other = h.rest now (Err (fault.FieldName place)) (told now (Err (fault.FieldName place))
        (image_parts_named now place is.name is.named s (members_from (i + 1) ms) (drop (i + 1) names) m.value.now (drop (i + 1) vs) next (λ e. other (is.same.1 e))))

  pub image_end : i ≡ member_count ms → i ≡ length names → i ≡ length vs → PartsWriteTo a now place ms names vs from (Ok next)
  image_end em en ev = h.rest now (Ok next)
      (subst (λ (xs : Members). PartsWriteTo now now place xs (drop i names) (drop i vs) next (Ok next)) (sym (members_from-all ms i em))
      (subst (λ (xs : List Name). PartsWriteTo now now place no_members xs (drop i vs) next (Ok next)) (sym (drop_all names i en))
      (subst (λ (xs : List Val). PartsWriteTo now now place no_members [] xs next (Ok next)) (sym (drop_all vs i ev)) (image_parts_none now place next h.few))))

pub begin : (a : Sink) (place : ℕ) (ms : Members) (names : List Name) (vs : List Val) (from : ℕ) → from < 2 ^ 64 → AreWritten a place ms names vs from a from 0
begin a place ms names vs from few = record { few = few; rest = λ z r h. h }

-- ---- a row of one shape

pub copies_image : (n : ℕ) (s : Shape) (ts : Trees) (bs : List ℕ) → MembersImage (copies n s) ts bs → EachImage (λ t xs. Image s t xs) ts bs × (tree_count ts ≡ n)
copies_image zero s ts bs (et, eb) = (subst (λ us. EachImage (λ t xs. Image s t xs) us bs) (sym et) eb, ap tree_count et)
copies_image (suc n) s ts bs (t, us, xs, ys, et, eb, is, are) =
    let rest = copies_image n s us ys are in
    (subst (λ ws. EachImage (λ t xs. Image s t xs) ws bs) (sym et) (xs, ys, eb, is, rest.0), ap tree_count et ∙ ap suc rest.1)

-- ---- a value from its members

pub members_written : (a b : Sink) (place : ℕ) (s : Shape) (ms : Members) (names : List Name) (vs : List Val) (v : Val) (r : Result ℕ Fault) → place < 2 ^ 64
    → LiesAs s ms → HasMembers s names vs v → length vs ≡ member_count ms → PartsWriteTo a b place ms names vs (cap (place + 1)) r → WritesTo a b s v place r
members_written a b place (product k ns) ms names vs v (Err e) few el p count h = record {
  written = tt;
  counted = image_product_counts place k ns names vs v (Err e) few p (count ∙ ap member_count el) (subst (λ (xs : Members). CountsFields place xs names vs (cap (place + 1)) (Err e)) el h.counted);
  told = h.told;
}
members_written a b place (product k ns) ms names vs v (Ok to) few el p count h =
    let (ts, bs, eb, have, are) = h.written in
    let named : names ≡ member_names ns = h.counted.0 ∙ ap member_names el in
    record {
      written = (
        parts ts,
        bs,
        adds_of a b bs v (all_resources vs) (all_handles ts) (handles_in (parts ts)) (product_resources k names vs v p) refl eb,
        (vs, ts, subst (λ (xs : List Name). IsProduct k xs vs v) named p, refl, subst (λ xs. HaveTrees xs vs ts) el have),
        (numbered_trees ts, refl, subst (λ xs. MembersImage (numbered_members xs) (numbered_trees ts) bs) el are),
      );
      counted = image_product_counts place k ns names vs v (Ok to) few p (count ∙ ap member_count el) (subst (λ (xs : Members). CountsFields place xs names vs (cap (place + 1)) (Ok to)) el h.counted);
      told = tt;
    }
members_written a b place (fixed n s) ms names vs v r few el (en, (xs, ev, same)) count h =
    let enough : length vs ≡ n = count ∙ (ap member_count el ∙ copies_count n s) in
    let named : names ≡ member_names (copies n s) = en ∙ copies_names n s vs enough in
    fixed_written r (subst (λ (ys : Members). PartsWriteTo a b place ys names vs (cap (place + 1)) r) el h) enough named
  where
    fixed_written : (r : Result ℕ Fault) → PartsWriteTo a b place (copies n s) names vs (cap (place + 1)) r → length vs ≡ n → names ≡ member_names (copies n s) → WritesTo a b (fixed n s) v place r
    fixed_written (Err e) h enough named = record {
      written = tt;
      counted = image_fixed_counted n s names vs v place (Err e) enough (xs, ev, same) (image_count_members place (copies n s) names vs (cap (place + 1)) (Err e) named h.counted);
      told = h.told;
    }
    fixed_written (Ok to) h enough named =
        let (ts, bs, eb, have, are) = h.written in
        let (l, each) = copies_have false n s vs ts have in
        let (images, many) = copies_image n (numbered_shape s) (numbered_trees ts) bs (subst (λ l. MembersImage l (numbered_trees ts) bs) (numbered_copies n s) are) in
        let adds = adds_of a b bs v (all_resources vs) (all_handles ts) (handles_in (parts ts)) (fixed_resources vs v (xs, ev, same)) refl eb in
        record {
          written = (parts ts, bs, adds, (vs, ts, (xs, ev, same), enough, refl, each), (numbered_trees ts, refl, many, images));
          counted = image_fixed_counted n s names vs v place (Ok to) enough (xs, ev, same) (image_count_members place (copies n s) names vs (cap (place + 1)) (Ok to) named h.counted);
          told = tt;
        }
members_written a b place (scalar k) ms names vs v r few el p count h = absurd el
members_written a b place string ms names vs v r few el p count h = absurd el
members_written a b place (own i) ms names vs v r few el p count h = absurd el
members_written a b place (borrow i) ms names vs v r few el p count h = absurd el
members_written a b place (list k s) ms names vs v r few el p count h = absurd el
members_written a b place (variant k cs) ms names vs v r few el p count h = absurd el
members_written a b place (flags ns) ms names vs v r few el p count h = absurd el

-- ---- a list from its items

pub items_written : (a b c : Sink) (place n : ℕ) (s : Shape) (xs : Vec Val Global) (r : Result ℕ Fault) → n ≡ length xs.items → n < 2 ^ 64 → Puts a b (le_bytes 8 n)
    → PartsWriteTo b c place (copies (length xs.items) s) (no_names xs.items) xs.items (cap (place + 1)) r → WritesTo a c (list of_items s) (val.List xs) place r
items_written a b c place n s xs (Err e) en few eb h = record {
  written = tt;
  counted = blames_later utf8 (λ how k. MemberFails how (copies (length xs.items) s) xs.items k) (λ how k. FailsAt how (list of_items s) (val.List xs) k) 1 place (cap (place + 1)) e refl
      (λ how j f. inr (xs.items, j, (xs, refl, refl), refl, copies_fail how (length xs.items) s xs.items j f))
      (image_count_members place (copies (length xs.items) s) (no_names xs.items) xs.items (cap (place + 1)) (Err e) (copies_names (length xs.items) s xs.items refl) h.counted);
  told = h.told;
}
items_written a b c place n s xs (Ok to) en few eb h =
    let (ts, bs, ec, have, are) = h.written in
    let (l, each) = copies_have false (length xs.items) s xs.items ts have in
    let (images, many) = copies_image (length xs.items) (numbered_shape s) (numbered_trees ts) bs (subst (λ l. MembersImage l (numbered_trees ts) bs) (numbered_copies (length xs.items) s) are) in
    let adds = adds_of a c (le_bytes 8 n ++ bs) (val.List xs) (all_resources xs.items) (all_handles ts) (handles_in (items ts)) (resources_list xs) refl (puts_first a b c (le_bytes 8 n) bs (all_resources xs.items) (all_handles ts) eb ec) in
    let field : IsField 8 (tree_count (numbered_trees ts)) (le_bytes 8 n ++ bs) bs = record { fits = omega (arith, few, en, many); is = ap (λ i. le_bytes 8 i ++ bs) (en ∙ sym many) } in
    let counted = image_count_members place (copies (length xs.items) s) (no_names xs.items) xs.items (cap (place + 1)) (Ok to) (copies_names (length xs.items) s xs.items refl) h.counted in
    record {
      written = (items ts, le_bytes 8 n ++ bs, adds, (xs.items, ts, (xs, refl, refl), refl, each), (numbered_trees ts, bs, refl, field, images));
      counted = omega (arith, counted, places_list xs);
      told = tt;
    }

-- ---- a value from its case

pub case_imaged : (cs : Cases) (i d : ℕ) (ts : Trees) (bs : List ℕ) → i < case_count cs → MembersImage (case_members cs i) ts bs → CaseImage cs i d (case_tree d ts) bs
case_imaged no_cases i d ts bs l h = absurd (omega (arith, l))
case_imaged (bare name cs) zero d ts bs l (et, eb) = (ap (case_tree d) et, eb)
case_imaged (bare name cs) (suc i) d ts bs l h = case_imaged cs i d ts bs (omega (arith, l)) h
case_imaged (payload name s cs) zero d ts bs l (t, us, xs, ys, et, eb, is, (eu, ey)) =
    (t, ap (case_tree d) (et ∙ ap (λ ws. tree t ws) eu), subst (λ l. Image s t l) (sym (eb ∙ ap (λ l. xs ++ l) ey ∙ append-nil xs)) is)
case_imaged (payload name s cs) (suc i) d ts bs l h = case_imaged cs i d ts bs (omega (arith, l)) h

pub case_written : (a b c : Sink) (place d n : ℕ) (k : VariantKind) (cs : Cases) (names : List Name) (vs : List Val) (v : Val) (r : Result ℕ Fault) → d < case_count cs → d < 2 ^ 32 → IsCase k cs d vs v
    → names ≡ member_names (case_members cs d) → n ≡ tag_size (case_count cs) → Puts a b (le_bytes n d) → PartsWriteTo b c place (case_members cs d) names vs (cap (place + 1)) r → WritesTo a c (variant k cs) v place r
case_written a b c place d n k cs names vs v (Err e) lt few of named en eb h = record {
  written = tt;
  counted = image_case_counted k cs d vs v place (Err e) of (image_count_members place (case_members cs d) names vs (cap (place + 1)) (Err e) named h.counted);
  told = h.told;
}
case_written a b c place d n k cs names vs v (Ok to) lt few of named en eb h =
    let (ts, bs, ec, have, are) = h.written in
    let many = numbered_count cs in
    let tag : ℕ = tag_size (case_count cs) in
    let field : IsField tag d (le_bytes n d ++ bs) bs = record { fits = tag_fits (case_count cs) d lt few; is = ap (λ i. le_bytes i d ++ bs) en } in
    let inner = subst (λ l. MembersImage l (numbered_trees ts) bs) (sym (numbered_payload cs d)) are in
    let image : CaseImage (numbered_cases cs) d d (numbered_tree (case_tree d ts)) bs =
    subst (λ (t : Tree). CaseImage (numbered_cases cs) d d t bs) (sym (numbered_case d ts)) (case_imaged (numbered_cases cs) d d (numbered_trees ts) bs (omega (arith, lt, many)) inner) in
    let adds = adds_of a c (le_bytes n d ++ bs) v (all_resources vs) (all_handles ts) (handles_in (case_tree d ts)) (case_resources k cs d vs v of) (payload_handles false cs d vs ts lt have)
    (puts_first a b c (le_bytes n d) bs (all_resources vs) (all_handles ts) eb ec) in
    record {
      written = (
        case_tree d ts,
        le_bytes n d ++ bs,
        adds,
        (d, vs, ts, of, refl, case_has false cs d vs ts lt have),
        (d, bs, subst (λ m. IsField (tag_size m) d (le_bytes n d ++ bs) bs) (sym many) field, image),
      );
      counted = image_case_counted k cs d vs v place (Ok to) of (image_count_members place (case_members cs d) names vs (cap (place + 1)) (Ok to) named h.counted);
      told = tt;
    }

-- ---- a value by itself

pub short : (a b : Sink) (s : Shape) (v : Val) (place : ℕ) (e : Fault) → e ≡ fault.OutOfMemory → WritesTo a b s v place (Err e)
short a b s v place e is = subst (λ x. WritesTo a b s v place (Err x)) (sym is) (record { written = tt; counted = tt; told = tt })

pub scalar_written : (t : TypeTable) (a b : Sink) (type : InterfaceType) (v : Val) (w n place next : ℕ) → n ≡ size false (shape_of t type) → IsWordOf type v w → Puts a b (le_bytes n w) → next ≡ cap (place + 1)
    → WritesTo a b (shape_of t type) v place (Ok next)
unfolding size
scalar_written t a b type v w n place next en (k, u, e, has, is, least) eb counted =
    let shape : shape_of t type ≡ scalar k = scalar_shape t type k e in
    let bytes : n ≡ scalar_size k = en ∙ ap (size false) shape in
    let (is2, least2) = least_low k w u is least in
    let low : le_bytes n w ≡ le_bytes (scalar_size k) (w % 256 ^ scalar_size k) = ap (λ j. le_bytes j w) bytes ∙ sym (le_bytes_low (scalar_size k) w) in
    let plain = scalar_plain k v u has in
    let image : Image (scalar k) u (le_bytes n w) = (w % 256 ^ scalar_size k, record { fits = below w (scalar_size k); is = low ∙ sym (append-nil _) }, is2, least2) in
    subst (λ (s : Shape). WritesTo a b s v place (Ok next)) (sym shape) (record {
      written = (u, le_bytes n w, puts_plain a b (le_bytes n w) v u eb (scalar_has_none k v u has) plain.1, has, subst (λ (t : Tree). Image (scalar k) t (le_bytes n w)) (sym plain.0) image);
      counted = omega (arith, counted, scalar_places k v u has);
      told = tt;
    })
  where
    below : (w k : ℕ) → w % 256 ^ k < 256 ^ k
    below w k = mod-lt w (omega (arith, one-le-pow k 256 (omega arith)))

pub image_text_written : (a b c : Sink) (s : String Global) (place n next : ℕ) → n ≡ length (string_bytes s) → n < 2 ^ 64 → Puts a b (le_bytes 8 n) → Puts b c (string_bytes s) → next ≡ cap (place + 1)
    → WritesTo a c string (val.String s) place (Ok next)
image_text_written a b c s place n next en few eb ec counted =
    let (cs, h) = spelled s in
    let same : string_bytes s ≡ encode_utf8_all cs = sym h.is in
    let many : n ≡ length (encode_utf8_all cs) = en ∙ ap length same in
    record {
      written = (
        text cs n,
        le_bytes 8 n ++ string_bytes s,
        puts_first a b c (le_bytes 8 n) (string_bytes s) (resources (val.String s)) [] eb (puts_plain b c (string_bytes s) (val.String s) (text cs n) ec (text_has_none cs (val.String s) (s, refl, h)) refl),
        (cs, n, (s, refl, h), refl),
        (cs, n, refl, h.can, record { fits = omega (arith, few, many); is = ap₂ (λ i l. le_bytes 8 i ++ l) many same }),
      );
      counted = omega (arith, counted, places_text s);
      told = tt;
    }

-- ---- a handle

module _ (a b c : Sink) (n place next : ℕ) (x : Any) (en : n ≡ length a.list) (few : n < 2 ^ 32) (put : Puts a b (le_bytes 4 n)) (same : c.bytes ≡ b.bytes) (kept : c.list ≡ b.list ++ x ∷ []) (counted : next ≡ cap (place + 1)) where
  adds_handle : AddsImage a c (le_bytes 4 n) (resources (val.Resource x)) (n ∷ [])
  adds_handle = record {
    bytes = same ∙ put.0;
    list = subst (λ xs. AreAdded a.list c.list xs (n ∷ [])) (sym (resources_resource x))
        (subst (λ k. AreAdded a.list c.list (x ∷ []) (k ∷ [])) (sym en) (added_one a.list c.list x (kept ∙ ap (λ l. l ++ x ∷ []) put.1)));
  }

  handle_places : places (val.Resource x) ≡ 1
  handle_places = search (rules, the_lemmas)

  handle_so : (owned : Bool) (r : ℕ) → WritesTo a c (shaped_handle owned r) (val.Resource x) place (Ok next)
  handle_so true r = record {
    written = (handle n, le_bytes 4 n, adds_handle, (x, n, refl, refl), (n, record { fits = few; is = sym (append-nil _) }, refl, tt));
    counted = omega (arith, counted, handle_places);
    told = tt;
  }
  handle_so false r = record {
    written = (handle n, le_bytes 4 n, adds_handle, (x, n, refl, refl), (n, record { fits = few; is = sym (append-nil _) }, refl, tt));
    counted = omega (arith, counted, handle_places);
    told = tt;
  }

  pub handle_written : (h : HandleType) → WritesTo a c (shape_of_handle h) (val.Resource x) place (Ok next)
  handle_written h = handle_so h.owned h.resource

-- ---- what a step of the walk left, said of what it was asked

pub image_case_told : (t : TypeTable) (a b c : Sink) (place n m first : ℕ) (s : Shape) (x : Case) (v : Val) (r : Result ℕ Fault) → IsCaseSeen t s v x → n ≡ tag_bytes x.info.size → m ≡ x.tag
    → Puts a b (le_bytes n m) → first ≡ cap (place + 1)
    → PartsWriteTo b c place (viewed_shapes t x.payload) (viewed_names x.payload) (viewed_values x.payload) first r → WritesTo a c s v place r
image_case_told t a b c place n m first s x v r seen en em eb ef h =
    subst (λ (y : Shape). WritesTo a c y v place r) (sym seen.shape)
    (case_written a b c place x.tag n seen.kind seen.cases (viewed_names x.payload) (viewed_values x.payload) v r seen.inside (omega (arith, seen.inside, seen.info.few)) seen.is (seen.names ∙ ap member_names seen.shapes)
    (en ∙ seen.info.size)
    (subst (λ k. Puts a b (le_bytes n k)) em eb)
    (subst (λ (ms : Members). PartsWriteTo b c place ms (viewed_names x.payload) (viewed_values x.payload) (cap (place + 1)) r) seen.shapes
    (subst (λ (f : ℕ). PartsWriteTo b c place (viewed_shapes t x.payload) (viewed_names x.payload) (viewed_values x.payload) f r) ef h)))

pub items_told : (a b c : Sink) (place n first : ℕ) (s : Shape) (xs : Vec Val Global) (ys : List Val) (r : Result ℕ Fault) → ys ≡ xs.items → n ≡ length xs.items → n < 2 ^ 64 → Puts a b (le_bytes 8 n) → first ≡ cap (place + 1)
    → PartsWriteTo b c place (copies (length ys) s) (no_names ys) ys first r → WritesTo a c (list of_items s) (val.List xs) place r
items_told a b c place n first s xs ys r ey en few eb ef h =
    items_written a b c place n s xs r en few eb
    (subst (λ (zs : List Val). PartsWriteTo b c place (copies (length zs) s) (no_names zs) zs (cap (place + 1)) r) ey (subst (λ (f : ℕ). PartsWriteTo b c place (copies (length ys) s) (no_names ys) ys f r) ef h))

pub image_parts_told : (a b : Sink) (place first : ℕ) (ms : Members) (names : List Name) (vs : List Val) (r : Result ℕ Fault) → first ≡ cap (place + 1) → PartsWriteTo a b place ms names vs first r
    → PartsWriteTo a b place ms names vs (cap (place + 1)) r
image_parts_told a b place first ms names vs r ef h = subst (λ (f : ℕ). PartsWriteTo a b place ms names vs f r) ef h

-- a fault of a view is reported
told_itself : (s : Shape) (v : Val) (place : ℕ) (e : Fault) → BlamesItself s v place e → IsTold e
told_itself s v place (fault.TypeMismatch k) h = tt
told_itself s v place (fault.LengthMismatch k) h = tt
told_itself s v place (fault.UnknownCase k) h = tt
told_itself s v place (fault.PayloadExpected k) h = tt
told_itself s v place (fault.PayloadNotExpected k) h = tt
told_itself s v place (fault.FieldName k) h = absurd h
told_itself s v place (fault.UnknownFlag k) h = absurd h
told_itself s v place (fault.StringTooLong n) h = absurd h
told_itself s v place (fault.SizeOverflow n) h = absurd h
told_itself s v place (fault.ReallocMisaligned a) h = absurd h
told_itself s v place (fault.ReallocOutOfBounds a) h = absurd h
told_itself s v place fault.GuestTrap h = absurd h
told_itself s v place (fault.PointerMisaligned at) h = absurd h
told_itself s v place (fault.PointerOutOfBounds at) h = absurd h
told_itself s v place (fault.InvalidUtf8 at) h = absurd h
told_itself s v place (fault.InvalidUtf16 at) h = absurd h
told_itself s v place (fault.InvalidChar at) h = absurd h
told_itself s v place (fault.BadDiscriminant at n) h = absurd h
told_itself s v place fault.HostcallFuelExhausted h = absurd h
told_itself s v place fault.OutOfMemory h = absurd h
told_itself s v place (fault.Resource e) h = absurd h

pub refused : (a : Sink) (s : Shape) (v : Val) (place : ℕ) (e : Fault) → place < 2 ^ 64 → BlamesItself s v place e → WritesTo a a s v place (Err e)
refused a s v place e few h = record { written = tt; counted = (blames_itself s v place few e h).1 utf8; told = told_itself s v place e h }
