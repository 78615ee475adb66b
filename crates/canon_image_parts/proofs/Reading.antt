-- Steps of reading an image, over plain lists.
use Rattle.std.proofs.Common.{Err, List, Ok, Vec, [], append-nil, append_assoc, ap, arith, drop, inl, inr, length, length-append, map, refl, subst, suc, sym, true, zero, ℕ, ◌+◌, ◌++◌, ◌<◌, ◌^◌, ◌∙◌, ◌∷◌, ◌≡◌, ◌≤◌}
use Rattle.std.specs.Bool.{⊤}
use Rattle.std.specs.declared.alloc.Global.{Global}
use Rattle.canon_lowering.specs.Copies.{case_members, case_tree, copies}
use Rattle.canon_model.specs.Image.{CaseImage, Image, IsField, MembersImage, le_bytes}
use Rattle.canon_model.specs.Layout.{tag_size}
use Rattle.canon_model.specs.Shape.{Cases, Members, Shape, VariantKind, bare, borrow, case_count, fixed, flags, list, member, member_count, no_cases, no_members, of_items, own, payload, product, scalar, string, variant}
use Rattle.canon_model.specs.Tree.{Tree, Trees, items, no_trees, parts, tree}
use Rattle.canon_types.specs.Depth.{variant_cases}
use Rattle.canon_types.specs.Table.{TypeTable, shape_of}
use Rattle.canon_plan.specs.Plan.{IsSlot, LiesAs, members_from}
use Rattle.canon_plan.specs.declared.plan.Slot.{Slot}
use Rattle.canon_plan.proofs.Lookups.{members_from-all}
use Rattle.canon_value_parts.specs.Plan.{IsCaseRebuilt, IsRebuilt, parts_of}
use Rattle.canon_val.specs.Value.{AreLiftedFrom}
use Rattle.canon_val.specs.declared.val.Val.{Val}
use Rattle.canon_val.specs.declared.val.Val.TheVariants as val
use Rattle.canon_value_parts.proofs.ResourcesOf.{resources_list}
use Rattle.canon_value_parts.proofs.Walks.{copies_have}
use Rattle.canon_value_parts.specs.Resources.{all_resources, resources}
use Rattle.canon_model.proofs.ImageFields.{length-le_bytes}
use Rattle.canon_image_parts.proofs.Numbering.{numbered_case, numbered_copies, numbered_count, numbered_payload, payload_handles, stand_more}
use Rattle.canon_image_parts.proofs.Writing.{case_imaged, copies_image}
use Rattle.canon_image_parts.specs.Numbered.{StandFor, all_handles, numbered_cases, numbered_members, numbered_shape, numbered_tree, numbered_trees, stand_in}
use Rattle.canon_image_parts.specs.Read.{NumberReadTo, ReadsTo, Spans, StopsFrom}
use Rattle.canon_image_parts.specs.Stops.{CaseStops, FirstStops, MembersStop, RowStops, Stop, StopsAt, malformed, truncated}
use Rattle.canon_image_parts.specs.declared.error.ImageError.{ImageError}
use Rattle.canon_image_parts.specs.declared.error.ImageError.TheVariants as error

-- ---- bytes from one place to another

pub spans_none : (bs : List ℕ) (at : ℕ) → at ≤ length bs → Spans bs at at []
spans_none bs at h = record { is = refl; to_is = omega arith; inside = h }

pub spans_join : (bs : List ℕ) (a b c : ℕ) (xs ys : List ℕ) → Spans bs a b xs → Spans bs b c ys → Spans bs a c (xs ++ ys)
spans_join bs a b c xs ys h g = record {
  is = h.is ∙ ap (λ l. xs ++ l) g.is ∙ sym (append_assoc xs ys (drop c bs));
  to_is = omega (arith, h.to_is, g.to_is, length-append xs ys);
  inside = g.inside;
}

-- ---- where reading stopped

pub stops_later : (F G : ℕ → Stop → Type 0) (n from mid : ℕ) (e : ImageError) → mid ≡ from + n → ((j : ℕ) (how : Stop) → F j how → G (n + j) how) → StopsFrom F mid e → StopsFrom G from e
stops_later F G n from mid error.Resource em f h = absurd h
stops_later F G n from mid (error.NotOfType k) em f h = absurd h
stops_later F G n from mid (error.Truncated p) em f (j, ep, h) = (n + j, omega (arith, ep, em), f j truncated h)
stops_later F G n from mid (error.Malformed p) em f (j, ep, h) = (n + j, omega (arith, ep, em), f j malformed h)
stops_later F G n from mid (error.Trailing p) em f h = absurd h
stops_later F G n from mid error.OutOfMemory em f h = tt

pub stops_as : (F G : ℕ → Stop → Type 0) (from : ℕ) (e : ImageError) → ((j : ℕ) (how : Stop) → F j how → G j how) → StopsFrom F from e → StopsFrom G from e
stops_as F G from error.Resource f h = absurd h
stops_as F G from (error.NotOfType k) f h = absurd h
stops_as F G from (error.Truncated p) f (j, ep, h) = (j, ep, f j truncated h)
stops_as F G from (error.Malformed p) f (j, ep, h) = (j, ep, f j malformed h)
stops_as F G from (error.Trailing p) f h = absurd h
stops_as F G from error.OutOfMemory f h = tt

pub stops_short : (F : ℕ → Stop → Type 0) (from : ℕ) (e : ImageError) → e ≡ error.OutOfMemory → StopsFrom F from e
stops_short F from e is = subst (StopsFrom F from) (sym is) tt

-- ---- members in a row

abbrev pub PartsRead : List ℕ → ℕ → ℕ → Members → List Val → Type 0
PartsRead bs from to ms vs = (ts : Trees) × (xs : List ℕ) × Spans bs from to xs × MembersImage (numbered_members ms) (numbered_trees ts) xs × AreLiftedFrom ms vs ts × StandFor (all_handles ts) (all_resources vs)

-- What is left to read after i members completes what is done.
pub record AreRead (bs : List ℕ) (from : ℕ) (ms : Members) (at : ℕ) (vs : List Val) (i : ℕ) : Type 0 where
  pub inside : at ≤ length bs
  pub rest : (z : ℕ) (ws : List Val) → PartsRead bs at z (members_from i ms) ws → PartsRead bs from z ms (vs ++ ws)
  pub stops : (e : ImageError) → StopsFrom (MembersStop (numbered_members (members_from i ms)) (drop at bs)) at e → StopsFrom (MembersStop (numbered_members ms) (drop from bs)) from e

pub begin_read : (bs : List ℕ) (from : ℕ) (ms : Members) → from ≤ length bs → AreRead bs from ms from [] 0
begin_read bs from ms h = record { inside = h; rest = λ z ws g. g; stops = λ e g. g }

module _ (bs : List ℕ) (from : ℕ) (ms : Members) (at : ℕ) (vs : List Val) (i : ℕ) (h : AreRead bs from ms at vs i) where
  module _ (t : TypeTable) (m : Slot) (is : IsSlot t ms i m) where
    abbrev s : Shape
    s = shape_of t m.ty

    pub member_stops : (to : ℕ) (e : ImageError) → ReadsTo bs at to s (Err e) → StopsFrom (MembersStop (numbered_members ms) (drop from bs)) from e
    member_stops to e g = h.stops e (subst (λ (xs : Members). StopsFrom (MembersStop (numbered_members xs) (drop at bs)) at e) (sym is.shapes)
        (stops_as (StopsAt (numbered_shape s) (drop at bs)) (MembersStop (member is.name (numbered_shape s) (numbered_members (members_from (i + 1) ms))) (drop at bs)) at e (λ j how f. inl f) g))

    pub member_read : (to : ℕ) (v : Val) (ws : List Val) → ReadsTo bs at to s (Ok v) → ws ≡ vs ++ v ∷ [] → AreRead bs from ms to ws (i + 1)
    member_read to v ws (t2, xs, span, image, lifted, number) ew = record {
      inside = span.inside;
      rest = λ z us (ts, ys, more, images, are, numbers).
          subst (λ l. PartsRead bs from z ms l) (sym (append_assoc vs (v ∷ []) us) ∙ ap (λ l. l ++ us) (sym ew))
          (h.rest z (v ∷ us) (subst (λ (l : Members). PartsRead bs at z l (v ∷ us)) (sym is.shapes) (
            tree t2 ts,
            xs ++ ys,
            spans_join bs at to z xs ys span more,
            (numbered_tree t2, numbered_trees ts, xs, ys, refl, refl, image, images),
            (v, us, t2, ts, refl, refl, lifted, are),
            stand_more v us t2 ts number numbers,
          )));
      stops = λ e g. h.stops e (subst (λ (l : Members). StopsFrom (MembersStop (numbered_members l) (drop at bs)) at e) (sym is.shapes)
          (stops_later (MembersStop (numbered_members (members_from (i + 1) ms)) (drop to bs)) (MembersStop (member is.name (numbered_shape s) (numbered_members (members_from (i + 1) ms))) (drop at bs)) (length xs) at to e span.to_is
          (λ j how f. inr (numbered_tree t2, xs, drop to bs, j, span.is, image, refl, f)) g));
    }

  pub all_read : i ≡ member_count ms → PartsRead bs from at ms vs
  all_read e = subst (λ l. PartsRead bs from at ms l) (append-nil vs)
      (h.rest at [] (subst (λ (l : Members). PartsRead bs at at l []) (sym (members_from-all ms i e)) (no_trees, [], spans_none bs at h.inside, (refl, refl), (refl, refl), refl)))

-- ---- a row of one shape

copies_stop : (n : ℕ) (s : Shape) (bs : List ℕ) (p : ℕ) (how : Stop) → MembersStop (copies n s) bs p how → RowStops (λ t xs. Image s t xs) (λ xs i h. StopsAt s xs i h) n bs p how
copies_stop zero s bs p how h = h
copies_stop (suc n) s bs p how (inl h) = inl h
copies_stop (suc n) s bs p how (inr (t, xs, rest, j, e, image, ep, h)) = inr (t, xs, rest, j, e, image, ep, copies_stop n s rest j how h)

-- ---- a value from its members

pub image_have_count : (ms : Members) (vs : List Val) (ts : Trees) → AreLiftedFrom ms vs ts → length vs ≡ member_count ms
image_have_count no_members vs ts (ev, et) = ap length ev
image_have_count (member name s ms) vs ts (v, others, t, rest, ev, et, has, have) = ap length ev ∙ ap suc (image_have_count ms others rest have)

pub whole_read : (bs : List ℕ) (from to : ℕ) (s : Shape) (ms : Members) (vs : List Val) (v : Val) → LiesAs s ms → PartsRead bs from to ms vs → IsRebuilt s vs v → resources v ≡ all_resources vs → ReadsTo bs from to s (Ok v)
whole_read bs from to (product k ns) ms vs v e (ts, xs, span, images, are, numbers) made mine = (
  parts ts,
  xs,
  span,
  (numbered_trees ts, refl, subst (λ l. MembersImage (numbered_members l) (numbered_trees ts) xs) e images),
  made ts (subst (λ l. AreLiftedFrom l vs ts) e are),
  mine ∙ numbers,
)
whole_read bs from to (fixed n s) ms vs v e (ts, xs, span, images, are, numbers) made mine =
    let (each, count) = copies_image n (numbered_shape s) (numbered_trees ts) xs (subst (λ l. MembersImage l (numbered_trees ts) xs) (ap numbered_members e ∙ numbered_copies n s) images) in
    (parts ts, xs, span, (numbered_trees ts, refl, count, each), made ts (subst (λ l. AreLiftedFrom l vs ts) e are), mine ∙ numbers)
whole_read bs from to (scalar k) ms vs v e h made mine = absurd e
whole_read bs from to string ms vs v e h made mine = absurd e
whole_read bs from to (own r) ms vs v e h made mine = absurd e
whole_read bs from to (borrow r) ms vs v e h made mine = absurd e
whole_read bs from to (list k s) ms vs v e h made mine = absurd e
whole_read bs from to (variant k cs) ms vs v e h made mine = absurd e
whole_read bs from to (flags ns) ms vs v e h made mine = absurd e

pub whole_stops : (bs : List ℕ) (from to : ℕ) (s : Shape) (ms : Members) (e : ImageError) → LiesAs s ms → StopsFrom (MembersStop (numbered_members ms) (drop from bs)) from e → ReadsTo bs from to s (Err e)
whole_stops bs from to (product k ns) ms e is h = subst (λ l. StopsFrom (MembersStop (numbered_members l) (drop from bs)) from e) is h
whole_stops bs from to (fixed n s) ms e is h =
    stops_as (MembersStop (copies n (numbered_shape s)) (drop from bs)) (StopsAt (fixed n (numbered_shape s)) (drop from bs)) from e (λ j how f. copies_stop n (numbered_shape s) (drop from bs) j how f)
    (subst (λ l. StopsFrom (MembersStop l (drop from bs)) from e) (ap numbered_members is ∙ numbered_copies n s) h)
whole_stops bs from to (scalar k) ms e is h = absurd is
whole_stops bs from to string ms e is h = absurd is
whole_stops bs from to (own r) ms e is h = absurd is
whole_stops bs from to (borrow r) ms e is h = absurd is
whole_stops bs from to (list k s) ms e is h = absurd is
whole_stops bs from to (variant k cs) ms e is h = absurd is
whole_stops bs from to (flags ns) ms e is h = absurd is

pub whole_count : (bs : List ℕ) (from to : ℕ) (s : Shape) (ms : Members) (vs : List Val) → LiesAs s ms → PartsRead bs from to ms vs → length vs ≡ member_count (parts_of s (length vs))
whole_count bs from to (product k ns) ms vs e (ts, xs, span, images, are, numbers) = image_have_count ns vs ts (subst (λ l. AreLiftedFrom l vs ts) e are)
whole_count bs from to (fixed n s) ms vs e (ts, xs, span, images, are, numbers) = image_have_count (copies n s) vs ts (subst (λ l. AreLiftedFrom l vs ts) e are)
whole_count bs from to (scalar k) ms vs e h = absurd e
whole_count bs from to string ms vs e h = absurd e
whole_count bs from to (own r) ms vs e h = absurd e
whole_count bs from to (borrow r) ms vs e h = absurd e
whole_count bs from to (list k s) ms vs e h = absurd e
whole_count bs from to (variant k cs) ms vs e h = absurd e
whole_count bs from to (flags ns) ms vs e h = absurd e

-- ---- after a first number

module _ (bs : List ℕ) (from mid : ℕ) (k n : ℕ) (h : IsField k n (drop from bs) (drop mid bs)) (em : mid ≡ from + k) where
  pub first_span : (to : ℕ) (xs : List ℕ) → Spans bs mid to xs → Spans bs from to (le_bytes k n ++ xs)
  first_span to xs g = record {
    is = h.is ∙ ap (λ l. le_bytes k n ++ l) g.is ∙ sym (append_assoc (le_bytes k n) xs (drop to bs));
    to_is = omega (arith, g.to_is, em, length-append (le_bytes k n) xs, length-le_bytes k n);
    inside = g.inside;
  }

  pub first_stops : (Good : ℕ → Type 0) (After : ℕ → List ℕ → ℕ → Stop → Type 0) (e : ImageError) → StopsFrom (After n (drop mid bs)) mid e → StopsFrom (FirstStops k Good After (drop from bs)) from e
  first_stops Good After e g = stops_later (After n (drop mid bs)) (FirstStops k Good After (drop from bs)) k from mid e em (λ j how f. inr (n, drop mid bs, j, h, refl, f)) g

pub items_read : (bs : List ℕ) (from mid to n : ℕ) (s : Shape) (xs : Vec Val Global) → NumberReadTo bs from mid 8 (Ok n) → PartsRead bs mid to (copies n s) xs.items → ReadsTo bs from to (list of_items s) (Ok (val.List xs))
items_read bs from mid to n s xs (field, em, inside) (ts, ys, span, images, are, numbers) =
    let (each, count) = copies_image n (numbered_shape s) (numbered_trees ts) ys (subst (λ l. MembersImage l (numbered_trees ts) ys) (numbered_copies n s) images) in
    let (l, lifted) = copies_have true n s xs.items ts are in (
      items ts,
      le_bytes 8 n ++ ys,
      first_span bs from mid 8 n field em to ys span,
      (numbered_trees ts, ys, refl, record { fits = subst (λ i. i < 256 ^ 8) (sym count) field.fits; is = ap (λ i. le_bytes 8 i ++ ys) (sym count) }, each),
      (xs.items, ts, (xs, refl, refl), refl, lifted),
      resources_list xs ∙ numbers,
    )

pub items_stop : (bs : List ℕ) (from mid to n : ℕ) (s : Shape) (e : ImageError) → NumberReadTo bs from mid 8 (Ok n) → StopsFrom (MembersStop (numbered_members (copies n s)) (drop mid bs)) mid e → ReadsTo bs from to (list of_items s) (Err e)
items_stop bs from mid to n s e (field, em, inside) h =
    let u = numbered_shape s in
    first_stops bs from mid 8 n field em (λ i. ⊤) (λ i l j w. RowStops (λ t xs. Image u t xs) (λ xs q g. StopsAt u xs q g) i l j w) e
    (stops_as (MembersStop (copies n u) (drop mid bs)) (RowStops (λ t xs. Image u t xs) (λ xs i g. StopsAt u xs i g) n (drop mid bs)) mid e (λ j how f. copies_stop n u (drop mid bs) j how f)
    (subst (λ l. StopsFrom (MembersStop l (drop mid bs)) mid e) (numbered_copies n s) h))

-- a count that is cut off
pub count_stops : (bs : List ℕ) (from to : ℕ) (k : ℕ) (Good : ℕ → Type 0) (After : ℕ → List ℕ → ℕ → Stop → Type 0) (e : ImageError) → NumberReadTo bs from to k (Err e) → StopsFrom (FirstStops k Good After (drop from bs)) from e
count_stops bs from to k Good After e (is, short) = subst (StopsFrom (FirstStops k Good After (drop from bs)) from) (sym is) (0, omega arith, inl (refl, short))

-- ---- a value from its case

case_stops : (cs : Cases) (d : ℕ) (bs : List ℕ) (p : ℕ) (how : Stop) → MembersStop (case_members cs d) bs p how → CaseStops cs d bs p how
case_stops no_cases d bs p how h = h
case_stops (bare name cs) zero bs p how h = h
case_stops (bare name cs) (suc d) bs p how h = case_stops cs d bs p how h
case_stops (payload name s cs) zero bs p how (inl h) = h
case_stops (payload name s cs) zero bs p how (inr (t, xs, rest, j, e, image, ep, h)) = absurd h
case_stops (payload name s cs) (suc d) bs p how h = case_stops cs d bs p how h

pub image_case_read : (bs : List ℕ) (from mid to d : ℕ) (s : Shape) (k : VariantKind) (vs : List Val) (v : Val) → s ≡ variant k (variant_cases s) → d < case_count (variant_cases s)
    → IsField (tag_size (case_count (variant_cases s))) d (drop from bs) (drop mid bs)
    → mid ≡ from + tag_size (case_count (variant_cases s)) → PartsRead bs mid to (case_members (variant_cases s) d) vs → IsCaseRebuilt s d vs v → resources v ≡ all_resources vs → ReadsTo bs from to s (Ok v)
image_case_read bs from mid to d s k vs v is lt field em (ts, xs, span, images, are, numbers) made mine =
    let cs = variant_cases s in
    let many = numbered_count cs in
    let tag : ℕ = tag_size (case_count cs) in
    let spelled : IsField tag d (le_bytes tag d ++ xs) xs = record { fits = field.fits; is = refl } in
    let inner = subst (λ l. MembersImage l (numbered_trees ts) xs) (sym (numbered_payload cs d)) images in
    let image : CaseImage (numbered_cases cs) d d (numbered_tree (case_tree d ts)) xs =
    subst (λ (t : Tree). CaseImage (numbered_cases cs) d d t xs) (sym (numbered_case d ts)) (case_imaged (numbered_cases cs) d d (numbered_trees ts) xs (omega (arith, lt, many)) inner) in (
      case_tree d ts,
      le_bytes tag d ++ xs,
      first_span bs from mid tag d field em to xs span,
      subst (λ (x : Shape). Image (numbered_shape x) (numbered_tree (case_tree d ts)) (le_bytes tag d ++ xs)) (sym is) (d, xs, subst (λ n. IsField (tag_size n) d (le_bytes tag d ++ xs) xs) (sym many) spelled, image),
      made ts are,
      mine ∙ (numbers ∙ ap (λ ns. map stand_in ns) (sym (payload_handles true cs d vs ts lt are))),
    )

pub image_case_stopped : (bs : List ℕ) (from mid to d : ℕ) (s : Shape) (k : VariantKind) (e : ImageError) → s ≡ variant k (variant_cases s) → IsField (tag_size (case_count (variant_cases s))) d (drop from bs) (drop mid bs)
    → mid ≡ from + tag_size (case_count (variant_cases s)) → StopsFrom (MembersStop (numbered_members (case_members (variant_cases s) d)) (drop mid bs)) mid e → ReadsTo bs from to s (Err e)
image_case_stopped bs from mid to d s k e is field em h =
    let cs = variant_cases s in
    let us = numbered_cases cs in
    subst (λ (x : Shape). StopsFrom (StopsAt (numbered_shape x) (drop from bs)) from e) (sym is)
    (subst (λ n. StopsFrom (FirstStops (tag_size n) (λ i. i < n) (λ i l j w. CaseStops us i l j w) (drop from bs)) from e) (sym (numbered_count cs))
    (first_stops bs from mid (tag_size (case_count cs)) d field em (λ i. i < case_count cs) (λ i l j w. CaseStops us i l j w) e
    (stops_as (MembersStop (case_members us d) (drop mid bs)) (CaseStops us d (drop mid bs)) mid e (λ j how f. case_stops us d (drop mid bs) j how f)
    (subst (λ l. StopsFrom (MembersStop l (drop mid bs)) mid e) (sym (numbered_payload cs d)) h))))
