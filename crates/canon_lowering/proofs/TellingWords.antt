-- What is told of a value that is read in words is what is told of its parts, and back; and of a function's parameters, in words or by a pointer.
use Rattle.std.proofs.Common.{List, ap, arith, false, length, refl, subst, suc, sym, zero, ℕ, ◌*◌, ◌+◌, ◌<◌, ◌%◌, ◌∙◌, ◌≡◌, ◌≤◌}
use Rattle.std.specs.Prelude.{slice_index}
use Rattle.std.proofs.lemmas.Bool.{false≢true}
use Rattle.canon_model.specs.Carrying.{AllHanded, Handed}
use Rattle.canon_model.specs.Flat.{CaseFlat, Flat, MembersFlat, RepArgs, max_params}
use Rattle.canon_model.specs.Layout.{align, cases_flat, flat, members_align, members_flat, size}
use Rattle.canon_model.specs.Memory.{Inside, Memory, low, ptr}
use Rattle.canon_model.specs.Shape.{Cases, ListKind, Members, Name, ProductKind, Shape, VariantKind, bare, case_count, fixed, list, member, no_cases, of_places, payload, product, variant}
use Rattle.canon_model.specs.Text.{Encoding}
use Rattle.canon_model.specs.Tree.{EachAt, Tree, Trees, case, case_number, items, no_trees, parts, tree, tree_count, trees_of}
use Rattle.canon_lowering.specs.Carried.{StandWith, StandWithIn, StandsWithIn}
use Rattle.canon_lowering.specs.Copies.{case_members, case_tree, copies, payload_trees}
use Rattle.canon_lowering.proofs.Attempts.{FirstAnd}
use Rattle.canon_lowering.proofs.Copying.{copies_in_words, copies_stored}
use Rattle.canon_lowering.proofs.TellingParts.{HasPayload, at0, case_handed, handed_count, row_members}

module _ (enc : Encoding) (m : Memory) (ws : List ℕ) where
  pub told_first_in : (name : Name) (s : Shape) (ms : Members) (i : ℕ) (ts : Trees) → FirstAnd (StandsWithIn enc m ws s i) (StandWithIn enc m ws ms (i + flat s)) ts → StandWithIn enc m ws (member name s ms) i ts
  told_first_in name s ms i ts (t, rest, e, (u, r, h), (us, rs, hs)) = (tree u us, (u, us, refl, r, rs), (t, rest, e, h, hs))

  pub first_told_in : (name : Name) (s : Shape) (ms : Members) (i : ℕ) (ts : Trees) → StandWithIn enc m ws (member name s ms) i ts → FirstAnd (StandsWithIn enc m ws s i) (StandWithIn enc m ws ms (i + flat s)) ts
  first_told_in name s ms i ts (us, (u, rest, e, r, rs), h) = let (t, more, f, k, ks) = subst (λ vs. AllHanded vs ts) e h in (t, more, f, (u, r, k), (rest, rs, ks))

  pub told_product_in : (k : ProductKind) (ms : Members) (i : ℕ) (ts : Trees) → StandWithIn enc m ws ms i ts → StandsWithIn enc m ws (product k ms) i (parts ts)
  told_product_in k ms i ts (us, rs, h) = (parts us, (us, refl, rs), (ts, refl, h))

  pub product_told_in : (k : ProductKind) (ms : Members) (i : ℕ) (t : Tree) → StandsWithIn enc m ws (product k ms) i t → StandWithIn enc m ws ms i (trees_of t)
  product_told_in k ms i t (u, (us, e, rs), h) = let (ts, f, hs) = subst (λ w. Handed w t) e h in (us, rs, subst (λ w. AllHanded us (trees_of w)) (sym f) hs)

  -- items in a row of words, as members
  row_in_words : (n : ℕ) (s : Shape) (i : ℕ) (us : Trees) → tree_count us ≡ n → EachAt (λ j u. Flat (Inside m) false enc m ws s j u) (flat s) i us → MembersFlat (Inside m) false enc m ws (copies n s) i us
  row_in_words zero s i no_trees e h = refl
  row_in_words zero s i (tree u us) e h = absurd (omega (arith, e))
  row_in_words (suc n) s i no_trees e h = absurd (omega (arith, e))
  row_in_words (suc n) s i (tree u us) e (h, hs) = (u, us, refl, h, row_in_words n s (i + flat s) us (omega (arith, e)) hs)

  pub told_fixed_in : (n : ℕ) (s : Shape) (i : ℕ) (ts : Trees) → StandWithIn enc m ws (copies n s) i ts → StandsWithIn enc m ws (fixed n s) i (parts ts) × (tree_count ts ≡ n)
  told_fixed_in n s i ts (us, rs, h) =
      let rows = copies_in_words (Inside m) false enc m ws n s i us rs in
      ((parts us, record { trees = us; is = refl; count = rows.1; each = rows.0 }, (ts, refl, h)), handed_count us ts h ∙ rows.1)

  pub fixed_told_in : (n : ℕ) (s : Shape) (i : ℕ) (t : Tree) → StandsWithIn enc m ws (fixed n s) i t → StandWithIn enc m ws (copies n s) i (trees_of t)
  fixed_told_in n s i t (u, row, h) =
      let (ts, f, hs) = subst (λ w. Handed w t) row.is h in
      (row.trees, row_in_words n s i row.trees row.count row.each, subst (λ w. AllHanded row.trees (trees_of w)) (sym f) hs)

  -- a list to which two words point
  pub told_list_in : (k : ListKind) (s : Shape) (i : ℕ) (ts : Trees) → ptr m (slice_index ws i) % align m.wide s ≡ 0 → Inside m (ptr m (slice_index ws i)) (ptr m (slice_index ws (i + 1)) * size m.wide s)
      → StandWith enc m (copies (ptr m (slice_index ws (i + 1))) s) 0 (ptr m (slice_index ws i)) ts → StandsWithIn enc m ws (list k s) i (items ts) × (tree_count ts ≡ ptr m (slice_index ws (i + 1)))
  told_list_in k s i ts aligned inside (us, rs, h) =
      let p : ℕ = ptr m (slice_index ws i) in
      let n : ℕ = ptr m (slice_index ws (i + 1)) in
      let rows = copies_stored (Inside m) false enc m n 0 s p p us (at0 enc m s) (omega arith) rs in
      ((items us, (record { trees = us; is = refl; count = rows.1; aligned = aligned; inside = inside; each = rows.0 }, λ strict. absurd (false≢true strict)), (ts, refl, h)), handed_count us ts h ∙ rows.1)

  pub list_told_in : (k : ListKind) (s : Shape) (i : ℕ) (t : Tree) → StandsWithIn enc m ws (list k s) i t → StandWith enc m (copies (ptr m (slice_index ws (i + 1))) s) 0 (ptr m (slice_index ws i)) (trees_of t)
  list_told_in k s i t (u, (row, least), h) =
      let (ts, f, hs) = subst (λ w. Handed w t) row.is h in
      (row.trees, row_members (Inside m) false enc m (ptr m (slice_index ws (i + 1))) 0 s (ptr m (slice_index ws i)) (ptr m (slice_index ws i)) row.trees (at0 enc m s) (omega arith) row.count row.each, subst (λ w. AllHanded row.trees (trees_of w)) (sym f) hs)

  -- ---- cases

  loose_case : (cs : Cases) (c d j e : ℕ) (us : Trees) → c < case_count cs → MembersFlat (Inside m) false enc m ws (case_members cs c) j us → CaseFlat (Inside m) false enc m ws cs c d j e (case_tree d us)
  loose_case no_cases c d j e us lt h = absurd (omega (arith, lt))
  loose_case (bare name cs) zero d j e us lt h = (ap (λ vs. case_tree d vs) h, λ strict. absurd (false≢true strict))
  loose_case (bare name cs) (suc c) d j e us lt h = loose_case cs c d j e us (omega (arith, lt)) h
  loose_case (payload name s cs) zero d j e us lt (u, rest, is, h, hs) = (u, ap (λ vs. case_tree d vs) is, h, λ strict. absurd (false≢true strict))
  loose_case (payload name s cs) (suc c) d j e us lt h = loose_case cs c d j e us (omega (arith, lt)) h

  pub told_case_in : (k : VariantKind) (cs : Cases) (i d : ℕ) (ts : Trees) → low (slice_index ws i) ≡ d → d < case_count cs → StandWithIn enc m ws (case_members cs d) (i + 1) ts → StandsWithIn enc m ws (variant k cs) i (case_tree d ts)
  told_case_in k cs i d ts tag lt (us, rs, h) = (
    case_tree d us,
    (subst (λ c. CaseFlat (Inside m) false enc m ws cs c c (i + 1) (i + 1 + cases_flat cs) (case_tree d us)) (sym tag) (loose_case cs d d (i + 1) (i + 1 + cases_flat cs) us lt rs), λ strict. absurd (false≢true strict)),
    case_handed enc m d us ts h,
  )

  case_parts_in : (cs : Cases) (c d j e : ℕ) (u t : Tree) → CaseFlat (Inside m) false enc m ws cs c d j e u → Handed u t → (case_number t ≡ d)
      × StandWithIn enc m ws (case_members cs c) j (payload_trees t) × HasPayload enc m (case_members cs c) d t
  case_parts_in no_cases c d j e u t h g = absurd h
  case_parts_in (bare name cs) zero d j e u t (h, least) g = let is : t ≡ case d = subst (λ w. Handed w t) h g in (ap case_number is, (no_trees, refl, ap payload_trees is), is)
  case_parts_in (bare name cs) (suc c) d j e u t h g = case_parts_in cs c d j e u t h g
  case_parts_in (payload name s cs) zero d j e u t (v, is, h, least) g =
      let (w, f, k) = subst (λ x. Handed x t) is g in (
        ap case_number f,
        (tree v no_trees, (v, no_trees, refl, h, refl), subst (λ x. AllHanded (tree v no_trees) (payload_trees x)) (sym f) (w, no_trees, refl, k, refl)),
        (w, f),
      )
  case_parts_in (payload name s cs) (suc c) d j e u t h g = case_parts_in cs c d j e u t h g

  pub case_told_in : (k : VariantKind) (cs : Cases) (i : ℕ) (t : Tree) → StandsWithIn enc m ws (variant k cs) i t
      → (case_number t ≡ low (slice_index ws i)) × StandWithIn enc m ws (case_members cs (low (slice_index ws i))) (i + 1) (payload_trees t) × HasPayload enc m (case_members cs (low (slice_index ws i))) (low (slice_index ws i)) t
  case_told_in k cs i t (u, (h, least), g) = case_parts_in cs (low (slice_index ws i)) (low (slice_index ws i)) (i + 1) (i + 1 + cases_flat cs) u t h g

  -- ---- a function's parameters

  -- their trees, with other handles
  abbrev pub ArgsWith : Members → Trees → Type 0
  ArgsWith ms ts = (us : Trees) × RepArgs false enc m ws ms us × AllHanded us ts

  pub told_near : (ms : Members) (ts : Trees) → members_flat ms ≤ max_params → length ws ≡ members_flat ms → StandWithIn enc m ws ms 0 ts → ArgsWith ms ts
  told_near ms ts near count (us, rs, h) = (us, record { near = λ l. (count, rs); far = λ l. absurd (omega (arith, near, l)) }, h)

  pub near_told : (ms : Members) (ts : Trees) → members_flat ms ≤ max_params → ArgsWith ms ts → StandWithIn enc m ws ms 0 ts
  near_told ms ts near (us, rep, h) = (us, (rep.near near).1, h)

  pub told_far : (ms : Members) (ts : Trees) → max_params < members_flat ms → length ws ≡ 1 → ptr m (slice_index ws 0) % members_align m.wide ms ≡ 0 → Inside m (ptr m (slice_index ws 0)) (size m.wide (product of_places ms))
      → StandWith enc m ms 0 (ptr m (slice_index ws 0)) ts → ArgsWith ms ts
  told_far ms ts far one aligned room (us, rs, h) = (
    us,
    record { near = λ l. absurd (omega (arith, far, l)); far = λ l. (one, record { aligned = aligned; stored = (room, (us, refl, rs)); narrow = λ strict. absurd (false≢true strict) }) },
    h,
  )

  parts_same : (us vs : Trees) → parts us ≡ parts vs → us ≡ vs
  parts_same us vs e = ap trees_of e

  pub far_told : (ms : Members) (ts : Trees) → max_params < members_flat ms → ArgsWith ms ts → StandWith enc m ms 0 (ptr m (slice_index ws 0)) ts
  far_told ms ts far (us, rep, h) =
      let (room, (vs, e, rs)) = (rep.far far).1.stored in
      (vs, rs, subst (λ ks. AllHanded ks ts) (parts_same us vs e) h)
