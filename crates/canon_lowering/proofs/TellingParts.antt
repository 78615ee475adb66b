-- What is told of a value that is read is what is told of its parts, and back.
use Rattle.std.proofs.Common.{Bool, ap, arith, false, refl, subst, suc, sym, zero, ℕ, ◌*◌, ◌+◌, ◌<◌, ◌%◌, ◌∙◌, ◌≡◌}
use Rattle.std.proofs.lemmas.Nat.Gcd.{dvd_of_mod-eq-zero}
use Rattle.std.proofs.Math.Nat.{zero-mod}
use Rattle.std.specs.Int.{◌∣◌}
use Rattle.canon_model.specs.Carrying.{AllHanded, Handed}
use Rattle.canon_model.specs.Layout.{align, begins, ends, payload_offset, pointer_size, size}
use Rattle.canon_model.specs.Memory.{Inside, Memory, length_at, pointer_at, tag_at}
use Rattle.canon_model.specs.Rep.{CaseStored, MembersStored, Stored}
use Rattle.canon_model.specs.Shape.{Cases, ListKind, Members, Name, ProductKind, Shape, VariantKind, bare, case_count, fixed, list, member, no_cases, no_members, payload, product, variant}
use Rattle.canon_model.specs.Text.{Encoding}
use Rattle.canon_model.specs.Tree.{EachAt, Tree, Trees, case, case_number, case_of, items, no_trees, parts, tree, tree_count, trees_of}
use Rattle.canon_lowering.specs.Carried.{StandWith, StandsWith}
use Rattle.canon_lowering.specs.Copies.{case_members, case_tree, copies, payload_trees}
use Rattle.canon_lowering.proofs.AimedCases.{case_stored}
use Rattle.canon_lowering.proofs.Attempts.{FirstAnd}
use Rattle.canon_lowering.proofs.Copying.{begins-same, copies_stored, ends-same, next_multiple}

pub handed_count : (us ts : Trees) → AllHanded us ts → tree_count ts ≡ tree_count us
handed_count no_trees ts h = ap tree_count h
handed_count (tree u us) ts (t, more, e, k, ks) = ap tree_count e ∙ ap suc (handed_count us more ks)

module _ (readable : ℕ → ℕ → Type 0) (strict : Bool) (enc : Encoding) (m : Memory) where
  -- a row of items, as members
  pub row_members : (n o : ℕ) (s : Shape) (at b : ℕ) (ts : Trees) → align m.wide s ∣ o → at + o ≡ b → tree_count ts ≡ n → EachAt (Stored readable strict enc m s) (size m.wide s) b ts
      → MembersStored readable strict enc m (copies n s) o at ts
  row_members zero o s at b no_trees al is e h = refl
  row_members zero o s at b (tree t ts) al is e h = absurd (omega (arith, e))
  row_members (suc n) o s at b no_trees al is e h = absurd (omega (arith, e))
  row_members (suc n) o s at b (tree t ts) al is e (h, hs) = (
    t,
    ts,
    refl,
    subst (λ c. Stored readable strict enc m s c t) (omega (arith, is, begins-same m.wide o s al)) h,
    row_members n (ends m.wide o s) s at (b + size m.wide s) ts (next_multiple m.wide o s al) (omega (arith, is, ends-same m.wide o s al)) (omega (arith, e)) hs,
  )

module _ (enc : Encoding) (m : Memory) where
  -- ---- members

  pub told_first : (name : Name) (s : Shape) (ms : Members) (o a : ℕ) (ts : Trees) → FirstAnd (StandsWith enc m s (a + begins m.wide o s)) (StandWith enc m ms (ends m.wide o s) a) ts → StandWith enc m (member name s ms) o a ts
  told_first name s ms o a ts (t, rest, e, (u, r, h), (us, rs, hs)) = (tree u us, (u, us, refl, r, rs), (t, rest, e, h, hs))

  pub first_told : (name : Name) (s : Shape) (ms : Members) (o a : ℕ) (ts : Trees) → StandWith enc m (member name s ms) o a ts → FirstAnd (StandsWith enc m s (a + begins m.wide o s)) (StandWith enc m ms (ends m.wide o s) a) ts
  first_told name s ms o a ts (us, (u, rest, e, r, rs), h) = let (t, more, f, k, ks) = subst (λ ws. AllHanded ws ts) e h in (t, more, f, (u, r, k), (rest, rs, ks))

  -- ---- products

  pub told_product : (k : ProductKind) (ms : Members) (a : ℕ) (ts : Trees) → Inside m a (size m.wide (product k ms)) → StandWith enc m ms 0 a ts → StandsWith enc m (product k ms) a (parts ts)
  told_product k ms a ts room (us, rs, h) = (parts us, (room, (us, refl, rs)), (ts, refl, h))

  pub lowering_product_told : (k : ProductKind) (ms : Members) (a : ℕ) (t : Tree) → StandsWith enc m (product k ms) a t → StandWith enc m ms 0 a (trees_of t)
  lowering_product_told k ms a t (u, (room, (us, e, rs)), h) = let (ts, f, hs) = subst (λ w. Handed w t) e h in (us, rs, subst (λ w. AllHanded us (trees_of w)) (sym f) hs)

  -- ---- rows

  pub at0 : (s : Shape) → align m.wide s ∣ 0
  at0 s = dvd_of_mod-eq-zero (align m.wide s) (zero-mod _)

  pub told_fixed : (n : ℕ) (s : Shape) (a : ℕ) (ts : Trees) → Inside m a (n * size m.wide s) → StandWith enc m (copies n s) 0 a ts → StandsWith enc m (fixed n s) a (parts ts) × (tree_count ts ≡ n)
  told_fixed n s a ts room (us, rs, h) =
      let rows = copies_stored (Inside m) false enc m n 0 s a a us (at0 s) (omega arith) rs in
      ((parts us, (room, record { trees = us; is = refl; count = rows.1; each = rows.0 }), (ts, refl, h)), handed_count us ts h ∙ rows.1)

  pub fixed_told : (n : ℕ) (s : Shape) (a : ℕ) (t : Tree) → StandsWith enc m (fixed n s) a t → StandWith enc m (copies n s) 0 a (trees_of t)
  fixed_told n s a t (u, (room, row), h) =
      let (ts, f, hs) = subst (λ w. Handed w t) row.is h in
      (row.trees, row_members (Inside m) false enc m n 0 s a a row.trees (at0 s) (omega arith) row.count row.each, subst (λ w. AllHanded row.trees (trees_of w)) (sym f) hs)

  -- a list whose pointer and length stand at an address
  pub told_list : (k : ListKind) (s : Shape) (a : ℕ) (ts : Trees) → Inside m a (2 * pointer_size m.wide) → pointer_at m a % align m.wide s ≡ 0 → Inside m (pointer_at m a) (length_at m a * size m.wide s)
      → StandWith enc m (copies (length_at m a) s) 0 (pointer_at m a) ts → StandsWith enc m (list k s) a (items ts) × (tree_count ts ≡ length_at m a)
  told_list k s a ts room aligned inside (us, rs, h) =
      let rows = copies_stored (Inside m) false enc m (length_at m a) 0 s (pointer_at m a) (pointer_at m a) us (at0 s) (omega arith) rs in
      ((items us, (room, record { trees = us; is = refl; count = rows.1; aligned = aligned; inside = inside; each = rows.0 }), (ts, refl, h)), handed_count us ts h ∙ rows.1)

  pub list_told : (k : ListKind) (s : Shape) (a : ℕ) (t : Tree) → StandsWith enc m (list k s) a t → StandWith enc m (copies (length_at m a) s) 0 (pointer_at m a) (trees_of t)
  list_told k s a t (u, (room, row), h) =
      let (ts, f, hs) = subst (λ w. Handed w t) row.is h in
      (row.trees, row_members (Inside m) false enc m (length_at m a) 0 s (pointer_at m a) (pointer_at m a) row.trees (at0 s) (omega arith) row.count row.each, subst (λ w. AllHanded row.trees (trees_of w)) (sym f) hs)

  -- ---- cases

  pub case_handed : (d : ℕ) (us ts : Trees) → AllHanded us ts → Handed (case_tree d us) (case_tree d ts)
  case_handed d no_trees ts h = ap (λ vs. case_tree d vs) h
  case_handed d (tree u us) ts (t, more, e, k, ks) = (t, ap (λ vs. case_tree d vs) e, k)

  -- what a case with these members says of its tree
  abbrev pub HasPayload : Members → ℕ → Tree → Type 0
  HasPayload no_members d t = t ≡ case d
  HasPayload (member name s ms) d t = (u : Tree) × (t ≡ case_of d u)

  pub told_case : (k : VariantKind) (cs : Cases) (a d : ℕ) (ts : Trees) → Inside m a (size m.wide (variant k cs)) → tag_at m a cs ≡ d → d < case_count cs
      → StandWith enc m (case_members cs d) 0 (a + payload_offset m.wide cs) ts → StandsWith enc m (variant k cs) a (case_tree d ts)
  told_case k cs a d ts room tag lt (us, rs, h) = (
    case_tree d us,
    (room, subst (λ i. CaseStored (Inside m) false enc m cs i i (a + payload_offset m.wide cs) (case_tree d us)) (sym tag) (case_stored (Inside m) false enc m cs d d (a + payload_offset m.wide cs) us lt rs)),
    case_handed d us ts h,
  )

  case_parts : (cs : Cases) (i d a : ℕ) (u t : Tree) → CaseStored (Inside m) false enc m cs i d a u → Handed u t → (case_number t ≡ d) × StandWith enc m (case_members cs i) 0 a (payload_trees t) × HasPayload (case_members cs i) d t
  case_parts no_cases i d a u t h g = absurd h
  case_parts (bare name cs) zero d a u t h g = let e : t ≡ case d = subst (λ w. Handed w t) h g in (ap case_number e, (no_trees, refl, ap payload_trees e), e)
  case_parts (bare name cs) (suc i) d a u t h g = case_parts cs i d a u t h g
  case_parts (payload name s cs) zero d a u t (v, e, h) g =
      let (w, f, k) = subst (λ x. Handed x t) e g in (
        ap case_number f,
        (
          tree v no_trees,
          (v, no_trees, refl, subst (λ b. Stored (Inside m) false enc m s b v) (omega (arith, begins-same m.wide 0 s (at0 s))) h, refl),
          subst (λ x. AllHanded (tree v no_trees) (payload_trees x)) (sym f) (w, no_trees, refl, k, refl),
        ),
        (w, f),
      )
  case_parts (payload name s cs) (suc i) d a u t h g = case_parts cs i d a u t h g

  pub case_told : (k : VariantKind) (cs : Cases) (a : ℕ) (t : Tree) → StandsWith enc m (variant k cs) a t
      → (case_number t ≡ tag_at m a cs) × StandWith enc m (case_members cs (tag_at m a cs)) 0 (a + payload_offset m.wide cs) (payload_trees t) × HasPayload (case_members cs (tag_at m a cs)) (tag_at m a cs) t
  case_told k cs a t (u, (room, h), g) = case_parts cs (tag_at m a cs) (tag_at m a cs) (a + payload_offset m.wide cs) u t h g
