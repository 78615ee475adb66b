-- Which trees have a part that is too large: where their parts do.
use Rattle.std.proofs.Common.{String, List, [], ap, arith, false, true, inl, inr, length, refl, string_bytes, subst, suc, sym, zero, ℕ, Bool, ◌≡◌, ◌<◌, ◌*◌, ◌^◌, ◌∙◌}
use Rattle.std.specs.declared.alloc.Global.{Global}
use Rattle.canon_context.specs.declared.fault.Fault.{Fault}
use Rattle.canon_context.specs.declared.fault.Fault.TheVariants as fault
use Rattle.canon_lower_parts.proofs.Attempts.{AsLarge, EitherLarge, IsSmall}
use Rattle.canon_lower_parts.proofs.Items.{lower_each_count, row_some, row_trees, some_row}
use Rattle.canon_lower_parts.specs.Blames.{HasLarge, HaveLarge, IsTooLarge, SomeCase, SomeMember, SomePart}
use Rattle.canon_lower_parts.specs.Words.{CaseOf}
use Rattle.canon_lowering.proofs.AimedCases.{CaseIs}
use Rattle.canon_lowering.specs.Copies.{case_members, copies, payload_trees}
use Rattle.canon_model.specs.Homes.{host_texts}
use Rattle.canon_model.specs.Layout.{size}
use Rattle.canon_model.specs.Shape.{Cases, ListKind, Members, ProductKind, Shape, VariantKind, bare, fixed, list, member, no_cases, no_members, payload, product, string, variant}
use Rattle.canon_model.specs.Text.{Encoding}
use Rattle.canon_model.specs.Tree.{Tree, Trees, case, case_number, case_of, no_trees, payload_of, text, tree, tree_count, trees_of}
use Rattle.canon_plan.specs.Plan.{shaped_handle}
use Rattle.canon_string.specs.Limits.{IsTooLong}
use Rattle.canon_typed.specs.Meaning.{EachMeans, FirstAnd, ProductMeans, RowMeans, TextMeans}

module _ (enc : Encoding) where
  -- ---- members

  pub first_large : (s : Shape) (ms : Members) (Has : Tree → Type 0) (Have : Trees → Type 0) → EitherLarge Has Have (FirstAnd Has Have) (HasLarge enc s) (HaveLarge enc ms) (HaveLarge enc (member [] s ms))
  first_large s ms Has Have ts (t, rest, is, has, have) =
      (t, rest, has, have, λ e some. subst (λ us. HaveLarge enc (member [] s ms) e us) (sym is) some, λ e some. subst (λ us. HaveLarge enc (member [] s ms) e us) is some)

  pub product_large : (k : ProductKind) (ms : Members) (Have : Trees → Type 0) → AsLarge Have (ProductMeans Have) (HaveLarge enc ms) (HasLarge enc (product k ms))
  product_large k ms Have t (ts, is, have) = (ts, have, λ e some. subst (λ u. HasLarge enc (product k ms) e u) (sym is) some, λ e some. subst (λ u. HasLarge enc (product k ms) e u) is some)

  pub fixed_large : {A : Type 0} (n : ℕ) (s : Shape) (Walks : A → Tree → Type 0) (xs : List A) → length xs ≡ n → AsLarge (EachMeans Walks xs) (RowMeans Walks xs) (HaveLarge enc (copies n s)) (HasLarge enc (fixed n s))
  fixed_large n s Walks xs count t has =
      let each = row_trees Walks xs t has in
      (trees_of t, each, λ e some. row_some (IsTooLarge enc e) n s (trees_of t) some, λ e some. some_row (IsTooLarge enc e) n s (trees_of t) (lower_each_count Walks xs (trees_of t) each ∙ count) some)

  -- ---- cases

  payload_some : (P : Shape → Tree → Type 0) (s : Shape) (t : Tree) → SomeMember P (member [] s no_members) (payload_trees t) → SomePart P s (payload_of t)
  payload_some P s (case_of d u) (inl h) = h
  payload_some P s (case_of d u) (inr h) = absurd h
  payload_some P s _ h = absurd h

  no_some : (P : Shape → Tree → Type 0) (ts : Trees) → SomeMember P no_members ts → ⊥
  no_some P no_trees h = h
  no_some P (tree t ts) h = h

  case_some : (P : Shape → Tree → Type 0) (cs : Cases) (i : ℕ) (t : Tree) → SomeMember P (case_members cs i) (payload_trees t) → SomeCase P cs i (payload_of t)
  case_some P no_cases i t h = absurd (no_some P (payload_trees t) h)
  case_some P (bare name cs) zero t h = no_some P (payload_trees t) h
  case_some P (bare name cs) (suc i) t h = case_some P cs i t h
  case_some P (payload name s cs) zero t h = payload_some P s t h
  case_some P (payload name s cs) (suc i) t h = case_some P cs i t h

  some_case : (P : Shape → Tree → Type 0) (cs : Cases) (i d : ℕ) (t : Tree) → CaseIs false (host_texts enc) (case_members cs i) d t → SomeCase P cs i (payload_of t) → SomeMember P (case_members cs i) (payload_trees t)
  some_case P no_cases i d t is h = absurd h
  some_case P (bare name cs) zero d t is h = absurd h
  some_case P (bare name cs) (suc i) d t is h = some_case P cs i d t is h
  some_case P (payload name s cs) zero d t (u, is) h = subst (λ v. SomeMember P (member [] s no_members) (payload_trees v)) (sym is) (inl (subst (λ v. SomePart P s (payload_of v)) is h))
  some_case P (payload name s cs) (suc i) d t is h = some_case P cs i d t is h

  pub variant_large : (k : VariantKind) (cs : Cases) (d : ℕ) (Have : Trees → Type 0) (Has : Tree → Type 0) → ((t : Tree) → Has t → (case_number t ≡ d) × Have (payload_trees t) × CaseIs false (host_texts enc) (case_members cs d) d t)
      → AsLarge Have Has (HaveLarge enc (case_members cs d)) (HasLarge enc (variant k cs))
  variant_large k cs d Have Has from t has =
      let (number, have, is) = from t has in (
        payload_trees t,
        have,
        λ e some. subst (λ (i : ℕ). SomeCase (IsTooLarge enc e) cs i (payload_of t)) (sym number) (case_some (IsTooLarge enc e) cs d t some),
        λ e some. some_case (IsTooLarge enc e) cs d d t is (subst (λ (i : ℕ). SomeCase (IsTooLarge enc e) cs i (payload_of t)) number some),
      )

  -- with a payload, and without one
  pub case_large : (k : VariantKind) (cs : Cases) (d : ℕ) (u : Shape) (Has : Tree → Type 0) → case_members cs d ≡ member [] u no_members → AsLarge Has (CaseOf d Has) (HasLarge enc u) (HasLarge enc (variant k cs))
  case_large k cs d u Has one t (v, is, has) = (v, has, up, down)
    where
      up : (e : Fault) → HasLarge enc u e v → HasLarge enc (variant k cs) e t
      up e some = subst (λ w. HasLarge enc (variant k cs) e w) (sym is) (case_some (IsTooLarge enc e) cs d (case_of d v) (subst (λ (ms : Members). SomeMember (IsTooLarge enc e) ms (tree v no_trees)) (sym one) (inl some)))

      only : (e : Fault) → SomeMember (IsTooLarge enc e) (member [] u no_members) (tree v no_trees) → HasLarge enc u e v
      only e (inl some) = some
      only e (inr none) = absurd none

      down : (e : Fault) → HasLarge enc (variant k cs) e t → HasLarge enc u e v
      down e some = only e (subst (λ (ms : Members). SomeMember (IsTooLarge enc e) ms (tree v no_trees)) one
          (some_case (IsTooLarge enc e) cs d d (case_of d v) (subst (λ (ms : Members). CaseIs false (host_texts enc) ms d (case_of d v)) (sym one) (v, refl)) (subst (λ w. HasLarge enc (variant k cs) e w) is some)))

  pub bare_small : (k : VariantKind) (cs : Cases) (d : ℕ) → case_members cs d ≡ no_members → IsSmall (λ t. t ≡ case d) (HasLarge enc (variant k cs))
  bare_small k cs d none t is e some = subst (λ (ms : Members). SomeMember (IsTooLarge enc e) ms no_trees) none
      (some_case (IsTooLarge enc e) cs d d (case d) (subst (λ (ms : Members). CaseIs false (host_texts enc) ms d (case d)) (sym none) refl) (subst (λ w. HasLarge enc (variant k cs) e w) is some))

  -- ---- blocks, and what has none

  -- the block of so many items isn't too large
  pub block_small : (k : ListKind) (s : Shape) (t : Tree) (n : ℕ) → tree_count (trees_of t) ≡ n → n < 2 ^ 32 → n * size false s < 2 ^ 32 → (e : Fault) → ¬ IsTooLarge enc e (list k s) t
  block_small k s t n count few fit (fault.SizeOverflow m) (is, inl many) = omega (arith, is, count, few, many)
  block_small k s t n count few fit (fault.SizeOverflow m) (is, inr many) = omega (arith, ap (λ (x : ℕ). x * size false s) (is ∙ count), fit, many)
  block_small k s t n count few fit _ h = h

  pub lower_text_small : (s : String Global) → ((n : ℕ) → ¬ IsTooLong enc (string_bytes s) n) → IsSmall (TextMeans s) (HasLarge enc string)
  lower_text_small s fits t (cs, k, is, spelled) e some = none e (subst (λ u. HasLarge enc string e u) is some)
    where
      none : (e : Fault) → IsTooLarge enc e string (text cs k) → ⊥
      none (fault.StringTooLong n) (bytes, same, long) = fits n (subst (λ (bs : List ℕ). IsTooLong enc bs n) (sym same.is ∙ spelled.is) long)
      none _ h = h

  pub handle_small : (owned : Bool) (r : ℕ) (Has : Tree → Type 0) → IsSmall Has (HasLarge enc (shaped_handle owned r))
  handle_small true r Has t has e some = some
  handle_small false r Has t has e some = some
