-- Trees that differ only in how long their texts are spelled have the same homes, so that the same values start with the same words.
use Rattle.std.proofs.Common.{Bool, List, [], ap, arith, ext_get_or, false, length, refl, subst, suc, sym, zero, ℕ, ◌+◌, ◌∙◌, ◌≡◌}
use Rattle.std.proofs.lemmas.Bool.{false≢true}
use Rattle.std.specs.Prelude.{IsTrue, if◌then◌else◌, nat_le, slice_index}
use Rattle.canon_model.proofs.Determined.{params_same, text_length_same}
use Rattle.canon_model.specs.Fits.{MembersFit}
use Rattle.canon_model.specs.Flat.{AreWords, max_params}
use Rattle.canon_model.specs.Homes.{AnyPointer, AreFlagWords, CaseFlatHome, CaseHome, EachHome, FlatHomes, Homes, IsScalarWord, IsTextHome, IsTextLength, MembersFlatHome, MembersHome, ParamsHome, Texts, host_texts}
use Rattle.canon_model.specs.Layout.{begins, cases_flat, ends, flat, members_flat, payload_offset, size}
use Rattle.canon_model.specs.Requests.{host_asks, text_requests}
use Rattle.canon_model.specs.Rep.{ScalarIs}
use Rattle.canon_model.specs.Same.{Carried, CarriedTrees}
use Rattle.canon_model.specs.Shape.{Cases, Members, Scalar, Shape, bare, bool, borrow, char, f32, f64, fixed, flags, list, member, no_cases, no_members, own, payload, product, s16, s32, s64, s8, scalar, string, u16, u32, u64, u8, variant}
use Rattle.canon_model.specs.Text.{Encoding, text_bytes}
use Rattle.canon_model.specs.Tree.{Tree, Trees, bits, case, case_number, case_of, code_point, handle, items, no_trees, number, parts, payload_of, scalars_of, text, tree, tree_count, trees_of, truth}
use Rattle.canon_plan.proofs.Lookups.{both}
use Rattle.canon_plan.specs.NoHandle.{HasNoHandle, HaveNoHandle, cases_have_no_handle, has_no_handle, have_no_handle}

-- ---- parts of such trees

scalar_along : (k : Scalar) (n : ℕ) (t u : Tree) → ScalarIs k n t → Carried t u → t ≡ u
scalar_along bool n t u h c = h ∙ sym (subst (λ x. Carried x u) h c)
scalar_along s8 n t u h c = h ∙ sym (subst (λ x. Carried x u) h c)
scalar_along u8 n t u h c = h ∙ sym (subst (λ x. Carried x u) h c)
scalar_along s16 n t u h c = h ∙ sym (subst (λ x. Carried x u) h c)
scalar_along u16 n t u h c = h ∙ sym (subst (λ x. Carried x u) h c)
scalar_along s32 n t u h c = h ∙ sym (subst (λ x. Carried x u) h c)
scalar_along u32 n t u h c = h ∙ sym (subst (λ x. Carried x u) h c)
scalar_along s64 n t u h c = h ∙ sym (subst (λ x. Carried x u) h c)
scalar_along u64 n t u h c = h ∙ sym (subst (λ x. Carried x u) h c)
scalar_along f32 n t u h c = h ∙ sym (subst (λ x. Carried x u) h c)
scalar_along f64 n t u h c = h ∙ sym (subst (λ x. Carried x u) h c)
scalar_along char n t u h c = h.0 ∙ sym (subst (λ x. Carried x u) h.0 c)

pub scalars_along : (t u : Tree) → Carried t u → scalars_of u ≡ scalars_of t
scalars_along (number z) u e = ap scalars_of e
scalars_along (truth b) u e = ap scalars_of e
scalars_along (code_point c) u e = ap scalars_of e
scalars_along (text cs n) u (k, e) = ap scalars_of e
scalars_along (items ts) u (us, e, c) = ap scalars_of e
scalars_along (parts ts) u (us, e, c) = ap scalars_of e
scalars_along (case d) u e = ap scalars_of e
scalars_along (case_of d t) u (w, e, c) = ap scalars_of e
scalars_along (bits bs) u e = ap scalars_of e
scalars_along (handle h) u (k, e) = ap scalars_of e

pub trees_along : (t u : Tree) → Carried t u → CarriedTrees (trees_of t) (trees_of u)
trees_along (number z) u e = ap trees_of e
trees_along (truth b) u e = ap trees_of e
trees_along (code_point c) u e = ap trees_of e
trees_along (text cs n) u (k, e) = ap trees_of e
trees_along (items ts) u (us, e, c) = subst (CarriedTrees ts) (sym (ap trees_of e)) c
trees_along (parts ts) u (us, e, c) = subst (CarriedTrees ts) (sym (ap trees_of e)) c
trees_along (case d) u e = ap trees_of e
trees_along (case_of d t) u (w, e, c) = ap trees_of e
trees_along (bits bs) u e = ap trees_of e
trees_along (handle h) u (k, e) = ap trees_of e

pub number_along : (t u : Tree) → Carried t u → case_number u ≡ case_number t
number_along (number z) u e = ap case_number e
number_along (truth b) u e = ap case_number e
number_along (code_point c) u e = ap case_number e
number_along (text cs n) u (k, e) = ap case_number e
number_along (items ts) u (us, e, c) = ap case_number e
number_along (parts ts) u (us, e, c) = ap case_number e
number_along (case d) u e = ap case_number e
number_along (case_of d t) u (w, e, c) = ap case_number e
number_along (bits bs) u e = ap case_number e
number_along (handle h) u (k, e) = ap case_number e

pub payload_along : (t u : Tree) → Carried t u → Carried (payload_of t) (payload_of u)
payload_along (number z) u e = ap payload_of e
payload_along (truth b) u e = ap payload_of e
payload_along (code_point c) u e = ap payload_of e
payload_along (text cs n) u (k, e) = (k, ap payload_of e)
payload_along (items ts) u (us, e, c) = (us, ap payload_of e, c)
payload_along (parts ts) u (us, e, c) = (us, ap payload_of e, c)
payload_along (case d) u e = ap payload_of e
payload_along (case_of d t) u (w, e, c) = subst (Carried t) (sym (ap payload_of e)) c
payload_along (bits bs) u e = ap payload_of e
payload_along (handle h) u (k, e) = (k, ap payload_of e)

count_along : (ts us : Trees) → CarriedTrees ts us → tree_count us ≡ tree_count ts
count_along no_trees us e = ap tree_count e
count_along (tree t ts) us (u, vs, e, c, cs) = ap tree_count e ∙ ap suc (count_along ts vs cs)

each_along : (H G : ℕ → Tree → List ℕ → List ℕ → Type 0) → ((b : ℕ) (t u : Tree) (xs ys : List ℕ) → Carried t u → H b t xs ys → G b u xs ys)
    → (step a : ℕ) (ts us : Trees) (xs ys : List ℕ) → CarriedTrees ts us → EachHome H step a ts xs ys → EachHome G step a us xs ys
each_along H G one step a no_trees us xs ys c h = subst (λ os. EachHome G step a os xs ys) (sym c) h
each_along H G one step a (tree t ts) us xs ys (u, vs, e, c, cs) (zs, h, hs) =
    subst (λ os. EachHome G step a os xs ys) (sym e) (zs, one a t u xs zs c h, each_along H G one step (a + step) ts vs zs ys cs hs)

module _ (enc : Encoding) where
  -- texts of the host, by their scalars alone
  abbrev pub plain_texts : Texts
  plain_texts = record { encoding = enc; asks = host_asks enc; Long = λ n t. IsTextLength enc n (text (scalars_of t) (text_bytes enc n)) }

  one_length : (n m : ℕ) (t : Tree) → plain_texts.Long n t → plain_texts.Long m t → n ≡ m
  one_length n m t h g = text_length_same enc n m (text (scalars_of t) (text_bytes enc n)) (text (scalars_of t) (text_bytes enc m)) refl h g

  long_along : (n : ℕ) (t u : Tree) → Carried t u → IsTextLength enc n t → IsTextLength enc n (text (scalars_of u) (text_bytes enc n))
  long_along n t u c h = subst (λ cs. IsTextLength enc n (text cs (text_bytes enc n))) (sym (scalars_along t u c)) (subst (IsTextLength enc n) h.is h)

  text_along : (p : ℕ) (t u : Tree) (xs ys : List ℕ) → Carried t u → IsTextHome (host_asks enc) t p xs ys → IsTextHome (host_asks enc) u p xs ys
  text_along p t u xs ys c h = record { earlier = h.earlier; answers = h.answers; count = h.count ∙ ap (λ cs. length (text_requests enc cs)) (sym (scalars_along t u c)) }

  module _ (wide : Bool) where
    mutual
      homes_along : (s : Shape) (a : ℕ) (t u : Tree) (xs ys : List ℕ) → Carried t u → Homes AnyPointer (host_texts enc) wide s a t xs ys → Homes AnyPointer plain_texts wide s a u xs ys
      homes_along (scalar k) a t u xs ys c h = h
      homes_along string a t u xs ys c (p, at, h) = (p, at, text_along p t u xs ys c h)
      homes_along (own r) a t u xs ys c h = h
      homes_along (borrow r) a t u xs ys c h = h
      homes_along (list k s) a t u xs ys c (p, zs, at, e, h) = (
        p,
        zs,
        at,
        e,
        each_along (Homes AnyPointer (host_texts enc) wide s) (Homes AnyPointer plain_texts wide s) (λ b v w os vs d g. homes_along s b v w os vs d g)
            (size wide s) p (trees_of t) (trees_of u) zs ys (trees_along t u c) h,
      )
      homes_along (fixed n s) a t u xs ys c h = each_along (Homes AnyPointer (host_texts enc) wide s) (Homes AnyPointer plain_texts wide s) (λ b v w os vs d g. homes_along s b v w os vs d g)
          (size wide s) a (trees_of t) (trees_of u) xs ys (trees_along t u c) h
      homes_along (product k ms) a t u xs ys c h = members_along ms 0 a (trees_of t) (trees_of u) xs ys (trees_along t u c) h
      homes_along (variant k cs) a t u xs ys c h = subst (λ d. CaseHome AnyPointer plain_texts wide cs d (a + payload_offset wide cs) (payload_of u) xs ys) (sym (number_along t u c))
          (case_home_along cs (case_number t) (a + payload_offset wide cs) (payload_of t) (payload_of u) xs ys (payload_along t u c) h)
      homes_along (flags names) a t u xs ys c h = h

      members_along : (ms : Members) (o a : ℕ) (ts us : Trees) (xs ys : List ℕ) → CarriedTrees ts us → MembersHome AnyPointer (host_texts enc) wide ms o a ts xs ys → MembersHome AnyPointer plain_texts wide ms o a us xs ys
      members_along no_members o a ts us xs ys c h = h
      members_along (member name s ms) o a no_trees us xs ys c h = subst (λ os. MembersHome AnyPointer plain_texts wide (member name s ms) o a os xs ys) (sym c) h
      members_along (member name s ms) o a (tree t ts) us xs ys (u, vs, e, c, cs) (zs, h, hs) = subst (λ os. MembersHome AnyPointer plain_texts wide (member name s ms) o a os xs ys) (sym e)
          (zs, homes_along s (a + begins wide o s) t u xs zs c h, members_along ms (ends wide o s) a ts vs zs ys cs hs)

      case_home_along : (cs : Cases) (i a : ℕ) (t u : Tree) (xs ys : List ℕ) → Carried t u → CaseHome AnyPointer (host_texts enc) wide cs i a t xs ys → CaseHome AnyPointer plain_texts wide cs i a u xs ys
      case_home_along no_cases i a t u xs ys c h = h
      case_home_along (bare name cs) zero a t u xs ys c h = h
      case_home_along (bare name cs) (suc i) a t u xs ys c h = case_home_along cs i a t u xs ys c h
      case_home_along (payload name s cs) zero a t u xs ys c h = homes_along s a t u xs ys c h
      case_home_along (payload name s cs) (suc i) a t u xs ys c h = case_home_along cs i a t u xs ys c h

    module _ (ws : List ℕ) where
      mutual
        flat_along : (s : Shape) (i : ℕ) (t u : Tree) (xs ys : List ℕ) → HasNoHandle s → Carried t u → FlatHomes AnyPointer (host_texts enc) wide ws s i t xs ys → FlatHomes AnyPointer plain_texts wide ws s i u xs ys
        flat_along (scalar k) i t u xs ys plain c (h, e) = (subst (IsScalarWord k (slice_index ws i)) (scalar_along k _ t u h.0 c) h, e)
        flat_along string i t u xs ys plain c (h, e) = (long_along (slice_index ws (i + 1)) t u c h, text_along (slice_index ws i) t u xs ys c e)
        flat_along (own r) i t u xs ys plain c h = absurd (false≢true plain)
        flat_along (borrow r) i t u xs ys plain c h = absurd (false≢true plain)
        flat_along (list k s) i t u xs ys plain c (zs, e, n, h) = (
          zs,
          e,
          n ∙ sym (count_along (trees_of t) (trees_of u) (trees_along t u c)),
          each_along (Homes AnyPointer (host_texts enc) wide s) (Homes AnyPointer plain_texts wide s) (λ b v w os vs d g. homes_along s b v w os vs d g)
              (size wide s) (slice_index ws i) (trees_of t) (trees_of u) zs ys (trees_along t u c) h,
        )
        flat_along (fixed n s) i t u xs ys plain c h = each_along (FlatHomes AnyPointer (host_texts enc) wide ws s) (FlatHomes AnyPointer plain_texts wide ws s) (λ j v w os vs d g. flat_along s j v w os vs plain d g)
            (flat s) i (trees_of t) (trees_of u) xs ys (trees_along t u c) h
        flat_along (product k ms) i t u xs ys plain c h = members_flat_along ms i (trees_of t) (trees_of u) xs ys plain (trees_along t u c) h
        flat_along (variant k cs) i t u xs ys plain c (e, h) = (
          e ∙ sym (number_along t u c),
          subst (λ d. CaseFlatHome AnyPointer plain_texts wide ws cs d (i + 1) (i + 1 + cases_flat cs) (payload_of u) xs ys) (sym (number_along t u c))
              (case_flat_along cs (case_number t) (i + 1) (i + 1 + cases_flat cs) (payload_of t) (payload_of u) xs ys plain (payload_along t u c) h),
        )
        flat_along (flags names) i t u xs ys plain c (h, e) = (subst (AreFlagWords ws i (length names)) (h.0 ∙ sym (subst (λ x. Carried x u) h.0 c)) h, e)

        members_flat_along : (ms : Members) (i : ℕ) (ts us : Trees) (xs ys : List ℕ) → HaveNoHandle ms → CarriedTrees ts us → MembersFlatHome AnyPointer (host_texts enc) wide ws ms i ts xs ys
            → MembersFlatHome AnyPointer plain_texts wide ws ms i us xs ys
        members_flat_along no_members i ts us xs ys plain c h = h
        members_flat_along (member name s ms) i no_trees us xs ys plain c h = subst (λ os. MembersFlatHome AnyPointer plain_texts wide ws (member name s ms) i os xs ys) (sym c) h
        members_flat_along (member name s ms) i (tree t ts) us xs ys plain (u, vs, e, c, cs) (zs, h, hs) =
            let none = both (has_no_handle s) (have_no_handle ms) plain in
            subst (λ os. MembersFlatHome AnyPointer plain_texts wide ws (member name s ms) i os xs ys) (sym e)
            (zs, flat_along s i t u xs zs none.0 c h, members_flat_along ms (i + flat s) ts vs zs ys none.1 cs hs)

        case_flat_along : (cs : Cases) (d i e : ℕ) (t u : Tree) (xs ys : List ℕ) → IsTrue (cases_have_no_handle cs) → Carried t u → CaseFlatHome AnyPointer (host_texts enc) wide ws cs d i e t xs ys
            → CaseFlatHome AnyPointer plain_texts wide ws cs d i e u xs ys
        case_flat_along no_cases d i e t u xs ys plain c h = h
        case_flat_along (bare name cs) zero i e t u xs ys plain c h = h
        case_flat_along (bare name cs) (suc d) i e t u xs ys plain c h = case_flat_along cs d i e t u xs ys plain c h
        case_flat_along (payload name s cs) zero i e t u xs ys plain c (z, h) = (z, flat_along s i t u xs ys (both (has_no_handle s) (cases_have_no_handle cs) plain).0 c h)
        case_flat_along (payload name s cs) (suc d) i e t u xs ys plain c h = case_flat_along cs d i e t u xs ys (both (has_no_handle s) (cases_have_no_handle cs) plain).1 c h

      -- of a function's parameters
      pub params_along : (ms : Members) (ts us : Trees) (xs ys : List ℕ) → HaveNoHandle ms → CarriedTrees ts us → ParamsHome AnyPointer (host_texts enc) wide ws ms ts xs ys
          → ParamsHome AnyPointer plain_texts wide ws ms us xs ys
      params_along ms ts us xs ys plain c h = record {
        near = λ n. members_flat_along ms 0 ts us xs ys plain c (h.near n);
        far = λ f. let (zs, e, g) = h.far f in (zs, e, members_along ms 0 (slice_index ws 0) ts us zs ys c g);
      }

  -- Words of as many as the parameters take are the same, where their trees are but for how texts are spelled, and the answers are their homes.
  pub start_words_same : (ws vs : List ℕ) (ms : Members) (ts us : Trees) (xs : List ℕ) → AreWords ws → AreWords vs → HaveNoHandle ms → MembersFit ms us → CarriedTrees ts us → CarriedTrees us us
      → length ws ≡ (if nat_le (members_flat ms) max_params then members_flat ms else 1) → length vs ≡ (if nat_le (members_flat ms) max_params then members_flat ms else 1)
      → ParamsHome AnyPointer (host_texts enc) false ws ms ts xs [] → ParamsHome AnyPointer (host_texts enc) false vs ms us xs [] → ws ≡ vs
  start_words_same ws vs ms ts us xs few less plain fit c itself e d h g =
      let same = (params_same plain_texts one_length AnyPointer AnyPointer false ws vs few less ms us xs [] [] fit (params_along false ws ms ts us xs [] plain c h) (params_along false vs ms us us xs [] plain itself g)).1 in
      ext_get_or 0 ws vs (e ∙ sym d) (λ i l. same i i (omega arith) (omega (arith, l, e)) refl)
