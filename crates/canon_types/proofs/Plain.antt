-- The numbers of types without a definition, and of lists and maps.
use Rattle.std.proofs.Common.{Bool, ◌≡◌, ◌*◌, ℕ, Some, ap, false, true, refl, sym, ◌∙◌, subst}
use Rattle.canon_abi.proofs.Widths.{for_both}
use Rattle.canon_abi.specs.Abi.{HasLayout}
use Rattle.canon_abi.specs.Numbers.{IsFixed, align_in, flat_within, size_in}
use Rattle.canon_abi.specs.declared.abi.CanonicalAbiInfo.{CanonicalAbiInfo}
use Rattle.canon_model.specs.Layout.{align, flat, pointer_size, scalar_size, size}
use Rattle.canon_model.specs.Shape.{ListKind, Scalar, Shape, borrow, list, own, scalar, string}

-- numbers of one word, whose size is its alignment, for each width
abbrev pub IsWord : CanonicalAbiInfo → ℕ → Type 0
IsWord abi n = IsFixed abi n n (Some 1)

word_laid : (abi : CanonicalAbiInfo) (n : ℕ) → IsWord abi n → (s : Shape) → ((wide : Bool) → size wide s ≡ n) → ((wide : Bool) → align wide s ≡ n) → flat s ≡ 1 → HasLayout abi s
word_laid abi n h s size_is align_is flat_is = record {
  size = for_both (λ wide. size_in wide abi ≡ size wide s) (h.size32 ∙ sym (size_is false)) (h.size64 ∙ sym (size_is true));
  align = for_both (λ wide. align_in wide abi ≡ align wide s) (h.align32 ∙ sym (align_is false)) (h.align64 ∙ sym (align_is true));
  flat = h.words ∙ ap flat_within (sym flat_is);
}

pub scalar_layout : (abi : CanonicalAbiInfo) (n : ℕ) → IsWord abi n → (k : Scalar) → scalar_size k ≡ n → HasLayout abi (scalar k)
unfolding size align flat
scalar_layout abi n h k e = word_laid abi n h (scalar k) (λ wide. e) (λ wide. e) refl

pub own_layout : (abi : CanonicalAbiInfo) → IsWord abi 4 → (r : ℕ) → HasLayout abi (own r)
unfolding size align flat
own_layout abi h r = word_laid abi 4 h (own r) (λ wide. refl) (λ wide. refl) refl

pub borrow_layout : (abi : CanonicalAbiInfo) → IsWord abi 4 → (r : ℕ) → HasLayout abi (borrow r)
unfolding size align flat
borrow_layout abi h r = word_laid abi 4 h (borrow r) (λ wide. refl) (λ wide. refl) refl

-- numbers of a pointer and a length
pub record IsPair (abi : CanonicalAbiInfo) : Type 0 where
  pub size32 : abi.size32 ≡ 8
  pub align32 : abi.align32 ≡ 4
  pub size64 : abi.size64 ≡ 16
  pub align64 : abi.align64 ≡ 8
  pub words : abi.flat ≡ Some 2

pub text_layout : (abi : CanonicalAbiInfo) → IsPair abi → HasLayout abi string
unfolding size align flat
text_layout abi h = record {
  size = for_both (λ wide. size_in wide abi ≡ 2 * pointer_size wide) h.size32 h.size64;
  align = for_both (λ wide. align_in wide abi ≡ pointer_size wide) h.align32 h.align64;
  flat = h.words;
}

of_list : (abi : CanonicalAbiInfo) → HasLayout abi string → (k : ListKind) (element : Shape) → HasLayout abi (list k element)
unfolding size align flat
of_list abi h k element = record { size = h.size; align = h.align; flat = h.flat }

-- a list is laid out as a text
pub list_layout : (abi : CanonicalAbiInfo) → HasLayout abi string → (s : Shape) (k : ListKind) (element : Shape) → s ≡ list k element → HasLayout abi s
list_layout abi h s k element e = subst (HasLayout abi) (sym e) (of_list abi h k element)
