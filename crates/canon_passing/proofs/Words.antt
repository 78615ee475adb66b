-- Words that stay where others are written.
use Rattle.std.specs.Prelude.{List, length, slice_index, ℕ, ◌+◌, ◌<◌, ◌≡◌, ◌≤◌, ◌⊎◌}
use Rattle.std.proofs.Common.{◌∙◌, ap, inl, inr, refl, sym, arith, set}
use Rattle.std.proofs.lemmas.Bool.{cases_order}
use Rattle.std.proofs.lemmas.List.{get_or-set_other, get_or-set_same, length-set}
use Rattle.canon_model.specs.Flat.{SameWords}
use Rattle.canon_passing.specs.Words.{WordsStay, Clears}

pub stays_then : (i j : ℕ) (dst dst2 dst3 : List ℕ) → i ≤ j → WordsStay i dst dst2 → WordsStay j dst2 dst3 → WordsStay i dst dst3
stays_then i j dst dst2 dst3 later h k = record { same_length = k.same_length ∙ h.same_length; before = λ p l. k.before p (omega (arith, l, later)) ∙ h.before p l }

-- the first words stay where the rest are written
pub first_stay : (i j n : ℕ) (dst dst2 : List ℕ) → j ≡ i + n → WordsStay j dst dst2 → SameWords dst i dst2 i n
first_stay i j n dst dst2 e h p q l u is = let same : p ≡ q = omega (arith, is) in ap (slice_index dst) same ∙ sym (h.before q (omega (arith, u, is, e)))

pub clears_none : (i : ℕ) (dst : List ℕ) → Clears i i dst dst
clears_none i dst = record { written = record { stays = record { same_length = refl; before = λ p l. refl }; behind = λ p l. refl }; zeros = λ j l u. absurd (omega (arith, l, u)) }

pub clears_one : (i k w : ℕ) (dst now : List ℕ) → i ≤ k → k < length now → w ≡ 0 → Clears i k dst now → Clears i (k + 1) dst (set now k w)
clears_one i k w dst now later inside none h = record {
  written = record {
    stays = record { same_length = length-set now k w ∙ h.written.stays.same_length; before = λ p l. get_or-set_other now k p w 0 (omega (arith, l, later)) ∙ h.written.stays.before p l };
    behind = λ p l. get_or-set_other now k p w 0 (omega (arith, l)) ∙ h.written.behind p (omega (arith, l));
  };
  zeros = λ j l u. at j l u (cases_order j k);
}
  where
    at : (j : ℕ) → i ≤ j → j < k + 1 → (j ≡ k) ⊎ ((j < k) ⊎ (k < j)) → slice_index (set now k w) j < 1
    at j l u (inl e) = omega (arith, ap (slice_index (set now k w)) e, get_or-set_same now k w 0 inside, none)
    at j l u (inr (inl lt)) = omega (arith, get_or-set_other now k j w 0 (omega (arith, lt)), h.zeros j l lt)
    at j l u (inr (inr lt)) = absurd (omega (arith, lt, u))
