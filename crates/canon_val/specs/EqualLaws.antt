-- The test of `==` decides what it says, so `==` is an equivalence.
use Rattle.std.specs.Prelude.{◌≡◌, ◌&&◌, ◌==◌, Bool, List, [], ◌∷◌, false, nat_eq, slice_index_or, true, ⊤, ℕ, ℤ, Decides}
use Rattle.std.proofs.Common.{◌∙◌, ap, refl, subst, sym}
use Rattle.std.specs.Cmp.{IsEquivalence, decided, first_so, on_equiv, second_so, signed_Decides, unsigned_Decides}
use Rattle.std.specs.Cmp.Lexicographic.{bytes_decides, pointwise, pointwise_decides}
use Rattle.std.specs.Ordering.{int_eq}
use Rattle.canon_model.specs.Shape.{Name}
use Rattle.canon_val.specs.Equal as equal
use Rattle.canon_val.specs.Equal.{Data, Datas, IsEqual, DataKind, all_same, compared, data_and, is_equal, kind_number, no_data, same, value}
use Rattle.canon_val.specs.declared.val.Val.{Val}

abbrev kinds : List DataKind
kinds = equal.bool ∷ equal.s8 ∷ equal.u8 ∷ equal.s16 ∷ equal.u16 ∷ equal.s32 ∷ equal.u32 ∷ equal.s64 ∷ equal.u64 ∷ equal.f32 ∷ equal.f64 ∷ equal.char
    ∷ equal.string ∷ equal.list ∷ equal.pairs ∷ equal.fields ∷ equal.tuple ∷ equal.variant ∷ equal.enum ∷ equal.option ∷ equal.result ∷ equal.flags ∷ equal.resource ∷ equal.fixed ∷ []

abbrev kind_at : ℕ → DataKind
kind_at n = slice_index_or kinds n equal.bool

kind_back : (k : DataKind) → kind_at (kind_number k) ≡ k
kind_back equal.bool = refl
kind_back equal.s8 = refl
kind_back equal.u8 = refl
kind_back equal.s16 = refl
kind_back equal.u16 = refl
kind_back equal.s32 = refl
kind_back equal.u32 = refl
kind_back equal.s64 = refl
kind_back equal.u64 = refl
kind_back equal.f32 = refl
kind_back equal.f64 = refl
kind_back equal.char = refl
kind_back equal.string = refl
kind_back equal.list = refl
kind_back equal.pairs = refl
kind_back equal.fields = refl
kind_back equal.tuple = refl
kind_back equal.variant = refl
kind_back equal.enum = refl
kind_back equal.option = refl
kind_back equal.result = refl
kind_back equal.flags = refl
kind_back equal.resource = refl
kind_back equal.fixed = refl

pub same_kind : (k l : DataKind) → kind_number k ≡ kind_number l → k ≡ l
same_kind k l e = sym (kind_back k) ∙ (ap kind_at e ∙ kind_back l)

abbrev IsSo : Bool → Type 0
IsSo true = ⊤
IsSo false = ⊥

not_so : false ≡ true → ⊥
not_so e = subst IsSo (sym e) tt

both_so : (a b : Bool) → a ≡ true → b ≡ true → (a && b) ≡ true
both_so true b e f = f
both_so false b e f = e

texts_decide : (ns ms : List Name) → Decides (pointwise (pointwise nat_eq) ns ms) (ns ≡ ms)
texts_decide ns ms = pointwise_decides (λ xs ys. bytes_decides xs ys) ns ms

mutual
  same_is : (d e : Data) → same d e ≡ true → d ≡ e
  same_is (value k x ns ds) (value l y ms es) h =
      let kind : k ≡ l = same_kind k l ((unsigned_Decides (kind_number k) (kind_number l)).0 (first_so (kind_number k == kind_number l) (int_eq x y && (pointwise (pointwise nat_eq) ns ms && all_same ds es)) h)) in
      let h1 : (int_eq x y && (pointwise (pointwise nat_eq) ns ms && all_same ds es)) ≡ true = second_so (kind_number k == kind_number l) (int_eq x y && (pointwise (pointwise nat_eq) ns ms && all_same ds es)) h in
      let number : x ≡ y = (signed_Decides x y).0 (first_so (int_eq x y) (pointwise (pointwise nat_eq) ns ms && all_same ds es) h1) in
      let h2 : (pointwise (pointwise nat_eq) ns ms && all_same ds es) ≡ true = second_so (int_eq x y) (pointwise (pointwise nat_eq) ns ms && all_same ds es) h1 in
      let texts : ns ≡ ms = (texts_decide ns ms).0 (first_so (pointwise (pointwise nat_eq) ns ms) (all_same ds es) h2) in
      let parts : ds ≡ es = all_is ds es (second_so (pointwise (pointwise nat_eq) ns ms) (all_same ds es) h2) in
      ap (λ (j : DataKind). value j x ns ds) kind ∙ (ap (λ (z : ℤ). value l z ns ds) number ∙ (ap (λ (os : List Name). value l y os ds) texts ∙ ap (λ (fs : Datas). value l y ms fs) parts))

  all_is : (ds es : Datas) → all_same ds es ≡ true → ds ≡ es
  all_is no_data no_data h = refl
  all_is no_data (data_and e es) h = absurd (not_so h)
  all_is (data_and d ds) no_data h = absurd (not_so h)
  all_is (data_and d ds) (data_and e es) h =
      let first : d ≡ e = same_is d e (first_so (same d e) (all_same ds es) h) in
      let rest : ds ≡ es = all_is ds es (second_so (same d e) (all_same ds es) h) in
      ap (λ (x : Data). data_and x ds) first ∙ ap (λ (xs : Datas). data_and e xs) rest

mutual
  same_itself : (d : Data) → same d d ≡ true
  same_itself (value k x ns ds) =
      both_so (kind_number k == kind_number k) (int_eq x x && (pointwise (pointwise nat_eq) ns ns && all_same ds ds)) ((unsigned_Decides (kind_number k) (kind_number k)).1 refl)
      (both_so (int_eq x x) (pointwise (pointwise nat_eq) ns ns && all_same ds ds) ((signed_Decides x x).1 refl)
      (both_so (pointwise (pointwise nat_eq) ns ns) (all_same ds ds) ((texts_decide ns ns).1 refl) (all_themselves ds)))

  all_themselves : (ds : Datas) → all_same ds ds ≡ true
  all_themselves no_data = refl
  all_themselves (data_and d ds) = both_so (same d d) (all_same ds ds) (same_itself d) (all_themselves ds)

same_decides : (d e : Data) → Decides (same d e) (d ≡ e)
same_decides d e = (same_is d e, λ h. subst (λ (x : Data). same d x ≡ true) h (same_itself d))

pub equal_decides : (v w : Val) → Decides (is_equal v w) (IsEqual v w)
equal_decides v w = same_decides (compared v) (compared w)

pub equal_equivalence : IsEquivalence is_equal
equal_equivalence = on_equiv compared (decided same same_decides)
