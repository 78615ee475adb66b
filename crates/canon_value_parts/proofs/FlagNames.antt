-- Which names of flags are set: in a value, and as the bits of a number.
use Rattle.std.proofs.Common.{◌≡◌, ◌≢◌, ◌≤◌, ◌<◌, ◌+◌, ◌/◌, ◌%◌, ◌^◌, ◌∙◌, ◌++◌, ◌⊎◌, ◌==◌, ◌↔◌, All, AllPairs, Bool, IfSome, IsNone, IsTrue, List, None, Option, Some}
use Rattle.std.proofs.Common.{String, [], ◌∷◌, ap, arith, drop, false, get_or, inl, inr, length, refl, slice_index_or, string_bytes, subst, suc, sym, true, zero, ℕ, ⊎_elim}
use Rattle.std.specs.Int.{bit_at}
use Rattle.std.specs.List.{Contains, position, position_or_len}
use Rattle.std.specs.Str.{bytes_eq}
use Rattle.std.specs.declared.alloc.Global.{Global}
use Rattle.std.proofs.Math.Nat.{pow-succ'}
use Rattle.std.proofs.lemmas.Bool.{cases_eq, cases_lt, eq-eqb, eqb-true, false≢true}
use Rattle.std.proofs.lemmas.Grind.{common_steps}
use Rattle.std.proofs.lemmas.List.Elements.{Contains-append_left, Contains-get_or, Contains-push, Contains-push_cases}
use Rattle.std.proofs.lemmas.List.Quantifiers.{position-Some}
use Rattle.std.proofs.lemmas.List.Sums.{fails_before_first}
use Rattle.std.proofs.lemmas.List as listed
use Rattle.std.proofs.lemmas.Nat.Bits.{bit_at-suc, bit_at-zero, bit_at_lowest, same_from_bits}
use Rattle.std.proofs.lemmas.Slice.Eq.{bytes_eq-Decides}
use Rattle.canon_model.specs.Cost.{set_length}
use Rattle.canon_model.specs.Rep.{bits_of}
use Rattle.canon_model.specs.Shape.{Name, flags}
use Rattle.canon_types.specs.Keeps.{flags_type, names_of}
use Rattle.canon_types.specs.Table.{IsDefined, TypeTable, shape_of}
use Rattle.canon_types.specs.Valid.{NamesDiffer}
use Rattle.canon_types.specs.declared.types.InterfaceType.TheVariants as ty
use Rattle.canon_types.specs.declared.types.TypeFlags.{TypeFlags}
use Rattle.canon_value_parts.specs.Flags.{AreSet, flag_names, names_in_flags}
use Rattle.canon_val.specs.Value.{AreMarked, Occurs, chosen}
use Rattle.canon_value_parts.proofs.FlagBits.{Gains}

-- ---- what occurs

pub to_contains : (x : Name) (xs : List Name) → Occurs x xs → Contains xs x
to_contains x xs (k, y, l, e, is) = (k, l, subst (λ (z : Name). get_or xs k z ≡ z) is e)

pub from_contains : (x : Name) (xs : List Name) → Contains xs x → Occurs x xs
from_contains x xs (k, l, e) = (k, x, l, e, refl)

pub occurs_none : (x : Name) → Occurs x [] → ⊥
occurs_none x (k, y, l, e, is) = omega (arith, l)

pub occurs_more : (x y : Name) (xs : List Name) → Occurs x xs → Occurs x (xs ++ y ∷ [])
occurs_more x y xs h = from_contains x _ (Contains-append_left xs (y ∷ []) x (to_contains x xs h))

pub occurs_last : (x y : Name) (xs : List Name) → x ≡ y → Occurs x (xs ++ y ∷ [])
occurs_last x y xs e = from_contains x _ (subst (λ (z : Name). Contains (xs ++ y ∷ []) z) (sym e) (Contains-push xs y))

pub occurs_before : (x y : Name) (xs : List Name) → Occurs x (xs ++ y ∷ []) → Occurs x xs ⊎ (y ≡ x)
occurs_before x y xs h = ⊎_elim (λ g. inl (from_contains x xs g)) (λ g. inr g) (Contains-push_cases xs y x (to_contains x _ h))

occurs_head : (x y : Name) (xs : List Name) → y ≡ x → Occurs x (y ∷ xs)
occurs_head x y xs e = (0, y, omega arith, refl, e)

occurs_tail : (x y : Name) (xs : List Name) → Occurs x xs → Occurs x (y ∷ xs)
occurs_tail x y xs (k, z, l, e, is) = (suc k, z, omega (arith, l), e, is)

occurs_split : (x y : Name) (xs : List Name) → Occurs x (y ∷ xs) → (y ≡ x) ⊎ Occurs x xs
occurs_split x y xs (zero, z, l, e, is) = inl (e ∙ is)
occurs_split x y xs (suc k, z, l, e, is) = inr (k, z, omega (arith, l), e, is)

-- ---- names that differ

abbrev pub Differ : List Name → Type 0
Differ names = AllPairs (λ a b. a ≢ b) names

differ_tail : (name : Name) (names : List Name) → Differ (name ∷ names) → Differ names
differ_tail name names h i j d l u = h (suc i) (suc j) d (omega (arith, l)) (omega (arith, u))

differ_head : (name : Name) (names : List Name) → Differ (name ∷ names) → Occurs name names → ⊥
differ_head name names h (k, z, l, e, is) = h 0 (suc k) z (omega arith) (omega (arith, l)) (sym (e ∙ is))

differ_at : (names : List Name) (j k : ℕ) (d : Name) → Differ names → j < length names → k < length names → (j ≡ k → ⊥) → get_or names j d ≡ get_or names k d → ⊥
differ_at names j k d h l u other same = ⊎_elim (λ (lt : j < k). h j k d lt u same) (λ (le : k ≤ j). h k j d (omega (arith, le, other)) l (sym same)) (cases_lt j k)

-- ---- as the bits of a number

-- bit k says whether name k is set, and there are no other bits
pub record IsMarked (names set : List Name) (n : ℕ) : Type 0 where
  pub there : (k : ℕ) (d : Name) → k < length names → (bit_at n k ≡ 1) ↔ Occurs (get_or names k d) set
  pub none : (k : ℕ) → length names ≤ k → bit_at n k ≡ 0

pub marked_none : (names : List Name) (n : ℕ) → n ≡ 0 → IsMarked names [] n
marked_none names n e = record {
  there = λ k d l. (λ h. absurd (omega (arith, h, ap (λ (x : ℕ). bit_at x k) e, bit_at-zero k)), λ o. absurd (occurs_none _ o));
  none = λ k l. ap (λ (x : ℕ). bit_at x k) e ∙ bit_at-zero k;
}

pub marked_more : (names set : List Name) (n m k : ℕ) (x : Name) → Differ names → IsMarked names set n → k < length names → ((d : Name) → get_or names k d ≡ x) → Gains k n m → IsMarked names (set ++ x ∷ []) m
marked_more names set n m k x differ h inside at gains = record {
  there = λ j d l. ⊎_elim
      (λ (e : j ≡ k). (λ b. occurs_last _ x set (ap (λ (i : ℕ). get_or names i d) e ∙ at d), λ o. ap (bit_at m) e ∙ gains.here))
      (λ (ne : j ≡ k → ⊥). (
        λ b. occurs_more _ x set ((h.there j d l).0 (sym (gains.others j ne) ∙ b)),
        λ o. gains.others j ne ∙ ⊎_elim (λ old. (h.there j d l).1 old) (λ (new : x ≡ get_or names j d). absurd (differ_at names j k d differ l inside ne (sym new ∙ sym (at d)))) (occurs_before _ x set o),
      ))
      (cases_eq j k);
  none = λ j l. gains.others j (λ e. omega (arith, e, l, inside)) ∙ h.none j l;
}

bits_below : (w n : ℕ) → ((k : ℕ) → w ≤ k → bit_at n k ≡ 0) → n < 2 ^ w
bits_below zero n none = let e : n ≡ 0 = same_from_bits n 0 (λ i. none i (omega arith) ∙ sym (bit_at-zero i)) in omega (arith, e)
bits_below (suc w) n none =
    let half : n / 2 < 2 ^ w = bits_below w (n / 2) (λ k l. sym (bit_at-suc n k) ∙ none (suc k) (omega (arith, l))) in
    omega (arith, half, pow-succ' 2 w)

odd_is : (n : ℕ) → (bit_at n 0 ≡ 1) ↔ IsTrue (n % 2 == 1)
odd_is n = (λ h. eq-eqb (n % 2) 1 (sym (bit_at_lowest n) ∙ h), λ h. bit_at_lowest n ∙ eqb-true (n % 2) 1 h)

marked_bits : (names set : List Name) (n : ℕ) → ((k : ℕ) (d : Name) → k < length names → (bit_at n k ≡ 1) ↔ Occurs (get_or names k d) set) → AreMarked set names (bits_of (length names) n)
marked_bits [] set n h = refl
marked_bits (name ∷ names) set n h =
    let first = h 0 name (omega arith) in
    let odd = odd_is n in (
      n % 2 == 1,
      bits_of (length names) (n / 2),
      refl,
      (λ b. first.0 (odd.1 b), λ o. odd.0 (first.1 o)),
      marked_bits names set (n / 2) (λ k d l. let there = h (suc k) d (omega (arith, l)) in (λ b. there.0 (bit_at-suc n k ∙ b), λ o. sym (bit_at-suc n k) ∙ there.1 o)),
    )

pub marked_all : (names set : List Name) (n : ℕ) → IsMarked names set n → All (λ x. Occurs x names) set → AreSet names set n
marked_all names set n h all = (bits_below (length names) n h.none, marked_bits names set n h.there, all)

-- ---- the names that are set, in the order of the type

chosen_among : (x : Name) (names : List Name) (bs : List Bool) → Occurs x (chosen names bs) → Occurs x names
chosen_among x [] bs h = h
chosen_among x (name ∷ names) [] h = absurd (occurs_none x h)
chosen_among x (name ∷ names) (true ∷ bs) h = ⊎_elim (λ e. occurs_head x name names e) (λ g. occurs_tail x name names (chosen_among x names bs g)) (occurs_split x name _ h)
chosen_among x (name ∷ names) (false ∷ bs) h = occurs_tail x name names (chosen_among x names bs h)

pub chosen_known : (names : List Name) (bs : List Bool) → All (λ x. Occurs x names) (chosen names bs)
chosen_known names bs k d l = chosen_among _ names bs (from_contains _ _ (Contains-get_or (chosen names bs) k d l))

-- one more name that isn't among them
marked_front : (name : Name) (set names : List Name) (bs : List Bool) → (Occurs name names → ⊥) → AreMarked set names bs → AreMarked (name ∷ set) names bs
marked_front name set [] bs other h = h
marked_front name set (x ∷ names) bs other (b, rest, e, is, more) = (
  b,
  rest,
  e,
  (λ t. occurs_tail x name set (is.0 t), λ o. ⊎_elim (λ (same : name ≡ x). absurd (other (occurs_head name x names (sym same)))) (λ g. is.1 g) (occurs_split x name set o)),
  marked_front name set names rest (λ o. other (occurs_tail name x names o)) more,
)

pub chosen_marked : (names : List Name) (bs : List Bool) → Differ names → length bs ≡ length names → AreMarked (chosen names bs) names bs
chosen_marked [] [] differ e = refl
chosen_marked [] (b ∷ bs) differ e = absurd (omega (arith, e))
chosen_marked (name ∷ names) [] differ e = absurd (omega (arith, e))
chosen_marked (name ∷ names) (true ∷ bs) differ e = (
  true,
  bs,
  refl,
  (λ t. occurs_head name name _ refl, λ o. refl),
  marked_front name _ names bs (differ_head name names differ) (chosen_marked names bs (differ_tail name names differ) (omega (arith, e))),
)
chosen_marked (name ∷ names) (false ∷ bs) differ e = (
  false,
  bs,
  refl,
  (λ t. absurd (false≢true t), λ o. absurd (differ_head name names differ (chosen_among name names bs o))),
  chosen_marked names bs (differ_tail name names differ) (omega (arith, e)),
)

-- ---- from one bit to the next

pub bits_count : (m n : ℕ) → length (bits_of m n) ≡ m
bits_count zero n = refl
bits_count (suc m) n = ap suc (bits_count m (n / 2))

pub bits_from : (m n k : ℕ) → k < m → drop k (bits_of m n) ≡ (bit_at n k == 1) ∷ drop (suc k) (bits_of m n)
bits_from zero n k l = absurd (omega (arith, l))
bits_from (suc m) n zero l = ap (λ (x : ℕ). (x == 1) ∷ bits_of m (n / 2)) (sym (bit_at_lowest n))
bits_from (suc m) n (suc k) l = bits_from m (n / 2) k (omega (arith, l)) ∙ ap (λ (x : ℕ). (x == 1) ∷ drop (suc k) (bits_of m (n / 2))) (sym (bit_at-suc n k))

pub chosen_set : (ns ms : List Name) (cs bs : List Bool) (name : Name) → ns ≡ name ∷ ms → cs ≡ true ∷ bs → (chosen ns cs ≡ name ∷ chosen ms bs) × (set_length ns cs ≡ length name + set_length ms bs)
chosen_set ns ms cs bs name en ec = rw (en, ec) (refl, refl)

pub chosen_unset : (ns ms : List Name) (cs bs : List Bool) (name : Name) → ns ≡ name ∷ ms → cs ≡ false ∷ bs → (chosen ns cs ≡ chosen ms bs) × (set_length ns cs ≡ set_length ms bs)
chosen_unset ns ms cs bs name en ec = rw (en, ec) (refl, omega arith)

-- ---- a name by the table

pub names_are : (t : TypeTable) (i : ℕ) (f : TypeFlags) → IsDefined t (ty.Flags i) (flags_type f) → flag_names t i ≡ names_of f.names.keys
names_are t i f is = ap names_in_flags is.shape

pub flags_are : (t : TypeTable) (i : ℕ) (f : TypeFlags) → IsDefined t (ty.Flags i) (flags_type f) → shape_of t (ty.Flags i) ≡ flags (flag_names t i)
flags_are t i f is = is.shape ∙ ap flags (sym (names_are t i f is))

pub names_differ : (t : TypeTable) (i : ℕ) (f : TypeFlags) → IsDefined t (ty.Flags i) (flags_type f) → NamesDiffer (flags_type f) → Differ (flag_names t i)
names_differ t i f is differ = subst (λ (ns : List Name). Differ ns) (sym (names_are t i f is)) differ

module _ (t : TypeTable) (i : ℕ) (f : TypeFlags) (name : String Global) (text : List ℕ) (is : IsDefined t (ty.Flags i) (flags_type f)) (spelled : text ≡ string_bytes name) where
  abbrev fits : String Global → Bool
  fits s = bytes_eq text (string_bytes s)

  pub named_at : (r : Option ℕ) → r ≡ position fits f.names.keys → IfSome r (λ k. (k < length (flag_names t i)) × ((d : Name) → slice_index_or (flag_names t i) k d ≡ string_bytes name))
  named_at None e = tt
  named_at (Some k) e =
      let keys = f.names.keys in
      let (inside, hit, first) = position-Some fits keys k name (sym e) in
      let same : text ≡ string_bytes (get_or keys k name) = (bytes_eq-Decides text (string_bytes (get_or keys k name))).0 hit in
      rw (names_are t i f is) (simp listed.length-map inside, λ d. listed.get_or-map (λ (s : String Global). string_bytes s) keys k name d inside ∙ (sym same ∙ spelled))

  pub named_nowhere : (r : Option ℕ) → r ≡ position fits f.names.keys → IsNone r → Occurs (string_bytes name) (flag_names t i) → ⊥
  named_nowhere (Some k) e none o = absurd (false≢true (sym none))
  named_nowhere None e none o =
      let keys = f.names.keys in
      let (k, l, here) = to_contains (string_bytes name) _ (subst (λ (ns : List Name). Occurs (string_bytes name) ns) (names_are t i f is) o) in
      let inside : k < length keys = simp listed.length-map at l in
      let past : length keys ≤ position_or_len fits keys = grind (arith, common_steps) in
      let misses = fails_before_first fits keys k name (omega (arith, inside, past)) in
      let same : string_bytes (get_or keys k name) ≡ string_bytes name = sym (listed.get_or-map (λ (s : String Global). string_bytes s) keys k name (string_bytes name) inside) ∙ here in
      false≢true (sym misses ∙ (bytes_eq-Decides text (string_bytes (get_or keys k name))).1 (spelled ∙ sym same))
