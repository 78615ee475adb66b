-- Maps and flags: what they hold, their places, and which flags are set.
use Rattle.std.proofs.Common.{◌≡◌, ◌<◌, ◌∙◌, All, Bool, IsTrue, List, String, Vec, [], ◌∷◌, ap, arith, false, get_or, length, map, refl, rules, string_bytes, subst, suc, sym, true, zero, ℕ}
use Rattle.std.specs.Prelude.{◌↔◌, Any}
use Rattle.std.proofs.lemmas.Bool.{false≢true}
use Rattle.std.proofs.lemmas.List.Elements.{All-cons, All-nil}
use Rattle.std.specs.declared.alloc.Global.{Global}
use Rattle.canon_model.specs.Shape.{Name}
use Rattle.canon_val.specs.Value.{AreMarked, IsFlags, IsPairs, Occurs, places}
use Rattle.canon_val.specs.declared.val.Val.{Val, out-Val, the_lemmas}
use Rattle.canon_val.specs.declared.val.Val.TheOpen.{Val-F as F}
use Rattle.canon_val.specs.declared.val.Val.TheVariants as val

-- ---- maps

same_pairs : (xs ys : Vec (Val × Val) Global) → val.Map xs ≡ val.Map ys → xs ≡ ys
same_pairs xs ys e =
    let f : out-Val (val.Map xs) ≡ F.Map xs = search (rules, the_lemmas) in
    let g : out-Val (val.Map ys) ≡ F.Map ys = search (rules, the_lemmas) in
    let h : F.Map xs ≡ F.Map ys = sym f ∙ (ap out-Val e ∙ g) in cc

-- a value is one map
pub one_pairs : (ps qs : List (Val × Val)) (v : Val) → IsPairs ps v → IsPairs qs v → qs ≡ ps
one_pairs ps qs v (xs, e, ep) (ys, e2, eq) = eq ∙ (ap (λ (zs : Vec (Val × Val) Global). zs.items) (same_pairs ys xs (sym e2 ∙ e)) ∙ sym ep)

-- ---- flags

same_flags : (xs ys : Vec (String Global) Global) → val.Flags xs ≡ val.Flags ys → xs ≡ ys
same_flags xs ys e = cc

-- a value has one list of flags
pub one_flags : (set other : List Name) (v : Val) → IsFlags set v → IsFlags other v → other ≡ set
one_flags set other v (xs, e, es) (ys, e2, eo) =
    eo ∙ (ap (λ (zs : Vec (String Global) Global). map (λ s. string_bytes s) zs.items) (same_flags ys xs (sym e2 ∙ e)) ∙ sym es)

pub places_flags : (set : List Name) (v : Val) → IsFlags set v → places v ≡ 1
places_flags set v (xs, e, es) = let one : places (val.Flags xs) ≡ 1 = search (rules, the_lemmas) in ap places e ∙ one

-- ---- which are set

same_bool : (P : Type 0) (b c : Bool) → (IsTrue b ↔ P) → (IsTrue c ↔ P) → b ≡ c
same_bool P true true f g = refl
same_bool P false false f g = refl
same_bool P true false f g = sym (g.1 (f.0 refl))
same_bool P false true f g = f.1 (g.0 refl)

pub marked_once : (set names : List Name) (bs cs : List Bool) → AreMarked set names bs → AreMarked set names cs → bs ≡ cs
marked_once set [] bs cs h g = h ∙ sym g
marked_once set (name ∷ names) bs cs (b, rest, e, is, marked) (c, last, e2, is2, marked2) =
    let first : b ≡ c = same_bool (Occurs name set) b c is is2 in
    let tail : rest ≡ last = marked_once set names rest last marked marked2 in
    e ∙ (ap (λ x. x ∷ rest) first ∙ (ap (λ xs. c ∷ xs) tail ∙ sym e2))

-- a name of the type that is set among the first is set among the others
marked_at : (set other names : List Name) (bs : List Bool) → AreMarked set names bs → AreMarked other names bs → (n x : Name) (k : ℕ) → k < length names → get_or names k x ≡ x → x ≡ n → Occurs n set → Occurs n other
marked_at set other [] bs h g n x k lt at is o = absurd (omega (arith, lt))
marked_at set other (name ∷ names) bs (b, rest, e, is, marked) (c, last, e2, is2, marked2) n x zero lt at same o =
    let cons : b ∷ rest ≡ c ∷ last = sym e ∙ e2 in
    let first : b ≡ c = cc in
    let here : name ≡ n = at ∙ same in
    let set_there : IsTrue b = is.1 (subst (λ m. Occurs m set) (sym here) o) in
    subst (λ m. Occurs m other) here (is2.0 (subst IsTrue first set_there))
marked_at set other (name ∷ names) bs (b, rest, e, is, marked) (c, last, e2, is2, marked2) n x (suc k) lt at same o =
    let cons : b ∷ rest ≡ c ∷ last = sym e ∙ e2 in
    let tail : last ≡ rest = cc in
    marked_at set other names rest marked (subst (AreMarked other names) tail marked2) n x k (omega (arith, lt)) at same o

pub marked_too : (set other names : List Name) (bs : List Bool) → All (λ n. Occurs n names) set → AreMarked set names bs → AreMarked other names bs → (n : Name) → Occurs n set → Occurs n other
marked_too set other names bs all h g n (k, x, lt, at, same) =
    let there : Occurs n names = subst (λ m. Occurs m names) same (subst (λ m. Occurs m names) at (all k x lt)) in
    marked_at set other names bs h g n there.1 there.0 there.2 there.3 there.4 (k, x, lt, at, same)

-- the flags of a value that wasn't lifted stand in any order
pub any_order : {A : Type 0} → IsTrue false → A
any_order h = absurd (false≢true h)

-- it isn't so that there are no marks
are_set : (P : Type 0) → ((b : Bool) → (IsTrue b ↔ P) → ⊥) → ⊥
are_set P h = h false (λ (e : IsTrue false). cc, λ p. absurd (h true (λ e. p, λ q. refl)))

pub are_marked : (set names : List Name) → ((bs : List Bool) → AreMarked set names bs → ⊥) → ⊥
are_marked set [] h = h [] refl
are_marked set (name ∷ names) h = are_marked set names (λ rest marked. are_set (Occurs name set) (λ b is. h (b ∷ rest) (b, rest, refl, is, marked)))

-- ---- all have a property, or one has it not

pub all_or_none : {A : Type 0} → (P : A → Type 0) (xs : List A) → All P xs → Any (λ x. ¬ P x) xs → ⊥
all_or_none P xs all (k, x, lt, at, not) = not (subst P at (all k x lt))

pub all_or_any : {A : Type 0} → (P : A → Type 0) (xs : List A) → (Any (λ x. ¬ P x) xs → ⊥) → (All P xs → ⊥) → ⊥
all_or_any P [] none h = h (All-nil P)
all_or_any P (x ∷ xs) none h =
    none (
      0,
      x,
      omega arith,
      refl,
      λ p.
          all_or_any P xs (λ any. none (suc any.0, any.1, omega (arith, any.2), any.3, any.4)) (λ all. h (All-cons P x xs p all)),
    )
