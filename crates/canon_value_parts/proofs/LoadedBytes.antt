-- Scalars and texts that are loaded from memory.
use Rattle.std.proofs.Common.{◌≡◌, ◌≤◌, ◌<◌, ◌+◌, ◌∙◌, List, ap, arith, false, length, refl, subst, sym, ℕ, Some, String}
use Rattle.canon_lowering.specs.Storing.{narrow}
use Rattle.canon_model.specs.Memory.{num, length_at, pointer_at}
use Rattle.std.specs.Char.{IsScalar}
use Rattle.canon_model.specs.Cost.{cost}
use Rattle.canon_model.specs.Layout.{scalar_size, size}
use Rattle.canon_model.specs.Rep.{ScalarIs}
use Rattle.canon_model.specs.Shape.{Scalar, Shape, char, scalar, string}
use Rattle.canon_model.specs.Text.{Encoding}
use Rattle.canon_model.specs.Tree.{Tree, code_point, text}
use Rattle.canon_types.specs.declared.types.InterfaceType.{InterfaceType}
use Rattle.canon_plan.specs.NoHandle.{scalar_type}
use Rattle.canon_string.specs.Loading.{IsTextLoaded}
use Rattle.canon_context.specs.Told.{Exactly, LiftBlames}
use Rattle.canon_value_parts.specs.Loads.{IsLoaded}
use Rattle.canon_val.specs.Value.{HasScalar}
use Rattle.canon_val.specs.declared.val.Val.{Val}
use Rattle.canon_val.specs.declared.val.Val.TheVariants as val
use Rattle.std.specs.declared.alloc.Global.{Global}
use Rattle.canon_model.specs.Reach.{StoredFault, TextFault, address, reach_cost, text_reach}
use Rattle.canon_context.specs.declared.fault.Fault.{Fault}

-- ---- scalars

pub scalar_room : (bytes : List ℕ) (s : Shape) (k : Scalar) (a : ℕ) → s ≡ scalar k → a + size false s ≤ length bytes → a + scalar_size k ≤ length bytes
unfolding size
scalar_room bytes s k a e h = subst (λ x. a + size false x ≤ length bytes) e h

-- a value of what the number there stands for, at the scalar type c
pub scalar_loaded : (bytes : List ℕ) (type : InterfaceType) (c : Scalar) (a : ℕ) (v : Val) (t : Tree) → scalar_type type ≡ Some c → a + scalar_size c ≤ length bytes
    → ScalarIs c (num (narrow bytes) a (scalar_size c)) t → HasScalar c v t → (k : Scalar) (enc : Encoding) (fuel : ℕ) → scalar_type type ≡ Some k → IsLoaded enc (narrow bytes) (scalar k) a fuel fuel v
unfolding cost
scalar_loaded bytes type c a v t is inside stands has k enc fuel e =
    let both : Some c ≡ Some k = sym is ∙ e in
    let same : c ≡ k = cc in
    subst (λ j. IsLoaded enc (narrow bytes) (scalar j) a fuel fuel v) same (t, (inside, stands, λ strict. cc), has, omega arith)

pub char_loaded : (bytes : List ℕ) (type : InterfaceType) (a c n : ℕ) → scalar_type type ≡ Some char → a + 4 ≤ length bytes → n ≡ num (narrow bytes) a 4 → IsScalar n → c ≡ n
    → (k : Scalar) (enc : Encoding) (fuel : ℕ) → scalar_type type ≡ Some k → IsLoaded enc (narrow bytes) (scalar k) a fuel fuel (val.Char c)
char_loaded bytes type a c n is inside e good same =
    let there : c ≡ num (narrow bytes) a 4 = same ∙ e in
    scalar_loaded bytes type char a (val.Char c) (code_point c) is inside (ap code_point there, subst IsScalar e good) (c, refl, refl)

-- ---- texts

-- the text of length n at p that stands at an address
module _ (enc : Encoding) (bytes : List ℕ) (a p n before : ℕ) (pointer : p ≡ pointer_at (narrow bytes) a) (long : n ≡ length_at (narrow bytes) a) where
  pub string_loaded : (after : ℕ) (s : String Global) → a + 8 ≤ length bytes → IsTextLoaded enc (narrow bytes) p n before after s → IsLoaded enc (narrow bytes) string a before after (val.String s)
  unfolding cost
  string_loaded after s inside h =
      let (cs, k, stored, spelled, spent) = subst (λ q. IsTextLoaded enc (narrow bytes) q (length_at (narrow bytes) a) before after s) pointer (subst (λ j. IsTextLoaded enc (narrow bytes) p j before after s) long h) in
      (text cs k, (inside, stored), (cs, k, (s, refl, spelled), refl), spent)

  pub string_refused : (e : Fault) → LiftBlames (Exactly (TextFault enc (narrow bytes) (address a) p n)) (before < text_reach enc (narrow bytes) p n) e
      → LiftBlames (Exactly (StoredFault enc (narrow bytes) string a)) (before < reach_cost enc (narrow bytes) string a) e
  unfolding reach_cost
  string_refused e h =
      subst (λ q. LiftBlames (Exactly (TextFault enc (narrow bytes) (address a) q (length_at (narrow bytes) a))) (before < text_reach enc (narrow bytes) q (length_at (narrow bytes) a)) e) pointer
      (subst (λ j. LiftBlames (Exactly (TextFault enc (narrow bytes) (address a) p j)) (before < text_reach enc (narrow bytes) p j) e) long h)
