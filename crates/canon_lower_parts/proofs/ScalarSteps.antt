-- A scalar, stored by its word.
use Rattle.std.proofs.Common.{◌≡◌, ◌≤◌, ◌+◌, ◌%◌, ◌^◌, ◌∙◌, Ok, [], ap, arith, false, inl, length, refl, subst, sym, ℕ}
use Rattle.canon_context.proofs.Moves.{GuestLaws}
use Rattle.canon_context.specs.Core.{Parts, encoding_by, stage_of}
use Rattle.canon_lowering.proofs.AimedAt.{scalar_stored}
use Rattle.canon_lowering.specs.Lowering.{done}
use Rattle.canon_lowering.specs.Steps.{Writes}
use Rattle.canon_lowering.specs.Storing.{narrow}
use Rattle.canon_memory.specs.Realloc.{block}
use Rattle.canon_model.specs.Homes.{host_texts}
use Rattle.canon_model.specs.Layout.{scalar_size, size}
use Rattle.canon_model.specs.Memory.{num}
use Rattle.canon_model.specs.Rep.{IsLeast, ScalarIs}
use Rattle.canon_model.specs.Shape.{Scalar, Shape, scalar}
use Rattle.canon_model.specs.Tree.{Tree}
use Rattle.canon_passing.proofs.Shapes.{least_low, scalar_bytes}
use Rattle.canon_lower_parts.specs.Scalars.{IsWordOfScalar}
use Rattle.canon_lower_parts.specs.Stores.{IsPut, TypedStores}

pub scalar_few : (s : Shape) (k : Scalar) → s ≡ scalar k → size false s ≤ 8
unfolding size
scalar_few s k e = subst (λ (z : Shape). size false z ≤ 8) (sym e) (scalar_bytes k)

module _ {D G : Type 0} (L : GuestLaws G) (options : ℕ) where
  pub lower_scalar_stores : (a b : Parts D G) (s : Shape) (k : Scalar) (at w bytes : ℕ) (Has : Tree → Type 0) → length a.memory ≤ 2 ^ 32 → s ≡ scalar k → at + size false s ≤ length a.memory → bytes ≡ size false s → IsPut a b at w bytes
      → IsWordOfScalar k Has w → TypedStores L.seen L.moves options a b s at Has [] (Ok tt)
  unfolding size
  lower_scalar_stores a b s k at w bytes Has small shape room is put (t, has, word, least) =
      let (low, lowest) = least_low k w t word least in
      let few : bytes ≡ scalar_size k = is ∙ ap (size false) shape in
      let there : num (narrow b.memory) at (scalar_size k) ≡ w % 256 ^ scalar_size k = subst (λ (n : ℕ). num (narrow b.memory) at n ≡ w % 256 ^ n) few put.stored in
      let written : Writes (block at (scalar_size k)) a.memory b.memory = subst (λ (n : ℕ). Writes (block at n) a.memory b.memory) few put.writes in
      subst (λ (c : Parts D G). TypedStores L.seen L.moves options a c s at Has [] (Ok tt)) (sym put.same)
      (subst (λ (z : Shape). TypedStores L.seen L.moves options a (record a { memory = b.memory }) z at Has [] (Ok tt)) (sym shape) (record {
        handles = [];
        ending = done;
        ends = inl refl;
        attempt = scalar_stored false (stage_of L.seen L.moves a) a.memory b.memory (host_texts (encoding_by a options)) at Has small k t (omega (arith, room, ap (size false) shape)) written
            (subst (λ (n : ℕ). ScalarIs k n t) (sym there) low) (subst (λ (n : ℕ). IsLeast k n) (sym there) lowest) has;
        passed = (refl, refl);
        same = refl;
        quiet = λ none. (refl, tt);
        cause = tt;
        small = λ u is e some. some;
      }))
