use Rattle.std.proofs.Common.{ap, arith, false, inl, inr, length, refl, subst, sym, ◌%◌, ◌*◌, ◌+◌, ◌<◌, ◌∙◌, ◌≡◌, ◌≤◌, ℕ}
use Rattle.std.proofs.lemmas.Bool.{leb-false, leb-true}
use Rattle.std.proofs.lemmas.List.{get_or_default}
use Rattle.std.specs.Prelude.{slice_index}
use Rattle.canon_context.specs.Core.{component_types}
use Rattle.canon_model.specs.Layout.{members_align, size}
use Rattle.canon_model.specs.Memory.{low}
use Rattle.canon_model.specs.Shape.{of_places, product}
use Rattle.canon_types.specs.declared.types.InterfaceType.TheVariants as ty
use Rattle.canon_types.specs.Table.{shape_of, tuple_members}
use Rattle.canon_passing.proofs.Far.{tuple_shape_of_now, tuple_align, tuple_size}
use Rattle.canon_value.proofs.given.results_area.Given.{Over}
use Rattle.canon_value.proofs.given.results_area.Goals.{After-from}
use Rattle.canon_value.proofs.given.results_area.Goals as goal

shape : (g : Over) (c : After-from g) → shape_of c.types.result.now (ty.Tuple c.args.ty) ≡ product of_places (tuple_members (component_types c.args.core.now) c.args.ty)
shape g c = tuple_shape_of_now (component_types c.args.core.now) c.types.result.now c.args.ty c.tuple-tuple.result.now.types.items
    c.types.ensures c.tuple-tuple.ensures.entry c.tuple-tuple.ensures.types

-- what the word says, and the tuple's numbers
record IsRead (g : Over) (c : After-from g) : Type 0 where
  is : c.from-at.result ≡ low (slice_index c.args.words.now c.args.word)
  by_align : c.from.result ≡ members_align false (tuple_members (component_types c.args.core.now) c.args.ty)
  by_size : c.tuple-tuple.result.now.abi.size32 ≡ size false (product of_places (tuple_members (component_types c.args.core.now) c.args.ty))

read : (g : Over) (c : After-from g) → IsRead g c
read g c =
    let found : c.index-words-word.result ≡ slice_index c.args.words.now c.args.word = c.index-words-word.is ∙ get_or_default c.args.words.now c.args.word _ 0 (omega (arith, c.requires.room)) in
    record {
      is = c.from-at.ensures ∙ (c.get_u32.ensures ∙ ap low found);
      by_align = c.from.ensures ∙ tuple_align _ _ _ c.tuple-tuple.ensures.abi (shape g c);
      by_size = tuple_size _ _ _ c.tuple-tuple.ensures.abi (shape g c);
    }

pub returns-then-at-from-ne0-clause-err : goal.returns-then-at-from-ne0-clause-err
returns-then-at-from-ne0-clause-err g c =
    let h = read g (goal.at.returns-then-at-from-ne0-clause-err g c).After-from in
    inl (refl, subst (λ (p : ℕ). ¬ (p % members_align false (tuple_members (component_types c.args.core.now) c.args.ty) ≡ 0)) h.is (subst (λ (n : ℕ). ¬ (c.from-at.result % n ≡ 0)) h.by_align c.if-at-from-ne0.true))

pub returns-then-not-ends_inside-clause-err : goal.returns-then-not-ends_inside-clause-err
returns-then-not-ends_inside-clause-err g c =
    let h = read g (goal.at.returns-then-not-ends_inside-clause-err g c).After-from in
    let bytes = c.args.core.now.memory in
    let aligned = subst (λ (p : ℕ). p % members_align false (tuple_members (component_types c.args.core.now) c.args.ty) ≡ 0) h.is (subst (λ (n : ℕ). c.from-at.result % n ≡ 0) h.by_align c.if-at-from-ne0.false) in
    let count : length c.as_slice.result.now ≡ length bytes = ap length (c.as_slice.ensures ∙ c.memory.ensures.memory) in
    let outside : length c.as_slice.result.now < c.from-at.result + 1 * c.tuple-tuple.result.now.abi.size32 =
    leb-false _ _ (sym c.ends_inside.ensures ∙ c.if-not-ends_inside.true) in
    inr (refl, aligned, omega (arith, outside, h.is, h.by_size, count))

pub returns-clause-ok : goal.returns-clause-ok
returns-clause-ok g c =
    let h = read g (goal.at.returns-clause-ok g c).After-from in
    let bytes = c.args.core.now.memory in
    let count : length c.as_slice.result.now ≡ length bytes = ap length (c.as_slice.ensures ∙ c.memory.ensures.memory) in
    let ends : c.from-at.result + 1 * c.tuple-tuple.result.now.abi.size32 ≤ length c.as_slice.result.now =
    leb-true _ _ (sym c.ends_inside.ensures ∙ c.if-not-ends_inside.false) in
    (h.is, subst (λ (n : ℕ). c.from-at.result % n ≡ 0) h.by_align c.if-at-from-ne0.false, omega (arith, ends, h.by_size, count))
