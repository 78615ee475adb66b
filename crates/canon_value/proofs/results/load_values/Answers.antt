use Rattle.std.proofs.Common.{List, Vec, ap, arith, false, inl, inr, length, refl, subst, sym, ◌%◌, ◌*◌, ◌+◌, ◌<◌, ◌∙◌, ◌≡◌, ◌≤◌, ℕ}
use Rattle.std.proofs.lemmas.Bool.{leb-false, leb-true}
use Rattle.std.proofs.lemmas.List.{get_or_default}
use Rattle.std.specs.Prelude.{slice_index}
use Rattle.canon_model.specs.Layout.{members_align, size}
use Rattle.canon_model.specs.Memory.{low}
use Rattle.canon_model.specs.Shape.{of_places, product}
use Rattle.canon_model.proofs.Layouts.{members_end-le-size}
use Rattle.canon_types.specs.declared.types.InterfaceType.{InterfaceType}
use Rattle.canon_types.specs.declared.types.InterfaceType.TheVariants as ty
use Rattle.canon_types.specs.Table.{members_of, shape_of, tuple_members}
use Rattle.canon_abi.specs.Options.{encoding_of}
use Rattle.canon_context.specs.declared.fault.At.TheVariants as place
use Rattle.canon_context.specs.declared.fault.Fault.TheVariants as fault
use Rattle.canon_model.specs.Leaves.{Leaf}
use Rattle.canon_value_parts.proofs.LeavesAt.{far_lifted}
use Rattle.canon_value_parts.proofs.Lifted.{stops_before}
use Rattle.canon_passing.specs.Passed.{LiftsHandles}
use Rattle.canon_value_parts.specs.Resources.{all_resources}
use Rattle.canon_val.specs.declared.val.Val.{Val}
use Rattle.std.specs.declared.alloc.Global.{Global}
use Rattle.canon_passing.proofs.Far.{tuple_align, tuple_size}
use Rattle.canon_value_parts.proofs.Pointed.{far_err, far_ok, misaligned_blamed}
use Rattle.canon_value.proofs.results.load_values.Goals.{After-load_members, After-tuple-tuple}
use Rattle.canon_value.proofs.results.load_values.Goals as goal

shape : (c : After-tuple-tuple) → shape_of c.args.source.now.types.now (ty.Tuple c.args.ty) ≡ product of_places (tuple_members c.args.source.now.types.now c.args.ty)
shape c = c.tuple-tuple.ensures.entry.shape ∙ ap (λ (xs : List InterfaceType). product of_places (members_of c.args.source.now.types.now xs)) c.tuple-tuple.ensures.types

pub returns-then-at-from-ne0-clause-err : goal.returns-then-at-from-ne0-clause-err
returns-then-at-from-ne0-clause-err c = λ most far.
    let ms = tuple_members c.args.source.now.types.now c.args.ty in
    let found : c.index-src-0.result ≡ slice_index c.args.src.now 0 = c.index-src-0.is ∙ get_or_default c.args.src.now 0 _ 0 (omega (arith, c.requires.word)) in
    let is : c.from-at.result ≡ low (slice_index c.args.src.now 0) = c.from-at.ensures ∙ (c.get_u32.ensures ∙ ap low found) in
    let by_align : c.from.result ≡ members_align false ms = c.from.ensures ∙ tuple_align _ _ _ c.tuple-tuple.ensures.abi (shape (goal.at.returns-then-at-from-ne0-clause-err c).After-tuple-tuple) in
    misaligned_blamed (encoding_of c.args.source.now.encoding) c.args.source.now.memory.now c.args.src.now most ms c.from-at.result c.args.fuel.now is far
    (subst (λ (n : ℕ). c.from-at.result % n ≡ 0 → ⊥) by_align c.if-at-from-ne0.true)

pub returns-then-not-ends_inside-clause-err : goal.returns-then-not-ends_inside-clause-err
returns-then-not-ends_inside-clause-err c = λ most far.
    let ms = tuple_members c.args.source.now.types.now c.args.ty in
    let form = shape (goal.at.returns-then-not-ends_inside-clause-err c).After-tuple-tuple in
    let found : c.index-src-0.result ≡ slice_index c.args.src.now 0 = c.index-src-0.is ∙ get_or_default c.args.src.now 0 _ 0 (omega (arith, c.requires.word)) in
    let is : c.from-at.result ≡ low (slice_index c.args.src.now 0) = c.from-at.ensures ∙ (c.get_u32.ensures ∙ ap low found) in
    let by_align : c.from.result ≡ members_align false ms = c.from.ensures ∙ tuple_align _ _ _ c.tuple-tuple.ensures.abi form in
    let by_size : c.tuple-tuple.result.now.abi.size32 ≡ size false (product of_places ms) = tuple_size _ _ _ c.tuple-tuple.ensures.abi form in
    let outside : length c.args.source.now.memory.now < c.from-at.result + 1 * c.tuple-tuple.result.now.abi.size32 =
    leb-false _ _ (sym c.ends_inside.ensures ∙ c.if-not-ends_inside.true) in
    let aligned : low (slice_index c.args.src.now 0) % members_align false ms ≡ 0 =
    subst (λ (p : ℕ). p % members_align false ms ≡ 0) is (subst (λ (n : ℕ). c.from-at.result % n ≡ 0) by_align c.if-at-from-ne0.false) in
    inr (far, inl (inr (record { kind_is = refl; at_is = refl }, aligned, λ inside. omega (arith, inside, is, by_size, outside))))

pub load_members-requires-clause-aligned : goal.load_members-requires-clause-aligned
load_members-requires-clause-aligned c =
    subst (λ (n : ℕ). c.from-at.result % n ≡ 0) (c.from.ensures ∙ tuple_align _ _ _ c.tuple-tuple.ensures.abi (shape (goal.at.load_members-requires-clause-aligned c).After-tuple-tuple)) c.if-at-from-ne0.false

pub load_members-requires-clause-inside : goal.load_members-requires-clause-inside
load_members-requires-clause-inside c =
    let by_size = tuple_size _ _ _ c.tuple-tuple.ensures.abi (shape (goal.at.load_members-requires-clause-inside c).After-tuple-tuple) in
    let ends : c.from-at.result + 1 * c.tuple-tuple.result.now.abi.size32 ≤ length c.args.source.now.memory.now =
    leb-true _ _ (sym c.ends_inside.ensures ∙ c.if-not-ends_inside.false) in
    omega (arith, by_size, ends, members_end-le-size false of_places (tuple_members c.args.source.now.types.now c.args.ty))

-- where the members were loaded from
record AreValuesThere (c : After-load_members) : Type 0 where
  is : c.from-at.result ≡ low (slice_index c.args.src.now 0)
  aligned : c.from-at.result % members_align false (tuple_members c.args.source.now.types.now c.args.ty) ≡ 0
  inside : c.from-at.result + size false (product of_places (tuple_members c.args.source.now.types.now c.args.ty)) ≤ length c.args.source.now.memory.now

there : (c : After-load_members) → shape_of c.args.source.now.types.now (ty.Tuple c.args.ty) ≡ product of_places (tuple_members c.args.source.now.types.now c.args.ty) → AreValuesThere c
there c form =
    let found : c.index-src-0.result ≡ slice_index c.args.src.now 0 = c.index-src-0.is ∙ get_or_default c.args.src.now 0 _ 0 (omega (arith, c.requires.word)) in
    let ends : c.from-at.result + 1 * c.tuple-tuple.result.now.abi.size32 ≤ length c.args.source.now.memory.now =
    leb-true _ _ (sym c.ends_inside.ensures ∙ c.if-not-ends_inside.false) in
    record {
      is = c.from-at.ensures ∙ (c.get_u32.ensures ∙ ap low found);
      aligned = subst (λ (n : ℕ). c.from-at.result % n ≡ 0) (c.from.ensures ∙ tuple_align _ _ _ c.tuple-tuple.ensures.abi form) c.if-at-from-ne0.false;
      inside = omega (arith, tuple_size _ _ _ c.tuple-tuple.ensures.abi form, ends);
    }

pub returns-clause-ok : goal.returns-clause-ok
returns-clause-ok c = λ most far.
    let at = goal.at.returns-clause-ok c in
    let h = there at.After-load_members (shape at.After-tuple-tuple) in
    far_ok (encoding_of c.args.source.now.encoding) c.args.source.now.memory.now c.args.src.now most (tuple_members c.args.source.now.types.now c.args.ty) c.from-at.result c.args.fuel.now h.is far h.aligned h.inside
    c.load_members.new.fuel c.load_members.result c.requires.word c.load_members.ensures.ok

pub returns-clause-err : goal.returns-clause-err
returns-clause-err c = λ most far.
    let at = goal.at.returns-clause-err c in
    let h = there at.After-load_members (shape at.After-tuple-tuple) in
    far_err (encoding_of c.args.source.now.encoding) c.args.source.now.memory.now c.args.src.now most (tuple_members c.args.source.now.types.now c.args.ty) c.from-at.result c.args.fuel.now h.is far h.aligned h.inside
    c.load_members.result c.load_members.ensures.err

pub returns-then-at-from-ne0-clause-handles : goal.returns-then-at-from-ne0-clause-handles
returns-then-at-from-ne0-clause-handles c = λ most far. stops_before c.args.source.now.instance.now c.args.ledger.now _ _ (fault.PointerMisaligned (place.Word 0)) refl refl

pub returns-then-not-ends_inside-clause-handles : goal.returns-then-not-ends_inside-clause-handles
returns-then-not-ends_inside-clause-handles c = λ most far. stops_before c.args.source.now.instance.now c.args.ledger.now _ _ (fault.PointerOutOfBounds (place.Word 0)) refl refl

pub returns-clause-handles : goal.returns-clause-handles
returns-clause-handles c = λ most far.
    let at = goal.at.returns-clause-handles c in
    let h = there at.After-load_members (shape at.After-tuple-tuple) in
    let bytes = c.args.source.now.memory.now in
    let ms = tuple_members c.args.source.now.types.now c.args.ty in
    subst (λ (ls : List Leaf). LiftsHandles (λ (vs : Vec Val Global). all_resources vs.items) c.args.source.now.instance.now c.args.ledger.now c.load_members.new.ledger ls c.load_members.result)
    (far_lifted bytes c.args.src.now most ms c.from-at.result h.is far h.inside h.aligned) c.load_members.ensures.handles
