use Rattle.std.proofs.Common.{◌≡◌, ◌∙◌, List, ap, arith, false, subst, ℕ}
use Rattle.canon_lowering.specs.Steps.{Writes}
use Rattle.canon_memory.specs.Realloc.{block}
use Rattle.canon_model.specs.Layout.{size}
use Rattle.canon_types.specs.Table.{TypeTable, shape_of}
use Rattle.canon_context.specs.Core.{component_types}
use Rattle.canon_value_parts.proofs.StoreSteps.{scalar_type_bytes}
use Rattle.canon_context.proofs.Moves.{GuestLaws}
use Rattle.canon_value_parts.proofs.PassesOf.{scalar_passes}
use Rattle.canon_value_parts.proofs.Walks.{scalar_stores}
use Rattle.canon_walks.proofs.store.store_word.Goals as goal

pub put_low_bytes-requires-clause-few : goal.put_low_bytes-requires-clause-few
put_low_bytes-requires-clause-few g c =
    let types = component_types c.args.core.now in
    let bytes : c.canonical_abi.result.now.size32 ≡ size false (shape_of types c.args.ty) = (c.canonical_abi.ensures.size false) ∙ ap (λ (t : TypeTable). size false (shape_of t c.args.ty)) c.types.ensures in
    let (k, t, e, has, is, least) = c.requires.word in
    omega (arith, bytes, scalar_type_bytes types c.args.ty (k, e))

pub returns : goal.returns
returns g c =
    let a = c.args in
    let types = component_types c.args.core.now in
    let L : GuestLaws _ = record { seen = g.G.Guest.seen; moves = g.G.Guest.moves; stays = g.met.G.Guest.stays; goes_on = g.met.G.Guest.goes_on } in
    let bytes : c.canonical_abi.result.now.size32 ≡ size false (shape_of types c.args.ty) = (c.canonical_abi.ensures.size false) ∙ ap (λ (t : TypeTable). size false (shape_of t c.args.ty)) c.types.ensures in
    record {
      stores = λ options. scalar_stores L options a.core.now c.put_low_bytes.new.memory a.ty a.at a.value.now a.word c.canonical_abi.result.now.size32 a.place c.saturating_add.result
          c.requires.small (omega (arith, bytes, c.requires.room)) bytes c.requires.word c.put_low_bytes.ensures.stored
          (subst (λ (xs : List ℕ). Writes (block a.at c.canonical_abi.result.now.size32) xs c.put_low_bytes.new.memory) c.as_slice_mut.ensures.value c.put_low_bytes.ensures.writes) c.saturating_add.ensures
          (scalar_passes types a.ty a.value.now a.word c.requires.word);
    }
