use Rattle.std.proofs.Common.{Err, Global, length, Vec, ap, arith, ℕ, ◌∙◌, ◌≡◌}
use Rattle.canon_model.specs.Flat.{max_params}
use Rattle.canon_types.specs.Table.{TypeTable, tuple_members}
use Rattle.canon_context.specs.Core.{component_types, encoding_by, guest_of, moment_of, stage_of}
use Rattle.canon_context.proofs.Moves.{GuestLaws, moved_by}
use Rattle.canon_lowering.proofs.Lowerings.{unless}
use Rattle.canon_func.specs.Call.{OnAnswered, words_within}
use Rattle.canon_func.specs.declared.error.Error.TheVariants as error
use Rattle.canon_func.proofs.Lowered.{ended_moves, lowered_done, lowered_refused, params_are, call_written}
use Rattle.canon_func.proofs.dynamic.lower_params.Goals as goal

pub returns-in-Ok-clause-lowered : goal.returns-in-Ok-clause-lowered
returns-in-Ok-clause-lowered g c =
    let L : GuestLaws _ = record { seen = g.G.Guest.seen; moves = g.G.Guest.moves; stays = g.met.G.Guest.stays; goes_on = g.met.G.Guest.goes_on } in
    let before = c.args.core.now in
    let after = c.lower_into.new.core in
    let f = c.func.result.now in
    let same : c.types-types.result.now ≡ component_types before = c.types-types.ensures ∙ ap (λ k. k.types.types) c.component.ensures.component in
    let all = call_written c.in_ok-words.words.items c.lower_into.new.words c.in_ok-words.words.len (omega (arith, c.deref_mut.ensures.len, c.lower_into.auto.words)) in
    let counted : words_within max_params (tuple_members c.types-types.result.now f.params) ≡ words_within max_params (tuple_members (component_types before) f.params) =
    ap (λ (t : TypeTable). words_within max_params (tuple_members t f.params)) same in
    let low = c.in-Ok.ensures.lowers in
    lowered_done (stage_of L.seen L.moves before) (stage_of L.seen L.moves after) (encoding_by before c.args.export.now.options) before.component.types
    (tuple_members (component_types before) f.params) _ c.args.params.now before.ledger after.ledger
    (params_are (component_types before) c.types-types.result.now c.args.export.now.ty f same c.func.ensures.found)
    _ c.lower_into.new.words _ all (omega (arith, ap length all, c.lower_into.auto.words, c.deref_mut.ensures.len, c.in_ok-words.ensures.len, c.word_count.ensures, counted))
    (λ near none. ap (moment_of L.seen) (low.quiet near none).0) low.crosses low.small (moved_by L before after)

pub returns-in-Err-clause-lowered : goal.returns-in-Err-clause-lowered
returns-in-Err-clause-lowered g c =
    let L : GuestLaws _ = record { seen = g.G.Guest.seen; moves = g.G.Guest.moves; stays = g.met.G.Guest.stays; goes_on = g.met.G.Guest.goes_on } in
    let before = c.args.core.now in
    let after = c.lower_into.new.core in
    let f = c.func.result.now in
    let e = c.in-Err.fault in
    let same : c.types-types.result.now ≡ component_types before = c.types-types.ensures ∙ ap (λ k. k.types.types) c.component.ensures.component in
    let low = c.in-Err.ensures.lowers in
    lowered_refused (stage_of L.seen L.moves before) (stage_of L.seen L.moves after) (encoding_by before c.args.export.now.options) before.component.types
    (tuple_members (component_types before) f.params) _ c.args.params.now before.ledger after.ledger
    (params_are (component_types before) c.types-types.result.now c.args.export.now.ty f same c.func.ensures.found)
    e c.lower_into.new.words (λ es. OnAnswered {T = Vec ℕ Global} (Err (error.Fault e)) (L.moves (guest_of before) es (guest_of after)))
    low.crosses low.cause (λ near none. let (kept, is) = low.quiet near none in (ap (moment_of L.seen) kept, is))
    (λ end ends es goes. ended_moves (Vec ℕ Global) e end (L.moves (guest_of before) es (guest_of after)) ends (unless end _ _ (moved_by L before after es) goes))
