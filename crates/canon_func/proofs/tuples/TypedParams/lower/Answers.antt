use Rattle.std.proofs.Common.{Err, Ok, ap, arith, length, subst, ◌∙◌, ◌≡◌}
use Rattle.canon_args.specs.Params.{TypedParams}
use Rattle.canon_context.proofs.Moves.{GuestLaws}
use Rattle.canon_context.specs.Core.{component_types}
use Rattle.canon_model.specs.Flat.{max_params}
use Rattle.canon_model.specs.Shape.{Members, of_places, product}
use Rattle.canon_types.specs.Table.{TypeTable, tuple_members}
use Rattle.canon_func.proofs.Lowered.{params_are, call_written}
use Rattle.canon_func.proofs.TupleLowered.{tuple_done, tuple_refused}
use Rattle.canon_func.specs.Call.{words_within}
use Rattle.canon_func.specs.Stores.{export_callee}
use Rattle.canon_func.proofs.tuples.TypedParams.lower.Goals as goal

pub returns-in-Ok-clause-lowered : goal.returns-in-Ok-clause-lowered
returns-in-Ok-clause-lowered g c =
    let L : GuestLaws _ = record { seen = g.G.Guest.seen; moves = g.G.Guest.moves; stays = g.met.G.Guest.stays; goes_on = g.met.G.Guest.goes_on } in
    let before = c.args.core.now in
    let after = c.lower_into.new.core in
    let e = c.args.export.now in
    let v = c.args.self.now.0 in
    let f = c.func.result.now in
    let callee = export_callee before.component e in
    let same : c.types-types.result.now ≡ component_types before = c.types-types.ensures ∙ ap (λ k. k.types.types) c.component.ensures.component in
    let are = params_are (component_types before) c.types-types.result.now e.ty f same c.func.ensures.found in
    let all = call_written c.in_ok-words.words.items c.lower_into.new.words c.in_ok-words.words.len (omega (arith, c.deref_mut.ensures.len, c.lower_into.ensures.count)) in
    let counted : words_within max_params (tuple_members c.types-types.result.now f.params) ≡ words_within max_params callee.params =
    ap (λ (t : TypeTable). words_within max_params (tuple_members t f.params)) same ∙ ap (words_within max_params) are in
    tuple_done L e.options before after callee.params (g.P.ComponentType.walks v) (g.P.Lower.gives before.component.types (product of_places callee.params) v) _ c.lower_into.new.words all
    (omega (arith, ap length all, c.lower_into.ensures.count, c.deref_mut.ensures.len, c.in_ok-words.ensures.len, c.word_count.ensures, counted))
    (subst (λ (ms : Members). TypedParams L.seen L.moves e.options before after ms c.lower_into.new.words (g.P.ComponentType.walks v) (g.P.Lower.gives before.component.types (product of_places ms) v) (Ok tt)) are c.in-Ok.ensures.lowers)

pub returns-in-Err-clause-lowered : goal.returns-in-Err-clause-lowered
returns-in-Err-clause-lowered g c =
    let L : GuestLaws _ = record { seen = g.G.Guest.seen; moves = g.G.Guest.moves; stays = g.met.G.Guest.stays; goes_on = g.met.G.Guest.goes_on } in
    let before = c.args.core.now in
    let after = c.lower_into.new.core in
    let e = c.args.export.now in
    let v = c.args.self.now.0 in
    let f = c.func.result.now in
    let callee = export_callee before.component e in
    let same : c.types-types.result.now ≡ component_types before = c.types-types.ensures ∙ ap (λ k. k.types.types) c.component.ensures.component in
    let are = params_are (component_types before) c.types-types.result.now e.ty f same c.func.ensures.found in
    tuple_refused L e.options before after callee.params (g.P.ComponentType.walks v) (g.P.Lower.gives before.component.types (product of_places callee.params) v) c.in-Err.fault c.lower_into.new.words (g.met.P.Lower.walkable v)
    (subst (λ (ms : Members). TypedParams L.seen L.moves e.options before after ms c.lower_into.new.words (g.P.ComponentType.walks v) (g.P.Lower.gives before.component.types (product of_places ms) v) (Err c.in-Err.fault)) are c.in-Err.ensures.lowers)
