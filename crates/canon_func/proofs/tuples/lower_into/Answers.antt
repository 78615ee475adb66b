use Rattle.std.proofs.Common.{rules, subst, ℕ, ◌≡◌}
use Rattle.canon_args.specs.Params.{TypedParams}
use Rattle.canon_context.specs.Core.{Parts, component_types}
use Rattle.canon_model.specs.Shape.{of_places, product}
use Rattle.canon_types.specs.Table.{tuple_members}
use Rattle.canon_func.proofs.tuples.lower_into.Goals as goal

pub returns-clause-lowers : goal.returns-clause-lowers
returns-clause-lowers g c =
    let seen = g.G.Guest.seen in
    let moves = g.G.Guest.moves in
    let cx = c.new-cx.result in
    let e = c.args.export.now in
    let v = c.args.params.now in
    let LowersIn : Parts g.row.T.Denot g.row.G.Denot → ℕ → Parts g.row.T.Denot g.row.G.Denot → Type 0 = λ from options to. let ms = tuple_members (component_types from) c.args.tuple in
    TypedParams seen moves options from to ms c.lower_params.new.dst (g.P.ComponentType.walks v) (g.P.Lower.gives from.component.types (product of_places ms) v) c.lower_params.result in
    let ends : c.lower_params.new.cx.core.now ≡ _ = search rules in
    subst (λ k. LowersIn c.args.core.now e.options k) ends
    (subst (λ o. LowersIn c.args.core.now o c.lower_params.new.cx.core.now) c.new-cx.ensures.options
    (subst (λ k. LowersIn k cx.options c.lower_params.new.cx.core.now) c.new-cx.ensures.core c.lower_params.ensures.lowers))
