use Rattle.std.proofs.Common.{List, ap, length, ◌∙◌}
use Rattle.canon_types.specs.Table.{types_of}
use Rattle.canon_types.specs.declared.types.InterfaceType.{InterfaceType}
use Rattle.canon_replay.proofs.calls.result_count.Goals as goal

pub returns : goal.returns
returns c =
    let types = c.types.ensures ∙ ap (λ x. x.types.types) (c.component.ensures.component ∙ ap (λ k. k.component) c.core.ensures) in
    let count = c.len.ensures ∙ (c.tuple.result.now.types.ok.0 ∙ (ap (λ (ts : List InterfaceType). length ts) c.tuple.ensures.types ∙ ap (λ t. length (types_of t c.ty-ty.result.now.results)) types)) in
    rw c.ty-ty.ensures.found count
