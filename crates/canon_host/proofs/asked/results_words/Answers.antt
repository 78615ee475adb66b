use Rattle.std.proofs.Common.{subst}
use Rattle.std.specs.Prelude.{SomeIff, ◌≤◌}
use Rattle.canon_model.specs.Layout.{flat}
use Rattle.canon_model.specs.Shape.{of_places, product}
use Rattle.canon_abi.specs.Abi.{HasLayout}
use Rattle.canon_types.specs.Table.{members_of, tuple_members}
use Rattle.canon_host.proofs.Counts.{results_counted}
use Rattle.canon_host.proofs.asked.results_words.Goals as goal

pub returns : goal.returns
returns c =
    let t = c.args.types.now in
    let ms = tuple_members t c.args.tuple in
    let laid : HasLayout c.tuple.result.now.abi (product of_places ms) =
    subst (λ ts. HasLayout c.tuple.result.now.abi (product of_places (members_of t ts))) c.tuple.ensures.types
    (subst (HasLayout c.tuple.result.now.abi) c.tuple.ensures.entry.shape c.tuple.ensures.abi) in
    results_counted c.flat_count.result ms (subst (λ n. SomeIff c.flat_count.result ((flat (product of_places ms) ≤ n)
    × (flat (product of_places ms) ≤ 16)) (flat (product of_places ms))) c.from.ensures (c.flat_count.ensures.words (product of_places ms) laid))
