use Rattle.std.proofs.Common.{◌≡◌, ◌∙◌, arith, subst}
use Rattle.canon_model.specs.Shape.{of_places, product}
use Rattle.canon_abi.specs.Abi.{HasLayout}
use Rattle.canon_types.specs.Table.{members_of, tuple_members}
use Rattle.canon_func.specs.Call.{words_within}
use Rattle.canon_func.proofs.Counts.{call_words_counted}
use Rattle.canon_func.proofs.steps.word_count.Goals as goal

pub returns : goal.returns
returns c =
    let t = c.args.types.now in
    let ms = tuple_members t c.args.tuple in
    let abi = c.tuple.result.now.abi in
    let laid : HasLayout abi (product of_places ms) = subst (λ ts. HasLayout abi (product of_places (members_of t ts))) c.tuple.ensures.types (subst (HasLayout abi) c.tuple.ensures.entry.shape c.tuple.ensures.abi) in
    subst (λ n. c.unwrap_or.result ≡ words_within n ms) c.from.ensures
    (c.unwrap_or.ensures ∙ call_words_counted c.from.result c.flat_count.result ms (omega (arith, c.from.ensures, c.requires.few)) (c.flat_count.ensures.words (product of_places ms) laid))
