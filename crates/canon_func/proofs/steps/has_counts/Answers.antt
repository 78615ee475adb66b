use Rattle.std.proofs.Common.{ap, length, sym, ◌≡◌, ◌∙◌}
use Rattle.canon_model.specs.Shape.{member_count}
use Rattle.canon_types.specs.Table.{param_members, result_members, types_of}
use Rattle.canon_func.proofs.Counts.{both_equal, first_differs}
use Rattle.canon_func.proofs.steps.has_counts.Goals as goal
use Rattle.canon_types.proofs.Measures.{count_members}

pub returns-then-params-len : goal.returns-then-params-len
returns-then-params-len c =
    let t = c.args.types.now in
    let f = c.func-func.result.now in
    let first : c.len.result ≡ member_count (param_members t f) = c.len.ensures ∙ (c.tuple.result.now.types.ok.0 ∙ (ap length c.tuple.ensures.types ∙ sym (count_members t (types_of t f.params)))) in
    let second : c.len-then-params-len.result ≡ member_count (result_members t f) =
    c.len-then-params-len.ensures ∙ (c.tuple-then-params-len.result.now.types.ok.0 ∙ (ap length c.tuple-then-params-len.ensures.types ∙ sym (count_members t (types_of t f.results)))) in
    rw c.func-func.ensures.found (both_equal c.args.params c.args.results c.len-then-params-len.result (member_count (param_members t f)) (member_count (result_members t f)) (c.if-params-len.true ∙ first) second)

pub returns-else-params-len : goal.returns-else-params-len
returns-else-params-len c =
    let t = c.args.types.now in
    let f = c.func-func.result.now in
    let first : c.len.result ≡ member_count (param_members t f) = c.len.ensures ∙ (c.tuple.result.now.types.ok.0 ∙ (ap length c.tuple.ensures.types ∙ sym (count_members t (types_of t f.params)))) in
    rw c.func-func.ensures.found (first_differs c.args.params c.args.results c.len.result (member_count (param_members t f)) (member_count (result_members t f)) c.if-params-len.false first)
