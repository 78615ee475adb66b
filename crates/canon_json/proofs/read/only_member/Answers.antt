use Rattle.std.proofs.Common.{◌≡◌, length, List, ℕ, Some, option_and_then, ap, sym, ◌∙◌}
use Rattle.serde_json.specs.View.{view}
use Rattle.canon_json.specs.Json as spec
use Rattle.canon_json.proofs.JsonViews.{only_member_first, only_member_of_none}
use Rattle.canon_json.proofs.read.only_member.Goals as goal

pub returns-then-len-ne1 : goal.returns-then-len-ne1
returns-then-len-ne1 c =
    sym (only_member_of_none c.in_ok-object.object.now.entries (λ e. c.if-len-ne1.true (c.len.ensures.len ∙ e))) ∙ ap (option_and_then spec.only_member) c.in_ok-object.ensures

pub returns : goal.returns
returns c =
    let one : length c.in_ok-object.object.now.entries ≡ 1 = sym c.len.ensures.len ∙ c.if-len-ne1.false in
    ap (λ (name : List ℕ). Some (name, view c.in_ok-name.value.now)) c.as_str.ensures.value
    ∙ (sym (only_member_first c.in_ok-object.object.now.entries c.in_ok-name.name.now c.in_ok-name.value.now one c.in_ok-name.ensures.first)
    ∙ ap (option_and_then spec.only_member) c.in_ok-object.ensures)
