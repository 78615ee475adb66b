use Rattle.std.proofs.Common.{◌≡◌, Option, subst, sym, ℕ}
use Rattle.std.specs.Borrow.{Bor}
use Rattle.canon_model.specs.Shape.{result_of}
use Rattle.canon_types.specs.Table.{all_shapes, payload_in, shape_of}
use Rattle.canon_types.specs.declared.types.InterfaceType.{InterfaceType}
use Rattle.canon_types.specs.declared.types.InterfaceType.TheVariants as ty
use Rattle.canon_value_parts.specs.Fails.{mismatch}
use Rattle.canon_value_parts.proofs.CaseViews.{IsChosen, chosen_error, chosen_ok, result_missed, result_seen}
use Rattle.canon_value_parts.proofs.Cases.{Payload}
use Rattle.canon_value_parts.proofs.Steps.{own_failure}
use Rattle.canon_value_parts.proofs.case_view.result_view.Goals.{After-result-types, in-Err, in-Ok}
use Rattle.canon_value_parts.proofs.case_view.result_view.Goals as goal

shape : (c : After-result-types) → shape_of c.args.types.now (ty.Result c.args.i) ≡ result_of (payload_in (all_shapes c.args.types.now) c.result-types.result.now.ok) (payload_in (all_shapes c.args.types.now) c.result-types.result.now.err)
shape c = c.result-types.ensures.entry.shape

pub returns-in_default : goal.returns-in_default
returns-in_default c = own_failure mismatch _ _ c.args.value.now c.args.place (shape (goal.at.returns-in_default c).After-result-types) (λ r e. c.in_default.not-Result r e)

pub returns-in-Ok-payload_of : goal.returns-in-Ok-payload_of
returns-in-Ok-payload_of c =
    let x = c.result-types.result.now in
    let known = c.result-types.ensures.entry.known in
    let Is : ℕ × Option InterfaceType × Bor Payload → Type 0 = λ y. IsChosen c.args.types.now x.ok x.err c.in-Result.payload y.0 y.1 y.2.now in
    let chosen : Is c.match-payload.tag = elim c.match-payload.branch [
      | in-Ok w ↦ subst Is (sym w.tag-is) (chosen_ok c.args.types.now x.ok x.err c.in-Result.payload _ known w.in-Ok.is)
      | in-Err w ↦ subst Is (sym w.tag-is) (chosen_error c.args.types.now x.ok x.err c.in-Result.payload _ known w.in-Err.is)
    ] in
    result_seen c.args.types.now _ c.args.value.now x.info x.ok x.err c.in-Result.payload c.match-payload.tag.0 c.match-payload.tag.1 c.match-payload.tag.2.now
    (shape (goal.at.returns-in-Ok-payload_of c).After-result-types) c.result-types.ensures.info c.in-Result.is chosen
    c.in-Ok-payload_of.payload c.in-Ok-payload_of.ensures.ok

pub returns-in-Err-payload_of : goal.returns-in-Err-payload_of
returns-in-Err-payload_of c =
    let x = c.result-types.result.now in
    let known = c.result-types.ensures.entry.known in
    let Is : ℕ × Option InterfaceType × Bor Payload → Type 0 = λ y. IsChosen c.args.types.now x.ok x.err c.in-Result.payload y.0 y.1 y.2.now in
    let chosen : Is c.match-payload.tag = elim c.match-payload.branch [
      | in-Ok w ↦ subst Is (sym w.tag-is) (chosen_ok c.args.types.now x.ok x.err c.in-Result.payload _ known w.in-Ok.is)
      | in-Err w ↦ subst Is (sym w.tag-is) (chosen_error c.args.types.now x.ok x.err c.in-Result.payload _ known w.in-Err.is)
    ] in
    result_missed c.args.types.now _ c.args.value.now x.info x.ok x.err c.in-Result.payload c.match-payload.tag.0 c.match-payload.tag.1 c.match-payload.tag.2.now
    (shape (goal.at.returns-in-Err-payload_of c).After-result-types) c.result-types.ensures.info c.in-Result.is chosen
    c.args.place c.in-Err-payload_of.fault c.in-Err-payload_of.ensures.err
