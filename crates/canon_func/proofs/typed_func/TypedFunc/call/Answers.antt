use Rattle.std.proofs.Common.{subst, sym, ◌∙◌, ◌≡◌}
use Rattle.std.specs.Prelude.{IfSome}
use Rattle.canon_func.proofs.typed_func.TypedFunc.call.Goals as goal

pub returns-in-Err-clause-refused : goal.returns-in-Err-clause-refused
returns-in-Err-clause-refused g c = c.in-Err.ensures.late ∙ (sym c.in_default.is ∙ c.entry_refusal.ensures)

pub returns-in-Err-clause-unchanged : goal.returns-in-Err-clause-unchanged
returns-in-Err-clause-unchanged g c = subst (λ o. IfSome o (λ e. c.trap.new.self ≡ c.args.store.now)) (sym c.in-Err.ensures.late) tt

pub returns-in-Ok-clause-call : goal.returns-in-Ok-clause-call
returns-in-Ok-clause-call g c = λ none. rw c.export_in-export.ensures.found c.in-Ok.ensures.call

pub returns-in-Err-clause-call : goal.returns-in-Err-clause-call
returns-in-Err-clause-call g c = λ none. rw (c.export_in-export.ensures.found, c.trap.ensures) c.in-Err.ensures.call
