use Rattle.std.proofs.Common.{List, [], ap, arith, refl, subst, ◌++◌, ◌∙◌, ◌∷◌, ◌≡◌}
use Rattle.std.specs.Prelude.{IfSome, slice_get}
use Rattle.canon_context.specs.declared.component.Component.{Component}
use Rattle.canon_model.specs.Shape.{member_count}
use Rattle.canon_types.specs.Table.{TypeTable, param_members}
use Rattle.canon_host.proofs.Importing.{faults, logs, refuses, wants}
use Rattle.canon_host.specs.Forms.{AnyValues}
use Rattle.canon_script.specs.Imports.{answers_view}
use Rattle.canon_imports.specs.Imports.{GivesAnswers, entries_of}
use Rattle.canon_imports.specs.declared.imports.Line.{Line}
use Rattle.canon_imports.proofs.Lines.{log_more, log_of, log_same, import_next_is}
use Rattle.canon_imports.proofs.imports.ScriptedImportsImports.serve.Goals as goal

pub returns-then-is_err-clause-serves : goal.returns-then-is_err-clause-serves
returns-then-is_err-clause-serves g c =
    let s = c.args.self.now in
    wants (GivesAnswers (answers_view s.answers.items)) AnyValues (log_of s.lines.items)
    (log_of c.reserve.new.self.items) c.args.n g.G.Guest.seen g.G.Guest.moves c.args.cx.ty c.args.cx.options s.refusals s.refusals c.args.cx.core.now _ c.args.storage.now _ _
    refl refl (log_same s.lines.items c.reserve.new.self.items c.reserve.ensures.items) refl

pub returns-in-Err-Refused-clause-serves : goal.returns-in-Err-Refused-clause-serves
returns-in-Err-Refused-clause-serves g c =
    let s = c.args.self.now in
    let next = import_next_is s.answers.items s.lines.items c.reserve.new.self.items c.args.n _ c.next.ensures c.reserve.ensures.items in
    let done = c.in-Err-Refused.ensures.serves (answers_view s.answers.items) (entries_of s.lines.items) c.args.n next in
    refuses (GivesAnswers (answers_view s.answers.items)) AnyValues (log_of s.lines.items)
    (log_of c.reserve.new.self.items) c.args.n g.G.Guest.seen g.G.Guest.moves c.args.cx.ty c.args.cx.options s.refusals c.saturating_add-self.result c.args.cx.core.now _ c.args.storage.now _ _
    (rw c.in-Err-Refused.field-0-is at done) (log_same s.lines.items c.reserve.new.self.items c.reserve.ensures.items) (omega (arith, c.saturating_add-self.ensures))

pub returns-in-Err-Fault-clause-serves : goal.returns-in-Err-Fault-clause-serves
returns-in-Err-Fault-clause-serves g c =
    let s = c.args.self.now in
    let next = import_next_is s.answers.items s.lines.items c.reserve.new.self.items c.args.n _ c.next.ensures c.reserve.ensures.items in
    let done = c.in-Err-Fault.ensures.serves (answers_view s.answers.items) (entries_of s.lines.items) c.args.n next in
    faults (GivesAnswers (answers_view s.answers.items)) AnyValues (log_of s.lines.items)
    (log_of c.reserve.new.self.items) c.args.n g.G.Guest.seen g.G.Guest.moves c.args.cx.ty c.args.cx.options s.refusals s.refusals c.args.cx.core.now _ c.args.storage.now _ _
    c.in-Err-Fault.fault (rw c.in-Err-Fault.field-0-is at done) (log_same s.lines.items c.reserve.new.self.items c.reserve.ensures.items) refl

pub returns-clause-serves : goal.returns-clause-serves
returns-clause-serves g c =
    let s = c.args.self.now in
    let next = import_next_is s.answers.items s.lines.items c.reserve.new.self.items c.args.n _ c.next.ensures c.reserve.ensures.items in
    let types = c.types.ensures ∙ ap (λ (x : Component). x.types.types) c.component.ensures.component in
    let count = subst (λ (t : TypeTable). IfSome (slice_get t.funcs c.args.cx.ty) (λ f. c.param_count-given.result ≡ member_count (param_members t f))) types c.param_count-given.ensures in
    let line : Line = record { index = c.args.n; given = c.param_count-given.result; values = c.in-Ok.values } in
    logs (GivesAnswers (answers_view s.answers.items)) AnyValues (log_of s.lines.items)
    (log_of c.push_reserved.new.self.items) c.args.n g.G.Guest.seen g.G.Guest.moves c.args.cx.ty c.args.cx.options s.refusals s.refusals c.args.cx.core.now _ c.args.storage.now _ _
    c.in-Ok.values c.param_count-given.result (c.in-Ok.ensures.serves (answers_view s.answers.items) (entries_of s.lines.items) c.args.n next) count
    (log_more s.lines.items c.push_reserved.new.self.items line (c.push_reserved.ensures.items ∙ ap (λ (ls : List Line). ls ++ line ∷ []) c.reserve.ensures.items)) refl
