use Rattle.std.proofs.Common.{Some, subst}
use Rattle.canon_host.proofs.Importing.{found_import}
use Rattle.canon_host.specs.Forms.{AnyValues}
use Rattle.canon_host.specs.Imports.{GivesOnly}
use Rattle.canon_imports.specs.Imports.{GivesAnswer, GivesAnswers}
use Rattle.canon_imports.proofs.imports.answer_with.Goals as goal

pub entrypoint-requires-clause-ready : goal.entrypoint-requires-clause-ready
entrypoint-requires-clause-ready g c = c.requires.keeps

pub returns-clause-serves : goal.returns-clause-serves
returns-clause-serves g c = λ answers log n is.
    found_import g.F.Fn c.args.func.now (GivesAnswers answers) AnyValues (Some log) n g.G.Guest.seen g.G.Guest.moves
    (subst (λ a. GivesOnly g.F.Fn c.args.func.now (GivesAnswer a)) is c.requires.gives) (λ type reached params answer state ledger h. tt)
    c.args.cx.ty c.args.cx.options c.args.cx.core.now _ c.args.storage.now _ c.entrypoint.result _ c.entrypoint.ensures.serves
