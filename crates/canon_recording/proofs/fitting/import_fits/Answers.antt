use Rattle.std.proofs.Common.{subst}
use Rattle.canon_types.specs.Table.{param_members, result_members}
use Rattle.canon_plan.specs.NoHandle.{HaveNoHandle}
use Rattle.canon_recording.specs.Recordings.{imports_of}
use Rattle.canon_recording.proofs.Answering.{function_decides, passed_decides}
use Rattle.canon_recording.proofs.fitting.import_fits.Goals as goal

pub values_fit-requires-clause-params : goal.values_fit-requires-clause-params
values_fit-requires-clause-params c = subst HaveNoHandle c.import_type-func.ensures.params (c.requires.recordable.imports c.args.ask.now.import c.requires.known).0

pub values_fit-requires-clause-results : goal.values_fit-requires-clause-results
values_fit-requires-clause-results c = subst HaveNoHandle c.import_type-func.ensures.results (c.requires.recordable.imports c.args.ask.now.import c.requires.known).1

pub returns : goal.returns
returns c =
    let t = c.args.c.now.types.types in
    let func = c.import_type-func.result in
    let are = passed_decides (imports_of c.args.c.now) c.args.ask.now.import (param_members t func)
    (result_members t func) c.as_slice.result.now c.args.ask.now.params.items c.as_slice-2.result.now c.args.ask.now.results.items c.values_fit.result
    c.import_type-func.ensures.params c.import_type-func.ensures.results c.as_slice.ensures.value c.as_slice-2.ensures.value c.values_fit.ensures.decides in
    record { decides = function_decides (imports_of c.args.c.now) c.args.ask.now.import c.args.ask.now.params.items c.args.ask.now.results.items c.values_fit.result c.requires.known are }
