use Rattle.std.proofs.Common.{subst}
use Rattle.canon_types.specs.Table.{param_members, result_members}
use Rattle.canon_plan.specs.NoHandle.{HaveNoHandle}
use Rattle.canon_recording.specs.Recordings.{exports_of}
use Rattle.canon_recording.proofs.Answering.{passed_decides}
use Rattle.canon_recording.proofs.fitting.export_fits.Goals as goal

pub values_fit-requires-clause-params : goal.values_fit-requires-clause-params
values_fit-requires-clause-params c = subst HaveNoHandle c.export_type-func.ensures.params (c.requires.recordable.exports c.args.call.now.export c.requires.known).0

pub values_fit-requires-clause-results : goal.values_fit-requires-clause-results
values_fit-requires-clause-results c = subst HaveNoHandle c.export_type-func.ensures.results (c.requires.recordable.exports c.args.call.now.export c.requires.known).1

pub returns : goal.returns
returns c =
    let t = c.args.c.now.types.types in
    let func = c.export_type-func.result in
    let are = passed_decides (exports_of c.args.c.now) c.args.call.now.export (param_members t func)
    (result_members t func) c.as_slice.result.now c.args.call.now.params.items c.as_slice-2.result.now c.args.call.now.results.items c.values_fit.result
    c.export_type-func.ensures.params c.export_type-func.ensures.results c.as_slice.ensures.value c.as_slice-2.ensures.value c.values_fit.ensures.decides in
    record { decides = are }
