use Rattle.std.proofs.Common.{subst, sym, true}
use Rattle.std.proofs.Common.{subst₂}
use Rattle.canon_plan.specs.NoHandle.{HaveNoHandle}
use Rattle.canon_recording_parts.specs.Read.{seen_as}
use Rattle.canon_recording_parts.specs.Format.{also}
use Rattle.canon_recording_parts.specs.Read.{ReadsFormat}
use Rattle.canon_recording.specs.Recordings.{passed_in, values}
use Rattle.canon_recording.proofs.decoding.read_import.Goals as goal

pub read_passed-requires-clause-params : goal.read_passed-requires-clause-params
read_passed-requires-clause-params c = subst HaveNoHandle c.import_type-func.ensures.params (c.requires.recordable.imports c.args.import c.requires.known).0

pub read_passed-requires-clause-results : goal.read_passed-requires-clause-results
read_passed-requires-clause-results c = subst HaveNoHandle c.import_type-func.ensures.results (c.requires.recordable.imports c.args.import c.requires.known).1

pub returns : goal.returns
returns c = record { reads = subst₂ (λ ms ns. ReadsFormat (also (values true ms) (values true ns)) c.args.bytes.now c.args.at.now c.read_passed.new.at (seen_as passed_in c.read_passed.result)) (sym c.import_type-func.ensures.params) (sym c.import_type-func.ensures.results) c.read_passed.ensures.reads }
