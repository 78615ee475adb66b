use Rattle.std.proofs.Common.{false, subst, sym}
use Rattle.std.proofs.Common.{subst₂}
use Rattle.canon_recording_parts.specs.Format.{also}
use Rattle.canon_recording_parts.specs.Written.{WritesFormat}
use Rattle.canon_recording.specs.Recordings.{values}
use Rattle.canon_recording.specs.Fits.{ArePlainValues}
use Rattle.canon_recording.proofs.encoding.put_import.Goals as goal

pub put_passed-requires-clause-params : goal.put_passed-requires-clause-params
put_passed-requires-clause-params c = subst (λ ms. ArePlainValues ms c.args.params.now) c.import_type-func.ensures.params
    (record { no_handle = (c.requires.recordable.imports c.args.import c.requires.of.known).0; are = c.requires.of.params })

pub put_passed-requires-clause-results : goal.put_passed-requires-clause-results
put_passed-requires-clause-results c = subst (λ ms. ArePlainValues ms c.args.results.now) c.import_type-func.ensures.results
    (record { no_handle = (c.requires.recordable.imports c.args.import c.requires.of.known).1; are = c.requires.of.results })

pub returns : goal.returns
returns c = record {
  writes = subst₂ (λ ms ns. WritesFormat (also (values false ms) (values false ns)) (
    c.args.params.now,
    c.args.results.now,
  ) c.args.bytes.now.items c.put_passed.new.bytes.items c.put_passed.result) (sym c.import_type-func.ensures.params) (sym c.import_type-func.ensures.results) c.put_passed.ensures.writes;
}
