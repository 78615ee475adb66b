use Rattle.std.proofs.Common.{ap, subst, sym, false, ◌∙◌}
use Rattle.std.proofs.Common.{All}
use Rattle.canon_types.specs.Table.{Knows}
use Rattle.canon_recording_parts.specs.Written.{WritesFormat}
use Rattle.canon_recording.specs.Recordings.{values}
use Rattle.canon_recording.specs.Fits.{ArePlainValues}
use Rattle.canon_types.specs.Table.{members_of, tuple_members}
use Rattle.canon_recording.proofs.Values.{given_count}
use Rattle.canon_recording.specs.Fits.{AreValuesOf}
use Rattle.canon_recording.proofs.encoding.put_tuple.Goals as goal

pub put_values-requires-clause-known : goal.put_values-requires-clause-known
put_values-requires-clause-known c = subst (All (Knows c.types-types.result.now)) (sym c.as_slice-tys.ensures.value) c.tuple.ensures.entry.known

pub put_values-requires-clause-count : goal.put_values-requires-clause-count
put_values-requires-clause-count c = given_count c.types-types.result.now c.as_slice-tys.result.now c.args.vals.now
    (subst (λ ms. AreValuesOf ms c.args.vals.now) (sym (ap (members_of c.types-types.result.now) (c.as_slice-tys.ensures.value ∙ c.tuple.ensures.types)
    ∙ ap (λ t. tuple_members t c.args.tuple) c.types-types.ensures)) c.requires.given.are)

pub put_values-requires-clause-given : goal.put_values-requires-clause-given
put_values-requires-clause-given c = subst (λ ms. ArePlainValues ms c.args.vals.now)
    (sym (ap (members_of c.types-types.result.now) (c.as_slice-tys.ensures.value ∙ c.tuple.ensures.types) ∙ ap (λ t. tuple_members t c.args.tuple) c.types-types.ensures)) c.requires.given

pub returns : goal.returns
returns c = record { writes = subst (λ ms. WritesFormat (values false ms) c.args.vals.now c.args.bytes.now.items c.put_values.new.bytes.items c.put_values.result) (ap (members_of c.types-types.result.now) (c.as_slice-tys.ensures.value ∙ c.tuple.ensures.types) ∙ ap (λ t. tuple_members t c.args.tuple) c.types-types.ensures) c.put_values.ensures.writes }
