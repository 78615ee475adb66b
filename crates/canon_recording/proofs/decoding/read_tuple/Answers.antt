use Rattle.std.proofs.Common.{ap, subst, sym, true, ◌∙◌}
use Rattle.std.proofs.Common.{All}
use Rattle.canon_types.specs.Table.{Knows}
use Rattle.canon_plan.specs.NoHandle.{HaveNoHandle}
use Rattle.canon_recording_parts.specs.Read.{seen_as}
use Rattle.canon_recording_parts.specs.Read.{ReadsFormat}
use Rattle.canon_recording.specs.Recordings.{values}
use Rattle.canon_types.specs.Table.{members_of, tuple_members}
use Rattle.canon_recording.proofs.decoding.read_tuple.Goals as goal

pub read_values-requires-clause-known : goal.read_values-requires-clause-known
read_values-requires-clause-known c = subst (All (Knows c.types-types.result.now)) (sym c.as_slice-tys.ensures.value) c.tuple.ensures.entry.known

pub read_values-requires-clause-no_handle : goal.read_values-requires-clause-no_handle
read_values-requires-clause-no_handle c = subst HaveNoHandle
    (sym (ap (members_of c.types-types.result.now) (c.as_slice-tys.ensures.value ∙ c.tuple.ensures.types) ∙ ap (λ t. tuple_members t c.args.tuple) c.types-types.ensures)) c.requires.no_handle

pub returns : goal.returns
returns c = record { reads = subst (λ ms. ReadsFormat (values true ms) c.args.bytes.now c.args.at.now c.read_values.new.at (seen_as (λ vals. vals.items) c.read_values.result)) (ap (members_of c.types-types.result.now) (c.as_slice-tys.ensures.value ∙ c.tuple.ensures.types) ∙ ap (λ t. tuple_members t c.args.tuple) c.types-types.ensures) c.read_values.ensures.reads }
