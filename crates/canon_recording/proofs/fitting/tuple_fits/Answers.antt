use Rattle.std.proofs.Common.{All, ap, subst, sym, ◌∙◌}
use Rattle.canon_types.specs.Table.{Knows, members_of, tuple_members}
use Rattle.canon_plan.specs.NoHandle.{HaveNoHandle}
use Rattle.canon_recording.specs.Decided.{Decides}
use Rattle.canon_recording.specs.Fits.{AreValuesOf}
use Rattle.canon_recording.proofs.Staging.{none}
use Rattle.canon_recording.proofs.Values.{given_count}
use Rattle.canon_recording.proofs.fitting.tuple_fits.Goals as goal

pub returns-then-vals-tys : goal.returns-then-vals-tys
returns-then-vals-tys c = record {
  decides = none (λ are. c.if-vals-tys.true (given_count c.types-types.result.now c.as_slice-tys.result.now c.args.vals.now (subst (λ ms. AreValuesOf ms c.args.vals.now) (sym (ap (members_of c.types-types.result.now) (c.as_slice-tys.ensures.value ∙ c.tuple.ensures.types) ∙ ap (λ t. tuple_members t c.args.tuple) c.types-types.ensures)) are)));
}

pub vals_fit-requires-clause-known : goal.vals_fit-requires-clause-known
vals_fit-requires-clause-known c = subst (All (Knows c.types-types.result.now)) (sym c.as_slice-tys.ensures.value) c.tuple.ensures.entry.known

pub vals_fit-requires-clause-no_handle : goal.vals_fit-requires-clause-no_handle
vals_fit-requires-clause-no_handle c = subst HaveNoHandle (sym (ap (members_of c.types-types.result.now) (c.as_slice-tys.ensures.value ∙ c.tuple.ensures.types)
    ∙ ap (λ t. tuple_members t c.args.tuple) c.types-types.ensures)) c.requires.no_handle

pub returns : goal.returns
returns c = record {
  decides = subst (λ ms. Decides (AreValuesOf ms c.args.vals.now) c.vals_fit.result) (ap (members_of c.types-types.result.now) (c.as_slice-tys.ensures.value
      ∙ c.tuple.ensures.types) ∙ ap (λ t. tuple_members t c.args.tuple) c.types-types.ensures) c.vals_fit.ensures.decides;
}
