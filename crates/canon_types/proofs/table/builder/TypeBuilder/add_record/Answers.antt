use Rattle.std.proofs.Common.{◌≡◌, ◌≢◌, Some, subst}
use Rattle.std.specs.Prelude.{IfErr}
use Rattle.canon_types.specs.declared.error.TypeError.TheVariants.{OutOfMemory}
use Rattle.canon_types.specs.Table.{TypeTable}
use Rattle.canon_types.specs.Keeps.{fields_type}
use Rattle.canon_types.specs.Refusal.{refusal}
use Rattle.canon_types.proofs.table.builder.TypeBuilder.add_record.Goals as goal

pub returns-clause-cause : goal.returns-clause-cause
returns-clause-cause c =
    subst (λ (t : TypeTable). IfErr c.add_record.result (λ e. e ≢ OutOfMemory → refusal t (fields_type c.args.fields.items) ≡ Some e)) c.self.view_is c.add_record.ensures.cause
