use Rattle.std.proofs.Common.{List, Some, ap, length, refl, subst, sym, ◌∙◌, ◌≡◌}
use Rattle.canon_abi.specs.Abi.{HasLayout}
use Rattle.canon_types.specs.Keeps.{fields_type}
use Rattle.canon_types.specs.declared.types.InterfaceType.TheVariants as ty
use Rattle.canon_types.specs.declared.types.RecordField.{RecordField}
use Rattle.canon_types.specs.Measured.{IsMeasured}
use Rattle.canon_types.specs.Refusal.{refusal}
use Rattle.canon_types.specs.Table.{all_shapes, defined_shape, is_record}
use Rattle.canon_types.proofs.Adding.{adds, has_new}
use Rattle.canon_types.proofs.Made.{caused}
use Rattle.canon_types.proofs.table.ComponentTypes.add_record.Goals as goal

pub returns-in_err-abi-clause-cause : goal.returns-in_err-abi-clause-cause
returns-in_err-abi-clause-cause c =
    caused c.from_residual.result c.in_err-abi.field-0.0 (refusal c.args.self.now (fields_type c.args.fields.items)) c.from_residual.ensures
    (λ n. ap (λ (fs : List RecordField). refusal c.args.self.now (fields_type fs)) (sym c.deref.ensures.value) ∙ c.in_err-abi.ensures.cause n)

pub enter-requires-clause-measured : goal.enter-requires-clause-measured
enter-requires-clause-measured c =
    subst (λ (fs : List RecordField). IsMeasured c.args.self.now (fields_type fs) c.in_ok-abi.depth c.in_ok-abi.has_borrow) c.deref.ensures.value c.in_ok-abi.ensures.measured

pub enter-requires-clause-layout : goal.enter-requires-clause-layout
enter-requires-clause-layout c =
    subst (λ (fs : List RecordField). HasLayout c.in_ok-abi.abi (defined_shape (all_shapes c.args.self.now) (fields_type fs))) c.deref.ensures.value c.in_ok-abi.ensures.abi

pub returns-in_err-place-clause-cause : goal.returns-in_err-place-clause-cause
returns-in_err-place-clause-cause c =
    caused c.from_residual-in_err-place.result c.in_err-place.field-0.0 (refusal c.args.self.now (fields_type c.args.fields.items)) c.from_residual-in_err-place.ensures c.in_err-place.ensures.cause

pub returns-clause-ok : goal.returns-clause-ok
returns-clause-ok c =
    let d = fields_type c.args.fields.items in
    let at : c.from_u32.result ≡ length c.args.self.now.definitions = c.from_u32.ensures ∙ c.in_ok-place.ensures.ok.0 in
    adds c.args.self.now d (ty.Record c.from_u32.result) c.enter.new.self c.in_ok-place.ensures.fits c.in_ok-place.ensures.ok.1 (ap Some at) (has_new is_record c.args.self.now d c.from_u32.result at refl)
