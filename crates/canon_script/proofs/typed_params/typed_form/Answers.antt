use Rattle.canon_script.proofs.TypedForm.{is_form, is_read}
use Rattle.canon_script.proofs.typed_params.typed_form.Goals as goal

pub returns-clause-form : goal.returns-clause-form
returns-clause-form c signature xs v e = is_form signature xs v e

pub returns-clause-read : goal.returns-clause-read
returns-clause-read c v = is_read v
