use Rattle.std.proofs.Common.{refl, subst, sym}
use Rattle.canon_model.specs.Text.{in_utf8}
use Rattle.canon_text.specs.Faults.{IllFormedAt}
use Rattle.canon_text.proofs.Validated.{valid_up_to-fault}
use Rattle.canon_text.proofs.utf8.text_of.Goals as goal

pub returns-in-Err : goal.returns-in-Err
returns-in-Err c = record {
  form_is = refl;
  at = subst (λ n. IllFormedAt in_utf8 c.args.src.now n) (sym c.valid_up_to.ensures) (valid_up_to-fault c.args.src.now _ c.in-Err.ensures.cases.1);
}
