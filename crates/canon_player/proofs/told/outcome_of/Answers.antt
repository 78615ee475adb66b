use Rattle.std.proofs.Common.{Some, ℕ, ap, sym, ◌≡◌, ◌∙◌}
use Rattle.canon_literals.proofs.Views.{literal-Err, literal-Ok, literal-String}
use Rattle.canon_literals.specs.Literals.{Literal, error, literal_step, literal_view, ok, u32, with_payload}
use Rattle.canon_val.specs.declared.val.Val.{fold-roll-Val}
use Rattle.canon_val.specs.declared.val.Val.TheOpen.{Val-F}
use Rattle.canon_val.specs.declared.val.Val.TheVariants as val
use Rattle.canon_player.specs.Signatures.{outcome_literal}
use Rattle.canon_player.proofs.told.outcome_of.Goals as goal

literal-U32 : (n : ℕ) → literal_view (val.U32 n) ≡ u32 n
literal-U32 n = ap literal_view (sym (val.rolls-U32 n)) ∙ fold-roll-Val Literal literal_step (Val-F.U32 n)

pub returns-in_ok-n-in-Ok : goal.returns-in_ok-n-in-Ok
returns-in_ok-n-in-Ok c = literal-Ok (Some c.in_ok-n-in-Ok.n) ∙ (ap (λ v. ok (with_payload (literal_view v))) c.in_ok-n-in-Ok.ensures.ok ∙ (ap (λ x. ok (with_payload x)) (literal-U32 c.in-Ok.n) ∙ ap outcome_literal (sym c.in-Ok.is)))

pub returns-in_ok-text-in-Err : goal.returns-in_ok-text-in-Err
returns-in_ok-text-in-Err c =
    literal-Err (Some c.in_ok-text-in-Err.text) ∙ (ap (λ v. error (with_payload (literal_view v))) c.in_ok-text-in-Err.ensures.ok
    ∙ (ap (λ x. error (with_payload x)) (literal-String c.in-Err.text) ∙ ap outcome_literal (sym c.in-Err.is)))
