use Rattle.std.proofs.Common.{◌≡◌, ◌∙◌, ◌==◌, ℕ, Bool, Box, Global, Some, ap, if◌then◌else◌, sym}
use Rattle.std.proofs.lemmas.Bool.{ne_eqb}
use Rattle.canon_val.specs.declared.val.Val.{Val, fold-roll-Val}
use Rattle.canon_val.specs.declared.val.Val.TheOpen.{Val-F}
use Rattle.canon_val.specs.declared.val.Val.TheVariants as val
use Rattle.canon_literals.proofs.Views.{literal-Option}
use Rattle.canon_literals.specs.Literals.{Literal, bool, literal_step, literal_view, no_payload, option, with_payload}
use Rattle.canon_gen.specs.Records.{switch}
use Rattle.canon_gen.proofs.records.switch.Goals as goal

literal-Bool : (b : Bool) → literal_view (val.Bool b) ≡ bool b
literal-Bool b = ap literal_view (sym (val.rolls-Bool b)) ∙ fold-roll-Val Literal literal_step (Val-F.Bool b)

switched : (on : ℕ) (payload : Box Val Global) → ¬ (on ≡ 0) → payload.value ≡ val.Bool (on == 2) → literal_view (val.Option (Some payload)) ≡ switch on
switched on payload some is =
    let seen : literal_view payload.value ≡ bool (on == 2) = ap literal_view is ∙ literal-Bool (on == 2) in
    literal-Option (Some payload) ∙ (ap (λ v. option (with_payload v)) seen ∙ ap (λ t. if t then option no_payload else option (with_payload (bool (on == 2)))) (sym (ne_eqb on 0 some)))

pub returns : goal.returns
returns c = switched c.args.on c.in_ok-payload.payload c.if-on-eq0.false c.in_ok-payload.ensures.ok
