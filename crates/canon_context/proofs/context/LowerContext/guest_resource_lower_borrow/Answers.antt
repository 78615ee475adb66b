use Rattle.std.proofs.Common.{Bool, Ok, ap, refl, subst, sym, true, ◌∙◌, ◌≡◌}
use Rattle.canon_ledger.specs.Ledger.{Did}
use Rattle.canon_resources.specs.Parts.{do_part, is_defined_here}
use Rattle.canon_context.specs.Faults.{part_for}
use Rattle.canon_context.specs.declared.component.Component.{Component}
use Rattle.canon_context.proofs.context.LowerContext.guest_resource_lower_borrow.Goals as goal

pub returns-then-is_defined_here-clause-step : goal.returns-then-is_defined_here-clause-step
returns-then-is_defined_here-clause-step g c =
    let a = c.args in
    let i = a.self.now.core.now.component.types in
    let l = a.self.now.core.now.ledger in
    let e : is_defined_here i a.t ≡ true = ap (λ (k : Component). is_defined_here k.types a.t) (sym c.component.ensures.component)
    ∙ sym c.is_defined_here.ensures ∙ c.if-is_defined_here.true in
    record {
      told = Ok a.rep;
      result_is = refl;
      did = subst (λ (b : Bool). Did (do_part a.rep (part_for b i a.t a.rep) l) (Ok a.rep) l l) (sym e) (refl, refl);
    }
