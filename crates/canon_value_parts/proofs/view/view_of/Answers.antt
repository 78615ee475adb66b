use Rattle.canon_plan.proofs.ScalarTypes.{scalar_left}
use Rattle.canon_value_parts.proofs.view.view_of.Goals as goal

pub scalar_view-requires : goal.scalar_view-requires
scalar_view-requires c =
    let d = c.in_default in
    record {
      scalar = scalar_left c.args.ty.now (λ i e. d.not-Record i e) (λ i e. d.not-Tuple i e) (λ e. d.not-String e) (λ i e. d.not-List i e) (λ i e. d.not-FixedLengthList i e) (λ i e. d.not-Map i e)
          (λ i e. d.not-Variant i e) (λ i e. d.not-Enum i e) (λ i e. d.not-Option i e) (λ i e. d.not-Result i e) (λ i e. d.not-Flags i e) (λ i e. d.not-Own i e) (λ i e. d.not-Borrow i e);
    }
