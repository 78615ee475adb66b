use Rattle.canon_same.proofs.Steps.{both, never, through, untrue}
use Rattle.canon_same.proofs.same.is_same_func.Goals as goal

pub returns-then-same_tuples : goal.returns-then-same_tuples
returns-then-same_tuples c = through
    (both _ _ c.same_tuples.ensures.members c.same_tuples-then-same_tuples.ensures.members c.if-same_tuples.true)
    (λ h. record { params = h.0; results = h.1 }, λ h. (h.params, h.results))

pub returns-else-same_tuples : goal.returns-else-same_tuples
returns-else-same_tuples c = never _ c.if-same_tuples.false (λ h. untrue _ c.if-same_tuples.false c.same_tuples.ensures.members h.params)
