-- How a call ended that answered Ok.
use Rattle.std.proofs.Common.{List, None, Ok, Some, ap, false, inl, inr, subst, true, ℕ, ◌∙◌, ◌≡◌}
use Rattle.canon_context.specs.Core.{component_types}
use Rattle.canon_val.specs.declared.val.Val.{Val}
use Rattle.canon_func.specs.Stores.{Named, type_of}
use Rattle.canon_replay.specs.Calls.{ComparesImages, EndsOk, HaveOneImage, HaveOtherImages, IsResultTuple, results_shape_in}
use Rattle.canon_replay.specs.Outcomes.{has_passed, outcome_at}
use Rattle.canon_replay.specs.Stores.{ReplayStore, guest_in_store}
use Rattle.canon_replay.specs.declared.outcome.Outcome.{Outcome}

-- the store was read alone
module _ (k : ℕ) (f : Named) (store : ReplayStore) (results recorded : List Val) (mid : ReplayStore) (same : mid ≡ store) where
  outcome_there : (o : Outcome) → o ≡ outcome_at k (guest_in_store mid) → o ≡ outcome_at k (guest_in_store store)
  outcome_there o is = is ∙ ap (λ (s : ReplayStore). outcome_at k (guest_in_store s)) same

  pub ended_early : (o : Outcome) → has_passed k (guest_in_store store) ≡ false → o ≡ outcome_at k (guest_in_store mid) → EndsOk k f store results recorded (Some o)
  ended_early o lacks is = (outcome_there o is, inl lacks)

  pub ended_same : has_passed k (guest_in_store store) ≡ true → ComparesImages (results_shape_in (component_types mid.core) (type_of mid f)) results recorded (Ok true) → EndsOk k f store results recorded None
  ended_same passed one = (passed, subst (λ (s : ReplayStore). HaveOneImage (results_shape_in (component_types s.core) (type_of s f)) results recorded) same one)

  pub ended_otherwise : (o : Outcome) → ComparesImages (results_shape_in (component_types mid.core) (type_of mid f)) results recorded (Ok false) → IsResultTuple mid.core.component f.export → o ≡ outcome_at k (guest_in_store mid)
      → EndsOk k f store results recorded (Some o)
  ended_otherwise o others tuple is = (
    outcome_there o is,
    inr (
      subst (λ (s : ReplayStore). HaveOtherImages (results_shape_in (component_types s.core) (type_of s f)) results recorded) same others,
      subst (λ (s : ReplayStore). IsResultTuple s.core.component f.export) same tuple,
    ),
  )
