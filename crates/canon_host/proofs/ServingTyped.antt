-- The steps of an ask that a function over Rust types serves.
use Rattle.std.proofs.Common.{Err, List, Ok, Result, inl, inr, length, refl, subst, sym, ℕ, ◌++◌, ◌≡◌, ◌≤◌}
use Rattle.canon_args.proofs.Tuples.{results_first}
use Rattle.canon_args.specs.Results.{TypedResults}
use Rattle.canon_context.specs.Core.{Parts, component_types}
use Rattle.canon_context.specs.declared.fault.Fault.{Fault}
use Rattle.canon_context.specs.declared.host.HostStop.{HostStop}
use Rattle.canon_context.specs.declared.host.HostView.{HostView}
use Rattle.canon_host.proofs.Serving.{entered_by, served_by}
use Rattle.canon_host.specs.Serves.{AnswersBy, ConcludesBy, EndsAsk, ServesEnteredBy, stopped}
use Rattle.canon_host.specs.ServesTyped.{FitRustTypes, CallsTyped, FitsFunc, LiftsTyped, LowersTyped, ServesTyped, Untold, typed_steps}
use Rattle.canon_context.specs.Host.{StaticClosure}
use Rattle.canon_host.specs.declared.asked.Asked.{Asked}
use Rattle.canon_host.specs.declared.error.HostError.{HostError}
use Rattle.canon_host.specs.declared.error.HostError.TheVariants as error
use Rattle.canon_resources.specs.Parts.{Part}
use Rattle.canon_ledger.specs.Ledger.{enter}
use Rattle.canon_reading.specs.Reading.{Reading}
use Rattle.canon_memory.specs.Guest.{GuestIn, Seen}
use Rattle.canon_memory.specs.declared.event.Event.{Event}
use Rattle.canon_model.specs.Flat.{max_results}
use Rattle.canon_model.specs.Layout.{members_flat}
use Rattle.canon_model.specs.Shape.{Shape, of_places, product}
use Rattle.canon_model.specs.Tree.{Tree}
use Rattle.canon_types.specs.Instance.{Instance}
use Rattle.canon_types.specs.Table.{result_members}
use Rattle.canon_types.specs.declared.types.InterfaceType.{InterfaceType}
use Rattle.canon_types.specs.declared.types.TypeFunc.{TypeFunc}
use Rattle.std.specs.Prelude.{IfSome, Some, slice_get}

-- the words stand first among others
module _ {T G R : Type 0} (seen : G → Seen) (moves : GuestIn G → List Event → GuestIn G → Type 0) (walks : R → Tree → Type 0) (gives : Instance → Shape → R → List (List Part)) (asked : Asked) where
  pub lowered_typed : (before mid after : Parts T G) (at : ℕ) (results : R) (ws rest : List ℕ) (r : Result (Unit {0}) Fault)
      → TypedResults seen moves asked.options before mid (result_members (component_types before) asked.func) at ws (walks results)
      (gives before.component.types (product of_places (result_members (component_types before) asked.func)) results) r
      → (members_flat (result_members (component_types before) asked.func) ≤ max_results → length ws ≡ members_flat (result_members (component_types before) asked.func)) → after ≡ mid
      → LowersTyped seen moves walks gives asked before at results r after (ws ++ rest)
  lowered_typed before mid after at results ws rest r h count is = subst (λ x. LowersTyped seen moves walks gives asked before at results r x (ws ++ rest)) (sym is)
      (results_first seen moves asked.options before mid (result_members (component_types before) asked.func) at (walks results) (gives before.component.types (product of_places (result_members (component_types before) asked.func)) results) ws rest r count h)

module _ {F T G P R : Type 0} (g : StaticClosure F (HostView T) P (Result R HostStop)) (f : F) (reading : Reading P) (walks : R → Tree → Type 0) (gives : Instance → Shape → R → List (List Part))
    (seen : G → Seen) (moves : GuestIn G → List Event → GuestIn G → Type 0) (asked : Asked) where
  -- the call, and what follows it
  module _ (before after : Parts T G) (params : P) (words words2 : List ℕ) where
    pub answered_ok : (called : Parts T G) (results : R) → CallsTyped g f before params (Ok results) called → ConcludesBy (EndsAsk seen moves asked) (LowersTyped seen moves walks gives asked) asked called results words (Ok tt) after words2
        → Untold (λ told. AnswersBy (typed_steps g f reading walks gives seen moves asked) asked before params words told after words2) (Ok tt)
    answered_ok called results calls ends = (record { params = params; results = results }, (called, refl, calls, ends))

    pub answered_err : (called : Parts T G) (results : R) (x : Fault) → CallsTyped g f before params (Ok results) called
        → ConcludesBy (EndsAsk seen moves asked) (LowersTyped seen moves walks gives asked) asked called results words (Err x) after words2
        → AnswersBy (typed_steps g f reading walks gives seen moves asked) asked before params words (Err (error.Fault x)) after words2
    answered_err called results x calls ends = inr (inr (results, called, x, refl, calls, ends))

    pub answered_stop : (why : HostStop) → CallsTyped g f before params (Err why) after → AnswersBy (typed_steps g f reading walks gives seen moves asked) asked before params words (Err (stopped why)) after words
    answered_stop why calls = inr (inl (tt, why, refl, calls, refl))

  pub entered_typed : (before lifted after : Parts T G) (words words2 : List ℕ) (params : P) (r : Result (Unit {0}) HostError) → LiftsTyped reading asked before words (Ok params) lifted
      → Untold (λ told. AnswersBy (typed_steps g f reading walks gives seen moves asked) asked lifted params words told after words2) r
      → Untold (λ told. ServesEnteredBy (typed_steps g f reading walks gives seen moves asked) asked before words told after words2) r
  entered_typed before lifted after words words2 params (Ok x) lifts h = (h.0, entered_by (typed_steps g f reading walks gives seen moves asked) asked before lifted after words words2 params (Ok h.0) lifts h.1)
  entered_typed before lifted after words words2 params (Err e) lifts h = entered_by (typed_steps g f reading walks gives seen moves asked) asked before lifted after words words2 params (Err e) lifts h

  pub served_typed : (before mid after : Parts T G) (words words2 : List ℕ) (r : Result (Unit {0}) HostError) → mid ≡ record before { ledger = enter before.ledger }
      → Untold (λ told. ServesEnteredBy (typed_steps g f reading walks gives seen moves asked) asked mid words told after words2) r → ServesTyped g f reading walks gives seen moves asked before words r after words2
  served_typed before mid after words words2 (Ok x) is h = (h.0, served_by (typed_steps g f reading walks gives seen moves asked) asked before mid after words words2 (Ok h.0) is h.1)
  served_typed before mid after words words2 (Err e) is h = served_by (typed_steps g f reading walks gives seen moves asked) asked before mid after words words2 (Err e) is h

-- of the type that was found
pub found_typed : (FitParams FitResults : Instance → InterfaceType → Type 0) (i : Instance) (ty : ℕ) (func : TypeFunc) → slice_get i.types.funcs ty ≡ Some func → FitsFunc FitParams FitResults i ty → FitRustTypes FitParams FitResults i func
found_typed FitParams FitResults i ty func found h = subst (λ o. IfSome o (λ t. FitRustTypes FitParams FitResults i t)) found h
