-- The steps that the ledger goes through in an ask that a function over Rust types serves.
use Rattle.std.proofs.Common.{Err, List, Ok, Option, Result, ap, inl, inr, nat_le, refl, subst, sym, ℕ, ◌∙◌, ◌∷◌, ◌≡◌, []}
use Rattle.canon_args.specs.Areas.{passed_taken}
use Rattle.canon_context.specs.Core.{Parts, component_types}
use Rattle.canon_context.specs.Host.{StaticClosure}
use Rattle.canon_context.specs.declared.component.Component.{Component}
use Rattle.canon_context.specs.declared.fault.Fault.{Fault}
use Rattle.canon_context.specs.declared.host.HostStop.{HostStop}
use Rattle.canon_context.specs.declared.host.HostView.{HostView}
use Rattle.canon_ledger.proofs.LeavingLemmas.{ended_leaves}
use Rattle.canon_host.specs.Serves.{ConcludesBy, Ends, EndsAsk}
use Rattle.canon_host.specs.ServesTyped.{CallsTyped, LiftsTyped, LowersTyped}
use Rattle.canon_host.specs.TypedAsks.{RefusedIsPartway, ServedIsThrough, WasCalled, asked_parts, asked_steps, given_parts, given_steps, param_words}
use Rattle.canon_host.specs.declared.asked.Asked.{Asked}
use Rattle.canon_resources.proofs.Through.{leaves_partway, leaves_through}
use Rattle.canon_resources.specs.Parts.{LeavesStop, LeavesTake, Part}
use Rattle.canon_resources.specs.Steps.{leaves_steps}
use Rattle.canon_ledger.proofs.LedgerLemmas.{compose, compose_parts}
use Rattle.canon_ledger.specs.Books.{DidSurely}
use Rattle.canon_ledger.specs.Handles.{top_scope}
use Rattle.canon_ledger.specs.Ledger.{Done, ExitScope, Leave, LedgerState, LedgerStep, Partway, Through, do_step, enter, leave, leaving, numbered, validate_scope_exit}
use Rattle.canon_ledger.specs.declared.fault.ResourceFault.{ResourceFault}
use Rattle.canon_reading.specs.Reading.{AreTaken, Reading, setting_in}
use Rattle.canon_reading.specs.Spots.{flat_in}
use Rattle.canon_memory.specs.Guest.{GuestIn, Seen}
use Rattle.canon_memory.specs.declared.event.Event.{Event}
use Rattle.canon_model.specs.Flat.{max_params}
use Rattle.canon_model.specs.Layout.{flat}
use Rattle.canon_model.specs.Shape.{Shape, of_places, product}
use Rattle.canon_model.specs.Tree.{Tree}
use Rattle.canon_types.specs.Instance.{Instance}
use Rattle.canon_types.specs.Table.{param_members, result_members}
use Rattle.canon_context.specs.Faults.{stop_of}

-- up to the first of some steps
pub partway_none : (l n : LedgerState) (steps : List LedgerStep) → n ≡ l → Partway l steps n
partway_none l n [] is = is
partway_none l n (s ∷ steps) is = inl is

-- ---- the end of the scope

module _ (l ended : LedgerState) (did : DidSurely (validate_scope_exit (top_scope l.handles) l) (Ok tt) ended) where
  ends : validate_scope_exit (top_scope l.handles) l ≡ record { answer = Ok tt; after = ended }
  ends = λ i. record { answer = sym did.0 i; after = sym did.1 i }

  ended_is : ended ≡ (do_step (ExitScope (top_scope l.handles)) l).after
  ended_is = sym (ap (λ (d : Done (Unit {0})). d.after) ends)

  accepted : (do_step (ExitScope (top_scope l.handles)) l).answer ≡ Ok 0
  accepted = ap (λ (d : Done (Unit {0})). (numbered (λ _. 0) d).answer) ends

  -- it is left
  left : Through ended (Leave ∷ []) (leave ended)
  left = subst (λ b. (a : ℕ) × ((leaving b ended).answer ≡ Ok a) × (leave ended ≡ (leaving b ended).after)) (sym (ended_leaves l ended did)) (0, refl, refl)

  -- and the handles of the results are lowered, or some of them
  pub given_through : (n : LedgerState) (handles : List (List Part)) (hs : List ℕ) → LeavesTake (leave ended) handles hs n → Through l (given_steps handles l) n
  given_through n handles hs took =
      (0, accepted, subst (λ k. Through k (Leave ∷ leaves_steps (leave k) handles) n) ended_is (compose ended (leave ended) n (Leave ∷ []) (leaves_steps (leave ended) handles) left (leaves_through (leave ended) n handles hs took)))

  pub given_partway : (n : LedgerState) (handles : List (List Part)) (why : Option ResourceFault) → LeavesStop why (leave ended) handles n → Partway l (given_steps handles l) n
  given_partway n handles why stops = inr (inr (
    0,
    accepted,
    subst (λ k. Partway k (Leave ∷ leaves_steps (leave k) handles) n) ended_is (compose_parts ended (leave ended) n (Leave ∷ []) (leaves_steps (leave ended) handles) left (leaves_partway why (leave ended) n handles stops)),
  ))

  -- none of them is
  pub untold_partway : (n : LedgerState) (handles : List (List Part)) → n ≡ leave ended → Partway l (given_steps handles l) n
  untold_partway n handles is = inr (inr (
    0,
    accepted,
    subst (λ k. Partway k (Leave ∷ leaves_steps (leave k) handles) n) ended_is
        (compose_parts ended (leave ended) n (Leave ∷ []) (leaves_steps (leave ended) handles) left (partway_none (leave ended) n (leaves_steps (leave ended) handles) is)),
  ))

-- it is refused
unended : (l n : LedgerState) (x : ResourceFault) (handles : List (List Part)) → DidSurely (validate_scope_exit (top_scope l.handles) l) (Err x) n → Partway l (given_steps handles l) n
unended l n x handles did =
    let is : validate_scope_exit (top_scope l.handles) l ≡ record { answer = Err x; after = n } = λ i. record { answer = sym did.0 i; after = sym did.1 i } in
    inr (inl (x, ap (λ (d : Done (Unit {0})). (numbered (λ _. 0) d).answer) is, sym (ap (λ (d : Done (Unit {0})). d.after) is)))

module _ {F T G P R : Type 0} (g : StaticClosure F (HostView T) P (Result R HostStop)) (f : F) (reading : Reading P) (walks : R → Tree → Type 0) (gives : Instance → Shape → R → List (List Part))
    (seen : G → Seen) (moves : GuestIn G → List Event → GuestIn G → Type 0) (law : AreTaken reading) where
  module _ (asked : Asked) (before after : Parts T G) (words words2 : List ℕ) where
    abbrev ask_entered : Parts T G
    ask_entered = record before { ledger = enter before.ledger }

    abbrev s : Shape
    s = product of_places (param_members (component_types before) asked.func)

    -- ---- up to the call

    lifted_through : (params : P) (lifted : Parts T G) → LiftsTyped reading asked ask_entered words (Ok params) lifted → Through before.ledger (asked_steps reading asked before words) lifted.ledger
    lifted_through params lifted ((remains, (read, spent)), same) =
        let (hs, took) = passed_taken reading law (nat_le (flat s) max_params) (setting_in before asked.options) (flat_in (param_words asked before words) 0) s (enter before.ledger) lifted.ledger params read in
        (0, refl, leaves_through (enter before.ledger) lifted.ledger (asked_parts reading asked before words) hs took)

    pub was_called : (params : P) (result : Result R HostStop) (lifted called : Parts T G) → LiftsTyped reading asked ask_entered words (Ok params) lifted → CallsTyped g f lifted params result called
        → WasCalled g f reading walks gives seen moves asked before words params result lifted called
    was_called params result lifted called lifts calls = record { lifts = lifts; calls = calls; first = lifted_through params lifted lifts; steps = calls.steps }

    unlifted : (x : Fault) → LiftsTyped reading asked ask_entered words (Err x) after → Partway before.ledger (asked_steps reading asked before words) after.ledger
    unlifted x ((remains, refused), same) = inr (inr (0, refl, leaves_partway (stop_of x) (enter before.ledger) after.ledger (asked_parts reading asked before words) refused.stops))

    -- ---- from the call on

    module _ (params : P) (results : R) (lifted called : Parts T G) (lifts : LiftsTyped reading asked ask_entered words (Ok params) lifted) (calls : CallsTyped g f lifted params (Ok results) called) where
      same_component : (ended : Parts T G) → Ends called (Ok tt) ended → ended.component ≡ before.component
      same_component ended e = ap (λ (x : Parts T G). x.component) e.1 ∙ (ap (λ (x : Parts T G). x.component) calls.same ∙ ap (λ (x : Parts T G). x.component) lifts.1)

      abbrev Handles : Component → List (List Part)
      Handles c = gives c.types (product of_places (result_members c.types.types asked.func)) results

      pub concluded_through : ConcludesBy (EndsAsk seen moves asked) (LowersTyped seen moves walks gives asked) asked called results words (Ok tt) after words2
          → Through called.ledger (given_steps (given_parts gives asked before results) called.ledger) after.ledger
      concluded_through h =
          let (place, (ended, e, told)) = h.ends in
          let passed = subst (λ (k : Parts T G). LeavesTake k.ledger (Handles k.component) h.lowers.handles after.ledger) told.same h.lowers.passed in
          given_through called.ledger ended.ledger e.0 after.ledger (given_parts gives asked before results) h.lowers.handles
          (subst (λ c. LeavesTake (leave ended.ledger) (Handles c) h.lowers.handles after.ledger) (same_component ended e) passed)

      concluded_partway : (x : Fault) → ConcludesBy (EndsAsk seen moves asked) (LowersTyped seen moves walks gives asked) asked called results words (Err x) after words2
          → Partway called.ledger (given_steps (given_parts gives asked before results) called.ledger) after.ledger
      concluded_partway x (inl (inl (none, same), words_same)) = inl (ap (λ (y : Parts T G). y.ledger) same)
      concluded_partway x (inl (inr (at, place, inl (why, is, e)), words_same)) = unended called.ledger after.ledger why (given_parts gives asked before results) e.0
      concluded_partway x (inl (inr (at, place, inr (ended, e, is, far, untold)), words_same)) =
          untold_partway called.ledger ended.ledger e.0 after.ledger (given_parts gives asked before results) (ap (λ (y : Parts T G). y.ledger) untold.same)
      concluded_partway x (inr h) =
          let (place, (ended, e, told)) = h.ends in
          let passed = subst (λ (k : Parts T G). LeavesStop (stop_of x) k.ledger (Handles k.component) after.ledger) told.same h.lowers.passed.0 in
          given_partway called.ledger ended.ledger e.0 after.ledger (given_parts gives asked before results) (stop_of x)
          (subst (λ c. LeavesStop (stop_of x) (leave ended.ledger) (Handles c) after.ledger) (same_component ended e) passed)

  pub served_through : ServedIsThrough g f reading walks gives seen moves
  served_through asked before after words words2 (told, (params, lifted, lifts, (called, same, calls, ends))) = record {
    params = params;
    results = told.results;
    lifted = lifted;
    called = called;
    was = was_called asked before after words words2 params (Ok told.results) lifted called lifts calls;
    last = concluded_through asked before after words words2 params told.results lifted called lifts calls ends;
  }

  pub refused_partway : RefusedIsPartway g f reading walks gives seen moves
  refused_partway asked before after words words2 e (inl (is, same, words_same)) = inl (inl (ap (λ (x : Parts T G). x.ledger) same))
  refused_partway asked before after words words2 e (inr (inl (x, is, lifts, words_same))) = inl (unlifted asked before after words words2 x lifts)
  refused_partway asked before after words words2 e (inr (inr (params, lifted, lifts, inl (none, words_same)))) = absurd none
  refused_partway asked before after words words2 e (inr (inr (params, lifted, lifts, inr (inl (u, why, is, calls, words_same))))) =
      inr (inl (params, why, lifted, is, was_called asked before after words words2 params (Err why) lifted after lifts calls))
  refused_partway asked before after words words2 e (inr (inr (params, lifted, lifts, inr (inr (results, called, x, is, calls, ends))))) = inr (inr (
    params,
    results,
    lifted,
    called,
    was_called asked before after words words2 params (Ok results) lifted called lifts calls,
    concluded_partway asked before after words words2 params results lifted called lifts calls x ends,
  ))
