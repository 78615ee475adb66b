-- What an ask that a function over Rust types serves is answered with.
use Rattle.std.proofs.Common.{List, None, Ok, Option, Result, ap, arith, inl, inr, refl, subst, subst₂, sym, true, ⊎_elim, ℕ, IsTrue, ◌++◌, ◌<◌, ◌∙◌, ◌∷◌, ◌≡◌, ◌≤◌, ◌⊎◌, []}
use Rattle.std.specs.Prelude.{false, take}
use Rattle.std.proofs.lemmas.Bool.{cases_lt}
use Rattle.canon_args.specs.Params.{InParts}
use Rattle.canon_args.specs.Results.{StoresTuple}
use Rattle.canon_context.specs.Asks.{SameButHandles}
use Rattle.canon_context.specs.Core.{Parts, component_types, encoding_by, moment_of, stage_of}
use Rattle.canon_context.specs.Host.{StaticClosure}
use Rattle.canon_context.specs.declared.host.HostStop.{HostStop}
use Rattle.canon_context.specs.declared.host.HostView.{HostView}
use Rattle.canon_host.proofs.TypedSteps.{concluded_through, was_called}
use Rattle.canon_host.specs.Serves.{Ends, IsResultPlace, WasToldPlace, left_from}
use Rattle.canon_host.specs.ServesTyped.{CallsTyped, LiftsTyped, LowersTyped}
use Rattle.canon_host.specs.TypedAsks.{AnswersAreGiven, AskAnswered, AskThrough, ServedIsAnswered, WasCalled, given_parts, given_steps}
use Rattle.canon_host.specs.declared.asked.Asked.{Asked}
use Rattle.canon_resources.specs.Parts.{LeavesTake, Part}
use Rattle.canon_ledger.specs.Handles.{top_scope}
use Rattle.canon_ledger.specs.Ledger.{ExitScope, LedgerState, Through, do_step, enter, leave}
use Rattle.canon_reading.specs.Reading.{AreTaken, Reading}
use Rattle.canon_lower_parts.specs.Given.{AreGivenBy, IsGiven}
use Rattle.canon_lower_parts.specs.Lowers.{EndsBy}
use Rattle.canon_lowering.specs.Attempt.{AreHeld, LowersMembers, handle_numbers, value_place}
use Rattle.canon_lowering.specs.Lowering.{AllLawful, Ending, Requested, Trap, done, events_of, marks_of}
use Rattle.canon_lowering.specs.Storing.{narrow}
use Rattle.canon_memory.specs.Guest.{Goes, GuestIn, IsHeld, Mark, Moment, Seen, moment}
use Rattle.canon_memory.specs.declared.event.Event.{Event}
use Rattle.canon_model.proofs.Frames.{blocks_are_read}
use Rattle.canon_model.specs.Homes.{host_texts}
use Rattle.canon_model.specs.Flat.{RepFlatAt, max_results}
use Rattle.canon_model.specs.Layout.{members_flat}
use Rattle.canon_model.specs.Leaves.{leaves, members_leaves}
use Rattle.canon_model.specs.Memory.{Block}
use Rattle.canon_model.specs.Rep.{RepMem}
use Rattle.canon_model.specs.Requests.{host_asks, members_requests}
use Rattle.canon_model.specs.Shape.{Members, Shape, of_places, product}
use Rattle.canon_model.specs.Text.{Encoding}
use Rattle.canon_model.specs.Tree.{Tree, Trees, parts}
use Rattle.canon_types.specs.Instance.{Instance}
use Rattle.canon_types.specs.Table.{result_members, shape_of}
use Rattle.canon_types.specs.declared.types.InterfaceType.{InterfaceType}
use Rattle.canon_types.specs.declared.types.InterfaceType.TheVariants.{Tuple}
use Rattle.canon_lowering.specs.Stages.{GoesBy}

done_by : (gives : List (List Part)) (ending : Ending) → EndsBy {T = Unit {0}} gives (Ok tt) ending → ending ≡ done
done_by gives ending (inl is) = is
done_by gives ending (inr (is, some, refused)) = absurd (cc)

-- what was seen before a place was held stays, but for what lives
pub held_goes : (s t : Seen) (bytes : List ℕ) (after : Moment) (marks : List Mark) (events : List Event) {place : Block} → IsHeld s t place → Goes (moment t bytes) after marks events → Goes (moment s bytes) after marks events
held_goes s t bytes after marks events held goes =
    let from = subst (λ (x : Seen). Goes (moment x bytes) after marks events) held.same goes in
    record { no_shorter = from.no_shorter; traps_later = from.traps_later; shortages_later = from.shortages_later; marks = from.marks; events = from.events }

module _ {F T G P R : Type 0} (g : StaticClosure F (HostView T) P (Result R HostStop)) (f : F) (reading : Reading P) (walks : R → Tree → Type 0) (gives : Instance → Shape → R → List (List Part))
    (seen : G → Seen) (moves : GuestIn G → List Event → GuestIn G → Type 0) where
  module _ (asked : Asked) (before after : Parts T G) (words words2 : List ℕ) (params : P) (results : R) (lifted called : Parts T G) (was : WasCalled g f reading walks gives seen moves asked before words params (Ok results) lifted called)
      (last : Through called.ledger (given_steps (given_parts gives asked before results) called.ledger) after.ledger) (called_is : called ≡ record before { state = called.state; ledger = called.ledger })
      (at : ℕ) (place : IsResultPlace (component_types before) asked before.memory words at) (ended : LedgerState) (left : ended ≡ (do_step (ExitScope (top_scope called.ledger.handles)) called.ledger).after)
      (guest : G) (told : WasToldPlace seen moves asked (record before { state = called.state; ledger = leave ended }) at (record before { guest = guest; state = called.state; ledger = leave ended }))
      (h : LowersTyped seen moves walks gives asked (record before { guest = guest; state = called.state; ledger = leave ended }) at results (Ok tt) after words2) where
    abbrev through : AskThrough g f reading walks gives seen moves asked before after words
    through = record { params = params; results = results; lifted = lifted; called = called; was = was; last = last }

    same_but_handles : SameButHandles called after
    same_but_handles = h.same ∙ ap (λ (k : Parts T G). record k { guest = after.guest; memory = after.memory; ledger = after.ledger }) (sym called_is)

    -- the core as the results were lowered
    abbrev from : Parts T G
    from = record before { guest = guest }

    abbrev ms : Members
    ms = result_members (component_types before) asked.func

    abbrev s : Shape
    s = product of_places ms

    abbrev enc : Encoding
    enc = encoding_by before asked.options

    is_done : h.ending ≡ done
    is_done = done_by (given_parts gives asked before results) h.ending h.ends

    -- the handles of what was lowered are those that the ledger gave
    given_so : (hs : List ℕ) → hs ≡ h.handles → LeavesTake (leave (do_step (ExitScope (top_scope called.ledger.handles)) called.ledger).after) (given_parts gives asked before results) hs after.ledger
    given_so hs is = subst (λ (ks : List ℕ). LeavesTake (leave (do_step (ExitScope (top_scope called.ledger.handles)) called.ledger).after) (given_parts gives asked before results) ks after.ledger) (sym is)
        (subst (λ (l : LedgerState). LeavesTake (leave l) (given_parts gives asked before results) h.handles after.ledger) left h.passed)

    -- ---- in a row

    in_row : members_flat ms ≤ max_results → LowersMembers false (stage_of seen moves before) (stage_of seen moves after) (host_texts enc) ms (take (members_flat ms) words2) 0 (InParts (walks results)) h.handles done
    in_row few = subst (λ e. LowersMembers false (stage_of seen moves before) (stage_of seen moves after) (host_texts enc) ms (take (members_flat ms) words2) 0 (InParts (walks results)) h.handles e) is_done
        (subst (λ (u : G). LowersMembers false (stage_of seen moves (record before { guest = u })) (stage_of seen moves after) (host_texts enc) ms (take (members_flat ms) words2) 0 (InParts (walks results)) h.handles h.ending) (told.near few) (h.lowered.near few))

    row_shown : (few : members_flat ms ≤ max_results) → AllLawful (in_row few).answers → RepFlatAt true enc (narrow after.memory) (take (members_flat ms) words2) 0 s (parts (in_row few).shown.it)
    row_shown few lawful = blocks_are_read.flat (in_row few).fresh true enc (narrow after.memory) (take (members_flat ms) words2) 0 s (parts (in_row few).shown.it)
        ((in_row few).shown.it, refl, (in_row few).shown.rep lawful (inl (λ i none. absurd none)))

    row_answered : members_flat ms ≤ max_results → AskAnswered g f reading walks gives seen moves asked before after words words2
    row_answered few = record {
      through = through;
      same = same_but_handles;
      at = at;
      place = place;
      trees = (in_row few).shown.it;
      walked = (in_row few).shown.is;
      answers = (in_row few).answers;
      goes = subst (λ (t : Option Trap). Goes (moment_of seen before) (moment_of seen after) (marks_of (in_row few).answers) (events_of (in_row few).answers t)) (in_row few).lowering.cause (in_row few).lowering.goes;
      went = subst (λ (t : Option Trap). GoesBy (stage_of seen moves before) (stage_of seen moves after) (events_of (in_row few).answers t)) (in_row few).lowering.cause (in_row few).lowering.moves;
      requested = subst (λ (t : Option Trap). Requested (members_requests false (host_asks enc) ms (in_row few).shown.it) done (in_row few).answers t) (in_row few).lowering.cause
          ((in_row few).requested (in_row few).shown.it (in_row few).shown.is);
      given = given_so (handle_numbers (members_leaves ms (in_row few).shown.it)) (in_row few).shown.handles;
      near = λ n. row_shown few;
      far = λ many. absurd (omega (arith, few, many));
    }

    -- ---- by a pointer

    in_area : max_results < members_flat ms → StoresTuple (stage_of seen moves from) (stage_of seen moves after) enc ms at (InParts (walks results)) h.handles done
    in_area many = subst (λ e. StoresTuple (stage_of seen moves from) (stage_of seen moves after) enc ms at (InParts (walks results)) h.handles e) is_done (h.lowered.far many)

    -- the place lives, or no answer came near it
    area_held : (many : max_results < members_flat ms) → IsTrue (seen before.guest).holds ⊎ AreHeld (stage_of seen moves before) (in_area many).answers (value_place false s at ∷ [])
        → AreHeld (stage_of seen moves from) (in_area many).answers (value_place false s at ∷ [])
    area_held many (inl holds) = inl ((told.far many).lives holds)
    area_held many (inr (inl lives)) = inl (λ i p. (told.far many).grows i (lives i p))
    area_held many (inr (inr tidy)) = inr tidy

    area_shown : (many : max_results < members_flat ms) → AllLawful (in_area many).answers → AreHeld (stage_of seen moves from) (in_area many).answers (value_place false s at ∷ [])
        → RepMem true enc (narrow after.memory) at s (parts (in_area many).shown.it)
    area_shown many lawful held = blocks_are_read.memory (value_place false s at ∷ (in_area many).fresh) true enc (narrow after.memory) at s (parts (in_area many).shown.it)
        ((omega (arith, (place many).2, (in_area many).lowering.goes.no_shorter), λ i l u. inl (l, u)), ((in_area many).shown.it, refl, (in_area many).shown.rep lawful held))

    area_goes : (many : max_results < members_flat ms) (t : Option Trap) → Goes (moment_of seen from) (moment_of seen after) (marks_of (in_area many).answers) (events_of (in_area many).answers t)
        → Goes (moment_of seen before) (moment_of seen after) (marks_of (in_area many).answers) (events_of (in_area many).answers t)
    area_goes many t goes = held_goes (seen before.guest) (seen guest) before.memory (moment_of seen after) (marks_of (in_area many).answers) (events_of (in_area many).answers t) (told.far many) goes

    area_answered : max_results < members_flat ms → AskAnswered g f reading walks gives seen moves asked before after words words2
    area_answered many = record {
      through = through;
      same = same_but_handles;
      at = at;
      place = place;
      trees = (in_area many).shown.it;
      walked = (in_area many).shown.is;
      answers = (in_area many).answers;
      goes = area_goes many None (subst (λ (t : Option Trap). Goes (moment_of seen from) (moment_of seen after) (marks_of (in_area many).answers) (events_of (in_area many).answers t)) (in_area many).lowering.cause (in_area many).lowering.goes);
      went = λ more k on. told.went (events_of (in_area many).answers None ++ more) k
          (subst (λ (t : Option Trap). GoesBy (stage_of seen moves from) (stage_of seen moves after) (events_of (in_area many).answers t)) (in_area many).lowering.cause (in_area many).lowering.moves more k on);
      requested = subst (λ (t : Option Trap). Requested (members_requests false (host_asks enc) ms (in_area many).shown.it) done (in_area many).answers t) (in_area many).lowering.cause
          ((in_area many).requested (in_area many).shown.it (in_area many).shown.is);
      given = given_so (handle_numbers (members_leaves ms (in_area many).shown.it)) (in_area many).shown.handles;
      near = λ few. absurd (omega (arith, few, many));
      far = λ n lawful held. area_shown many lawful (area_held many held);
    }

    pub lowered_answered : AskAnswered g f reading walks gives seen moves asked before after words words2
    lowered_answered = ⊎_elim area_answered row_answered (cases_lt max_results (members_flat ms))

  -- the core once the scope ended
  ended_core : (asked : Asked) (before lifted called ended : Parts T G) (words : List ℕ) (params : P) (results : R) → LiftsTyped reading asked (record before { ledger = enter before.ledger }) words (Ok params) lifted
      → CallsTyped g f lifted params (Ok results) called → Ends called (Ok tt) ended → ended ≡ record before { state = called.state; ledger = ended.ledger }
  ended_core asked before lifted called ended words params results lifts calls e =
      e.1 ∙ (ap (λ (x : Parts T G). record x { ledger = ended.ledger }) calls.same ∙ ap (λ (x : Parts T G). record x { state = called.state; ledger = ended.ledger }) lifts.1)

  called_core : (asked : Asked) (before lifted called : Parts T G) (words : List ℕ) (params : P) (results : R) → LiftsTyped reading asked (record before { ledger = enter before.ledger }) words (Ok params) lifted
      → CallsTyped g f lifted params (Ok results) called → called ≡ record before { state = called.state; ledger = called.ledger }
  called_core asked before lifted called words params results lifts calls = calls.same ∙ ap (λ (x : Parts T G). record x { state = called.state; ledger = called.ledger }) lifts.1

  pub served_answered : AreTaken reading → ServedIsAnswered g f reading walks gives seen moves
  served_answered law asked before after words words2 (told, (params, lifted, lifts, (called, same, calls, ends))) =
      let (place, (ended, e, is_told)) = ends.ends in
      let at = ends.at in
      let guest = ends.left.guest in
      let core : ended ≡ record before { state = called.state; ledger = ended.ledger } = ended_core asked before lifted called ended words params told.results lifts calls e in
      let left_is : ends.left ≡ record before { guest = guest; state = called.state; ledger = leave ended.ledger } = is_told.same ∙ ap (λ (x : Parts T G). record x { guest = guest; ledger = leave ended.ledger }) core in
      lowered_answered asked before after words words2 params told.results lifted called
      (was_called g f reading walks gives seen moves law asked before after words words2 params (Ok told.results) lifted called lifts calls)
      (concluded_through g f reading walks gives seen moves law asked before after words words2 params told.results lifted called lifts calls ends) (called_core asked before lifted called words params told.results lifts calls) at
      (subst (λ (x : Parts T G). IsResultPlace (component_types x) asked x.memory words at) (called_core asked before lifted called words params told.results lifts calls) place) ended.ledger e.0.1 guest
      (subst₂ (λ (x y : Parts T G). WasToldPlace seen moves asked x at y) (ap (λ (x : Parts T G). left_from x) core) left_is is_told)
      (subst (λ (x : Parts T G). LowersTyped seen moves walks gives asked x at told.results (Ok tt) after words2) left_is ends.lowers)

-- ---- the ways of their handles

-- of a tuple, over its members
pub members_given : {R : Type 0} (i : Instance) (s : Shape) (row : Members) (gives : Instance → Shape → R → List (List Part)) (results : R) (trees : Trees) → s ≡ product of_places row
    → AreGivenBy i (leaves s (parts trees)) (gives i s results)
    → AreGivenBy i (members_leaves row trees) (gives i (product of_places row) results)
unfolding leaves
members_given i s row gives results trees is h = subst (λ (u : Shape). AreGivenBy i (leaves u (parts trees)) (gives i u results)) is h

pub answers_given : (T G : Type 0) {R : Type 0} (Fit : Instance → InterfaceType → Type 0) (walks : R → Tree → Type 0) (gives : Instance → Shape → R → List (List Part)) → IsGiven Fit walks gives → AnswersAreGiven T G Fit walks gives
answers_given T G Fit walks gives law asked before results trees fits is walked =
    let i : Instance = before.component.types in
    members_given i (shape_of i.types (Tuple asked.func.results)) (result_members (component_types before) asked.func) gives results trees is (law results i (Tuple asked.func.results) (parts trees) fits walked)
