-- Calls that are made again, one after another.
use Rattle.std.proofs.Common.{All, List, None, Option, Some, [], ap, arith, inl, inr, length, refl, subst, suc, sym, zero, ℕ, ◌+◌, ◌<◌, ◌^◌, ◌∙◌, ◌∷◌, ◌≡◌}
use Rattle.std.proofs.lemmas.List.Elements.{All-head, All-tail}
use Rattle.canon_memory.specs.declared.event.Event.{Event}
use Rattle.canon_memory.specs.Guest.{Recorded}
use Rattle.canon_replay_guest.specs.Replaying.{Replaying, call_events}
use Rattle.canon_context.specs.Core.{Parts}
use Rattle.canon_context.specs.declared.component.Component.{Component}
use Rattle.canon_replay.specs.Calls.{HasEvents, IsReady, MakesAgain, ReplaysFrom, all_made, made_again}
use Rattle.canon_replay.specs.Stores.{ReplayStore, guest_in_store}
use Rattle.canon_replay.specs.declared.again.Again.{Again}
use Rattle.canon_replay.specs.declared.outcome.Outcome.{Outcome}
use Rattle.canon_replay.specs.declared.outcome.Outcome.TheVariants as outcome

abbrev pub IsKnownAgain : Component → Again → Type 0
IsKnownAgain c a = a.export < length c.exports.items

events_at : (recorded : List (List Event)) (k : ℕ) → k < length recorded → All HasEvents recorded → HasEvents (call_events recorded k)
events_at [] k lt all = absurd (omega (arith, lt))
events_at (es ∷ rest) zero lt all = All-head HasEvents es rest all
events_at (es ∷ rest) (suc k) lt all = events_at rest k (omega (arith, lt)) (All-tail HasEvents es rest all)

module _ (first : ReplayStore) (calls : List Again) where
  abbrev pub recorded : List (List Event)
  recorded = (guest_in_store first).recorded

  -- The calls before call k were replayed, from the first store to this one, and these are left.
  pub record AreReplayed (k : ℕ) (store : ReplayStore) (left : List Again) : Type 0 where
    pub ready : IsReady k store
    pub component : store.core.component ≡ first.core.component
    pub same : (guest_in_store store).recorded ≡ recorded
    pub count : k + length left ≡ length recorded
    pub few : length recorded < 2 ^ 32
    pub known : All (IsKnownAgain first.core.component) left
    pub events : All HasEvents recorded
    pub rest : (o : Outcome) → ReplaysFrom k (all_made recorded k left) store o → ReplaysFrom 0 (all_made recorded 0 calls) first o

  pub loop_begins : IsReady 0 first → All (IsKnownAgain first.core.component) calls → length calls ≡ length recorded → length calls < 2 ^ 32 → All HasEvents recorded → AreReplayed 0 first calls
  loop_begins ready known count few events = record {
    ready = ready;
    component = refl;
    same = refl;
    count = omega (arith, count);
    few = omega (arith, count, few);
    known = known;
    events = events;
    rest = λ o h. h;
  }

  module _ (k : ℕ) (store : ReplayStore) (a : Again) (left : List Again) (are : AreReplayed k store (a ∷ left)) where
    pub in_store : a.export < length store.core.component.exports.items
    in_store = subst (λ (c : Component). a.export < length c.exports.items) (sym are.component) (All-head (IsKnownAgain first.core.component) a left are.known)

    below : k < length recorded
    below = omega (arith, are.count)

    pub below_in : k < length (guest_in_store store).recorded
    below_in = subst (λ (es : List (List Event)). k < length es) (sym are.same) below

    pub has_events : HasEvents (call_events (guest_in_store store).recorded k)
    has_events = subst (λ (es : List (List Event)). HasEvents (call_events es k)) (sym are.same) (events_at recorded k below are.events)

    pub next_fits : k + 1 < 2 ^ 32
    next_fits = omega (arith, below, are.few, are.count)

    here : (next : ReplayStore) (o : Option Outcome) → MakesAgain k (made_again (guest_in_store store).recorded k a) store next o → MakesAgain k (made_again recorded k a) store next o
    here next o h = subst (λ (es : List (List Event)). MakesAgain k (made_again es k a) store next o) are.same h

    pub loop_goes_on : (next : ReplayStore) → MakesAgain k (made_again (guest_in_store store).recorded k a) store next None → AreReplayed (k + 1) next left
    loop_goes_on next h =
        let (replayed, ready) = here next None h in
        record {
          ready = ready;
          component = ap (λ (parts : Parts (Unit {0}) (Recorded Replaying)). parts.component) replayed.kept.same_core ∙ are.component;
          same = replayed.kept.recorded ∙ are.same;
          count = omega (arith, are.count);
          few = are.few;
          known = All-tail (IsKnownAgain first.core.component) a left are.known;
          events = are.events;
          rest = λ o r. are.rest o (inl (next, replayed, r));
        }

    pub loop_departs : (next : ReplayStore) (o : Outcome) → MakesAgain k (made_again (guest_in_store store).recorded k a) store next (Some o) → ReplaysFrom 0 (all_made recorded 0 calls) first o
    loop_departs next o h = are.rest o (inr (here next (Some o) h))

  pub loop_ends : (k : ℕ) (store : ReplayStore) (left : List Again) → left ≡ [] → AreReplayed k store left → ReplaysFrom 0 (all_made recorded 0 calls) first outcome.Same
  loop_ends k store left e are = are.rest outcome.Same (subst (λ (others : List Again). ReplaysFrom k (all_made recorded k others) store outcome.Same) (sym e) refl)
