-- What lawful marks tell of a call's start.
use Rattle.std.proofs.Common.{List, None, Option, Result, Some, ap, drop, length, subst, sym, ◌++◌, ◌∙◌, ◌∷◌, ◌≡◌, [], ℕ}
use Rattle.std.specs.List.{All}
use Rattle.std.proofs.Math.Seq.{drop-append_seam}
use Rattle.canon_model.specs.Flat.{RepArgs}
use Rattle.canon_model.specs.Tree.{Trees}
use Rattle.canon_memory.specs.Guest.{Moment}
use Rattle.canon_memory.specs.Journal.{AddsEvents}
use Rattle.canon_memory.specs.declared.event.Event.{Event}
use Rattle.canon_memory.specs.declared.event.Event.TheVariants as event
use Rattle.canon_lowering.proofs.Lowerings.{lawful_first}
use Rattle.canon_lowering.proofs.Marks.{lawful_by_marks}
use Rattle.canon_lowering.specs.Lowering.{AllLawful, Answer, SaysLawful}
use Rattle.canon_lowering.specs.Storing.{narrow}
use Rattle.canon_val.specs.declared.val.Val.{Val}
use Rattle.canon_host.specs.HostSide.{Giving, HostSide}
use Rattle.canon_func.specs.Asks.{Limits}
use Rattle.canon_func.specs.Call.{IsCallOf, IsStart, dynamic}
use Rattle.canon_func.specs.Passing.{ReturnedValues}
use Rattle.canon_func.specs.Runs.{Each, Leg, OnStart, answers_in}
use Rattle.canon_func.specs.Stores.{Callee}
use Rattle.canon_func.specs.declared.error.Error.{Error}
use Rattle.canon_example.specs.Watched.{StartsRight, added_events, added_marks}

module _ (callee : Callee) (params : List Val) (entry : Moment) (answers : List Answer) (given : List ℕ) (lawful : AllLawful answers) where
  starts : (events : List Event) → Each (OnStart (IsStart (dynamic callee params) callee entry answers given)) events → StartsRight callee params events
  starts [] h = tt
  starts (event.Start func words memory ∷ es) h = ((h.0.trees, h.0.have, h.0.represented lawful), starts es h.1)
  starts (event.Ask index words memory ∷ es) h = (tt, starts es h.1)
  starts (event.Resume words memory ∷ es) h = (tt, starts es h.1)
  starts (event.Return words memory ∷ es) h = (tt, starts es h.1)
  starts (event.Realloc old old_size align new_size answer ∷ es) h = (tt, starts es h.1)
  starts (event.Post func words ∷ es) h = (tt, starts es h.1)
  starts (event.Dtor func rep ∷ es) h = (tt, starts es h.1)
  starts (event.Trap asked len ∷ es) h = (tt, starts es h.1)

-- the events that a journal got are those that the call added
pub added_are : (old new events : List Event) → AddsEvents (Some old) (Some new) events → added_events old new ≡ events
added_are old new events added = ap (drop (length old)) (same new (old ++ events) added) ∙ drop-append_seam old events
  where
    same : (xs ys : List Event) → Some xs ≡ Some ys → xs ≡ ys
    same xs ys e = cc

pub starts_right : {T R : Type 0} (its : ReturnedValues R) (Lives : List Leg → List Event → Type 0) (Leaves : List ℕ → List ℕ → Type 0) (gives : Giving T) (callee : Callee) (limits : Limits) (params : List Val)
    (before after : Moment) (host left : HostSide T) (answer : Result R Error) (old new events : List Event) → AddsEvents (Some old) (Some new) events
    → IsCallOf (dynamic callee params) its Lives Leaves gives callee limits before after host left answer events → All SaysLawful (added_marks before.guest.marks after.guest.marks) → StartsRight callee params (added_events old new)
starts_right its Lives Leaves gives callee limits params before after host left answer old new events added h marks =
    let lawful : AllLawful h.answers = lawful_first h.answers (answers_in h.turns ++ h.late) (lawful_by_marks before.guest.marks after.guest.marks (h.answers ++ (answers_in h.turns ++ h.late)) h.marks marks) in
    subst (λ (es : List Event). StartsRight callee params es) (sym (added_are old new events added)) (starts callee params before h.answers h.given lawful events h.start)
