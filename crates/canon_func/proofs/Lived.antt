-- A guest that went from ask to ask, and then on.
use Rattle.std.proofs.Common.{Err, List, Ok, Result, [], ◌++◌, ◌∷◌}
use Rattle.canon_memory.specs.declared.event.Event.{Event}
use Rattle.canon_memory.specs.Guest.{GuestIn, Seen}
use Rattle.canon_func.specs.Call.{LivesUntil, OnAnswered}
use Rattle.canon_func.specs.Runs.{Leg, living}
use Rattle.canon_func.specs.declared.error.Error.{Error}
use Rattle.canon_func.proofs.Composed.{answered, answers, retyped}
use Rattle.canon_func.proofs.Legs.{legs_ask, legs_more, legs_so}

module _ {G : Type 0} (seen : G → Seen) (moves : GuestIn G → List Event → GuestIn G → Type 0) where
  -- whatever is answered then
  pub lives_answered : (U V : Type 0) (x : V) (result : Result U Error) (before after : GuestIn G) (legs : List Leg) (xs : List Event) → LivesUntil {U = V} seen moves before after (Ok x) legs xs
      → LivesUntil seen moves before after result legs xs
  lives_answered U V x result before after legs xs h = legs_so moves (λ g. living (seen g.guest)) (λ g rest. moves g rest after) (λ g rest. OnAnswered result (moves g rest after))
      (λ s es r. answers result (moves s es after) r) before legs xs h

  -- by an answer of another type
  pub lives_retyped : (U V : Type 0) (e : Error) (before after : GuestIn G) (legs : List Leg) (xs : List Event) → LivesUntil {U = U} seen moves before after (Err e) legs xs → LivesUntil {U = V} seen moves before after (Err e) legs xs
  lives_retyped U V e before after legs xs h =
      legs_so moves (λ g. living (seen g.guest)) (λ g rest. OnAnswered {T = U} (Err e) (moves g rest after)) (λ g rest. OnAnswered {T = V} (Err e) (moves g rest after)) (λ s es r. retyped U V e (moves s es after) r) before legs xs h

  module _ (U V : Type 0) (x : V) (result : Result U Error) (before now after : GuestIn G) where
    -- it went on by these events
    pub lives_then : ((a b c : GuestIn G) (xs ys : List Event) → moves a xs b → moves b ys c → moves a (xs ++ ys) c) → (legs : List Leg) (xs ys : List Event) → LivesUntil {U = V} seen moves before now (Ok x) legs xs
        → OnAnswered result (moves now ys after) → LivesUntil seen moves before after result legs (xs ++ ys)
    lives_then goes_on legs xs ys p q = legs_more moves (λ g. living (seen g.guest)) (λ g rest. moves g rest now) (λ g rest. OnAnswered result (moves g rest after)) ys
        (λ s es r. answered result (moves now ys after) (moves s (es ++ ys) after) (λ w. goes_on s now after es ys r w) q) before legs xs p

    -- it had asked, and went on by these events
    pub lives_ask : (legs : List Leg) (xs ys : List Event) → LivesUntil {U = V} seen moves before now (Ok x) legs xs → OnAnswered result (moves now ys after)
        → LivesUntil seen moves before after result (legs ++ record { events = xs; live = living (seen now.guest) } ∷ []) ys
    lives_ask legs xs ys p q = legs_ask moves (λ g. living (seen g.guest)) (λ g rest. moves g rest now) (λ g rest. OnAnswered result (moves g rest after)) now ys (λ s es r. r) q before legs xs p
