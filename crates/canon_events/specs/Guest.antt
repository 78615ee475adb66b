-- A guest whose events are kept, or aren't.
use Rattle.std.specs.Prelude.{Bool, List, None, Option, Some, [], false, true, ◌++◌}
use Rattle.std.proofs.Common.{refl, ◌∙◌}
use Rattle.canon_memory.specs.declared.event.Event.{Event}
use Rattle.canon_memory.specs.Guest.{GuestIn, JournaledMoves, Seen, of_guest}
use Rattle.canon_events.specs.declared.guest.MaybeJournaled.{MaybeJournaled}
use Rattle.canon_events.specs.declared.guest.MaybeJournaled.TheVariants as maybe

module _ {G : Type 0} where
  -- a guest that did nothing yet
  abbrev pub maybe_journaled : G → Bool → MaybeJournaled G
  maybe_journaled g true = maybe.Kept (record { guest = g; events = []; shortages = 0 })
  maybe_journaled g false = maybe.Plain g

  -- its events, where they are kept
  abbrev pub journal_kept : MaybeJournaled G → Option (List Event)
  journal_kept (maybe.Plain g) = None
  journal_kept (maybe.Kept j) = Some j.events

  -- it without them
  abbrev pub without_journal : MaybeJournaled G → MaybeJournaled G
  without_journal (maybe.Plain g) = maybe.Plain g
  without_journal (maybe.Kept j) = maybe.Kept (record j { events = [] })

  -- what contracts see of it: its journal, where one is kept
  abbrev pub maybe_seen : (G → Seen) → MaybeJournaled G → Seen
  maybe_seen seen (maybe.Plain g) = seen g
  maybe_seen seen (maybe.Kept j) = record (seen j.guest) { journal = Some j.events; shortages = j.shortages }

-- another guest in the same memory
abbrev pub in_same : {A B : Type 0} → GuestIn A → B → GuestIn B
in_same v g = record { guest = g; len = v.len; wide = v.wide }

module _ {G : Type 0} (Moves : GuestIn G → List Event → GuestIn G → Type 0) where
  -- It moves as its guest does, and a journal is kept as long as it was.
  abbrev pub MovesBetween : MaybeJournaled G → MaybeJournaled G → GuestIn (MaybeJournaled G) → List Event → GuestIn (MaybeJournaled G) → Type 0
  MovesBetween (maybe.Plain g) (maybe.Plain h) v events w = Moves (in_same v g) events (in_same w h)
  MovesBetween (maybe.Kept j) (maybe.Kept k) v events w = JournaledMoves Moves (in_same v j) events (in_same w k)
  MovesBetween _ _ v events w = ⊥

  abbrev pub MaybeMoves : GuestIn (MaybeJournaled G) → List Event → GuestIn (MaybeJournaled G) → Type 0
  MaybeMoves v events w = MovesBetween v.guest w.guest v events w

  -- ---- one move after another

  abbrev pub MayStay : Type 0
  MayStay = (g : GuestIn G) → Moves g [] g

  abbrev pub MayGoOn : Type 0
  MayGoOn = (g h k : GuestIn G) (xs ys : List Event) → Moves g xs h → Moves h ys k → Moves g (xs ++ ys) k

  stays_between : MayStay → (m : MaybeJournaled G) (v : GuestIn (MaybeJournaled G)) → MovesBetween m m v [] v
  stays_between stays (maybe.Plain g) v = stays (in_same v g)
  stays_between stays (maybe.Kept j) v = record { moves = stays (of_guest (in_same v j)); shortages = refl }

  pub maybe_stays : MayStay → (v : GuestIn (MaybeJournaled G)) → MaybeMoves v [] v
  maybe_stays stays v = stays_between stays v.guest v

  goes_between : MayGoOn → (l m n : MaybeJournaled G) (u v w : GuestIn (MaybeJournaled G)) (xs ys : List Event) → MovesBetween l m u xs v → MovesBetween m n v ys w → MovesBetween l n u (xs ++ ys) w
  goes_between goes_on (maybe.Plain f) (maybe.Plain g) (maybe.Plain h) u v w xs ys p q = goes_on (in_same u f) (in_same v g) (in_same w h) xs ys p q
  goes_between goes_on (maybe.Plain f) (maybe.Plain g) (maybe.Kept k) u v w xs ys p q = absurd q
  goes_between goes_on (maybe.Plain f) (maybe.Kept j) n u v w xs ys p q = absurd p
  goes_between goes_on (maybe.Kept i) (maybe.Plain g) n u v w xs ys p q = absurd p
  goes_between goes_on (maybe.Kept i) (maybe.Kept j) (maybe.Plain h) u v w xs ys p q = absurd q
  goes_between goes_on (maybe.Kept i) (maybe.Kept j) (maybe.Kept k) u v w xs ys p q = record {
    moves = goes_on (of_guest (in_same u i)) (of_guest (in_same v j)) (of_guest (in_same w k)) xs ys p.moves q.moves;
    shortages = q.shortages ∙ p.shortages;
  }

  pub maybe_goes_on : MayGoOn → (u v w : GuestIn (MaybeJournaled G)) (xs ys : List Event) → MaybeMoves u xs v → MaybeMoves v ys w → MaybeMoves u (xs ++ ys) w
  maybe_goes_on goes_on u v w xs ys p q = goes_between goes_on u.guest v.guest w.guest u v w xs ys p q
