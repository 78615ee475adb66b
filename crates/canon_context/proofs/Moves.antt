-- What a guest did, one thing after another.
use Rattle.std.proofs.Common.{◌≡◌, ◌≤◌, ◌<◌, ◌+◌, ◌%◌, ◌^◌, ◌++◌, ◌∷◌, Err, List, Ok, Result, [], length, subst, ℕ}
use Rattle.std.proofs.lemmas.List.{append-nil}
use Rattle.canon_lowering.specs.Lowering.{Granted, Misanswered, Reallocated}
use Rattle.canon_lowering.specs.Stages.{GoesBy, bare}
use Rattle.canon_memory.specs.Guest.{GuestIn, Moment, OnAnswer, Reallocates, Seen}
use Rattle.canon_memory.specs.Journal.{realloc_events}
use Rattle.canon_memory.specs.declared.event.Event.{Event}
use Rattle.canon_model.specs.Requests.{Call}
use Rattle.canon_context.specs.Core.{Parts, guest_of, moment_of, stage_of}
use Rattle.canon_context.specs.Lowers.{answer_of, ending_of, guest_answer}
use Rattle.canon_context.specs.declared.fault.Fault.{Fault}
use Rattle.canon_context.specs.declared.fault.Fault.TheVariants as fault

pub record GuestLaws (G : Type 0) : Type 1 where
  pub seen : G → Seen
  pub moves : GuestIn G → List Event → GuestIn G → Type 0
  pub stays : (g : GuestIn G) → moves g [] g
  pub goes_on : (g h k : GuestIn G) (xs ys : List Event) → moves g xs h → moves h ys k → moves g (xs ++ ys) k

module _ {T G : Type 0} (L : GuestLaws G) (a b : Parts T G) where
  -- what it did by its own account, it did from stage to stage
  pub goes_by : (es : List Event) → L.moves (guest_of a) es (guest_of b) → GoesBy (stage_of L.seen L.moves a) (stage_of L.seen L.moves b) es
  goes_by es moved more k on = L.goes_on (guest_of a) (guest_of b) k es more moved on

  -- and the other way
  pub moved_by : (es : List Event) → GoesBy (stage_of L.seen L.moves a) (stage_of L.seen L.moves b) es → L.moves (guest_of a) es (guest_of b)
  moved_by es goes = subst (λ (xs : List Event). L.moves (guest_of a) xs (guest_of b)) (append-nil es) (goes [] (guest_of b) (L.stays (guest_of b)))

  -- a request, by its answer
  pub asked_by : (c : Call) (r : Result ℕ Fault) → Reallocated (bare (moment_of L.seen a)) (bare (moment_of L.seen b)) c (ending_of r) (answer_of r)
      → OnAnswer (guest_answer r) (L.moves (guest_of a) (realloc_events c a.memory (guest_answer r)) (guest_of b)) → Reallocated (stage_of L.seen L.moves a) (stage_of L.seen L.moves b) c (ending_of r) (answer_of r)
  asked_by c (Ok x) does move = record { mark = does.mark; answered = does.answered; moves = goes_by _ move; aligned = does.aligned; inside = does.inside; narrow = does.narrow }
  asked_by c (Err (fault.ReallocMisaligned x)) does move = record { mark = does.mark; answered = does.answered; moves = goes_by _ move; bad = does.bad }
  asked_by c (Err (fault.ReallocOutOfBounds x)) does move = record { mark = does.mark; answered = does.answered; moves = goes_by _ move; bad = does.bad }
  asked_by c (Err fault.GuestTrap) does move = record { trapped = does.trapped; moves = goes_by _ move }
  asked_by c (Err fault.OutOfMemory) does move = does
  asked_by c (Err (fault.Resource e)) does move = absurd does
  asked_by c (Err (fault.TypeMismatch k)) does move = absurd does
  asked_by c (Err (fault.FieldName k)) does move = absurd does
  asked_by c (Err (fault.UnknownCase k)) does move = absurd does
  asked_by c (Err (fault.UnknownFlag k)) does move = absurd does
  asked_by c (Err (fault.PayloadExpected k)) does move = absurd does
  asked_by c (Err (fault.PayloadNotExpected k)) does move = absurd does
  asked_by c (Err (fault.LengthMismatch k)) does move = absurd does
  asked_by c (Err (fault.PointerMisaligned at)) does move = absurd does
  asked_by c (Err (fault.PointerOutOfBounds at)) does move = absurd does
  asked_by c (Err (fault.StringTooLong n)) does move = absurd does
  asked_by c (Err (fault.SizeOverflow n)) does move = absurd does
  asked_by c (Err (fault.InvalidUtf8 at)) does move = absurd does
  asked_by c (Err (fault.InvalidUtf16 at)) does move = absurd does
  asked_by c (Err (fault.InvalidChar at)) does move = absurd does
  asked_by c (Err (fault.BadDiscriminant at n)) does move = absurd does
  asked_by c (Err fault.HostcallFuelExhausted) does move = absurd does

-- an answer of `realloc` that was tested, and bad in this way, or good
pub misanswered_bare : (a b : Moment) (c : Call) (p : ℕ) (Bad : Type 0) → Reallocates a b c (Ok p) → Bad → Misanswered (bare a) (bare b) c p Bad
misanswered_bare a b c p Bad (mark, h) bad = record { mark = mark; answered = h; moves = λ more k on. tt; bad = bad }

pub granted_bare : (a b : Moment) (c : Call) (p : ℕ) → Reallocates a b c (Ok p) → p % c.align ≡ 0 → p + c.new_size ≤ length b.bytes → p < 2 ^ 32 → Granted (bare a) (bare b) c p
granted_bare a b c p (mark, h) aligned inside narrow = record { mark = mark; answered = h; moves = λ more k on. tt; aligned = aligned; inside = inside; narrow = narrow }
