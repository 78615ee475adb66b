-- What the calls of an arena do is what the trait asks for.
use Rattle.std.proofs.Common.{List, None, Ok, Err, Result, [], ◌≡◌, ◌≤◌, ◌∙◌, ap, arith, false, length, refl, replicate, sym, true, ℕ}
use Rattle.std.specs.Prelude.{IfOk, slice_index}
use Rattle.std.proofs.lemmas.List.{append-nil}
use Rattle.std.proofs.lemmas.Grind.{replicate_next}
use Rattle.canon_model.specs.Requests.{Call}
use Rattle.canon_memory.specs.Guest.{Goes, HasCause, Mark, OnAnswer, Reallocates, Seen, moment}
use Rattle.canon_memory.specs.Realloc.{ReallocLaw}
use Rattle.canon_memory.specs.declared.error.GuestFault.{GuestFault}
use Rattle.canon_memory.specs.declared.error.GuestFault.TheVariants as fault
use Rattle.canon_memory.specs.declared.event.Event.{Event}
use Rattle.canon_example_guests.specs.Arena.{CountsAnswer, Counts, Starts}
use Rattle.canon_example_guests.specs.declared.arena.Arena.{Arena}

abbrev example_marked : Mark
example_marked = record { lawful = true; tidy = true }

-- where any events lead anywhere
pub free : {T : Type 0} (r : Result T GuestFault) → OnAnswer r (Unit {0})
free (Ok x) = tt
free (Err fault.Trap) = tt
free (Err fault.OutOfMemory) = tt

abbrev pub seen_of : Arena → Seen
seen_of a = record { journal = None; marks = replicate a.answers (record { lawful = true; tidy = true }); live = a.blocks.live; holds = false; traps = a.traps; shortages = a.shortages }

-- where memory keeps its length
module _ (a b : Arena) (m n : List ℕ) (same : length n ≡ length m) where
  -- no answer of `realloc`
  quiet : a.traps ≤ b.traps → a.shortages ≤ b.shortages → b.answers ≡ a.answers → (events : List Event) → Goes (moment (seen_of a) m) (moment (seen_of b) n) [] events
  quiet traps shortages answers events =
      record {
        no_shorter = omega (arith, same);
        traps_later = traps;
        shortages_later = shortages;
        marks = ap (λ (k : ℕ). replicate k example_marked) answers ∙ sym (append-nil _);
        events = refl;
      }

  faulted : (f : GuestFault) → Counts f a b → (events : List Event) → Goes (moment (seen_of a) m) (moment (seen_of b) n) [] events
  faulted fault.Trap (e, le) = quiet le (omega (arith, ap (λ (x : Arena). x.shortages) e)) (ap (λ (x : Arena). x.answers) e)
  faulted fault.OutOfMemory (e, le) = quiet (omega (arith, ap (λ (x : Arena). x.traps) e)) le (ap (λ (x : Arena). x.answers) e)

  pub started : {T : Type 0} (r : Result T GuestFault) → Starts r a b → (events : List Event) → Goes (moment (seen_of a) m) (moment (seen_of b) n) [] events
  started (Ok step) e events = quiet (omega (arith, ap (λ (x : Arena). x.traps) e)) (omega (arith, ap (λ (x : Arena). x.shortages) e)) (ap (λ (x : Arena). x.answers) e) events
  started (Err f) counts events = faulted f counts events

  pub example_caused : {T : Type 0} (r : Result T GuestFault) → Starts r a b → HasCause (seen_of a) (seen_of b) r
  example_caused (Ok step) e = tt
  example_caused (Err fault.Trap) (e, le) = omega (arith, ap (λ (x : Arena). x.traps) e)
  example_caused (Err fault.OutOfMemory) (e, le) = omega (arith, ap (λ (x : Arena). x.shortages) e)

-- and where it stays
module _ (a b : Arena) (m n : List ℕ) (same : n ≡ m) where
  pub reallocates : (c : Call) (r : Result ℕ GuestFault) → CountsAnswer r a b → IfOk r (λ at. ReallocLaw a.blocks.live b.blocks.live m n c at) → Reallocates (moment (seen_of a) m) (moment (seen_of b) n) c r
  reallocates c (Ok at) e law = (
    example_marked,
    record {
      goes = record {
        no_shorter = omega (arith, ap length same);
        traps_later = omega (arith, ap (λ (x : Arena). x.traps) e);
        shortages_later = omega (arith, ap (λ (x : Arena). x.shortages) e);
        marks = ap (λ (x : Arena). replicate x.answers example_marked) e ∙ replicate_next a.answers example_marked;
        events = refl;
      };
      lawful = λ _. law;
      tidy = λ _ i lt out. ap (λ (xs : List ℕ). slice_index xs i) same;
    },
  )
  reallocates c (Err fault.Trap) counts law = record { goes = faulted a b m n (ap length same) fault.Trap counts _; rose = omega (arith, ap (λ (x : Arena). x.traps) counts.0) }
  reallocates c (Err fault.OutOfMemory) counts law = record { goes = faulted a b m n (ap length same) fault.OutOfMemory counts _; rose = omega (arith, ap (λ (x : Arena). x.shortages) counts.0) }
