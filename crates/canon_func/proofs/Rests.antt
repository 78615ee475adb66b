-- What the events from the return on say.
use Rattle.std.proofs.Common.{Err, List, None, Ok, Option, Result, Some, [], ap, arith, inl, inr, length, refl, subst, sym, ℕ, ◌++◌, ◌+◌, ◌∷◌, ◌≡◌, ◌≤◌, ◌<◌}
use Rattle.std.proofs.lemmas.List.{append-nil}
use Rattle.canon_model.specs.Reach as reach
use Rattle.canon_model.specs.Reach.{Kind}
use Rattle.canon_memory.specs.declared.event.Event.{Event}
use Rattle.canon_memory.specs.declared.event.Event.TheVariants as event
use Rattle.canon_memory.specs.Counts.{Rose}
use Rattle.canon_memory.specs.Guest.{Moment}
use Rattle.canon_memory.specs.Journal.{trap_event}
use Rattle.canon_ledger.specs.Ledger.{LedgerState, leave}
use Rattle.canon_resources.specs.Parts.{LeavesStop}
use Rattle.canon_context.specs.Faults.{stop_of}
use Rattle.canon_context.specs.declared.fault.Fault.{Fault}
use Rattle.canon_context.specs.declared.fault.Fault.TheVariants as fault
use Rattle.canon_host.specs.HostSide.{Giving, HostSide}
use Rattle.canon_func.specs.Asks.{Limits}
use Rattle.canon_func.specs.Call.{Advances, Left, LiftsReturned, StopsLater, StopsReturned, result_words, scope_exit, stopped_by}
use Rattle.canon_func.specs.Passing.{ReturnedValues}
use Rattle.canon_func.specs.Runs.{Each, EndsIn, Grows, IsNoPost, IsNoRequest, IsNoResume, IsNoStart, IsReturn, IsTrap, asks_in, posts}
use Rattle.canon_func.specs.Steps.{Concluded, Ended, Lifted, Posted, RestCause}
use Rattle.canon_func.specs.Stores.{Callee}
use Rattle.canon_func.specs.declared.error.Error.{Error}
use Rattle.canon_func.specs.declared.error.Error.TheVariants as error
use Rattle.canon_func.proofs.Handled.{lifted_stops, not_both, returned_excluded}
use Rattle.canon_func.proofs.Leaving.{lifted_leaves}
use Rattle.canon_func.specs.Passed.{ReadsRightly}
use Rattle.canon_func.proofs.Tails.{IsTail}
use Rattle.canon_func.proofs.Prefixes.{ends_after}
use Rattle.canon_func.proofs.Turns.{same_le}

each_post : (P : Event → Type 0) → ((p : ℕ) (ws : List ℕ) → P (event.Post p ws)) → (post : Option ℕ) (ws : List ℕ) → Each P (posts post ws)
each_post P f None ws = tt
each_post P f (Some p) ws = (f p ws, tt)

asks_post : (post : Option ℕ) (ws : List ℕ) → asks_in (posts post ws) ≡ 0
asks_post None ws = refl
asks_post (Some p) ws = refl

grows_post : (post : Option ℕ) (ws : List ℕ) (len last : ℕ) → len ≤ last → Grows len (posts post ws) last
grows_post None ws len last h = h
grows_post (Some p) ws len last h = h

-- without a post-return memory stays as it was returned
left_stays : (Leaves : List ℕ → List ℕ → Type 0) (post : Option ℕ) (ws memory after : List ℕ) → Left Leaves post memory after → Each IsNoPost (posts post ws) → after ≡ memory
left_stays Leaves None ws memory after h none = h
left_stays Leaves (Some p) ws memory after h none = absurd none.0

less_not : (a b : ℕ) → a < b → b ≤ a → ⊥
less_not a b h g = omega (arith, h, g)

module _ {T R : Type 0} (its : ReturnedValues R) (gives : Giving T) (callee : Callee) (limits : Limits) (Leaves : List ℕ → List ℕ → Type 0) (law : ReadsRightly callee its) (before after : Moment) (count len : ℕ)
    (host left : HostSide T) (kept : left ≡ record host { ledger = left.ledger }) (returned memory : List ℕ) (few : count ≤ limits.turns) (first : len ≤ length memory) (second : length memory ≤ length after.bytes) where
  -- the ledger accepts the handles of what was returned
  abbrev Accepted : Type 0
  Accepted = (lifted : LedgerState) × LiftsReturned (its.accepts returned memory) host.ledger lifted

  abbrev tail : List Event
  tail = event.Return returned memory ∷ []

  abbrev Causes : Error → Type 0
  Causes e = (xs : List Event) → asks_in xs ≡ count → RestCause its callee limits before after (xs ++ tail) tail e

  abbrev Excluded : Error → Type 0
  Excluded e = its.represent returned memory limits.fuel → Accepted → e ≡ error.Fault fault.OutOfMemory

  -- memory is as it was returned, unless memory ran out
  abbrev RestStays : Error → Type 0
  RestStays e = ¬ (e ≡ error.Fault fault.OutOfMemory) → after.bytes ≡ memory

  -- and then it was called for nothing more
  returned_made : (e : Error) → RestStays e → StopsLater its callee (stopped_by e) host.ledger left.ledger tail → Causes e → Excluded e
      → IsTail its gives callee limits Leaves before after count len host left (Err e) before.guest [] None tail
  returned_made e stays handles cause excluded = record {
    whole = tt;
    prefix = record {
      more = [];
      returned = returned;
      memory = memory;
      prefix = event.Return returned memory ∷ [];
      rest = posts callee.post returned;
      trap = [];
      begins = refl;
      tail_is = refl;
      may_trap = tt;
    };
    no_resume = (tt, tt);
    no_start = (tt, tt);
    asking = ((tt, tt), refl, refl);
    grows = (first, second);
    asks = λ none. omega (arith, few);
    only_results = tt;
    posted = λ some. absurd (some (tt, tt));
    leaves = tt;
    returned = λ other none. (stays (λ is. other (ap Err is)), tt);
    handles = inl (handles, kept);
    cause = cause;
    valid = λ lawful rest calm within right accepted. excluded right.0 accepted.1.0;
  }

  -- it was the last event
  at_end : (P : List ℕ → List ℕ → Type 0) (xs : List Event) → P returned memory → EndsIn (IsReturn P) (xs ++ tail)
  at_end P xs p = ends_after (IsReturn P) xs tail p

  -- the scope didn't end
  pub unended_tail : after.bytes ≡ memory → (e : Error) → Ended callee returned host.ledger left.ledger (Err e) → IsTail its gives callee limits Leaves before after count len host left (Err e) before.guest [] None tail
  unended_tail stays error.WrongWords h = returned_made error.WrongWords (λ other. stays) (inl (refl, h.1, inr h.0, tt)) (λ xs told. inl (at_end _ xs h.0)) (λ rep accepted. absurd (h.0 (law.counted returned memory limits.fuel rep)))
  unended_tail stays (error.Fault (fault.Resource r)) h =
      returned_made (error.Fault (fault.Resource r)) (λ other. stays) (inr (inl ((tt, tt), (λ trapped. trapped), inl (h.0, inl (r, h.1, h.2))))) (λ xs told. (h.1, at_end _ xs h.0))
      (λ rep accepted. absurd (not_both host.ledger left.ledger accepted.1.ended r h.2 accepted.1.ends))
  unended_tail stays e h = absurd h

  module _ (ended : LedgerState) (counted : length returned ≡ result_words callee.results) (ends : scope_exit host.ledger ≡ record { answer = Ok tt; after = ended }) where
    -- lifting, or memory for post-return, stopped it then
    stopped : (f : Fault) → RestStays (error.Fault f) → LeavesStop (stop_of f) ended (its.parts returned memory) left.ledger → Causes (error.Fault f) → Excluded (error.Fault f)
        → IsTail its gives callee limits Leaves before after count len host left (Err (error.Fault f)) before.guest [] None tail
    stopped f stays stops cause excluded = returned_made (error.Fault f) stays (inr (inl ((tt, tt), (λ trapped. trapped), inl (counted, inr (ended, ends, stops))))) cause excluded

    -- a reached place has a fault
    faulty : (e : Error) (k : Kind) (x : reach.At) → its.faults returned memory k x → Excluded e
    faulty e k x f rep accepted = absurd (law.faultless returned memory limits.fuel k x f rep)

    pub unlifted_tail : after.bytes ≡ memory → (f : Fault) → Lifted its limits.fuel returned memory ended left.ledger (Err f)
        → IsTail its gives callee limits Leaves before after count len host left (Err (error.Fault f)) before.guest [] None tail
    unlifted_tail stays (fault.PointerMisaligned at) h = stopped (fault.PointerMisaligned at) (λ other. stays) h.1 (λ xs told. at_end _ xs (counted, h.0)) (faulty (error.Fault (fault.PointerMisaligned at)) _ _ h.0)
    unlifted_tail stays (fault.PointerOutOfBounds at) h = stopped (fault.PointerOutOfBounds at) (λ other. stays) h.1 (λ xs told. at_end _ xs (counted, h.0)) (faulty (error.Fault (fault.PointerOutOfBounds at)) _ _ h.0)
    unlifted_tail stays (fault.InvalidUtf8 at) h = stopped (fault.InvalidUtf8 at) (λ other. stays) h.1 (λ xs told. at_end _ xs (counted, h.0)) (faulty (error.Fault (fault.InvalidUtf8 at)) _ _ h.0)
    unlifted_tail stays (fault.InvalidUtf16 at) h = stopped (fault.InvalidUtf16 at) (λ other. stays) h.1 (λ xs told. at_end _ xs (counted, h.0)) (faulty (error.Fault (fault.InvalidUtf16 at)) _ _ h.0)
    unlifted_tail stays (fault.InvalidChar at) h = stopped (fault.InvalidChar at) (λ other. stays) h.1 (λ xs told. at_end _ xs (counted, h.0)) (faulty (error.Fault (fault.InvalidChar at)) _ _ h.0)
    unlifted_tail stays (fault.BadDiscriminant at d) h = stopped (fault.BadDiscriminant at d) (λ other. stays) h.1 (λ xs told. at_end _ xs (counted, h.0)) (faulty (error.Fault (fault.BadDiscriminant at d)) _ _ h.0)
    unlifted_tail stays fault.HostcallFuelExhausted h =
        stopped fault.HostcallFuelExhausted (λ other. stays) h.1 (λ xs told. at_end _ xs (counted, h.0)) (λ rep accepted. absurd (less_not limits.fuel (its.reach returned memory) h.0 (law.within returned memory limits.fuel rep)))
    unlifted_tail stays fault.OutOfMemory h = stopped fault.OutOfMemory (λ other. stays) h.1 (λ xs told. tt) (λ rep accepted. refl)
    unlifted_tail stays (fault.Resource r) h = stopped (fault.Resource r) (λ other. stays) h.1 (λ xs told. (h.0, at_end _ xs counted))
        (λ rep accepted. absurd (returned_excluded its callee law returned memory r host.ledger left.ledger accepted.0
        (subst (λ why. StopsReturned its callee returned memory why host.ledger left.ledger) h.0 (inr (ended, ends, h.1))) accepted.1))
    unlifted_tail stays f h = absurd h.0

    -- memory ran out for post-return
    unposted_tail : (results : R) → Lifted its limits.fuel returned memory ended left.ledger (Ok results)
        → IsTail its gives callee limits Leaves before after count len host left (Err (error.Fault fault.OutOfMemory)) before.guest [] None tail
    unposted_tail results h = stopped fault.OutOfMemory (λ other. absurd (other refl)) (lifted_stops its callee law returned memory ended left.ledger results h.2) (λ xs told. tt) (λ rep accepted. refl)

    -- post-return trapped
    trapped_tail : (p : ℕ) → callee.post ≡ Some p → Rose before.guest.traps after.guest.traps → (results : R) → Lifted its limits.fuel returned memory ended left.ledger (Ok results)
        → IsTail its gives callee limits Leaves before after count len host left (Err (error.Fault fault.GuestTrap)) before.guest [] None (event.Return returned memory ∷ event.Post p returned ∷ trap_event (length memory) ∷ [])
    trapped_tail p e rose results (rest, are, lifts, same) = record {
      whole = tt;
      prefix = record {
        more = [];
        returned = returned;
        memory = memory;
        prefix = event.Return returned memory ∷ event.Post p returned ∷ [];
        rest = [];
        trap = trap_event (length memory) ∷ [];
        begins = ap (λ o. event.Return returned memory ∷ posts o returned) e;
        tail_is = refl;
        may_trap = same_le (length memory);
      };
      no_resume = (tt, (tt, (tt, tt)));
      no_start = (tt, (tt, (tt, tt)));
      asking = ((tt, (tt, (tt, tt))), refl, refl);
      grows = (first, (same_le (length memory), second));
      asks = λ none. omega (arith, few);
      only_results = tt;
      posted = λ some. ((rest, results, are), (tt, (tt, tt)));
      leaves = tt;
      returned = λ other none. absurd none.1.0;
      handles = inl (inr (inr (refl, (λ none. none.1.0), inl (record { ended = ended; ends = ends; lifts = law.accepted returned memory ended left.ledger results lifts }))), kept);
      cause = λ xs told. (rose, ends_after IsTrap xs (event.Return returned memory ∷ event.Post p returned ∷ trap_event (length memory) ∷ []) tt);
      valid = λ lawful rest calm within right accepted. absurd (calm tt);
    }

    asks_few : {k : ℕ} → count ≤ limits.turns → k ≡ 0 → count + k ≤ limits.turns
    asks_few le none = omega (arith, le, none)

    -- the whole was done
    done_tail : (results : R) (lifted : LedgerState) → Lifted its limits.fuel returned memory ended lifted (Ok results) → left.ledger ≡ leave lifted → Left Leaves callee.post memory after.bytes
        → IsTail its gives callee limits Leaves before after count len host left (Ok results) before.guest [] None (event.Return returned memory ∷ posts callee.post returned)
    done_tail results lifted (rest, are, lifts, same) left_is stays = record {
      whole = (returned, memory, refl);
      prefix = record {
        more = [];
        returned = returned;
        memory = memory;
        prefix = event.Return returned memory ∷ posts callee.post returned;
        rest = [];
        trap = [];
        begins = sym (append-nil (event.Return returned memory ∷ posts callee.post returned));
        tail_is = sym (append-nil (event.Return returned memory ∷ posts callee.post returned));
        may_trap = tt;
      };
      no_resume = (tt, each_post IsNoResume (λ p ws. tt) callee.post returned);
      no_start = (tt, each_post IsNoStart (λ p ws. tt) callee.post returned);
      asking = ((tt, each_post IsNoRequest (λ p ws. tt) callee.post returned), refl, refl);
      grows = (first, grows_post callee.post returned (length memory) (length after.bytes) second);
      asks = λ none. asks_few few (asks_post callee.post returned);
      only_results = ((rest, are), each_post _ (λ p ws. tt) callee.post returned);
      posted = λ some. ((rest, results, are), each_post _ (λ p ws. tt) callee.post returned);
      leaves = (stays, each_post _ (λ p ws. tt) callee.post returned);
      returned = λ other none. (left_stays Leaves callee.post returned memory after.bytes stays none.1, each_post _ (λ p ws. tt) callee.post returned);
      handles = (
        (
          record { lifted = lifted; lifts = record { ended = ended; ends = ends; lifts = lifts }; empty = lifted_leaves host.ledger ended lifted ends same; left = left_is },
          each_post _ (λ p ws. tt) callee.post returned,
        ),
        kept,
      );
      cause = tt;
      valid = λ lawful rest calm within right accepted. tt;
    }

-- from the end of the scope on
module _ {T R : Type 0} (its : ReturnedValues R) (gives : Giving T) (callee : Callee) (limits : Limits) (Leaves : List ℕ → List ℕ → Type 0) (law : ReadsRightly callee its) (before mid after : Moment) (count len : ℕ)
    (host left : HostSide T) (kept : left ≡ record host { ledger = left.ledger }) (returned : List ℕ) (few : count ≤ limits.turns) (first : len ≤ length mid.bytes) (f : Advances before mid) (g : Advances mid after)
    (ended : LedgerState) (counted : length returned ≡ result_words callee.results) (ends : scope_exit host.ledger ≡ record { answer = Ok tt; after = ended }) where
  abbrev Tail : Result R Error → List Event → Type 0
  Tail answer later = IsTail its gives callee limits Leaves before after count len host left answer before.guest [] None (event.Return returned mid.bytes ∷ later)

  failed_rest : (results : R) (e : Error) (later : List Event) → Lifted its limits.fuel returned mid.bytes ended left.ledger (Ok results) → Posted Leaves callee returned mid after (Err e) later → Tail (Err e) later
  failed_rest results (error.Fault fault.GuestTrap) later h (rose, (p, is, are)) =
      subst (λ es. Tail (Err (error.Fault fault.GuestTrap)) es) (sym are)
      (trapped_tail its gives callee limits Leaves law before after count len host left kept returned mid.bytes few first g.no_shorter ended counted ends p is (omega (arith, rose, f.traps_later)) results h)
  failed_rest results (error.Fault fault.OutOfMemory) later h none =
      subst (λ es. Tail (Err (error.Fault fault.OutOfMemory)) es) (sym none)
      (unposted_tail its gives callee limits Leaves law before after count len host left kept returned mid.bytes few first g.no_shorter ended counted ends results h)
  failed_rest results e later h p = absurd p

  pub returned_rest : (answer : Result R Error) (later : List Event) → Concluded its Leaves callee limits.fuel returned mid after ended left.ledger answer later → Tail answer later
  returned_rest (Ok results) later ((lifted, h, left_is), (are, stays)) =
      subst (λ es. Tail (Ok results) es) (sym are)
      (done_tail its gives callee limits Leaves law before after count len host left kept returned mid.bytes few first g.no_shorter ended counted ends results lifted h left_is stays)
  returned_rest (Err e) later (inl (x, is, h, none, stays)) =
      subst (λ es. Tail (Err e) es) (sym none)
      (subst (λ r. Tail (Err r) []) (sym is)
      (unlifted_tail its gives callee limits Leaves law before after count len host left kept returned mid.bytes few first g.no_shorter ended counted ends stays x h))
  returned_rest (Err e) later (inr (results, h, posted)) = failed_rest results e later h posted
