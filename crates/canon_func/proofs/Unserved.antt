-- What comes after the turns where the guest didn't return: it trapped, or its last ask isn't resumed.
use Rattle.std.proofs.Common.{false, Err, List, None, Ok, Option, Result, Some, [], ap, append_assoc, arith, inl, inr, length, refl, subst, sym, ℕ, ◌++◌, ◌+◌, ◌∙◌, ◌∷◌, ◌≡◌, ◌≤◌, ◌<◌}
use Rattle.std.specs.Prelude.{slice_get, ◌≢◌}
use Rattle.std.specs.Option.{option_and_then}
use Rattle.std.proofs.lemmas.List.{append-nil}
use Rattle.canon_memory.specs.declared.event.Event.{Event}
use Rattle.canon_memory.specs.declared.event.Event.TheVariants as event
use Rattle.canon_memory.specs.Counts.{Rose}
use Rattle.canon_memory.specs.Guest.{Moment, Seen, moment}
use Rattle.canon_memory.specs.Journal.{asked_trap, trap_event}
use Rattle.canon_lowering.specs.Lowering.{AllLawful, Answer, Trap, events_of}
use Rattle.canon_ledger.specs.Ledger.{Done, LedgerState}
use Rattle.canon_ledger.specs.declared.fault.ResourceFault.{ResourceFault}
use Rattle.canon_context.specs.declared.fault.Fault.{Fault}
use Rattle.canon_context.specs.declared.fault.Fault.TheVariants as fault
use Rattle.canon_context.specs.declared.component.Import.{Import}
use Rattle.canon_context.specs.declared.component.Import.TheVariants as import
use Rattle.canon_host.specs.Forms.{IsLawful}
use Rattle.canon_host.specs.HostSide.{Giving, HostSide}
use Rattle.canon_host.specs.declared.asked.Asked.{Asked}
use Rattle.canon_func.specs.Asks.{AcceptsAsk, AskStops, BuiltinStops, IsAskOf, Limits, ask_step, builtin_at, builtin_of, host_words, import_words}
use Rattle.canon_func.specs.AskForms.{ask_at}
use Rattle.canon_func.specs.HostAsks.{AcceptsHost, HostStops, IsHostAsk, IsUnrefused}
use Rattle.canon_func.specs.Passing.{ReturnedValues}
use Rattle.canon_func.specs.Runs.{EndsIn, IsNoPost, IsNoResume, IsNoStart, IsTrap, MayTrap, asks_in, last_len, posts}
use Rattle.canon_func.specs.Steps.{RestCause, RisesAt, Stopped, StopsInAsk, TrapsLate, ask_turn}
use Rattle.canon_func.specs.Stores.{Callee}
use Rattle.canon_func.specs.declared.asks.Builtin.{Builtin}
use Rattle.canon_func.specs.declared.error.Error.{Error}
use Rattle.canon_func.specs.declared.error.Error.TheVariants as error
use Rattle.canon_func.proofs.FormLaws.{form_lawful, form_sound}
use Rattle.canon_func.proofs.HostAccepts.{asked_excluded, is_asked}
use Rattle.canon_func.proofs.HostStopped.{asked_traps, none_more, refused_alone}
use Rattle.canon_func.proofs.Prefixes.{asks_answers, each_answer, ends_after, ends_in_trap, events_of-trap, grows_request, last_len_answers}
use Rattle.canon_func.proofs.Tails.{IsTail, TailPrefix}
use Rattle.canon_func.proofs.Turns.{asks_then, same_le}

-- an answer that is Ok isn't a refusal
answered_once : (e : ResourceFault) (a : ℕ) (d : Done ℕ) (l m : LedgerState) → d ≡ record { answer = Err e; after = l } → d ≡ record { answer = Ok a; after = m } → ⊥
answered_once e a d l m h g = let w : ◌≡◌ {A = Result ℕ ResourceFault} (Err e) (Ok a) = ap (λ (x : Done ℕ). x.answer) (sym h ∙ g) in cc

more_than : (n most : ℕ) → n ≡ most → n + 1 ≤ most → ⊥
more_than n most e h = omega (arith, e, h)

kept_side : {T : Type 0} (a b : HostSide T) → b ≡ a → b ≡ record a { ledger = b.ledger }
kept_side a b same = same ∙ (λ i. record a { ledger = ap (λ s. s.ledger) (sym same) i })

-- ---- an ask that isn't resumed

asks_late : (late : List Answer) (trap : Option Trap) → asks_in (events_of late trap) ≡ 0
asks_late late trap = ap asks_in (sym (append-nil (events_of late trap))) ∙ asks_answers late trap []

one_more : (count n most : ℕ) → n ≡ 0 → count + 1 ≤ most → count + (1 + n) ≤ most
one_more count n most e h = omega (arith, e, h)

one_fewer : (count n most : ℕ) → count + (1 + n) ≤ most → count + 1 ≤ most
one_fewer count n most h = omega (arith, h)

turns_more : (n k most : ℕ) → n ≡ most → k ≡ 0 → n + (1 + k) ≡ most + 1
turns_more n k most e h = omega (arith, e, h)

untrapped_late : (index : ℕ) (asked memory : List ℕ) (late : List Answer) (trap : Option Trap) → ¬ EndsIn IsTrap (event.Ask index asked memory ∷ events_of late trap) → trap ≡ None
untrapped_late index asked memory late None calm = refl
untrapped_late index asked memory late (Some t) calm = absurd (calm (ends_after IsTrap (event.Ask index asked memory ∷ []) (events_of late (Some t)) (ends_in_trap late t)))

abbrev traps_in : Option Trap → List Event
traps_in None = []
traps_in (Some t) = asked_trap t.call t.len ∷ []

split_trap : (late : List Answer) (trap : Option Trap) → events_of late trap ≡ events_of late None ++ traps_in trap
split_trap late None = sym (append-nil (events_of late None))
split_trap late (Some t) = events_of-trap late t

late_trap_may : (n : ℕ) (late : List Answer) (trap : Option Trap) → TrapsLate n trap → MayTrap (last_len n (events_of late None)) (traps_in trap)
late_trap_may n late None h = tt
late_trap_may n late (Some t) h = rw (ap (λ es. last_len n es) (sym (append-nil (events_of late None))) ∙ last_len_answers n late []) h

asked_prefix : (post : Option ℕ) (len index : ℕ) (asked memory : List ℕ) (late : List Answer) (trap : Option Trap) → TrapsLate (length memory) trap → TailPrefix post len (event.Ask index asked memory ∷ events_of late trap)
asked_prefix post len index asked memory late trap h = record {
  more = ask_turn index asked (record { blocks = []; holds = false }) memory late [] [] ∷ [];
  returned = [];
  memory = [];
  prefix = event.Ask index asked memory ∷ events_of late None;
  rest = event.Resume [] [] ∷ event.Return [] [] ∷ posts post [];
  trap = traps_in trap;
  begins = ap (λ es. event.Ask index asked memory ∷ es) (append_assoc (events_of late None) (event.Resume [] [] ∷ []) (event.Return [] [] ∷ posts post []));
  tail_is = ap (λ es. event.Ask index asked memory ∷ es) (split_trap late trap);
  may_trap = late_trap_may (length memory) late trap h;
}

-- ---- an import

same_import : (o : Option Import) (a b : Import) → o ≡ Some a → o ≡ Some b → a ≡ b
same_import o a b h g = cc

none_some : (o : Option Import) (i : Import) → o ≡ None → o ≡ Some i → ⊥
none_some o i h g = cc

-- a builtin is an import, and takes one word
record ImportOf (callee : Callee) (index words : ℕ) : Type 0 where
  called : Import
  there : slice_get callee.imports index ≡ Some called
  takes : words ≡ import_words callee called

builtin_import : (callee : Callee) (o : Option Import) (b : Builtin) → option_and_then builtin_of o ≡ Some b → (i : Import) × (o ≡ Some i) × (import_words callee i ≡ 1)
builtin_import callee None b h = cc
builtin_import callee (Some (import.Host t p)) b h = cc
builtin_import callee (Some (import.ResourceNew t)) b h = (import.ResourceNew t, refl, refl)
builtin_import callee (Some (import.ResourceRep t)) b h = (import.ResourceRep t, refl, refl)
builtin_import callee (Some (import.ResourceDrop t)) b h = (import.ResourceDrop t, refl, refl)

builtin_words : (callee : Callee) (index : ℕ) (words : List ℕ) (b : Builtin) → IsAskOf callee index words b → ImportOf callee index (length words)
builtin_words callee index words b h = let (i, there, one) = builtin_import callee (slice_get callee.imports index) b h.known in record { called = i; there = there; takes = h.one ∙ sym one }

host_words_of : (callee : Callee) (index : ℕ) (words : List ℕ) (asked : Asked) → IsHostAsk callee index words asked → ImportOf callee index (length words)
host_words_of callee index words asked h = record {
  called = import.Host asked.ty asked.options;
  there = h.known;
  takes = h.count ∙ ap (λ o. host_words callee.types o) (sym h.func);
}

-- an ask is of a builtin or of a function of the host
not_both_kinds : (o : Option Import) (b : Builtin) (t p : ℕ) → option_and_then builtin_of o ≡ Some b → o ≡ Some (import.Host t p) → ⊥
not_both_kinds o b t p h g = let w : option_and_then builtin_of (Some (import.Host t p)) ≡ Some b = subst (λ k. option_and_then builtin_of k ≡ Some b) g h in cc

same_builtin : (o : Option Builtin) (a b : Builtin) → o ≡ Some a → o ≡ Some b → a ≡ b
same_builtin o a b h g = cc

module _ {T R : Type 0} (its : ReturnedValues R) (gives : Giving T) (lawful_forms : (n : ℕ) → IsLawful (gives.form n)) (callee : Callee) (limits : Limits) (Leaves : List ℕ → List ℕ → Type 0)
    (before after : Moment) (count len : ℕ) (served left : HostSide T) where
  trapped_tail : (guest : Seen) → len ≤ length after.bytes → Rose before.guest.traps after.guest.traps → count ≤ limits.turns → left ≡ served
      → IsTail its gives callee limits Leaves before after count len served left (Err (error.Fault fault.GuestTrap)) guest [] None (trap_event len ∷ [])
  trapped_tail guest longer rose few same = record {
    whole = tt;
    prefix = record { more = []; returned = []; memory = []; prefix = []; rest = event.Return [] [] ∷ posts callee.post []; trap = trap_event len ∷ []; begins = refl; tail_is = refl; may_trap = same_le len };
    no_resume = (tt, tt);
    no_start = (tt, tt);
    asking = ((tt, tt), refl, refl);
    grows = (same_le len, longer);
    asks = λ none. omega (arith, few);
    only_results = tt;
    posted = λ some. absurd (some (tt, tt));
    leaves = tt;
    returned = λ other none. (tt, tt);
    handles = inl (inl (refl, ap (λ s. s.ledger) same, inl (tt, tt), tt), kept_side served left same);
    cause = λ xs told. (rose, ends_after IsTrap xs (trap_event len ∷ []) tt);
    valid = λ lawful rest calm few right accepted. absurd (calm tt);
  }

  module _ (index : ℕ) (asked memory : List ℕ) (guest : Seen) (late : List Answer) (trap : Option Trap) (first : len ≤ length memory) (second : length memory ≤ length after.bytes) (traps_late : TrapsLate (length memory) trap) where
    abbrev tail : List Event
    tail = event.Ask index asked memory ∷ events_of late trap

    asked_tail : (e : Error) → (◌≢◌ {A = Result R Error} (Err e) (Err error.TurnsExhausted) → count + 1 ≤ limits.turns) → AskStops gives callee limits.fuel e index asked (moment guest memory) after late trap served left
        → ((xs : List Event) → asks_in xs ≡ count → RestCause its callee limits before after (xs ++ tail) tail e)
        → (AllLawful late → trap ≡ None → IsUnrefused e → count + 1 ≤ limits.turns → AcceptsAsk gives callee limits.fuel index asked memory served → e ≡ error.Fault fault.OutOfMemory)
        → IsTail its gives callee limits Leaves before after count len served left (Err e) guest late trap tail
    asked_tail e few stops cause excluded = record {
      whole = tt;
      prefix = asked_prefix callee.post len index asked memory late trap traps_late;
      no_resume = (tt, each_answer IsNoResume (λ c a. tt) (λ c n. tt) late trap);
      no_start = (tt, each_answer IsNoStart (λ c a. tt) (λ c n. tt) late trap);
      asking = refl;
      grows = (first, grows_request (length memory) (length after.bytes) late trap traps_late second);
      asks = λ other. one_more count (asks_in (events_of late trap)) limits.turns (asks_late late trap) (few other);
      only_results = tt;
      posted = λ some. absurd (some (tt, each_answer IsNoPost (λ c a. tt) (λ c n. tt) late trap));
      leaves = tt;
      returned = λ other none. (tt, each_answer _ (λ c a. tt) (λ c n. tt) late trap);
      handles = inr stops;
      cause = cause;
      valid = λ lawful rest calm within right accepted. excluded lawful (untrapped_late index asked memory late trap calm) rest (one_fewer count (asks_in (events_of late trap)) limits.turns within) accepted.0;
    }

    counted : late ≡ [] → trap ≡ None → (xs : List Event) → asks_in xs ≡ count → count ≡ limits.turns → asks_in (xs ++ tail) ≡ limits.turns + 1
    counted none quiet xs told all = asks_then xs tail ∙ turns_more (asks_in xs) (asks_in (events_of late trap)) limits.turns (told ∙ all) (asks_late late trap)

    exhausted_tail : count ≡ limits.turns → AskStops gives callee limits.fuel error.TurnsExhausted index asked (moment guest memory) after late trap served left
        → IsTail its gives callee limits Leaves before after count len served left (Err error.TurnsExhausted) guest late trap tail
    exhausted_tail all stops =
        asked_tail error.TurnsExhausted (λ none. absurd (none refl)) stops (λ xs told. (none_more late trap stops.1.0 stops.1.1, counted stops.1.0 stops.1.1 xs told all))
        (λ lawful quiet rest within accepted. absurd (more_than count limits.turns all within))

    -- the ask can be served
    builtin_excluded : (r : ResourceFault) → BuiltinStops callee index asked served left (error.ImportFault index (fault.Resource r)) → AcceptsAsk gives callee limits.fuel index asked memory served → ⊥
    builtin_excluded r h (inl (b, is, (answer, next, taken))) =
        answered_once h.why answer (ask_step callee.types h.called asked served.ledger) left.ledger next h.refused
        (subst (λ k. ask_step callee.types k asked served.ledger ≡ record { answer = Ok answer; after = next }) (same_builtin (builtin_at callee index) b h.called is.known h.is.known) taken)
    builtin_excluded r h (inr (a, ok)) = not_both_kinds (slice_get callee.imports index) h.called a.ty a.options h.is.known ok.is.known

    host_excluded : (e : Error) (a : Asked) → HostStops gives callee limits.fuel a index asked (moment guest memory) after late trap served left e → AllLawful late → trap ≡ None → IsUnrefused e
        → AcceptsAsk gives callee limits.fuel index asked memory served → e ≡ error.Fault fault.OutOfMemory
    host_excluded e a h lawful none few (inl (b, is, more)) = absurd (not_both_kinds (slice_get callee.imports index) b a.ty a.options is.known h.is.known)
    host_excluded e a h lawful none few (inr (b, ok)) =
        asked_excluded (ask_at gives index) (form_sound (gives.form index)) (form_lawful (gives.form index) (lawful_forms index)) gives.answers callee limits.fuel a index asked
        (moment guest memory) after late trap served left lawful none e h
        (subst (λ k. AcceptsHost gives callee limits.fuel k index asked memory served) (is_asked callee index asked a b h.is ok.is) ok) few

    fault_excluded : (n : ℕ) (f : Fault) → AskStops gives callee limits.fuel (error.ImportFault n f) index asked (moment guest memory) after late trap served left → AllLawful late → trap ≡ None → IsUnrefused (error.ImportFault n f)
        → AcceptsAsk gives callee limits.fuel index asked memory served → error.ImportFault n f ≡ error.Fault fault.OutOfMemory
    fault_excluded n f (same, inl (h, quiet)) lawful none few accepted = absurd (builtin_excluded h.why (subst (λ err. BuiltinStops callee index asked served left err) h.fault h) accepted)
    fault_excluded n f (same, inr (a, h)) lawful none few accepted = host_excluded (error.ImportFault n f) a h lawful none few accepted

    fault_import : (n : ℕ) (f : Fault) → AskStops gives callee limits.fuel (error.ImportFault n f) index asked (moment guest memory) after late trap served left → ImportOf callee index (length asked)
    fault_import n f (same, inl (h, quiet)) = builtin_words callee index asked h.called h.is
    fault_import n f (same, inr (a, h)) = host_words_of callee index asked a h.is

    import_accepted : AcceptsAsk gives callee limits.fuel index asked memory served → ImportOf callee index (length asked)
    import_accepted (inl (b, is, more)) = builtin_words callee index asked b is
    import_accepted (inr (a, ok)) = host_words_of callee index asked a ok.is

    unknown_excluded : slice_get callee.imports index ≡ None → AcceptsAsk gives callee limits.fuel index asked memory served → ⊥
    unknown_excluded none accepted = let of = import_accepted accepted in none_some (slice_get callee.imports index) of.called none of.there

    words_excluded : (called : Import) → slice_get callee.imports index ≡ Some called → ¬ (length asked ≡ import_words callee called) → AcceptsAsk gives callee limits.fuel index asked memory served → ⊥
    words_excluded called is other accepted =
        let of = import_accepted accepted in other (subst (λ k. length asked ≡ import_words callee k) (same_import (slice_get callee.imports index) of.called called of.there is) of.takes)

    no_builtin_trap : (n : ℕ) (f : Fault) → f ≡ fault.GuestTrap → BuiltinStops callee index asked served left (error.ImportFault n f) → ⊥
    no_builtin_trap n f trapped h = let w = subst (λ g. error.ImportFault n g ≡ error.ImportFault index (fault.Resource h.why)) trapped h.fault in cc

    trap_ends : (n : ℕ) (f : Fault) (xs : List Event) → AskStops gives callee limits.fuel (error.ImportFault n f) index asked (moment guest memory) after late trap served left → f ≡ fault.GuestTrap → EndsIn IsTrap (xs ++ tail)
    trap_ends n f xs (same, inl (h, quiet)) trapped = absurd (no_builtin_trap n f trapped h)
    trap_ends n f xs (same, inr (a, h)) trapped =
        let (t, is) = asked_traps (ask_at gives index) (form_sound (gives.form index)) gives.answers callee limits.fuel a index asked (moment guest memory) after late trap served left n
        (subst (λ g. HostStops gives callee limits.fuel a index asked (moment guest memory) after late trap served left (error.ImportFault n g)) trapped h) in
        ends_after IsTrap xs tail (ends_after IsTrap (event.Ask index asked memory ∷ []) (events_of late trap) (subst (λ o. EndsIn IsTrap (events_of late o)) (sym is) (ends_in_trap late t)))

    rises_of : (n : ℕ) (f : Fault) → f ≡ fault.GuestTrap → RisesAt (error.ImportFault n f) before after → Rose before.guest.traps after.guest.traps
    rises_of n f trapped rises = subst (λ g. RisesAt (error.ImportFault n g) before after) trapped rises

    stopped_tail : (e : Error) → count + 1 ≤ limits.turns → AskStops gives callee limits.fuel e index asked (moment guest memory) after late trap served left → RisesAt e before after → (e ≡ error.TurnsExhausted → ⊥)
        → IsTail its gives callee limits Leaves before after count len served left (Err e) guest late trap tail
    stopped_tail (error.UnknownImport n) few stops rises other =
        asked_tail (error.UnknownImport n) (λ none. few) stops (λ xs told. (sym stops.0, stops.1, none_more late trap stops.3.0 stops.3.1)) (λ lawful quiet rest within accepted. absurd (unknown_excluded stops.1 accepted))
    stopped_tail error.WrongWords few stops rises other =
        asked_tail error.WrongWords (λ none. few) stops (λ xs told. inr (stops.0, stops.1, stops.2, none_more late trap stops.4.0 stops.4.1))
        (λ lawful quiet rest within accepted. absurd (words_excluded stops.0 stops.1 stops.2 accepted))
    stopped_tail (error.ImportFault n f) few stops rises other =
        let of = fault_import n f stops in
        asked_tail (error.ImportFault n f) (λ none. few) stops (λ xs told. ((sym stops.0, (of.called, of.there, of.takes)), λ trapped. (rises_of n f trapped rises, trap_ends n f xs stops trapped)))
        (λ lawful quiet rest within accepted. fault_excluded n f stops lawful quiet rest accepted)
    stopped_tail (error.HostRefused n) few stops rises other =
        asked_tail (error.HostRefused n) (λ none. few) stops
        (λ xs told. (sym stops.0, refused_alone (ask_at gives index) (form_sound (gives.form index)) gives.answers callee limits.fuel stops.1.0 index asked (moment guest memory) after late trap served left n stops.1.1, (stops.1.0.ty, stops.1.0.options, stops.1.1.is.known)))
        (λ lawful quiet rest within accepted. host_excluded (error.HostRefused n) stops.1.0 stops.1.1 lawful quiet rest accepted)
    stopped_tail (error.Fault fault.OutOfMemory) few stops rises other = asked_tail (error.Fault fault.OutOfMemory) (λ none. few) stops (λ xs told. tt) (λ lawful quiet rest within accepted. refl)
    stopped_tail error.TurnsExhausted few stops rises other = absurd (other refl)
    stopped_tail e few stops rises other = absurd stops

  in_ask_rest : (e : Error) (guest : Seen) (late : List Answer) (trap : Option Trap) (tail : List Event) → count < limits.turns
      → StopsInAsk gives callee limits count len before after served left e guest late trap tail → (e ≡ error.TurnsExhausted → ⊥)
      → IsTail its gives callee limits Leaves before after count len served left (Err e) guest late trap tail
  in_ask_rest e guest late trap tail lt h other =
      subst (λ es. IsTail its gives callee limits Leaves before after count len served left (Err e) guest late trap es) (sym h.is)
      (stopped_tail h.index h.words h.memory guest late trap h.longer h.shorter h.traps_late e (omega (arith, lt)) h.stops h.rises other)

  -- however it stopped
  pub stopped_rest : (e : Error) (guest : Seen) (late : List Answer) (trap : Option Trap) (tail : List Event) → len ≤ length after.bytes → count ≤ limits.turns
      → Stopped gives callee limits count len before after served left (Err e) guest late trap tail
      → IsTail its gives callee limits Leaves before after count len served left (Err e) guest late trap tail
  stopped_rest (error.Fault fault.GuestTrap) guest late trap tail longer few (rose, are, (none, quiet, same)) =
      rw (none, quiet) (subst (λ es. IsTail its gives callee limits Leaves before after count len served left (Err (error.Fault fault.GuestTrap)) guest [] None es) (sym are) (trapped_tail guest longer rose few same))
  stopped_rest error.TurnsExhausted guest late trap tail longer few (all, h) =
      subst (λ es. IsTail its gives callee limits Leaves before after count len served left (Err error.TurnsExhausted) guest late trap es) (sym h.is)
      (exhausted_tail h.index h.words h.memory guest late trap h.longer h.shorter h.traps_late all h.stops)
  stopped_rest e guest late trap tail longer few h = in_ask_rest e guest late trap tail h.0 h.1 (λ q. cc)
