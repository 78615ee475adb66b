-- All calls of a recording.
use Rattle.std.proofs.Common.{All, List, Option, Some, [], ap, ap₂, arith, drop, length, map, refl, subst, suc, sym, zero, ℕ, ◌+◌, ◌++◌, ◌<◌, ◌∙◌, ◌∷◌, ◌≡◌}
use Rattle.std.proofs.lemmas.List.Elements.{All-cons, All-head, All-nil, All-tail}
use Rattle.std.specs.Prelude.{slice_get}
use Rattle.canon_memory.specs.declared.event.Event.{Event}
use Rattle.canon_memory.specs.declared.event.Event.TheVariants as event
use Rattle.canon_replay_guest.specs.Replaying.{call_events}
use Rattle.canon_context.specs.declared.component.Component.{Component}
use Rattle.canon_func.specs.Runs.{IsOneRun, events_in, last_len, posts}
use Rattle.canon_recording.proofs.Rows.{map_length}
use Rattle.canon_recording.specs.Fits.{AreRuns, IsRecordedCallOf}
use Rattle.canon_recording.specs.Recordings.{RecordedCall, exports_of, imports_of}
use Rattle.canon_replay.specs.Calls.{HasEvents, all_made, made_call_of, events_of_call, made_again, told_again, told_call}
use Rattle.canon_replay.specs.declared.again.Again.{Again}

-- ---- the calls that are made

pub get_first : {A : Type 0} (xs : List A) (k : ℕ) (y : A) (ys : List A) → drop k xs ≡ y ∷ ys → slice_get xs k ≡ Some y
get_first [] zero y ys e = cc
get_first [] (suc k) y ys e = cc
get_first (x ∷ xs) zero y ys e = cc
get_first (x ∷ xs) (suc k) y ys e = get_first xs k y ys e

pub drop_rest : {A : Type 0} (xs : List A) (k : ℕ) (y : A) (ys : List A) → drop k xs ≡ y ∷ ys → drop (k + 1) xs ≡ ys
drop_rest [] zero y ys e = cc
drop_rest [] (suc k) y ys e = cc
drop_rest (x ∷ xs) zero y ys e = cc
drop_rest (x ∷ xs) (suc k) y ys e = let f : suc k + 1 ≡ suc (k + 1) = omega arith in rw f (drop_rest xs k y ys e)

same_made : (recorded : List (List Event)) (k : ℕ) (a : Again) (call : RecordedCall) → told_again a ≡ told_call call → call_events recorded k ≡ call.events → made_again recorded k a ≡ made_call_of call
same_made recorded k a call e f =
    let export : a.export ≡ call.export = ap (λ x. x.0) e in
    let params : a.params.items ≡ call.params = ap (λ x. x.1.0) e in
    let results : a.results.items ≡ call.results = ap (λ x. x.1.1) e in
    rw export rw params rw results rw f refl

pub all_made_are : (recorded : List (List Event)) (k : ℕ) (agains : List Again) (calls : List RecordedCall) → map told_again agains ≡ map told_call calls → drop k recorded ≡ map events_of_call calls
    → all_made recorded k agains ≡ map made_call_of calls
all_made_are recorded k [] [] e f = refl
all_made_are recorded k [] (call ∷ calls) e f = absurd (omega (arith, ap length e))
all_made_are recorded k (a ∷ agains) [] e f = absurd (omega (arith, ap length e))
all_made_are recorded k (a ∷ agains) (call ∷ calls) e f =
    let first : told_again a ≡ told_call call = cc in
    let others : map told_again agains ≡ map told_call calls = cc in
    let events : call_events recorded k ≡ call.events = rw (get_first recorded k call.events (map events_of_call calls) f) refl in
    ap₂ (λ x xs. x ∷ xs) (same_made recorded k a call first events) (all_made_are recorded (k + 1) agains calls others (drop_rest recorded k call.events (map events_of_call calls) f))

pub as_many_made : (agains : List Again) (calls : List RecordedCall) → map told_again agains ≡ map told_call calls → length agains ≡ length calls
as_many_made agains calls e = sym (map_length told_again agains) ∙ (ap length e ∙ map_length told_call calls)

-- ---- what fits

pub known_again : (agains : List Again) (calls : List RecordedCall) (c : Component) → map told_again agains ≡ map told_call calls → All (IsRecordedCallOf (exports_of c) (imports_of c)) calls
    → All (λ (a : Again). a.export < length c.exports.items) agains
known_again [] calls c e are = All-nil (λ (a : Again). a.export < length c.exports.items)
known_again (a ∷ agains) [] c e are = absurd (omega (arith, ap length e))
known_again (a ∷ agains) (call ∷ calls) c e are =
    let first : told_again a ≡ told_call call = cc in
    let others : map told_again agains ≡ map told_call calls = cc in
    let export : a.export ≡ call.export = ap (λ x. x.0) first in
    All-cons (λ (a : Again). a.export < length c.exports.items) a agains
    (subst (λ (n : ℕ). n < length c.exports.items) (sym export) (All-head (IsRecordedCallOf (exports_of c) (imports_of c)) call calls are).its.known)
    (known_again agains calls c others (All-tail (IsRecordedCallOf (exports_of c) (imports_of c)) call calls are))

run_has : (func : ℕ) (post : Option ℕ) (events : List Event) → IsOneRun func post events → 0 < length events
run_has func post events (words, memory, returned, after, run) = subst (λ (es : List Event). 0 < length es) (sym run.is)
    (some_events run.reallocs (event.Start func words memory) (events_in run.turns) (event.Return returned after ∷ posts post returned))
  where
    some_events : (xs : List Event) (e : Event) (ys zs : List Event) → 0 < length ((xs ++ e ∷ ys) ++ zs)
    some_events [] e ys zs = omega arith
    some_events (x ∷ xs) e ys zs = omega arith

pub events_fit : (c : Component) (len : ℕ) (calls : List RecordedCall) → All (IsRecordedCallOf (exports_of c) (imports_of c)) calls → AreRuns c len calls → All HasEvents (map events_of_call calls)
events_fit c len [] are runs = All-nil HasEvents
events_fit c len (call ∷ calls) are (run, runs) =
    All-cons HasEvents call.events (map events_of_call calls) (run_has _ _ call.events run.0, (All-head (IsRecordedCallOf (exports_of c) (imports_of c)) call calls are).few)
    (events_fit c (last_len len call.events) calls (All-tail (IsRecordedCallOf (exports_of c) (imports_of c)) call calls are) runs)
