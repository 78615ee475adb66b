-- A recorded call that is made again: it isn't refused before the guest is entered, and isn't told to differ.
use Rattle.std.proofs.Common.{All, Bool, Err, List, None, Ok, Option, Result, Some, [], ap, arith, drop, false, inl, inr, length, refl, subst, suc, sym, take, true, zero, ℕ, ◌++◌, ◌<◌, ◌∙◌, ◌∷◌, ◌≡◌, ◌≤◌, ◌⊎◌}
use Rattle.std.proofs.lemmas.Bool.{eq-eqb}
use Rattle.std.proofs.lemmas.List.Elements.{All-head, All-tail}
use Rattle.std.specs.Prelude.{IfSome, IsSome, not, slice_get, ◌&&◌, ◌==◌, ◌≢◌}
use Rattle.canon_context.specs.Component.{IsComponent, IsInside}
use Rattle.canon_context.specs.Core.{guest_of, moment_of}
use Rattle.canon_context.specs.declared.component.Component.{Component}
use Rattle.canon_context.specs.declared.component.Export.{Export}
use Rattle.canon_func.specs.Call.{LivesUntil, call_refusal}
use Rattle.canon_func.specs.Runs.{Each, OnStart}
use Rattle.canon_func.specs.Stores.{Callee, callee_in, callee_of, results_in, type_in}
use Rattle.canon_func.specs.declared.error.Error.{Error}
use Rattle.canon_host.specs.HostSide.{LoggedEntry}
use Rattle.canon_imports.specs.Imports.{entries_of}
use Rattle.canon_memory.specs.declared.event.Event.{Event}
use Rattle.canon_model.specs.Flat.{AreWords}
use Rattle.canon_model.specs.Shape.{member_count}
use Rattle.canon_plan.specs.NoHandle.{HaveNoHandle}
use Rattle.canon_recording.specs.Fits.{callee_of_call}
use Rattle.canon_recording.specs.Recordings.{RecordedCall, ServedAsk}
use Rattle.canon_replay.proofs.Accepting.{marks_lawful}
use Rattle.canon_replay.proofs.Answered.{HasPlainImports}
use Rattle.canon_replay.proofs.AskedRuns.{AskedRun}
use Rattle.canon_replay.proofs.Behind.{IsNoTrap}
use Rattle.canon_replay.specs.Calls.{AnswersOtherwise, CallDiffers, DepartsAt, EndsOtherwise, IsNotEntered, IsNotShort, LeavesAt, WasMadeAgain, made_call_of, replay_host, results_shape_in}
use Rattle.canon_replay.specs.Faithful.{AreRecordedAs, OnResume}
use Rattle.canon_replay.specs.Stores.{JournaledReplays, ReplayStore, asks_in_store, guest_in_store, journaled_seen, named_export}
use Rattle.canon_replay_guest.specs.Passing.{AreAlike}
use Rattle.canon_replay_guest.specs.Replaying.{passed_events}
use Rattle.canon_types.proofs.Measures.{count_members}
use Rattle.canon_types.specs.Refusal.{first_error}
use Rattle.canon_types.specs.Table.{TypeTable, types_of}
use Rattle.canon_types.specs.declared.types.TypeFunc.{TypeFunc}
use Rattle.canon_val.specs.declared.val.Val.{Val}
use Rattle.canon_func.specs.declared.error.Error.TheVariants as error
use Rattle.canon_replay_guest.specs.declared.stop.Stop.TheVariants as stop
use Rattle.canon_replay.proofs.Alongside.{ends_ok, follows_all, leaves_nowhere, same_results}
use Rattle.canon_host.specs.HostSide.{Answering}

-- ---- before the guest is entered

refused_not : {A : Type 0} (x : A) → ¬ (Some x ≡ None)
refused_not x e = cc

refusal_none : (a b async trapped : Bool) → first_error ((not (a && b), error.WrongCount) ∷ (async, error.AsyncLifted) ∷ (trapped, error.CannotEnterComponent) ∷ []) ≡ None → (a ≡ true) × (async ≡ false)
refusal_none true true false trapped e = (refl, refl)
refusal_none true true true trapped e = absurd (refused_not error.AsyncLifted e)
refusal_none true false async trapped e = absurd (refused_not error.WrongCount e)
refusal_none false b async trapped e = absurd (refused_not error.WrongCount e)

enters : (callee : Callee) (params slots other : ℕ) (trapped now : Bool) → call_refusal callee params slots trapped ≡ None → other ≡ member_count callee.results → now ≡ false → call_refusal callee params other now ≡ None
enters callee params slots other trapped now e same untrapped =
    let (counted, sync) = refusal_none (params == member_count callee.params) (slots == member_count callee.results) callee.async_ trapped e in
    rw counted rw (eq-eqb other (member_count callee.results) same) rw sync rw untrapped refl

get_there : {A : Type 0} (xs : List A) (i : ℕ) → i < length xs → slice_get xs i ≢ None
get_there [] i lt e = omega (arith, lt)
get_there (x ∷ xs) zero lt e = refused_not x e
get_there (x ∷ xs) (suc i) lt e = get_there xs i (omega (arith, lt)) e

-- the type of an export is known
known_type : (c : Component) (exports : List Export) (k : ℕ) → k < length exports → All (IsInside c) exports → type_in c (slice_get exports k) ≢ None
known_type c [] k lt all e = omega (arith, lt)
known_type c (x ∷ xs) zero lt all e = get_there c.types.types.funcs x.ty (All-head (IsInside c) x xs all).func e
known_type c (x ∷ xs) (suc k) lt all e = known_type c xs k (omega (arith, lt)) (All-tail (IsInside c) x xs all) e

slots_counted : (t : TypeTable) (slots : ℕ) (o : Option TypeFunc) → IfSome o (λ f. slots ≡ length (types_of t f.results)) → o ≢ None → slots ≡ member_count (results_in t o)
slots_counted t slots None h known = absurd (known refl)
slots_counted t slots (Some f) h known = h ∙ sym (count_members t (types_of t f.results))

slots_are : (c : Component) (slots : ℕ) (o : Option Export) → IfSome (type_in c o) (λ f. slots ≡ length (types_of c.types.types f.results)) → type_in c o ≢ None → slots ≡ member_count (callee_in c o).results
slots_are c slots None h known = absurd (known refl)
slots_are c slots (Some e) h known = slots_counted c.types.types slots (slice_get c.types.types.funcs e.ty) h known

nothing_refused : (o : Option Error) → o ≡ None → ¬ IsSome o
nothing_refused None e h = cc
nothing_refused (Some x) e h = refused_not x e

-- ---- the same call, made again

-- the asks that were answered
abbrev pub answered_asks : ReplayStore → List LoggedEntry
answered_asks store = entries_of store.imports.lines.items

-- What is known of a recorded call, where the log before it was this and these asks are recorded: its run, and words of 64 bits.
pub record IsCallRecorded {U : Type 0} (answers_so : Answering U) (callee : Callee) (fuel turns : ℕ) (before : List LoggedEntry) (served : List ServedAsk) (call : RecordedCall) : Type 0 where
  pub run : AskedRun answers_so callee fuel turns call.params call.results before call.events
  pub logged : AreRecordedAs run.gained served
  pub fit : Each (OnStart (λ words memory. AreWords words)) call.events
  pub resumed : Each (OnResume (λ words memory. AreWords words)) call.events

pub callee_same : (b c : Component) (e k : ℕ) → b ≡ c → e ≡ k → callee_in b (slice_get b.exports.items e) ≡ callee_in c (slice_get c.exports.items k)
callee_same b c e k p q = ap (λ (x : Component). callee_in x (slice_get x.exports.items e)) p ∙ ap (λ (i : ℕ). callee_in c (slice_get c.exports.items i)) q

module _ (c : Component) (call : RecordedCall) (before : ReplayStore) (component : before.core.component ≡ c) (untrapped : before.trapped ≡ false) where
  abbrev again_callee : Callee
  again_callee = callee_of before (named_export before call.export)

  again_callee_is : callee_of_call c call ≡ again_callee
  again_callee_is = sym (callee_same before.core.component c call.export call.export component refl)

  is_entered : (slots : ℕ) (trapped : Bool) → IsComponent c → call.export < length c.exports.items → call_refusal (callee_of_call c call) (length call.params) slots trapped ≡ None → ¬ IsNotEntered (made_call_of call) before
  is_entered slots trapped sound known entered (others, counted, refused) =
      let in_c : IfSome (type_in c (slice_get c.exports.items call.export)) (λ f. others ≡ length (types_of c.types.types f.results)) =
      subst (λ (x : Component). IfSome (type_in x (slice_get x.exports.items call.export)) (λ f. others ≡ length (types_of x.types.types f.results))) component counted in
      let count : others ≡ member_count (callee_of_call c call).results = slots_are c others (slice_get c.exports.items call.export) in_c (known_type c c.exports.items call.export known sound.0) in
      nothing_refused (call_refusal again_callee (length call.params) others before.trapped)
      (subst (λ (x : Callee). call_refusal x (length call.params) others before.trapped ≡ None) again_callee_is (enters (callee_of_call c call) (length call.params) slots others trapped before.trapped entered count untrapped)) refused

  -- where the asks that are left are those of this call, and more
  module _ {U : Type 0} (answers_so : Answering U) (others : List LoggedEntry) (served : List ServedAsk) (w : IsCallRecorded answers_so (callee_of_call c call) before.core.fuel before.turns others served call)
      (plain : HaveNoHandle (callee_of_call c call).params × HaveNoHandle (callee_of_call c call).results) (imports : HasPlainImports (callee_of_call c call)) (calm : Each IsNoTrap call.events) (more : List ServedAsk)
      (next : drop (length (answered_asks before)) (asks_in_store before) ≡ served ++ more) where
    again : IsCallRecorded answers_so again_callee before.core.fuel before.turns others served call
    again = subst (λ (x : Callee). IsCallRecorded answers_so x before.core.fuel before.turns others served call) again_callee_is w

    plain_params : HaveNoHandle again_callee.params
    plain_params = subst (λ (x : Callee). HaveNoHandle x.params) again_callee_is plain.0

    plain_results : HaveNoHandle again_callee.results
    plain_results = subst (λ (x : Callee). HaveNoHandle x.results) again_callee_is plain.1

    again_imports : HasPlainImports again_callee
    again_imports = subst HasPlainImports again_callee_is imports

    module _ (place : ℕ) (after : ReplayStore) (results : List Val) (events : List Event) where
      ends_so : (result : Result (Unit {0}) Error) → WasMadeAgain (made_call_of call) before after result results events → IsNotShort result → AreAlike events (take place call.events)
          → ¬ AnswersOtherwise place (made_call_of call) before results result
      ends_so (Err e) made short alike otherwise = short (ap (λ (x : Error). Err x)
          (ends_ok answers_so again_callee before.core.fuel before.turns call.params call.results others call.events again.run served again.logged again.fit again.resumed plain_params plain_results again_imports
          (asks_in_store before) (LivesUntil {U = Unit {0}} journaled_seen JournaledReplays (guest_of before.core) (guest_of after.core) (Err e)) (λ m k. k ≡ m) (moment_of journaled_seen before.core) (moment_of journaled_seen after.core)
          (replay_host before) (replay_host after) (answered_asks before) refl more next (Err e) results events made.is (marks_lawful (passed_events (guest_in_store after))) calm place alike))
      ends_so (Ok x) made short alike (inl less) =
          let all = follows_all answers_so again_callee before.core.fuel before.turns call.params call.results others call.events again.run served again.logged again.fit again.resumed plain_params plain_results again_imports
          (asks_in_store before) (LivesUntil {U = Unit {0}} journaled_seen JournaledReplays (guest_of before.core) (guest_of after.core) (Ok x)) (λ m k. k ≡ m) (moment_of journaled_seen before.core) (moment_of journaled_seen after.core)
          (replay_host before) (replay_host after) (answered_asks before) refl more next (Ok x) results events made.is (marks_lawful (passed_events (guest_in_store after))) calm place alike refl in
          omega (arith, less, all)
      ends_so (Ok x) made short alike (inr (other, tuple)) =
          same_results answers_so again_callee before.core.fuel before.turns call.params call.results others call.events again.run served again.logged again.fit again.resumed plain_params plain_results again_imports
          (asks_in_store before) (LivesUntil {U = Unit {0}} journaled_seen JournaledReplays (guest_of before.core) (guest_of after.core) (Ok x)) (λ m k. k ≡ m) (moment_of journaled_seen before.core) (moment_of journaled_seen after.core)
          (replay_host before) (replay_host after) (answered_asks before) refl more next (Ok x) results events made.is (marks_lawful (passed_events (guest_in_store after))) calm place alike refl
          (results_shape_in before.core.component.types.types (type_in before.core.component (slice_get before.core.component.exports.items call.export))) tuple other

      leaves_so : (result : Result (Unit {0}) Error) → WasMadeAgain (made_call_of call) before after result results events → place ≤ length call.events → ¬ LeavesAt stop.Differs place (made_call_of call) before after events
      leaves_so result made le l =
          leaves_nowhere answers_so again_callee before.core.fuel before.turns call.params call.results others call.events again.run served again.logged again.fit again.resumed plain_params plain_results again_imports
          (asks_in_store before) (LivesUntil {U = Unit {0}} journaled_seen JournaledReplays (guest_of before.core) (guest_of after.core) result) (λ m k. k ≡ m) (moment_of journaled_seen before.core) (moment_of journaled_seen after.core)
          (replay_host before) (replay_host after) (answered_asks before) refl more next result results events made.is place (guest_in_store before).live (length after.core.memory) le l

    pub differs_nowhere : (slots : ℕ) (trapped : Bool) → IsComponent c → call.export < length c.exports.items → call_refusal (callee_of_call c call) (length call.params) slots trapped ≡ None → (place : ℕ) → ¬ CallDiffers place (made_call_of call) before
    differs_nowhere slots trapped sound known entered place (le, how) = by how
      where
        by : ¬ (((place ≡ 0) × IsNotEntered (made_call_of call) before)
            ⊎ DepartsAt (λ after results result events. LeavesAt stop.Differs place (made_call_of call) before after events ⊎ EndsOtherwise place (made_call_of call) before results result events) (made_call_of call) before)
        by (inl (first, out)) = is_entered slots trapped sound known entered out
        by (inr (after, result, results, events, made, short, inl l)) = leaves_so place after results events result made le l
        by (inr (after, result, results, events, made, short, inr (alike, otherwise))) = ends_so place after results events result made short alike otherwise
