-- What is taken of a script that was played are runs of its functions, in memories that don't become shorter.
use Rattle.std.proofs.Common.{All, Bool, Err, List, None, Ok, Option, Result, Some, [], ap, arith, false, inl, inr, length, refl, subst, suc, sym, true, zero, ℕ, ◌<◌, ◌^◌, ◌∙◌, ◌++◌, ◌∷◌, ◌≡◌, ◌≤◌, ◌⊎◌}
use Rattle.std.proofs.lemmas.List.Elements.{All-head, All-tail}
use Rattle.std.specs.Prelude.{OnOk}
use Rattle.canon_memory.specs.declared.event.Event.{Event}
use Rattle.canon_memory.specs.declared.event.Event.TheVariants as event
use Rattle.canon_resources.specs.Held.{Any}
use Rattle.canon_value_parts.specs.Resources.{all_resources}
use Rattle.canon_context.specs.declared.component.Component.{Component}
use Rattle.canon_val.specs.declared.val.Val.{Val}
use Rattle.canon_func.specs.Asks.{Limits, allowed}
use Rattle.canon_func.specs.Call.{call_refusal}
use Rattle.canon_func.specs.Runs.{Grows, IsOneRun, last_len}
use Rattle.canon_func.specs.Stores.{Callee}
use Rattle.canon_func.specs.declared.error.Error.{Error}
use Rattle.canon_script.specs.Imports.{HostAnswer}
use Rattle.canon_script.specs.Script.{Play, ScriptCall, ScriptItem, call_item, drop_item, new_item, typed_item}
use Rattle.canon_transcript.specs.declared.transcript.Answer.{Answer}
use Rattle.canon_transcript.specs.declared.transcript.Answer.TheVariants as answer
use Rattle.canon_transcript.specs.declared.transcript.Record.{Record}
use Rattle.canon_player.specs.Session.{Called, Happened, IsPlayed, Plays, Session, State, Tells, WasCalledWith, answer_values, at_first, played_callee, skips}
use Rattle.canon_player.specs.Stores.{callee_at}
use Rattle.canon_player.proofs.Components.{export_count, scripted_callee}
use Rattle.canon_recording.specs.Fits.{AreRuns, FitsComponent, IsRunFrom, callee_of_call}
use Rattle.canon_recording.specs.Recordings.{RecordedCall, exports_of, imports_of, recording}
use Rattle.canon_replay_cli.specs.Recorded.{IsRecordingTooLong}
use Rattle.canon_replay_cli.specs.Scripts.{IsOfScript}
use Rattle.canon_replay_cli.specs.Taken.{IsCallOfRecord, IsOkAnswer, IsTakenOf, TakesCalls}
use Rattle.canon_replay_cli.proofs.KeptCalls.{IsShortCall, MemoryFits, counted_calls, short_calls}

-- ---- the length of memory

-- Memory went on from one length, and no event has a memory of more bytes than these: so it does from a smaller length, up to so many bytes.
grows_up_to : (most len near last : ℕ) (events : List Event) → len ≤ near → len ≤ most → All (MemoryFits most) events → Grows near events last
    → Grows len events most × ((last_len len events ≤ last) × (last_len len events ≤ most))
grows_up_to most len near last [] less small fit grows = (small, (omega (arith, less, grows), small))
grows_up_to most len near last (event.Start func words memory ∷ events) less small fit (longer, grows) =
    let (goes, ends) = grows_up_to most (length memory) (length memory) last events (omega arith) (All-head (MemoryFits most) (event.Start func words memory) events fit)
    (All-tail (MemoryFits most) (event.Start func words memory) events fit) grows in
    ((omega (arith, less, longer), goes), ends)
grows_up_to most len near last (event.Ask index words memory ∷ events) less small fit (longer, grows) =
    let (goes, ends) = grows_up_to most (length memory) (length memory) last events (omega arith) (All-head (MemoryFits most) (event.Ask index words memory) events fit)
    (All-tail (MemoryFits most) (event.Ask index words memory) events fit) grows in
    ((omega (arith, less, longer), goes), ends)
grows_up_to most len near last (event.Resume words memory ∷ events) less small fit (longer, grows) =
    let (goes, ends) = grows_up_to most (length memory) (length memory) last events (omega arith) (All-head (MemoryFits most) (event.Resume words memory) events fit)
    (All-tail (MemoryFits most) (event.Resume words memory) events fit) grows in
    ((omega (arith, less, longer), goes), ends)
grows_up_to most len near last (event.Return words memory ∷ events) less small fit (longer, grows) =
    let (goes, ends) = grows_up_to most (length memory) (length memory) last events (omega arith) (All-head (MemoryFits most) (event.Return words memory) events fit)
    (All-tail (MemoryFits most) (event.Return words memory) events fit) grows in
    ((omega (arith, less, longer), goes), ends)
grows_up_to most len near last (event.Realloc old old_size align new_size given ∷ events) less small fit grows =
    grows_up_to most len near last events less small (All-tail (MemoryFits most) (event.Realloc old old_size align new_size given) events fit) grows
grows_up_to most len near last (event.Post func words ∷ events) less small fit grows =
    grows_up_to most len near last events less small (All-tail (MemoryFits most) (event.Post func words) events fit) grows
grows_up_to most len near last (event.Dtor func rep ∷ events) less small fit grows =
    grows_up_to most len near last events less small (All-tail (MemoryFits most) (event.Dtor func rep) events fit) grows
grows_up_to most len near last (event.Trap asked at ∷ events) less small fit (longer, grows) =
    let (goes, ends) = grows_up_to most len near last events less small (All-tail (MemoryFits most) (event.Trap asked at) events fit) grows in
    ((omega (arith, less, longer), goes), ends)

-- ---- a call that answered Ok was made

on_ok : {R E : Type 0} (result : Result R E) (P : Type 0) (x : R) → result ≡ Ok x → OnOk result P → P
on_ok result P x e h = subst (λ r. OnOk r P) e h

ended_ok : {R : Type 0} (Told : R → List Val → Type 0) (ended : Result R Error) (a : Answer) → Tells Told ended a → IsOkAnswer a → (x : R) × (ended ≡ Ok x)
ended_ok Told (Ok x) a h ok = (x, refl)
ended_ok Told (Err e) (answer.Ok results) h ok = absurd h
ended_ok Told (Err e) (answer.Err f) h ok = absurd ok
ended_ok Told (Err e) answer.Typecheck h ok = absurd ok
ended_ok Told (Err e) answer.Skipped h ok = absurd ok

module _ (callees : ℕ → Callee) (limits : Limits) (answers : List (List HostAnswer)) (a : ScriptCall) (list : List Any) (before after : State) (r : Record) (ok : IsOkAnswer r.answer) where
  unrefused_call : (refusal : Option Error) → Called (callees a.func) limits answers a list before after r refusal → WasCalledWith (callees a.func) limits answers a list before after r
  unrefused_call (Some e) h = absurd (subst IsOkAnswer h.0 ok)
  unrefused_call None h = h

  unskipped_call : (skipped : Bool) → Happened skipped callees limits answers (call_item a) list before after r → WasCalledWith (callees a.func) limits answers a list before after r
  unskipped_call true h = absurd (subst IsOkAnswer h.0 ok)
  unskipped_call false h = unrefused_call (call_refusal (callees a.func) (length a.params) a.slots before.trapped) h

  -- its events are a run, from one memory to the other
  made_run : IsPlayed callees limits answers (call_item a) list before after r → IsOneRun (callees a.func).func (callees a.func).post r.events × Grows (length before.memory) r.events (length after.memory)
  made_run played =
      let was = unskipped_call (skips (call_item a) list before) played.happened in
      let (x, e) = ended_ok _ was.called.ended r.answer was.called.told ok in
      (on_ok was.called.ended _ x e was.called.called.one_run, was.called.called.grows)

-- ---- one call after another

-- the events are a run of a function, from a memory of `len` bytes, and leave one of at most `last`
abbrev RunsUpTo : Callee → ℕ → ℕ → List Event → Type 0
RunsUpTo callee len last events = (IsOneRun callee.func callee.post events × Grows len events (2 ^ 32)) × ((last_len len events ≤ last) × (last_len len events ≤ 2 ^ 32))

module _ (play : Play) (c : Component) (is : IsOfScript play c) (told : length play.posts ≤ length play.types.funcs) where
  callee_is : (a : ScriptCall) (call : RecordedCall) → call.export ≡ a.func → call.export < length c.exports.items → callee_of_call c call ≡ played_callee play a.func
  callee_is a call e known =
      let count : length c.exports.items ≡ length play.posts = export_count play.types play.encoding play.posts play.imports c is in
      ap (callee_at c) e ∙ scripted_callee play c is told a.func (omega (arith, known, sym e, count))

  taken_run : (a : ScriptCall) (list : List Any) (before after : State) (r : Record) (call : RecordedCall) (len : ℕ)
      → IsPlayed (played_callee play) (allowed play.fuel play.turns) play.answers (call_item a) list before after r → IsOkAnswer r.answer → IsCallOfRecord a r call
      → IsShortCall (exports_of c) (imports_of c) (2 ^ 32) call → len ≤ length before.memory → len ≤ 2 ^ 32 → RunsUpTo (callee_of_call c call) len (length after.memory) call.events
  taken_run a list before after r call len played ok of short less small =
      let (run, grows) = made_run (played_callee play) (allowed play.fuel play.turns) play.answers a list before after r ok played in
      let fit = subst (All (MemoryFits (2 ^ 32))) of.events short.1 in
      let (goes, ends) = grows_up_to (2 ^ 32) len (length before.memory) (length after.memory) r.events less small fit grows in
      subst (λ (callee : Callee). RunsUpTo callee len (length after.memory) call.events) (sym (callee_is a call of.export short.0.its.known))
      (subst (RunsUpTo (played_callee play a.func) len (length after.memory)) (sym of.events) ((run, goes), ends))

  taken_runs : (items : List ScriptItem) (list : List Any) (before : State) (records : List Record) (calls : List RecordedCall) (len : ℕ)
      → Plays (played_callee play) (allowed play.fuel play.turns) play.answers items list before records → TakesCalls items records calls
      → All (IsShortCall (exports_of c) (imports_of c) (2 ^ 32)) calls → len ≤ length before.memory → len ≤ 2 ^ 32 → AreRuns c len calls
  taken_runs [] list before records calls len plays takes short less small = subst (AreRuns c len) (sym takes) tt
  taken_runs (i ∷ items) list before [] calls len plays takes short less small = absurd plays
  taken_runs (i ∷ items) list before (r ∷ records) [] len plays takes short less small = tt
  taken_runs (call_item a ∷ items) list before (r ∷ records) (call ∷ calls) len (after, played, plays) (kept, of, takes) short less small =
      let this = All-head (IsShortCall (exports_of c) (imports_of c) (2 ^ 32)) call calls short in
      let (run, ends) = taken_run a list before after r call len played kept.1 of this less small in (
        run,
        taken_runs items (list ++ all_resources (answer_values r.answer)) after records calls (last_len len call.events) plays takes
            (All-tail (IsShortCall (exports_of c) (imports_of c) (2 ^ 32)) call calls short) ends.0 ends.1,
      )
  taken_runs (typed_item a ∷ items) list before (r ∷ records) (call ∷ calls) len plays (kept, of, takes) short less small = absurd kept
  taken_runs (new_item n ∷ items) list before (r ∷ records) (call ∷ calls) len plays (kept, of, takes) short less small = absurd kept
  taken_runs (drop_item d ∷ items) list before (r ∷ records) (call ∷ calls) len plays (kept, of, takes) short less small = absurd kept

  module _ (records : List Record) (session : Session play records) (calls : List RecordedCall) (takes : TakesCalls play.items records calls) where
    -- what has few enough bytes is a recording of the component
    short_fits : (bs : List ℕ) → (recording c).writes calls bs → length bs ≤ 2 ^ 30 → FitsComponent c calls
    short_fits bs written short =
        let kept = short_calls (exports_of c) (imports_of c) (2 ^ 32) calls bs written (omega (arith, short)) in
        record {
          few = counted_calls (exports_of c) (imports_of c) (2 ^ 32) calls bs written;
          are = λ k d lt. (kept k d lt).0;
          runs = taken_runs play.items [] (at_first play) records calls 0 session takes kept (omega arith) (omega arith);
        }

    short_or_long : (n m : ℕ) → (n ≤ m) ⊎ (m < n)
    short_or_long zero m = inl (omega arith)
    short_or_long (suc n) zero = inr (omega arith)
    short_or_long (suc n) (suc m) = elim (short_or_long n m) as (λ _. (suc n ≤ suc m) ⊎ (suc m < suc n)) [ inl h ↦ inl (omega (arith, h)) | inr h ↦ inr (omega (arith, h)) ]

    long_where : (bs : List ℕ) → (recording c).writes calls bs → ¬ FitsComponent c calls → (length bs ≤ 2 ^ 30) ⊎ (2 ^ 30 < length bs) → 2 ^ 30 < length bs
    long_where bs written unfit (inl short) = absurd (unfit (short_fits bs written short))
    long_where bs written unfit (inr long) = long

    -- what is no recording of it has too many bytes
    pub unwritten_is_long : (¬ FitsComponent c calls) ⊎ IsRecordingTooLong c calls → IsRecordingTooLong c calls
    unwritten_is_long (inl unfit) = λ bs written. long_where bs written unfit (short_or_long (length bs) (2 ^ 30))
    unwritten_is_long (inr long) = long
