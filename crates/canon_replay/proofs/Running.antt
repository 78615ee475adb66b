-- The events of runs have a step behind each start and each resume, and memories that can be made.
use Rattle.std.proofs.Common.{List, None, Option, Some, [], arith, false, length, map, refl, subst, sym, true, ℕ, ◌++◌, ◌^◌, ◌∙◌, ◌∷◌, ◌≡◌, ◌≤◌}
use Rattle.canon_memory.specs.declared.event.Event.{Event}
use Rattle.canon_memory.specs.declared.event.Event.TheVariants as event
use Rattle.canon_lowering.specs.Lowering.{Answer, events_of}
use Rattle.canon_context.specs.declared.component.Component.{Component}
use Rattle.canon_func.specs.Runs.{AskTurn, Each, Grows, IsOneRun, IsRealloc, events_in, last_len, posts}
use Rattle.canon_replay_guest.specs.Fitting.{CanReplay, CanReplayAll, StepsFollow, stepped_length}
use Rattle.canon_replay_guest.specs.Replaying.{start_length}
use Rattle.canon_recording.specs.Fits.{AreRuns, callee_of_call}
use Rattle.canon_recording.specs.Recordings.{RecordedCall}
use Rattle.canon_replay.specs.Calls.{events_of_call}

-- ---- the length of memory

grows_to : (len last : ℕ) (events : List Event) → Grows len events last → len ≤ last
grows_to len last [] h = h
grows_to len last (event.Start f ws m ∷ events) (le, h) = let more = grows_to (length m) last events h in omega (arith, le, more)
grows_to len last (event.Ask i ws m ∷ events) (le, h) = let more = grows_to (length m) last events h in omega (arith, le, more)
grows_to len last (event.Resume ws m ∷ events) (le, h) = let more = grows_to (length m) last events h in omega (arith, le, more)
grows_to len last (event.Return ws m ∷ events) (le, h) = let more = grows_to (length m) last events h in omega (arith, le, more)
grows_to len last (event.Trap asked at ∷ events) (le, h) = grows_to len last events h
grows_to len last (event.Realloc o os al ns a ∷ events) h = grows_to len last events h
grows_to len last (event.Post f ws ∷ events) h = grows_to len last events h
grows_to len last (event.Dtor f r ∷ events) h = grows_to len last events h

-- from a shorter memory on they grow too
grows_sooner : (len more last : ℕ) (events : List Event) → len ≤ more → Grows more events last → Grows len events last
grows_sooner len more last [] le h = omega (arith, le, h)
grows_sooner len more last (event.Start f ws m ∷ events) le h = (omega (arith, le, h.0), h.1)
grows_sooner len more last (event.Ask i ws m ∷ events) le h = (omega (arith, le, h.0), h.1)
grows_sooner len more last (event.Resume ws m ∷ events) le h = (omega (arith, le, h.0), h.1)
grows_sooner len more last (event.Return ws m ∷ events) le h = (omega (arith, le, h.0), h.1)
grows_sooner len more last (event.Trap asked at ∷ events) le h = (omega (arith, le, h.0), grows_sooner len more last events le h.1)
grows_sooner len more last (event.Realloc o os al ns a ∷ events) le h = grows_sooner len more last events le h
grows_sooner len more last (event.Post f ws ∷ events) le h = grows_sooner len more last events le h
grows_sooner len more last (event.Dtor f r ∷ events) le h = grows_sooner len more last events le h

-- ---- from the start on

module _ (post : Option ℕ) (returned after : List ℕ) where
  abbrev returned_tail : List Event
  returned_tail = event.Return returned after ∷ posts post returned

  -- memory has the length of the returned one after these events
  record EndsAsReturned (len : ℕ) (events : List Event) : Type 0 where
    stepped : stepped_length len events ≡ length after
    last : last_len len events ≡ length after

  posts_follow : (p : Option ℕ) → StepsFollow false (length after) (posts p returned)
  posts_follow None = tt
  posts_follow (Some f) = tt

  posts_end : (p : Option ℕ) → (stepped_length (length after) (posts p returned) ≡ length after) × (last_len (length after) (posts p returned) ≡ length after)
  posts_end None = (refl, refl)
  posts_end (Some f) = (refl, refl)

  -- behind an ask: blocks that were asked for, a resume, and the rest
  answers_follow : (len : ℕ) (answers : List Answer) (words memory : List ℕ) (turns : List AskTurn) → (Grows len (events_in turns ++ returned_tail) (2 ^ 32) → StepsFollow true len (events_in turns ++ returned_tail))
      → Grows len ((events_of answers None ++ event.Resume words memory ∷ events_in turns) ++ returned_tail) (2 ^ 32) → StepsFollow false len ((events_of answers None ++ event.Resume words memory ∷ events_in turns) ++ returned_tail)
  answers_follow len [] words memory turns on (le, g) = on (grows_sooner len (length memory) (2 ^ 32) (events_in turns ++ returned_tail) le g)
  answers_follow len (x ∷ xs) words memory turns on g = answers_follow len xs words memory turns on g

  turns_follow : (len : ℕ) (turns : List AskTurn) → Grows len (events_in turns ++ returned_tail) (2 ^ 32) → StepsFollow true len (events_in turns ++ returned_tail)
  turns_follow len [] (le, h) = ((le, grows_to (length after) (2 ^ 32) (posts post returned) h), posts_follow post)
  turns_follow len (t ∷ turns) (le, h) = (
    (le, grows_to (length t.memory) (2 ^ 32) ((events_of t.answers None ++ event.Resume t.resumed_words t.resumed_memory ∷ events_in turns) ++ returned_tail) h),
    answers_follow (length t.memory) t.answers t.resumed_words t.resumed_memory turns (λ g. turns_follow (length t.memory) turns g) h,
  )

  answers_end : (len : ℕ) (answers : List Answer) (words memory : List ℕ) (turns : List AskTurn) → ((n : ℕ) → EndsAsReturned n (events_in turns ++ returned_tail))
      → EndsAsReturned len ((events_of answers None ++ event.Resume words memory ∷ events_in turns) ++ returned_tail)
  answers_end len [] words memory turns on = record { stepped = (on len).stepped; last = (on (length memory)).last }
  answers_end len (x ∷ xs) words memory turns on =
      let more = answers_end len xs words memory turns on in
      record { stepped = more.stepped; last = more.last }

  turns_end : (len : ℕ) (turns : List AskTurn) → EndsAsReturned len (events_in turns ++ returned_tail)
  turns_end len [] = record { stepped = (posts_end post).0; last = (posts_end post).1 }
  turns_end len (t ∷ turns) =
      let more = answers_end (length t.memory) t.answers t.resumed_words t.resumed_memory turns (λ n. turns_end n turns) in
      record { stepped = more.stepped; last = more.last }

  -- ---- the whole run

  record CanRun (len : ℕ) (events : List Event) : Type 0 where
    can : CanReplay len events
    ends : stepped_length (start_length events len) events ≡ last_len len events

  run_can : (func : ℕ) (words memory : List ℕ) (turns : List AskTurn) (len : ℕ) (reallocs : List Event) → Each IsRealloc reallocs → Grows len ((reallocs ++ event.Start func words memory ∷ events_in turns) ++ returned_tail) (2 ^ 32)
      → CanRun len ((reallocs ++ event.Start func words memory ∷ events_in turns) ++ returned_tail)
  run_can func words memory turns len [] only (le, g) = record {
    can = record { begins = tt; grows = (le, grows_to (length memory) (2 ^ 32) (events_in turns ++ returned_tail) g); follow = turns_follow (length memory) turns g };
    ends = (turns_end (length memory) turns).stepped ∙ sym (turns_end (length memory) turns).last;
  }
  run_can func words memory turns len (event.Realloc o os al ns a ∷ xs) (r, only) g =
      let more = run_can func words memory turns len xs only g in
      record { can = record { begins = tt; grows = more.can.grows; follow = more.can.follow }; ends = more.ends }
  run_can func words memory turns len (event.Start f ws m ∷ xs) (r, only) g = absurd r
  run_can func words memory turns len (event.Ask i ws m ∷ xs) (r, only) g = absurd r
  run_can func words memory turns len (event.Resume ws m ∷ xs) (r, only) g = absurd r
  run_can func words memory turns len (event.Return ws m ∷ xs) (r, only) g = absurd r
  run_can func words memory turns len (event.Post f ws ∷ xs) (r, only) g = absurd r
  run_can func words memory turns len (event.Dtor f rep ∷ xs) (r, only) g = absurd r
  run_can func words memory turns len (event.Trap asked at ∷ xs) (r, only) g = absurd r

run_has : (func : ℕ) (post : Option ℕ) (len : ℕ) (events : List Event) → IsOneRun func post events → Grows len events (2 ^ 32) → CanReplay len events × (stepped_length (start_length events len) events ≡ last_len len events)
run_has func post len events (words, memory, returned, after, run) g =
    let can = run_can post returned after func words memory run.turns len run.reallocs run.only_reallocs (subst (λ (es : List Event). Grows len es (2 ^ 32)) run.is g) in
    subst (λ (es : List Event). CanReplay len es × (stepped_length (start_length es len) es ≡ last_len len es)) (sym run.is) (can.can, can.ends)

pub runs_can : (c : Component) (len : ℕ) (calls : List RecordedCall) → AreRuns c len calls → CanReplayAll len (map events_of_call calls)
runs_can c len [] h = tt
runs_can c len (call ∷ calls) (run, runs) =
    let (can, ends) = run_has (callee_of_call c call).func (callee_of_call c call).post len call.events run.0 run.1 in
    (can, subst (λ (n : ℕ). CanReplayAll n (map events_of_call calls)) (sym ends) (runs_can c (last_len len call.events) calls runs))
