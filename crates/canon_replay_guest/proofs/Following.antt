-- From before a call on, a guest that replays follows what is recorded of it, or it is told where it doesn't.
use Rattle.std.proofs.Common.{List, None, Option, Some, [], append-nil, append_assoc, ap, ap₂, arith, flat_map, inl, inr, length, refl, slice_get, subst, suc, sym, take, zero, ℕ, ◌+◌, ◌++◌, ◌<◌, ◌≡◌, ◌≢◌, ◌≤◌, ◌∙◌, ◌∷◌, ◌⊎◌, ⊎_elim}
use Rattle.std.proofs.lemmas.List.{append_cancel_left}
use Rattle.std.proofs.lemmas.Option.{slice_get_past}
use Rattle.canon_model.specs.Memory.{Block}
use Rattle.canon_model.specs.Requests.{Call}
use Rattle.canon_memory.specs.declared.event.Event.{Event}
use Rattle.canon_memory.specs.declared.event.Event.TheVariants as event
use Rattle.canon_memory.specs.declared.guest.Step.{Step}
use Rattle.canon_memory.specs.Guest.{GuestIn}
use Rattle.canon_memory.specs.Journal.{answer_event, step_event}
use Rattle.canon_memory.specs.Watch.{along_both, live_along, relisted}
use Rattle.canon_memory.proofs.Watch.{after_step}
use Rattle.canon_replay_guest.specs.Following.{Follows, InCall, IsBefore, IsLeftBy, IsOfRequest, IsPassedCount, Leaves, MovesFollow, Overruns, TrapsInCall}
use Rattle.canon_replay_guest.specs.Moves.{BeginsRequest, Chain, EndsItself, GuestRequest, IsOtherRequest, IsReason, LetsGo, ReplayMoves, Replays, RequestOutcome, answered, destroys, ended, outcome_events, posts, reallocates, request_told, resumes, starts, stepped, to_length, trap_told, trapped}
use Rattle.canon_replay_guest.specs.Passing.{AreAlike, IsUntrapped, PassesRecorded}
use Rattle.canon_replay_guest.specs.Replaying.{IsOpened, Replaying, call_events, events_now, events_of_calls, next_event, passed_events, stopped_for}
use Rattle.canon_replay_guest.specs.declared.stop.Stop.{Stop}
use Rattle.canon_replay_guest.specs.declared.stop.Stop.TheVariants as stop
use Rattle.canon_replay_guest.proofs.Passing.{Kept, alike_then, does_pass, events_taken, kept_itself, opened_kept, take_whole}

-- ---- the event of a request

pub record Made (q : GuestRequest) (events : List Event) : Type 0 where
  pub made : Event
  pub rest : List Event
  pub is : events ≡ made ∷ rest
  pub of : IsOfRequest made q

made_by : (q : GuestRequest) (m : List ℕ) (more : List Event) → LetsGo q ⊎ EndsItself q → Made q (request_told q m ++ more)
made_by (starts f ws) m more w = record { made = event.Start f ws m; rest = more; is = refl; of = (refl, refl) }
made_by (resumes ws) m more w = record { made = event.Resume ws m; rest = more; is = refl; of = refl }
made_by (reallocates c) m more (inl l) = absurd l
made_by (reallocates c) m more (inr l) = absurd l
made_by (posts f ws) m more w = record { made = event.Post f ws; rest = more; is = refl; of = (refl, refl) }
made_by (destroys f r) m more w = record { made = event.Dtor f r; rest = more; is = refl; of = (refl, refl) }

made_trapped : (q : GuestRequest) (m : List ℕ) → Made q (trap_told q m)
made_trapped (starts f ws) m = record { made = event.Start f ws m; rest = _; is = refl; of = (refl, refl) }
made_trapped (resumes ws) m = record { made = event.Resume ws m; rest = _; is = refl; of = refl }
made_trapped (reallocates c) m = record { made = event.Trap (Some (c.old, c.old_size, c.align, c.new_size)) (length m); rest = []; is = refl; of = refl }
made_trapped (posts f ws) m = record { made = event.Post f ws; rest = _; is = refl; of = (refl, refl) }
made_trapped (destroys f r) m = record { made = event.Dtor f r; rest = _; is = refl; of = (refl, refl) }

abbrev request_of : RequestOutcome → GuestRequest
request_of (stepped q before after step) = q
request_of (answered c before after answer) = reallocates c
request_of (ended q before) = q
request_of (trapped q before after) = q

made_in : (g h : Replaying) (x : RequestOutcome) → Replays g x h → Made (request_of x) (outcome_events x)
made_in g h (stepped q before after s) (n, l, d) = made_by q before _ (inl l)
made_in g h (answered c before after answer) d = record { made = answer_event c answer; rest = []; is = refl; of = refl }
made_in g h (ended q before) (n, l, d) =
    let m = made_by q before [] (inr l) in record { made = m.made; rest = m.rest; is = sym (append-nil (request_told q before)) ∙ m.is; of = m.of }
made_in g h (trapped q before after) d = made_trapped q before

-- ---- the call that a request opens

pub opens : (q : GuestRequest) (g : Replaying) (len : ℕ) (mid : Replaying) (grown : ℕ) → BeginsRequest q g len mid grown → IsOpened g mid
opens (starts f ws) g len mid grown b = b.0
opens (reallocates c) g len mid grown b = b.0
opens (resumes ws) g len mid grown b = b.0
opens (posts f ws) g len mid grown b = b.0
opens (destroys f r) g len mid grown b = b.0

-- it is in the call, or past all of it
abbrev Opening : ℕ → Replaying → Replaying → Type 0
Opening k g mid = (mid.call ≡ k) ⊎ ((k < mid.call) × (g.call ≡ k) × (length (events_now g) ≤ g.at))

opening : (k : ℕ) (g mid : Replaying) → k < length g.recorded → InCall k g → IsOpened g mid → Opening k g mid
opening k g mid few (inl e) (inl (over, is)) = inr (let c = ap (λ (r : Replaying). r.call) is in omega (arith, c, e), e, over.0)
opening k g mid few (inl e) (inr (not, is)) = inl (ap (λ (r : Replaying). r.call) is ∙ e)
opening k g mid few (inr (e, past)) (inl (over, is)) = inl (ap (λ (r : Replaying). r.call) is ∙ omega (arith, e))
opening k g mid few (inr (e, past)) (inr (not, is)) = absurd (not (past, omega (arith, few, e)))

-- ---- once it trapped

pub stays_stopped : (g h : Replaying) (len last : ℕ) (calls : List RequestOutcome) → g.stop ≢ None → Chain g len calls h last → (h.stop ≡ g.stop) × (h.call ≡ g.call) × (h.at ≡ g.at) × (last ≡ len)
stays_stopped g h len last [] some (e, f) = (ap (λ (r : Replaying). r.stop) e, ap (λ (r : Replaying). r.call) e, ap (λ (r : Replaying). r.at) e, f)
stays_stopped g h len last (stepped q before after s ∷ calls) some (mid, b, d, rest) = absurd (some d.0)
stays_stopped g h len last (answered c before after answer ∷ calls) some (mid, b, d, rest) = absurd (some d.0)
stays_stopped g h len last (ended q before ∷ calls) some (mid, b, d, rest) = absurd (some d.0)
stays_stopped g h len last (trapped q before after ∷ calls) some (mid, b, inl d, rest) = absurd (some d.0)
stays_stopped g h len last (trapped q before after ∷ calls) some (mid, b, inr (n, same, e), rest) =
    let s : mid.stop ≡ g.stop = ap (λ (r : Replaying). r.stop) e in
    let k = stays_stopped mid h after last calls (λ none. some (sym s ∙ none)) rest in
    (k.0 ∙ s, k.1 ∙ ap (λ (r : Replaying). r.call) e, k.2 ∙ ap (λ (r : Replaying). r.at) e, k.3 ∙ same ∙ b)

-- ---- the number of the call never falls

opened_rise : (g mid : Replaying) → IsOpened g mid → g.call ≤ mid.call
opened_rise g mid (inl (over, e)) = let c = ap (λ (r : Replaying). r.call) e in omega (arith, c)
opened_rise g mid (inr (not, e)) = let c = ap (λ (r : Replaying). r.call) e in omega (arith, c)

rise_by : (g mid h : Replaying) → IsOpened g mid → h.call ≡ mid.call → g.call ≤ h.call
rise_by g mid h o e = let r = opened_rise g mid o in omega (arith, r, e)

does_rise : (g h : Replaying) (x : RequestOutcome) → Replays g x h → g.call ≤ h.call
does_rise g h (stepped q before after s) (n, l, (mid, grown, b, next, step, e)) = rise_by g mid h (opens q g (length before) mid grown b) (ap (λ (r : Replaying). r.call) e)
does_rise g h (answered c before after answer) (n, (mid, b, next, lawful, e)) = rise_by g mid h b.0 (ap (λ (r : Replaying). r.call) e)
does_rise g h (ended q before) (n, l, (mid, o, next, e)) = rise_by g mid h o (ap (λ (r : Replaying). r.call) e)
does_rise g h (trapped q before after) (inl (n, (mid, inl (cannot, len, e)))) = rise_by g mid h cannot.1 (ap (λ (r : Replaying). r.call) e)
does_rise g h (trapped q before after) (inl (n, (mid, inr (why, b, reason, e)))) = rise_by g mid h (opens q g (length before) mid after b) (ap (λ (r : Replaying). r.call) e)
does_rise g h (trapped q before after) (inr (n, len, e)) = let c = ap (λ (r : Replaying). r.call) e in omega (arith, c)

calls_rise : (g h : Replaying) (len last : ℕ) (calls : List RequestOutcome) → Chain g len calls h last → g.call ≤ h.call
calls_rise g h len last [] (e, f) = let c = ap (λ (r : Replaying). r.call) e in omega (arith, c)
calls_rise g h len last (x ∷ calls) (mid, b, d, rest) = let one = does_rise g mid x d in let more = calls_rise mid h (to_length x) last calls rest in omega (arith, one, more)

-- ---- the blocks that live

step_live : (live : List Block) (q : GuestRequest) (m after : List ℕ) (s : Step) → LetsGo q → live_along live (request_told q m ++ step_event s after ∷ []) ≡ []
step_live live (starts f ws) m after s l = after_step [] s after
step_live live (resumes ws) m after s l = after_step [] s after
step_live live (reallocates c) m after s l = absurd l
step_live live (posts f ws) m after s l = absurd l
step_live live (destroys f r) m after s l = absurd l

end_live : (live : List Block) (q : GuestRequest) (m : List ℕ) → EndsItself q → live_along live (request_told q m) ≡ []
end_live live (starts f ws) m l = absurd l
end_live live (resumes ws) m l = absurd l
end_live live (reallocates c) m l = absurd l
end_live live (posts f ws) m l = refl
end_live live (destroys f r) m l = refl

-- ---- from one state on

module _ (k : ℕ) (s : Replaying) (few : k < length s.recorded) where
  record Going (g : Replaying) (es : List Event) : Type 0 where
    none : g.stop ≡ None
    in_call : InCall k g
    passes : PassesRecorded s g es
    live : g.live ≡ live_along s.live es

  record Left (why : Stop) (m : Replaying) (len : ℕ) (events : List Event) : Type 0 where
    followed : List Event
    made : Event
    rest : List Event
    is : events ≡ followed ++ made ∷ rest
    passes : PassesRecorded s m followed
    request : GuestRequest
    of : IsOfRequest made request
    left : IsLeftBy why (next_event m) (live_along s.live followed) len request

  record Stopped (h : Replaying) (len : ℕ) (events : List Event) : Type 0 where
    m : Replaying
    why : Stop
    stop : h.stop ≡ Some why
    its_call : m.call ≡ k
    call : h.call ≡ k
    at : h.at ≡ m.at
    left : Left why m len events

  record Overrun (h : Replaying) (len : ℕ) (events : List Event) : Type 0 where
    m : Replaying
    past : k < h.call
    its_call : m.call ≡ k
    all : length (events_now m) ≤ m.at
    left : Left stop.Differs m len events

  abbrev Done : Replaying → ℕ → List Event → Type 0
  Done h len events = Going h events ⊎ Stopped h len events ⊎ Overrun h len events

  leave : (why : Stop) (g m : Replaying) (len : ℕ) (es more : List Event) (x : RequestOutcome) → Going g es → Kept g m → Made (request_of x) (outcome_events x) → IsLeftBy why (next_event m) g.live len (request_of x)
      → Left why m len (es ++ outcome_events x ++ more)
  leave why g m len es more x go kept made left = record {
    followed = es;
    made = made.made;
    rest = made.rest ++ more;
    is = append_assoc es (outcome_events x) more ∙ ap (λ (ys : List Event). es ++ (ys ++ more)) made.is;
    passes = record { next = go.passes.next; same = kept.same ∙ go.passes.same; goes = kept.passes ∙ go.passes.goes; alike = go.passes.alike };
    request = request_of x;
    of = made.of;
    left = subst (λ (l : List Block). IsLeftBy why (next_event m) l len (request_of x)) go.live left;
  }

  overrun : (g mid h : Replaying) (len last : ℕ) (es more : List Event) (x : RequestOutcome) → Going g es → (k < mid.call) × (g.call ≡ k) × (length (events_now g) ≤ g.at) → mid.call ≤ h.call → Made (request_of x) (outcome_events x)
      → Overrun h last (es ++ outcome_events x ++ more)
  overrun g mid h len last es more x go (past, its, all) rise made = record {
    m = g;
    past = omega (arith, past, rise);
    its_call = its;
    all = all;
    left = leave stop.Differs g g last es more x go (kept_itself g g refl) made
        (subst (λ (o : Option Event). IsOtherRequest o (request_of x)) (sym (slice_get_past (events_now g) g.at all)) tt);
  }

  few_at : (g : Replaying) (es : List Event) → Going g es → k < length g.recorded
  few_at g es go = subst (λ (r : List (List Event)). k < length r) (sym go.passes.same) few

  -- it was answered, and the rest of the calls follow
  next_going : (g mid0 mid : Replaying) (es : List Event) (x : RequestOutcome) → Going g es → IsOpened g mid0 → IsUntrapped x → Replays g x mid → mid.stop ≡ mid0.stop → mid.call ≡ mid0.call → mid0.call ≡ k
      → mid.live ≡ live_along g.live (outcome_events x) → Going mid (es ++ outcome_events x)
  next_going g mid0 mid es x go o i d stop call its live =
      let one = does_pass g mid x i d in
      record {
        none = stop ∙ (opened_kept g mid0 o).stop ∙ go.none;
        in_call = inl (call ∙ its);
        passes = record {
          next = go.passes.next ++ one.next;
          same = one.same ∙ go.passes.same;
          goes = one.goes ∙ ap (λ l. l ++ one.next) go.passes.goes ∙ append_assoc (passed_events s) go.passes.next one.next;
          alike = alike_then es (outcome_events x) go.passes.next one.next go.passes.alike one.alike;
        };
        live = along_both s.live g.live mid.live es (outcome_events x) go.live live;
      }

  first_stop : (g m mid h : Replaying) (len last : ℕ) (es : List Event) (calls : List RequestOutcome) (q : GuestRequest) (before : List ℕ) (after : ℕ) (why : Stop) → Going g es → IsOpened g m
      → Replays g (trapped q before after) mid → mid ≡ stopped_for m why
      → IsLeftBy why (next_event m) m.live after q → Chain mid after calls h last → Done h last (es ++ outcome_events (trapped q before after) ++ flat_map outcome_events calls)
  first_stop g m mid h len last es calls q before after why go o d e left rest =
      let stays = stays_stopped mid h after last calls (λ none. absurd (let some : mid.stop ≡ Some why = ap (λ (r : Replaying). r.stop) e in cc)) rest in
      let kept = opened_kept g m o in
      let made = made_in g mid (trapped q before after) d in
      let place = ap (λ (r : Replaying). r.call) e in
      ⊎_elim
      (λ its. inr (inl (record {
        m = m;
        why = why;
        stop = stays.0 ∙ ap (λ (r : Replaying). r.stop) e;
        its_call = its;
        call = stays.1 ∙ place ∙ its;
        at = stays.2 ∙ ap (λ (r : Replaying). r.at) e;
        left = leave why g m last es (flat_map outcome_events calls) (trapped q before after) go kept made
            (subst (λ (n : ℕ). IsLeftBy why (next_event m) g.live n q) (sym stays.3) (subst (λ (l : List Block). IsLeftBy why (next_event m) l after q) kept.live left));
      })))
      (λ past. inr (inr (overrun g mid h len last es (flat_map outcome_events calls) (trapped q before after) go (subst (λ (n : ℕ). k < n) (sym place) past.0, past.1, past.2) (calls_rise mid h after last calls rest) made)))
      (opening k g m (few_at g es go) go.in_call o)

  reason_left : (why : Stop) (m : Replaying) (len : ℕ) (q : GuestRequest) → IsReason why m len q → IsLeftBy why (next_event m) m.live len q
  reason_left stop.Differs m len q r = r
  reason_left stop.Unlawful m len q r = r
  reason_left stop.Unfit m len q r = tt

  -- one call goes on, or all is told
  abbrev OneEvent : Replaying → List Event → RequestOutcome → Replaying → ℕ → List RequestOutcome → Type 0
  OneEvent mid es x h last calls = Going mid (es ++ outcome_events x) ⊎ Done h last (es ++ outcome_events x ++ flat_map outcome_events calls)

  one_going : (g mid0 mid h : Replaying) (last : ℕ) (es : List Event) (x : RequestOutcome) (calls : List RequestOutcome) → Going g es → IsOpened g mid0 → IsUntrapped x → Replays g x mid → mid.stop ≡ mid0.stop → mid.call ≡ mid0.call
      → mid.live ≡ live_along g.live (outcome_events x) → Chain mid (to_length x) calls h last → OneEvent mid es x h last calls
  one_going g mid0 mid h last es x calls go o i d stop call live rest = ⊎_elim
      (λ its. inl (next_going g mid0 mid es x go o i d stop call its live))
      (λ past. inr (inr (inr (overrun g mid h (to_length x) last es (flat_map outcome_events calls) x go (subst (λ (n : ℕ). k < n) (sym call) past.0, past.1, past.2) (calls_rise mid h (to_length x) last calls rest) (made_in g mid x d)))))
      (opening k g mid0 (few_at g es go) go.in_call o)

  one : (g mid h : Replaying) (last : ℕ) (x : RequestOutcome) (calls : List RequestOutcome) (es : List Event) → Going g es → Replays g x mid → Chain mid (to_length x) calls h last → OneEvent mid es x h last calls
  one g mid h last (stepped q before after s) calls es go d rest =
      let (n, l, (mid0, grown, b, next, step, e)) = d in
      one_going g mid0 mid h last es (stepped q before after s) calls go (opens q g (length before) mid0 grown b) tt d (ap (λ (r : Replaying). r.stop) e) (ap (λ (r : Replaying). r.call) e)
      (ap (λ (r : Replaying). r.live) e ∙ sym (step_live g.live q before after s l)) rest
  one g mid h last (answered c before after answer) calls es go d rest =
      let (n, (mid0, b, next, lawful, e)) = d in
      one_going g mid0 mid h last es (answered c before after answer) calls go b.0 tt d (ap (λ (r : Replaying). r.stop) e) (ap (λ (r : Replaying). r.call) e)
      (ap (λ (r : Replaying). r.live) e ∙ ap (λ (l : List Block). relisted l c answer) (opened_kept g mid0 b.0).live) rest
  one g mid h last (ended q before) calls es go d rest =
      let (n, l, (mid0, o, next, e)) = d in
      one_going g mid0 mid h last es (ended q before) calls go o tt d (ap (λ (r : Replaying). r.stop) e) (ap (λ (r : Replaying). r.call) e)
      (ap (λ (r : Replaying). r.live) e ∙ sym (end_live g.live q before l)) rest
  one g mid h last (trapped q before after) calls es go (inl (n, (mid0, inl (cannot, len, e)))) rest =
      inr (first_stop g mid0 mid h (length before) last es calls q before after stop.Unfit go cannot.1 (inl (n, (mid0, inl (cannot, len, e)))) e tt rest)
  one g mid h last (trapped q before after) calls es go (inl (n, (mid0, inr (why, b, reason, e)))) rest =
      inr (first_stop g mid0 mid h (length before) last es calls q before after why go (opens q g (length before) mid0 after b) (inl (n, (mid0, inr (why, b, reason, e)))) e (reason_left why mid0 after q reason) rest)
  one g mid h last (trapped q before after) calls es go (inr (some, len, e)) rest = absurd (some go.none)

  follow : (g h : Replaying) (len last : ℕ) (calls : List RequestOutcome) (es : List Event) → Going g es → Chain g len calls h last → Done h last (es ++ flat_map outcome_events calls)
  follow g h len last [] es go (e, f) = inl (subst (λ (xs : List Event). Going h xs) (sym (append-nil es)) (subst (λ (r : Replaying). Going r es) (sym e) go))
  follow g h len last (x ∷ calls) es go (mid, b, d, rest) = subst (λ (xs : List Event). Done h last xs) (append_assoc es (outcome_events x) (flat_map outcome_events calls)) (⊎_elim
      (λ on. follow mid h (to_length x) last calls (es ++ outcome_events x) on rest)
      (λ all. all)
      (one g mid h last x calls es go d rest))

  -- ---- what was passed of the call

  module _ (before : IsBefore k s) where
    nothing_passed : passed_events s ≡ events_of_calls k s.recorded
    nothing_passed = ⊎_elim
        (λ b. ap₂ (λ (n i : ℕ). events_of_calls n s.recorded ++ take i (events_now s)) b.0 b.1 ∙ ap (λ (n : ℕ). events_of_calls n s.recorded ++ []) (sym b.0)
        ∙ append-nil (events_of_calls s.call s.recorded) ∙ ap (λ (n : ℕ). events_of_calls n s.recorded) b.0)
        (λ b. ap (λ (l : List Event). events_of_calls s.call s.recorded ++ l) (take_whole s.at (events_now s) b.1) ∙ sym (events_taken s.call s.recorded) ∙ ap (λ (n : ℕ). events_of_calls n s.recorded) b.0)
        before

    -- at a place of the call
    next_at : (m : Replaying) (es : List Event) → PassesRecorded s m es → m.call ≡ k → AreAlike es (take m.at (call_events s.recorded k))
    next_at m es p its =
        let there : passed_events m ≡ events_of_calls k s.recorded ++ take m.at (call_events s.recorded k) =
        ap₂ (λ (r : List (List Event)) (n : ℕ). events_of_calls n r ++ take m.at (call_events r n)) p.same its in
        let both : events_of_calls k s.recorded ++ p.next ≡ events_of_calls k s.recorded ++ take m.at (call_events s.recorded k) =
        ap (λ (l : List Event). l ++ p.next) (sym nothing_passed) ∙ sym p.goes ∙ there in
        subst (λ (l : List Event). AreAlike es l) (append_cancel_left (events_of_calls k s.recorded) p.next (take m.at (call_events s.recorded k)) both) p.alike

    abbrev its : List Event
    its = call_events s.recorded k

    follows : (h : Replaying) (es : List Event) → Going h es → Follows k s h es
    follows h es go = ⊎_elim
        (λ e. record { going = go.none; same = go.passes.same; in_call = go.in_call; count = h.at; passes = inl (e, refl); alike = next_at h es go.passes e; live = go.live })
        (λ b.
        let there : passed_events h ≡ events_of_calls k s.recorded =
        ap (λ (l : List Event). events_of_calls h.call h.recorded ++ l) (take_whole h.at (events_now h) b.1) ∙ sym (events_taken h.call h.recorded) ∙ ap₂ (λ (n : ℕ) (r : List (List Event)). events_of_calls n r) b.0 go.passes.same in
        let none : go.passes.next ≡ [] = append_cancel_left (passed_events s) go.passes.next [] (sym go.passes.goes ∙ there ∙ sym nothing_passed ∙ sym (append-nil (passed_events s))) in
        record { going = go.none; same = go.passes.same; in_call = go.in_call; count = 0; passes = inr (b.0, refl); alike = subst (λ (l : List Event). AreAlike es l) none go.passes.alike; live = go.live })
        go.in_call

    place_of : (m : Replaying) (n : ℕ) → m.recorded ≡ s.recorded → m.call ≡ k → n ≡ m.at → next_event m ≡ slice_get its n
    place_of m n same e at = ap₂ (λ (r : List (List Event)) (i : ℕ). slice_get (call_events r i) m.at) same e ∙ ap (λ (i : ℕ). slice_get its i) (sym at)

    stops : (h : Replaying) (len : ℕ) (es : List Event) → Stopped h len es → TrapsInCall k s h len es
    stops h len es x = (
      x.why,
      x.stop,
      x.call,
      record {
        followed = x.left.followed;
        made = x.left.made;
        rest = x.left.rest;
        is = x.left.is;
        alike = subst (λ (n : ℕ). AreAlike x.left.followed (take n its)) (sym x.at) (next_at x.m x.left.followed x.left.passes x.its_call);
        request = x.left.request;
        of = x.left.of;
        left = subst (λ (o : Option Event). IsLeftBy x.why o (live_along s.live x.left.followed) len x.left.request) (place_of x.m h.at x.left.passes.same x.its_call x.at) x.left.left;
      },
    )

    whole_at : (m : Replaying) → m.recorded ≡ s.recorded → m.call ≡ k → length (events_now m) ≤ m.at → take m.at its ≡ take (length its) its
    whole_at m same e all =
        let le : length its ≤ m.at = subst (λ (l : List Event). length l ≤ m.at) (ap₂ (λ (r : List (List Event)) (i : ℕ). call_events r i) same e) all in
        take_whole m.at its le ∙ sym (take_whole (length its) its (omega arith))

    overruns : (h : Replaying) (len : ℕ) (es : List Event) → Overrun h len es → Overruns k s h len es
    overruns h len es x = (
      x.past,
      record {
        followed = x.left.followed;
        made = x.left.made;
        rest = x.left.rest;
        is = x.left.is;
        alike = subst (λ (l : List Event). AreAlike x.left.followed l) (whole_at x.m x.left.passes.same x.its_call x.all) (next_at x.m x.left.followed x.left.passes x.its_call);
        request = x.left.request;
        of = x.left.of;
        left = subst (λ (o : Option Event). IsOtherRequest o x.left.request) (sym (slice_get_past its (length its) (omega arith))) tt;
      },
    )

    done : (h : Replaying) (len : ℕ) (es : List Event) → Done h len es → Follows k s h es ⊎ TrapsInCall k s h len es ⊎ Overruns k s h len es
    done h len es (inl go) = inl (follows h es go)
    done h len es (inr (inl x)) = inr (inl (stops h len es x))
    done h len es (inr (inr x)) = inr (inr (overruns h len es x))

in_call_before : (k : ℕ) (g : Replaying) → IsBefore k g → InCall k g
in_call_before k g (inl b) = inl b.0
in_call_before k g (inr b) = inr b

pub moves_follow : MovesFollow
moves_follow k g h events none few before moves =
    let go : Going k g.guest few g.guest [] = record {
      none = none;
      in_call = in_call_before k g.guest before;
      passes = record { next = []; same = refl; goes = sym (append-nil (passed_events g.guest)); alike = refl };
      live = refl;
    } in
    subst (λ (es : List Event). Follows k g.guest h.guest es ⊎ TrapsInCall k g.guest h.guest h.len es ⊎ Overruns k g.guest h.guest h.len es) (sym moves.told_by)
    (done k g.guest few before h.guest h.len (flat_map outcome_events moves.calls) (follow k g.guest few g.guest h.guest g.len h.len moves.calls [] go moves.chain))
