-- A guest that has steps to make, and memories that it can make, never traps as unfit.
use Rattle.std.proofs.Common.{Bool, List, None, Option, Some, [], ap, arith, drop, false, inl, inr, length, refl, subst, subst₂, suc, sym, true, zero, ℕ, ◌+◌, ◌<◌, ◌^◌, ◌∙◌, ◌∷◌, ◌≡◌, ◌≢◌, ◌≤◌, ◌⊎◌, ⊎_elim}
use Rattle.std.specs.Prelude.{nat_lt, slice_get}
use Rattle.std.proofs.lemmas.Bool.{eq-eqb, ltb-false, ltb-true, ne_eqb}
use Rattle.canon_model.specs.Memory.{Block}
use Rattle.canon_model.specs.Requests.{Call}
use Rattle.canon_memory.specs.declared.event.Event.{Event}
use Rattle.canon_memory.specs.declared.event.Event.TheVariants as event
use Rattle.canon_memory.specs.declared.guest.Step.{Step}
use Rattle.canon_memory.specs.declared.guest.Step.TheVariants as step
use Rattle.canon_memory.specs.Journal.{answer_event, step_event}
use Rattle.canon_replay_guest.specs.Fitting.{BeginsCall, CanReplayAll, CanReplayFrom, NeverUnfit, StepsFollow, stepped_length}
use Rattle.canon_replay_guest.specs.Moves.{BeginsRequest, Chain, EndsItself, GuestRequest, IsNext, IsReason, IsRecordedAnswer, IsStep, LetsGo, Replays, RequestOutcome, TellsRequest, answered, destroys, ended, from_length, posts, reallocates, resumes, starts, stepped, to_length, trapped}
use Rattle.canon_replay_guest.specs.Replaying.{CanGrow, IsOpened, Replaying, call_events, event_after, events_now, next_event, or_none, start_length, stopped_for, wanted_length}
use Rattle.canon_replay_guest.specs.declared.stop.Stop.{Stop}
use Rattle.canon_replay_guest.specs.declared.stop.Stop.TheVariants as stop
use Rattle.canon_replay_guest.proofs.Following.{opens, stays_stopped}
use Rattle.canon_replay_guest.proofs.Passing.{next_is, opened_kept}

-- ---- lists

drop_at : {A : Type 0} (xs : List A) (n : ℕ) (x : A) → slice_get xs n ≡ Some x → drop n xs ≡ x ∷ drop (n + 1) xs
drop_at [] zero x h = cc
drop_at [] (suc n) x h = cc
drop_at (y ∷ ys) zero x h = let same : y ≡ x = cc in ap (λ i. i ∷ ys) same
drop_at (y ∷ ys) (suc n) x h =
    let next : suc (n + 1) ≡ suc n + 1 = omega arith in
    drop_at ys n x h ∙ ap (λ i. x ∷ drop i (y ∷ ys)) next

drop_past : {A : Type 0} (xs : List A) (n : ℕ) → length xs ≤ n → drop n xs ≡ []
drop_past [] zero h = refl
drop_past [] (suc n) h = refl
drop_past (x ∷ xs) zero h = absurd (omega (arith, h))
drop_past (x ∷ xs) (suc n) h = drop_past xs n (omega (arith, h))

get_of_drop : {A : Type 0} (xs : List A) (n : ℕ) (x : A) (ys : List A) → drop n xs ≡ x ∷ ys → slice_get xs n ≡ Some x
get_of_drop [] zero x ys e = cc
get_of_drop [] (suc n) x ys e = cc
get_of_drop (y ∷ xs) zero x ys e = cc
get_of_drop (y ∷ xs) (suc n) x ys e = get_of_drop xs n x ys e

-- the events of a call are the first of those from the call on
first_call : (recorded : List (List Event)) (k : ℕ) → k < length recorded → drop k recorded ≡ call_events recorded k ∷ drop (k + 1) recorded
first_call [] k h = absurd (omega (arith, h))
first_call (es ∷ calls) zero h = refl
first_call (es ∷ calls) (suc k) h =
    let next : suc (k + 1) ≡ suc k + 1 = omega arith in
    first_call calls k (omega (arith, h)) ∙ ap (λ (i : ℕ). call_events calls k ∷ drop i (es ∷ calls)) next

-- ---- a call that is opened

no_events : (events : List Event) → length events ≤ 0 → BeginsCall events → ⊥
no_events [] h b = b
no_events (e ∷ es) h b = absurd (omega (arith, h))

opened : (g mid : Replaying) (len : ℕ) → IsOpened g mid → CanReplayFrom g len → CanReplayFrom mid len
opened g mid len (inr (not, e)) can = subst (λ (r : Replaying). CanReplayFrom r len) (sym e) can
opened g mid len (inl (over, e)) (inl (zero_at, all)) =
    let here = subst (CanReplayAll len) (first_call g.recorded g.call over.1) all in
    absurd (no_events (events_now g) (subst (λ (n : ℕ). length (events_now g) ≤ n) zero_at over.0) here.0.begins)
opened g mid len (inl (over, e)) (inr (some, follow, all)) =
    subst (λ (r : Replaying). CanReplayFrom r len) (sym e) (inl (refl, subst (λ (es : List Event). CanReplayAll (stepped_length len es) (drop (g.call + 1) g.recorded)) (drop_past (events_now g) g.at over.0) all))

-- ---- what is wanted of memory

wanted_first : (g : Replaying) (len : ℕ) → g.at ≡ 0 → wanted_length g len ≡ start_length (events_now g) len
wanted_first g len e = rw (eq-eqb g.at 0 e) refl

wanted_later : (g : Replaying) (len : ℕ) → 0 < g.at → wanted_length g len ≡ len
wanted_later g len lt = rw (ne_eqb g.at 0 (λ e. omega (arith, lt, e))) refl

there_is : (o : Option (List Event)) (n : ℕ) (e : Event) → slice_get (or_none o) n ≡ Some e → (es : List Event) × (o ≡ Some es)
there_is None zero e h = cc
there_is None (suc n) e h = cc
there_is (Some es) n e h = (es, refl)

below : {A : Type 0} (xs : List A) (n : ℕ) (x : A) → slice_get xs n ≡ Some x → n < length xs
below [] zero x h = cc
below [] (suc n) x h = cc
below (y ∷ ys) zero x h = omega arith
below (y ∷ ys) (suc n) x h = let lt = below ys n x h in omega (arith, lt)

in_call : (g : Replaying) (e : Event) → next_event g ≡ Some e → g.call < length g.recorded
in_call g e h = let (es, is) = there_is (slice_get g.recorded g.call) g.at e h in below g.recorded g.call es is

-- what is before a guest: the length that memory is given, the events that are left of the call, and the calls after it
record WhatIsBefore (g : Replaying) (len grown : ℕ) : Type 0 where
  follow : StepsFollow false grown (drop g.at (events_now g))
  later : CanReplayAll (stepped_length grown (drop g.at (events_now g))) (drop (g.call + 1) g.recorded)
  grows : CanGrow len grown
  wanted : wanted_length g len ≡ grown
  first : (g.at ≡ 0) → BeginsCall (events_now g)

can_before : (g : Replaying) (len : ℕ) → g.call < length g.recorded → len ≤ 2 ^ 32 → CanReplayFrom g len → WhatIsBefore g len (wanted_length g len)
can_before g len lt fits (inl (e, all)) =
    let here = subst (CanReplayAll len) (first_call g.recorded g.call lt) all in
    let wanted = wanted_first g len e in
    subst (WhatIsBefore g len) (sym wanted) (record {
      follow = subst (λ (n : ℕ). StepsFollow false (start_length (events_now g) len) (drop n (events_now g))) (sym e) here.0.follow;
      later = subst (λ (n : ℕ). CanReplayAll (stepped_length (start_length (events_now g) len) (drop n (events_now g))) (drop (g.call + 1) g.recorded)) (sym e) here.1;
      grows = here.0.grows;
      wanted = wanted;
      first = λ z. here.0.begins;
    })
can_before g len lt fits (inr (some, follow, all)) =
    subst (WhatIsBefore g len) (sym (wanted_later g len some)) (record { follow = follow; later = all; grows = (omega arith, fits); wanted = wanted_later g len some; first = λ z. absurd (omega (arith, z, some)) })

-- ---- the events of requests

-- behind a start or a resume stands a step
step_there : (len : ℕ) (e : Event) (more : List Event) (q : GuestRequest) → LetsGo q → TellsRequest e q → StepsFollow false len (e ∷ more) → StepsFollow true len more × (stepped_length len (e ∷ more) ≡ stepped_length len more)
step_there len (event.Start f ws m) more (starts g vs) l t s = (s, refl)
step_there len (event.Ask i ws m) more (starts g vs) l t s = absurd t
step_there len (event.Resume ws m) more (starts g vs) l t s = absurd t
step_there len (event.Return ws m) more (starts g vs) l t s = absurd t
step_there len (event.Realloc o os al ns a) more (starts g vs) l t s = absurd t
step_there len (event.Post f ws) more (starts g vs) l t s = absurd t
step_there len (event.Dtor f r) more (starts g vs) l t s = absurd t
step_there len (event.Trap at n) more (starts g vs) l t s = absurd t
step_there len (event.Start f ws m) more (resumes vs) l t s = absurd t
step_there len (event.Ask i ws m) more (resumes vs) l t s = absurd t
step_there len (event.Resume ws m) more (resumes vs) l t s = (s, refl)
step_there len (event.Return ws m) more (resumes vs) l t s = absurd t
step_there len (event.Realloc o os al ns a) more (resumes vs) l t s = absurd t
step_there len (event.Post f ws) more (resumes vs) l t s = absurd t
step_there len (event.Dtor f r) more (resumes vs) l t s = absurd t
step_there len (event.Trap at n) more (resumes vs) l t s = absurd t
step_there len e more (reallocates c) l t s = absurd l
step_there len e more (posts f ws) l t s = absurd l
step_there len e more (destroys f r) l t s = absurd l

step_made : (len : ℕ) (st : Step) (after : List ℕ) (more : List Event) → StepsFollow true len (step_event st after ∷ more) → StepsFollow false (length after) more
    × (stepped_length len (step_event st after ∷ more) ≡ stepped_length (length after) more)
step_made len (step.Return ws) after more s = (s.1, refl)
step_made len (step.Import i ws) after more s = (s.1, refl)

a_step : (len : ℕ) (events : List Event) → StepsFollow true len events → (st : Step) × (after : List ℕ) × (more : List Event) × (events ≡ step_event st after ∷ more) × CanGrow len (length after)
a_step len [] s = absurd s
a_step len (event.Ask i ws m ∷ more) s = (step.Import i ws, m, more, refl, s.0)
a_step len (event.Return ws m ∷ more) s = (step.Return ws, m, more, refl, s.0)
a_step len (event.Start f ws m ∷ more) s = absurd s
a_step len (event.Resume ws m ∷ more) s = absurd s
a_step len (event.Realloc o os al ns a ∷ more) s = absurd s
a_step len (event.Post f ws ∷ more) s = absurd s
a_step len (event.Dtor f r ∷ more) s = absurd s
a_step len (event.Trap at n ∷ more) s = absurd s

-- a post-return is no step, and begins no call
end_there : (len : ℕ) (e : Event) (more : List Event) (q : GuestRequest) → EndsItself q → TellsRequest e q → (StepsFollow false len (e ∷ more) → StepsFollow false len more)
    × (stepped_length len (e ∷ more) ≡ stepped_length len more) × ¬ BeginsCall (e ∷ more)
end_there len (event.Post f ws) more (posts g vs) l t = (λ s. s, refl, λ b. b)
end_there len (event.Start f ws m) more (posts g vs) l t = absurd t
end_there len (event.Ask i ws m) more (posts g vs) l t = absurd t
end_there len (event.Resume ws m) more (posts g vs) l t = absurd t
end_there len (event.Return ws m) more (posts g vs) l t = absurd t
end_there len (event.Realloc o os al ns a) more (posts g vs) l t = absurd t
end_there len (event.Dtor f r) more (posts g vs) l t = absurd t
end_there len (event.Trap at n) more (posts g vs) l t = absurd t
end_there len (event.Post f ws) more (destroys g s) l t = absurd t
end_there len (event.Start f ws m) more (destroys g s) l t = absurd t
end_there len (event.Ask i ws m) more (destroys g s) l t = absurd t
end_there len (event.Resume ws m) more (destroys g s) l t = absurd t
end_there len (event.Return ws m) more (destroys g s) l t = absurd t
end_there len (event.Realloc o os al ns a) more (destroys g s) l t = absurd t
end_there len (event.Dtor f r) more (destroys g s) l t = absurd t
end_there len (event.Trap at n) more (destroys g s) l t = absurd t
end_there len e more (starts f ws) l t = absurd l
end_there len e more (resumes ws) l t = absurd l
end_there len e more (reallocates c) l t = absurd l

-- ---- what a guest does

two_on : (n : ℕ) → n + 1 + 1 ≡ n + 2
two_on n = omega arith

module _ (mid h : Replaying) (len : ℕ) (few : len ≤ 2 ^ 32) (can : CanReplayFrom mid len) where
  abbrev its : List Event
  its = events_now mid

  before : (e : Event) → next_event mid ≡ Some e → WhatIsBefore mid len (wanted_length mid len)
  before e is = can_before mid len (in_call mid e is) few can

  left_by : (e : Event) → next_event mid ≡ Some e → StepsFollow false (wanted_length mid len) (e ∷ drop (mid.at + 1) its)
  left_by e is = subst (StepsFollow false (wanted_length mid len)) (drop_at its mid.at e is) (before e is).follow

  later_by : (e : Event) → next_event mid ≡ Some e → CanReplayAll (stepped_length (wanted_length mid len) (e ∷ drop (mid.at + 1) its)) (drop (mid.call + 1) mid.recorded)
  later_by e is = subst (λ (es : List Event). CanReplayAll (stepped_length (wanted_length mid len) es) (drop (mid.call + 1) mid.recorded)) (drop_at its mid.at e is) (before e is).later

  after_step : (q : GuestRequest) (st : Step) (after : List ℕ) → LetsGo q → IsNext (next_event mid) q → event_after mid ≡ Some (step_event st after) → h ≡ record mid { at = mid.at + 2; live = [] } → CanReplayFrom h (length after)
  after_step q st after l next there e =
      let (first, is, tells) = next_is (next_event mid) q next in
      let rest : drop (mid.at + 1) its ≡ step_event st after ∷ drop (mid.at + 2) its = drop_at its (mid.at + 1) (step_event st after) there ∙ ap (λ (n : ℕ). step_event st after ∷ drop n its) (two_on mid.at) in
      let (follow, same) = step_there (wanted_length mid len) first (drop (mid.at + 1) its) q l tells (left_by first is) in
      let (more, len_more) = step_made (wanted_length mid len) st after (drop (mid.at + 2) its) (subst (StepsFollow true (wanted_length mid len)) rest follow) in
      let last = same ∙ ap (stepped_length (wanted_length mid len)) rest ∙ len_more in
      subst (λ (r : Replaying). CanReplayFrom r (length after)) (sym e) (inr (omega arith, more, subst (λ (n : ℕ). CanReplayAll n (drop (mid.call + 1) mid.recorded)) last (later_by first is)))

  after_answer : (c : Call) (answer grown : ℕ) (live : List Block) → grown ≡ wanted_length mid len → IsRecordedAnswer (next_event mid) c answer → h ≡ record mid { at = mid.at + 1; live = live } → CanReplayFrom h grown
  after_answer c answer grown live w next e =
      subst₂ (λ (r : Replaying) (n : ℕ). CanReplayFrom r n) (sym e) (sym w) (inr (omega arith, left_by (answer_event c answer) next, later_by (answer_event c answer) next))

  after_end : (q : GuestRequest) → EndsItself q → IsNext (next_event mid) q → h ≡ record mid { at = mid.at + 1; live = [] } → CanReplayFrom h len
  after_end q l next e = by can
    where
      by : CanReplayFrom mid len → CanReplayFrom h len
      by (inl (z, all)) =
          let (first, is, tells) = next_is (next_event mid) q next in
          let whole : its ≡ first ∷ drop 1 its = drop_at its 0 first (ap (λ (n : ℕ). slice_get its n) (sym z) ∙ is) in
          absurd ((end_there len first (drop 1 its) q l tells).2 (subst BeginsCall whole ((before first is).first z)))
      by (inr (some, follow, all)) =
          let (first, is, tells) = next_is (next_event mid) q next in
          let (on, same, none) = end_there len first (drop (mid.at + 1) its) q l tells in
          let rest = drop_at its mid.at first is in
          subst (λ (r : Replaying). CanReplayFrom r len) (sym e)
          (inr (omega arith, on (subst (StepsFollow false len) rest follow), subst (λ (n : ℕ). CanReplayAll n (drop (mid.call + 1) mid.recorded)) (ap (stepped_length len) rest ∙ same) all))

  past_call : (recorded : List (List Event)) (k : ℕ) → length recorded ≤ k → call_events recorded k ≡ []
  past_call [] zero h = refl
  past_call [] (suc k) h = refl
  past_call (es ∷ calls) zero h = absurd (omega (arith, h))
  past_call (es ∷ calls) (suc k) h = past_call calls k (omega (arith, h))

  can_grow : CanGrow len (wanted_length mid len)
  can_grow = by can (nat_lt mid.call (length mid.recorded)) refl
    where
      by : CanReplayFrom mid len → (b : Bool) → nat_lt mid.call (length mid.recorded) ≡ b → CanGrow len (wanted_length mid len)
      by (inr (some, follow, all)) b is = subst (CanGrow len) (sym (wanted_later mid len some)) (omega arith, few)
      by (inl (z, all)) true is = (can_before mid len (ltb-true mid.call (length mid.recorded) is) few can).grows
      by (inl (z, all)) false is =
          subst (CanGrow len) (sym (wanted_first mid len z ∙ ap (λ (es : List Event). start_length es len) (past_call mid.recorded mid.call (ltb-false mid.call (length mid.recorded) is)))) (omega arith, few)

  has_step : (q : GuestRequest) (grown : ℕ) → grown ≤ wanted_length mid len → IsNext (next_event mid) q → LetsGo q → ((st : Step) (after : List ℕ) → ¬ (IsStep (event_after mid) grown st after)) → ⊥
  has_step q grown le next l none_is =
      let (first, is, tells) = next_is (next_event mid) q next in
      let (follow, same) = step_there (wanted_length mid len) first (drop (mid.at + 1) its) q l tells (left_by first is) in
      let (st, after, more, there, grows) = a_step (wanted_length mid len) (drop (mid.at + 1) its) follow in
      none_is st after (get_of_drop its (mid.at + 1) (step_event st after) more there, (omega (arith, le, grows.0), grows.1))

-- the length that memory has at a request is the wanted one at most
at_most : (q : GuestRequest) (g mid : Replaying) (len grown : ℕ) → BeginsRequest q g len mid grown → CanGrow len (wanted_length mid len) → grown ≤ wanted_length mid len
at_most (starts f ws) g mid len grown b c = omega (arith, b.1)
at_most (reallocates x) g mid len grown b c = omega (arith, b.1)
at_most (resumes ws) g mid len grown b c = omega (arith, b.1, c.0)
at_most (posts f ws) g mid len grown b c = omega (arith, b.1, c.0)
at_most (destroys f r) g mid len grown b c = omega (arith, b.1, c.0)

-- it goes on, or it trapped for another reason
abbrev ReplaysOn : Replaying → ℕ → Type 0
ReplaysOn h last = ((h.stop ≡ None) × CanReplayFrom h last × (last ≤ 2 ^ 32)) ⊎ ((h.stop ≢ None) × (h.stop ≢ Some stop.Unfit))

stop_kept : (g mid : Replaying) → IsOpened g mid → mid.stop ≡ g.stop
stop_kept g mid o = (opened_kept g mid o).stop

traps_so : (mid h : Replaying) (why : Stop) (last : ℕ) → h ≡ stopped_for mid why → why ≢ stop.Unfit → ReplaysOn h last
traps_so mid h why last e other = inr (λ none. absurd (some_stop none), λ unfit. other (same_stop unfit))
  where
    is : h.stop ≡ Some why
    is = ap (λ (r : Replaying). r.stop) e

    some_stop : h.stop ≡ None → ⊥
    some_stop none = cc

    same_stop : h.stop ≡ Some stop.Unfit → why ≡ stop.Unfit
    same_stop unfit = cc

for_reason : (why : Stop) (g mid h : Replaying) (len grown last : ℕ) (q : GuestRequest) → len ≤ 2 ^ 32 → CanReplayFrom mid len → BeginsRequest q g len mid grown → IsReason why mid grown q → h ≡ stopped_for mid why → ReplaysOn h last
for_reason stop.Differs g mid h len grown last q few can b r e = traps_so mid h stop.Differs last e (λ x. cc)
for_reason stop.Unlawful g mid h len grown last q few can b r e = traps_so mid h stop.Unlawful last e (λ x. cc)
for_reason stop.Unfit g mid h len grown last q few can b r e = absurd (has_step mid h len few can q grown (at_most q g mid len grown b (can_grow mid h len few can)) r.0 r.1 r.2)

one_on : (g h : Replaying) (x : RequestOutcome) → g.stop ≡ None → from_length x ≤ 2 ^ 32 → CanReplayFrom g (from_length x) → Replays g x h → ReplaysOn h (to_length x)
one_on g h (stepped q before after st) going few can (n, l, (mid, grown, b, next, is, e)) =
    let o = opens q g (length before) mid grown b in
    let there = opened g mid (length before) o can in
    inl (ap (λ (r : Replaying). r.stop) e ∙ stop_kept g mid o ∙ going, after_step mid h (length before) few there q st after l next is.0 e, is.1.1)
one_on g h (answered c before after answer) going few can (n, (mid, b, next, lawful, e)) =
    inl (ap (λ (r : Replaying). r.stop) e ∙ stop_kept g mid b.0 ∙ going, after_answer mid h before few (opened g mid before b.0 can) c answer after _ b.1 next e, b.2.1)
one_on g h (ended q before) going few can (n, l, (mid, o, next, e)) =
    inl (ap (λ (r : Replaying). r.stop) e ∙ stop_kept g mid o ∙ going, after_end mid h (length before) few (opened g mid (length before) o can) q l next e, few)
one_on g h (trapped q before after) going few can (inl (n, (mid, inl (cannot, len, e)))) = absurd (cannot.2 (can_grow mid h (length before) few (opened g mid (length before) cannot.1 can)))
one_on g h (trapped q before after) going few can (inl (n, (mid, inr (why, b, reason, e)))) =
    for_reason why g mid h (length before) after after q few (opened g mid (length before) (opens q g (length before) mid after b) can) b reason e
one_on g h (trapped q before after) going few can (inr (some, len, e)) = absurd (some going)

fit_chain : (g h : Replaying) (len last : ℕ) (calls : List RequestOutcome) → g.stop ≡ None → len ≤ 2 ^ 32 → CanReplayFrom g len → Chain g len calls h last → (h.stop ≢ Some stop.Unfit)
    × (h.stop ≡ None → CanReplayFrom h last × (last ≤ 2 ^ 32))
fit_chain g h len last [] going few can (e, f) =
    (λ unfit. no_stop (sym going ∙ (sym (ap (λ (r : Replaying). r.stop) e) ∙ unfit)), λ none. (subst₂ CanReplayFrom (sym e) (sym f) can, omega (arith, f, few)))
  where
    no_stop : None ≡ Some stop.Unfit → ⊥
    no_stop x = cc
fit_chain g h len last (x ∷ calls) going few can (mid, b, d, rest) = ⊎_elim
    (λ (on : (mid.stop ≡ None) × CanReplayFrom mid (to_length x) × (to_length x ≤ 2 ^ 32)). fit_chain mid h (to_length x) last calls on.0 on.2 on.1 rest)
    (λ (stands : (mid.stop ≢ None) × (mid.stop ≢ Some stop.Unfit)).
    let stays = stays_stopped mid h (to_length x) last calls stands.0 rest in
    (λ (unfit : h.stop ≡ Some stop.Unfit). stands.1 (sym stays.0 ∙ unfit), λ (none : h.stop ≡ None). absurd (stands.0 (sym stays.0 ∙ none))))
    (one_on g mid x going (omega (arith, b, few)) (subst (CanReplayFrom g) (sym b) can) d)

pub never_unfit : NeverUnfit
never_unfit g h events going few can moves = fit_chain g.guest h.guest g.len h.len moves.calls going few can moves.chain
