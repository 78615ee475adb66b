-- Along its calls a guest passes recorded events, and what is told is alike them.
use Rattle.std.proofs.Common.{List, None, Option, Some, [], append-nil, append_assoc, ap, ap₂, arith, flat_map, inl, inr, length, refl, slice_get, subst, suc, sym, take, true, zero, ℕ, ◌+◌, ◌++◌, ◌≡◌, ◌≤◌, ◌∙◌, ◌∷◌, ◌⊎◌}
use Rattle.canon_model.specs.Memory.{Block}
use Rattle.canon_model.specs.Requests.{Call}
use Rattle.canon_memory.specs.declared.event.Event.{Event}
use Rattle.canon_memory.specs.declared.event.Event.TheVariants as event
use Rattle.canon_memory.specs.declared.guest.Step.{Step}
use Rattle.canon_memory.specs.declared.guest.Step.TheVariants as step
use Rattle.canon_memory.specs.Guest.{Mark}
use Rattle.canon_memory.specs.Journal.{answer_event, step_event}
use Rattle.canon_scripted.specs.Scripted.{raised_count}
use Rattle.canon_replay_guest.specs.Following.{ChainPasses}
use Rattle.canon_replay_guest.specs.Moves.{BeginsRequest, Chain, EndsItself, GuestRequest, IsNext, LetsGo, Replays, RequestOutcome, TellsRequest, answered, destroys, ended, outcome_events, posts, reallocates, request_told, resumes, starts, stepped, to_length, trapped}
use Rattle.canon_replay_guest.specs.declared.stop.Stop.{Stop}
use Rattle.canon_replay_guest.specs.Passing.{AreAlike, AreUntrapped, IsAlike, IsUntrapped, PassesRecorded}
use Rattle.canon_replay_guest.specs.Replaying.{IsOpened, Replaying, event_after, events_now, events_of_calls, marks_of_event, next_event, or_none, passed_events, stopped_for, trapped_again}

-- ---- lists

pub events_taken : (n : ℕ) (xss : List (List Event)) → events_of_calls (suc n) xss ≡ events_of_calls n xss ++ or_none (slice_get xss n)
events_taken zero [] = refl
events_taken (suc n) [] = refl
events_taken zero (xs ∷ xss) = append-nil xs
events_taken (suc n) (xs ∷ xss) = ap (λ l. xs ++ l) (events_taken n xss) ∙ sym (append_assoc xs (events_of_calls n xss) (or_none (slice_get xss n)))

take_next : (n : ℕ) (xs : List Event) (e : Event) → slice_get xs n ≡ Some e → take (suc n) xs ≡ take n xs ++ e ∷ []
take_next n [] e h = absurd (cc)
take_next zero (x ∷ xs) e h = let same : x ≡ e = cc in ap (λ y. y ∷ []) same
take_next (suc n) (x ∷ xs) e h = ap (λ l. x ∷ l) (take_next n xs e h)

pub take_whole : (n : ℕ) (xs : List Event) → length xs ≤ n → take n xs ≡ xs
take_whole zero [] h = refl
take_whole (suc n) [] h = refl
take_whole zero (x ∷ xs) h = absurd (omega arith)
take_whole (suc n) (x ∷ xs) h = ap (λ l. x ∷ l) (take_whole n xs (omega (arith, h)))

one_more : (n : ℕ) → n + 1 ≡ suc n
one_more n = omega arith

pub marks_append : (xs ys : List Event) → flat_map marks_of_event (xs ++ ys) ≡ flat_map marks_of_event xs ++ flat_map marks_of_event ys
marks_append [] ys = refl
marks_append (x ∷ xs) ys = ap (λ (ms : List Mark). marks_of_event x ++ ms) (marks_append xs ys) ∙ sym (append_assoc (marks_of_event x) (flat_map marks_of_event xs) (flat_map marks_of_event ys))

-- ---- what opening a call keeps

pub record Kept (g h : Replaying) : Type 0 where
  pub passes : passed_events h ≡ passed_events g
  pub same : h.recorded ≡ g.recorded
  pub live : h.live ≡ g.live
  pub stop : h.stop ≡ g.stop
  pub traps : h.traps ≡ g.traps
  pub shortages : h.shortages ≡ g.shortages

pub kept_itself : (g h : Replaying) → h ≡ g → Kept g h
kept_itself g h e = record {
  passes = ap passed_events e;
  same = ap (λ (k : Replaying). k.recorded) e;
  live = ap (λ (k : Replaying). k.live) e;
  stop = ap (λ (k : Replaying). k.stop) e;
  traps = ap (λ (k : Replaying). k.traps) e;
  shortages = ap (λ (k : Replaying). k.shortages) e;
}

pub opened_kept : (g h : Replaying) → IsOpened g h → Kept g h
opened_kept g h (inr (n, e)) = kept_itself g h e
opened_kept g h (inl (over, e)) = record {
  passes = ap passed_events e ∙ append-nil (events_of_calls (g.call + 1) g.recorded)
      ∙ ap (λ n. events_of_calls n g.recorded) (one_more g.call) ∙ events_taken g.call g.recorded
      ∙ ap (λ l. events_of_calls g.call g.recorded ++ l) (sym (take_whole g.at (events_now g) over.0));
  same = ap (λ (k : Replaying). k.recorded) e;
  live = ap (λ (k : Replaying). k.live) e;
  stop = ap (λ (k : Replaying). k.stop) e;
  traps = ap (λ (k : Replaying). k.traps) e;
  shortages = ap (λ (k : Replaying). k.shortages) e;
}

pub begun_kept : (q : GuestRequest) (g : Replaying) (len : ℕ) (mid : Replaying) (grown : ℕ) → BeginsRequest q g len mid grown → Kept g mid
begun_kept (starts f ws) g len mid grown b = opened_kept g mid b.0
begun_kept (reallocates c) g len mid grown b = opened_kept g mid b.0
begun_kept (resumes ws) g len mid grown b = opened_kept g mid b.0
begun_kept (posts f ws) g len mid grown b = opened_kept g mid b.0
begun_kept (destroys f r) g len mid grown b = opened_kept g mid b.0

-- ---- what was passed

module _ (g : Replaying) where
  abbrev front : List Event
  front = events_of_calls g.call g.recorded

  two_taken : (e f : Event) → next_event g ≡ Some e → event_after g ≡ Some f → take (g.at + 2) (events_now g) ≡ take g.at (events_now g) ++ e ∷ f ∷ []
  two_taken e f h k =
      let later : slice_get (events_now g) (suc g.at) ≡ Some f = ap (λ n. slice_get (events_now g) n) (sym (one_more g.at)) ∙ k in
      let count : g.at + 2 ≡ suc (suc g.at) = omega arith in
      ap (λ n. take n (events_now g)) count ∙ take_next (suc g.at) (events_now g) f later ∙ ap (λ l. l ++ f ∷ []) (take_next g.at (events_now g) e h) ∙ append_assoc (take g.at (events_now g)) (e ∷ []) (f ∷ [])

  one_taken : (e : Event) → next_event g ≡ Some e → take (g.at + 1) (events_now g) ≡ take g.at (events_now g) ++ e ∷ []
  one_taken e h = ap (λ n. take n (events_now g)) (one_more g.at) ∙ take_next g.at (events_now g) e h

  pub two_passed : (h : Replaying) (live : List Block) (e f : Event) → next_event g ≡ Some e → event_after g ≡ Some f → h ≡ record g { at = g.at + 2; live = live } → passed_events h ≡ passed_events g ++ e ∷ f ∷ []
  two_passed h live e f n a he = ap passed_events he ∙ ap (λ l. front ++ l) (two_taken e f n a) ∙ sym (append_assoc front (take g.at (events_now g)) (e ∷ f ∷ []))

  pub one_passed : (h : Replaying) (live : List Block) (e : Event) → next_event g ≡ Some e → h ≡ record g { at = g.at + 1; live = live } → passed_events h ≡ passed_events g ++ e ∷ []
  one_passed h live e n he = ap passed_events he ∙ ap (λ l. front ++ l) (one_taken e n) ∙ sym (append_assoc front (take g.at (events_now g)) (e ∷ []))

pub next_is : (o : Option Event) (q : GuestRequest) → IsNext o q → (e : Event) × (o ≡ Some e) × TellsRequest e q
next_is None q n = absurd n
next_is (Some e) q n = (e, refl, n)

-- ---- alike

alike_itself : (e : Event) → IsAlike e e
alike_itself (event.Start f ws m) = (refl, refl)
alike_itself (event.Ask n ws m) = refl
alike_itself (event.Resume ws m) = refl
alike_itself (event.Return ws m) = refl
alike_itself (event.Realloc a b c d e) = refl
alike_itself (event.Post f ws) = refl
alike_itself (event.Dtor f r) = refl
alike_itself (event.Trap asked len) = refl

pub alike_then : (es fs rs ss : List Event) → AreAlike es rs → AreAlike fs ss → AreAlike (es ++ fs) (rs ++ ss)
alike_then [] fs rs ss h k = subst (λ l. AreAlike fs (l ++ ss)) (sym h) k
alike_then (e ∷ es) fs rs ss (r, rest, h, a, more) k = (r, rest ++ ss, ap (λ l. l ++ ss) h, a, alike_then es fs rest ss more k)

step_marks : (s : Step) (after : List ℕ) → marks_of_event (step_event s after) ≡ []
step_marks (step.Return ws) after = refl
step_marks (step.Import n ws) after = refl

-- a recorded request, and then a step
pub record IsToldBy (q : GuestRequest) (before : List ℕ) (e : Event) (more : List Event) : Type 0 where
  pub alike : AreAlike (request_told q before ++ more) (e ∷ more)
  pub none : marks_of_event e ≡ []

all_alike : (es : List Event) → AreAlike es es
all_alike [] = refl
all_alike (e ∷ es) = (e, es, refl, alike_itself e, all_alike es)

pub told_by : (q : GuestRequest) (before : List ℕ) (e : Event) (more : List Event) → LetsGo q ⊎ EndsItself q → TellsRequest e q → IsToldBy q before e more
told_by (starts f ws) before (event.Start k vs m) more w (a, b) = record { alike = (event.Start k vs m, more, refl, (sym a, sym b), all_alike more); none = refl }
told_by (starts f ws) before (event.Ask n vs m) more w t = absurd t
told_by (starts f ws) before (event.Resume vs m) more w t = absurd t
told_by (starts f ws) before (event.Return vs m) more w t = absurd t
told_by (starts f ws) before (event.Realloc x1 x2 x3 x4 x5) more w t = absurd t
told_by (starts f ws) before (event.Post k vs) more w t = absurd t
told_by (starts f ws) before (event.Dtor k rep) more w t = absurd t
told_by (starts f ws) before (event.Trap asked len) more w t = absurd t
told_by (resumes ws) before (event.Start k vs m) more w t = absurd t
told_by (resumes ws) before (event.Ask n vs m) more w t = absurd t
told_by (resumes ws) before (event.Resume vs m) more w t = record { alike = (event.Resume vs m, more, refl, sym t, all_alike more); none = refl }
told_by (resumes ws) before (event.Return vs m) more w t = absurd t
told_by (resumes ws) before (event.Realloc x1 x2 x3 x4 x5) more w t = absurd t
told_by (resumes ws) before (event.Post k vs) more w t = absurd t
told_by (resumes ws) before (event.Dtor k rep) more w t = absurd t
told_by (resumes ws) before (event.Trap asked len) more w t = absurd t
told_by (posts f ws) before (event.Start k vs m) more w t = absurd t
told_by (posts f ws) before (event.Ask n vs m) more w t = absurd t
told_by (posts f ws) before (event.Resume vs m) more w t = absurd t
told_by (posts f ws) before (event.Return vs m) more w t = absurd t
told_by (posts f ws) before (event.Realloc x1 x2 x3 x4 x5) more w t = absurd t
told_by (posts f ws) before (event.Post k vs) more w (a, b) = record { alike = (event.Post k vs, more, refl, ap₂ event.Post (sym a) (sym b), all_alike more); none = refl }
told_by (posts f ws) before (event.Dtor k rep) more w t = absurd t
told_by (posts f ws) before (event.Trap asked len) more w t = absurd t
told_by (destroys f r) before (event.Start k vs m) more w t = absurd t
told_by (destroys f r) before (event.Ask n vs m) more w t = absurd t
told_by (destroys f r) before (event.Resume vs m) more w t = absurd t
told_by (destroys f r) before (event.Return vs m) more w t = absurd t
told_by (destroys f r) before (event.Realloc x1 x2 x3 x4 x5) more w t = absurd t
told_by (destroys f r) before (event.Post k vs) more w t = absurd t
told_by (destroys f r) before (event.Dtor k rep) more w t = absurd t
told_by (destroys f r) before (event.Trap asked len) more w t = absurd t
told_by (reallocates c) before e more (inl l) t = absurd l
told_by (reallocates c) before e more (inr l) t = absurd l

-- ---- one call

abbrev pub mark_given : Mark
mark_given = record { lawful = true; tidy = true }

-- the marks of its answers
abbrev pub marks_by : RequestOutcome → List Mark
marks_by (answered c before after answer) = mark_given ∷ []
marks_by _ = []

-- what a call passed, and the marks of that
pub record PassesOne (g h : Replaying) (events : List Event) (marks : List Mark) : Type 0 where
  pub next : List Event
  pub same : h.recorded ≡ g.recorded
  pub goes : passed_events h ≡ passed_events g ++ next
  pub alike : AreAlike events next
  pub marked : flat_map marks_of_event next ≡ marks

step_passes : (g mid h : Replaying) (q : GuestRequest) (before after : List ℕ) (s : Step) → Kept g mid → LetsGo q → IsNext (next_event mid) q → event_after mid ≡ Some (step_event s after) → h ≡ record mid { at = mid.at + 2; live = [] }
    → PassesOne g h (request_told q before ++ step_event s after ∷ []) []
step_passes g mid h q before after s k l n a e =
    let (first, is, tells) = next_is (next_event mid) q n in
    let by = told_by q before first (step_event s after ∷ []) (inl l) tells in
    record {
      next = first ∷ step_event s after ∷ [];
      same = ap (λ (r : Replaying). r.recorded) e ∙ k.same;
      goes = two_passed mid h [] first (step_event s after) is a e ∙ ap (λ l. l ++ first ∷ step_event s after ∷ []) k.passes;
      alike = by.alike;
      marked = ap (λ (ms : List Mark). ms ++ flat_map marks_of_event (step_event s after ∷ [])) by.none ∙ ap (λ (ms : List Mark). ms ++ []) (step_marks s after);
    }

answer_passes : (g mid h : Replaying) (c : Call) (answer : ℕ) (live : List Block) → Kept g mid → next_event mid ≡ Some (answer_event c answer) → h ≡ record mid { at = mid.at + 1; live = live }
    → PassesOne g h (answer_event c answer ∷ []) (mark_given ∷ [])
answer_passes g mid h c answer live k n e = record {
  next = answer_event c answer ∷ [];
  same = ap (λ (r : Replaying). r.recorded) e ∙ k.same;
  goes = one_passed mid h live (answer_event c answer) n e ∙ ap (λ l. l ++ answer_event c answer ∷ []) k.passes;
  alike = (answer_event c answer, [], refl, refl, refl);
  marked = refl;
}

end_passes : (g mid h : Replaying) (q : GuestRequest) (before : List ℕ) → Kept g mid → EndsItself q → IsNext (next_event mid) q → h ≡ record mid { at = mid.at + 1; live = [] } → PassesOne g h (request_told q before) []
end_passes g mid h q before k l n e =
    let (first, is, tells) = next_is (next_event mid) q n in
    let by = told_by q before first [] (inr l) tells in
    record {
      next = first ∷ [];
      same = ap (λ (r : Replaying). r.recorded) e ∙ k.same;
      goes = one_passed mid h [] first is e ∙ ap (λ l. l ++ first ∷ []) k.passes;
      alike = subst (λ (es : List Event). AreAlike es (first ∷ [])) (append-nil (request_told q before)) by.alike;
      marked = ap (λ (ms : List Mark). ms ++ []) by.none;
    }

pub does_pass : (g h : Replaying) (x : RequestOutcome) → IsUntrapped x → Replays g x h → PassesOne g h (outcome_events x) (marks_by x)
does_pass g h (stepped q before after s) i (n, l, (mid, grown, b, next, step, e)) = step_passes g mid h q before after s (begun_kept q g (length before) mid grown b) l next step.0 e
does_pass g h (answered c before after answer) i (n, (mid, b, next, lawful, e)) = answer_passes g mid h c answer _ (begun_kept (reallocates c) g before mid after b) next e
does_pass g h (ended q before) i (n, l, (mid, o, next, e)) = end_passes g mid h q before (opened_kept g mid o) l next e
does_pass g h (trapped q before after) i d = absurd i

-- a trap passes nothing, and counts
pub record TrapsKept (g h : Replaying) : Type 0 where
  pub passes : passed_events h ≡ passed_events g
  pub same : h.recorded ≡ g.recorded
  pub traps : h.traps ≡ raised_count g.traps

traps_kept : (g mid h : Replaying) (why : Stop) → Kept g mid → h ≡ stopped_for mid why → TrapsKept g h
traps_kept g mid h why k e = record {
  passes = ap passed_events e ∙ k.passes;
  same = ap (λ (r : Replaying). r.recorded) e ∙ k.same;
  traps = ap (λ (r : Replaying). r.traps) e ∙ ap raised_count k.traps;
}

pub does_trap : (g h : Replaying) (q : GuestRequest) (before : List ℕ) (after : ℕ) → Replays g (trapped q before after) h → TrapsKept g h
does_trap g h q before after (inl (n, (mid, inl (cannot, len, e)))) = traps_kept g mid h _ (opened_kept g mid cannot.1) e
does_trap g h q before after (inl (n, (mid, inr (why, begun, reason, e)))) = traps_kept g mid h why (begun_kept q g (length before) mid after begun) e
does_trap g h q before after (inr (n, len, e)) = record { passes = ap passed_events e; same = ap (λ (r : Replaying). r.recorded) e; traps = ap (λ (r : Replaying). r.traps) e }

-- ---- calls in a row

passes_then : (g mid h : Replaying) (es fs : List Event) → PassesRecorded g mid es → PassesRecorded mid h fs → PassesRecorded g h (es ++ fs)
passes_then g mid h es fs a b = record {
  next = a.next ++ b.next;
  same = b.same ∙ a.same;
  goes = b.goes ∙ ap (λ l. l ++ b.next) a.goes ∙ append_assoc (passed_events g) a.next b.next;
  alike = alike_then es fs a.next b.next a.alike b.alike;
}

-- What calls that didn't trap tell is alike the recorded events that were passed.
pub chain_passes : ChainPasses
chain_passes g h len last [] a (e, f) = record { next = []; same = ap (λ (k : Replaying). k.recorded) e; goes = ap passed_events e ∙ sym (append-nil (passed_events g)); alike = refl }
chain_passes g h len last (x ∷ calls) (i, a) (mid, b, does, rest) =
    let one = does_pass g mid x i does in
    passes_then g mid h (outcome_events x) (flat_map outcome_events calls) (record { next = one.next; same = one.same; goes = one.goes; alike = one.alike }) (chain_passes mid h (to_length x) last calls a rest)
