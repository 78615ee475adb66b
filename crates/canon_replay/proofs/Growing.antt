-- How long memory is after the calls of a guest that replays, and that it goes on where none of them trapped.
use Rattle.std.proofs.Common.{List, None, Some, [], ap, arith, flat_map, inl, inr, length, subst, sym, ℕ, ◌++◌, ◌<◌, ◌∙◌, ◌∷◌, ◌≡◌, ◌≢◌, ◌≤◌}
use Rattle.std.proofs.lemmas.Bool.{eq-eqb}
use Rattle.std.specs.Prelude.{Bool, if◌then◌else◌}
use Rattle.canon_model.specs.Requests.{Call}
use Rattle.canon_memory.specs.declared.event.Event.{Event}
use Rattle.canon_memory.specs.declared.event.Event.TheVariants as event
use Rattle.canon_func.specs.Runs.{Each}
use Rattle.canon_replay_guest.specs.Following.{IsBefore, IsOfRequest}
use Rattle.canon_replay_guest.specs.Moves.{BeginsRequest, Chain, GuestRequest, Replays, RequestOutcome, answered, destroys, ended, from_length, outcome_events, posts, reallocates, resumes, starts, stepped, to_length, trap_told, trapped}
use Rattle.canon_replay_guest.specs.Replaying.{IsOpened, Replaying, call_events, events_now, start_length, stopped_for, wanted_length}
use Rattle.canon_replay_guest.specs.declared.stop.Stop.TheVariants as stop
use Rattle.canon_replay_guest.proofs.Following.{opens, stays_stopped}
use Rattle.canon_replay_guest.proofs.Passing.{opened_kept}
use Rattle.canon_replay.proofs.Agreeing.{none_there, same_head}
use Rattle.canon_replay.proofs.Behind.{IsNoTrap}

-- ---- memory doesn't become shorter

begins_longer : (q : GuestRequest) (g : Replaying) (len : ℕ) (mid : Replaying) (grown : ℕ) → BeginsRequest q g len mid grown → len ≤ grown
begins_longer (starts f ws) g len mid grown b = b.2.0
begins_longer (reallocates c) g len mid grown b = b.2.0
begins_longer (resumes ws) g len mid grown b = omega (arith, b.1)
begins_longer (posts f ws) g len mid grown b = omega (arith, b.1)
begins_longer (destroys f r) g len mid grown b = omega (arith, b.1)

one_longer : (g h : Replaying) (x : RequestOutcome) → Replays g x h → from_length x ≤ to_length x
one_longer g h (stepped q before after s) (n, l, (mid, grown, b, next, is, e)) = omega (arith, begins_longer q g (length before) mid grown b, is.1.0)
one_longer g h (answered c before after answer) (n, (mid, b, is, lawful, e)) = b.2.0
one_longer g h (ended q before) d = omega arith
one_longer g h (trapped q before after) (inl (n, (mid, inl (cannot, same, e)))) = omega (arith, same)
one_longer g h (trapped q before after) (inl (n, (mid, inr (why, b, reason, e)))) = begins_longer q g (length before) mid after b
one_longer g h (trapped q before after) (inr (some, same, e)) = omega (arith, same)

pub chain_longer : (g h : Replaying) (len last : ℕ) (calls : List RequestOutcome) → Chain g len calls h last → len ≤ last
chain_longer g h len last [] (e, f) = omega (arith, f)
chain_longer g h len last (x ∷ calls) (mid, b, d, rest) = omega (arith, b, one_longer g mid x d, chain_longer mid h (to_length x) last calls rest)

-- ---- a guest goes on, where no call trapped

each_front : (P : Event → Type 0) (xs ys : List Event) → Each P (xs ++ ys) → Each P xs
each_front P [] ys h = tt
each_front P (x ∷ xs) ys h = (h.0, each_front P xs ys h.1)

each_rest : (P : Event → Type 0) (xs ys : List Event) → Each P (xs ++ ys) → Each P ys
each_rest P [] ys h = h
each_rest P (x ∷ xs) ys h = each_rest P xs ys h.1

trap_tells : (q : GuestRequest) (before : List ℕ) → ¬ Each IsNoTrap (trap_told q before)
trap_tells (starts f ws) before h = h.1.0
trap_tells (resumes ws) before h = h.1.0
trap_tells (reallocates c) before h = h.0
trap_tells (posts f ws) before h = h.1.0
trap_tells (destroys f r) before h = h.1.0

one_goes : (g h : Replaying) (x : RequestOutcome) → Each IsNoTrap (outcome_events x) → Replays g x h → g.stop ≡ None → h.stop ≡ None
one_goes g h (stepped q before after s) calm (n, l, (mid, grown, b, next, is, e)) going = ap (λ (r : Replaying). r.stop) e ∙ ((opened_kept g mid (opens q g (length before) mid grown b)).stop ∙ going)
one_goes g h (answered c before after answer) calm (n, (mid, b, is, lawful, e)) going = ap (λ (r : Replaying). r.stop) e ∙ ((opened_kept g mid b.0).stop ∙ going)
one_goes g h (ended q before) calm (n, l, (mid, o, next, e)) going = ap (λ (r : Replaying). r.stop) e ∙ ((opened_kept g mid o).stop ∙ going)
one_goes g h (trapped q before after) calm d going = absurd (trap_tells q before calm)

pub chain_goes : (g h : Replaying) (len last : ℕ) (calls : List RequestOutcome) → Each IsNoTrap (flat_map outcome_events calls) → Chain g len calls h last → g.stop ≡ None → h.stop ≡ None
chain_goes g h len last [] calm (e, f) going = ap (λ (r : Replaying). r.stop) e ∙ going
chain_goes g h len last (x ∷ calls) calm (mid, b, d, rest) going =
    chain_goes mid h (to_length x) last calls (each_rest IsNoTrap (outcome_events x) (flat_map outcome_events calls) calm) rest
    (one_goes g mid x (each_front IsNoTrap (outcome_events x) (flat_map outcome_events calls) calm) d going)

-- ---- the first request of a call

other_head : (x e : Event) (xs more : List Event) (c : Call) → ¬ IsOfRequest x (reallocates c) → x ∷ xs ≡ e ∷ more → ¬ IsOfRequest e (reallocates c)
other_head x e xs more c not is of = not (subst (λ (y : Event). IsOfRequest y (reallocates c)) (sym (same_head x e xs more is)) of)

module _ (k : ℕ) (g : Replaying) (at : IsBefore k g) (few : k < length g.recorded) (some : 0 < length (call_events g.recorded k)) where
  -- it opens the call
  opened_there : (mid : Replaying) → IsOpened g mid → (mid.recorded ≡ g.recorded) × (mid.call ≡ k) × (mid.at ≡ 0)
  opened_there mid o = by at o
    where
      by : IsBefore k g → IsOpened g mid → (mid.recorded ≡ g.recorded) × (mid.call ≡ k) × (mid.at ≡ 0)
      by (inl (c, z)) (inl (over, e)) = absurd (omega (arith, z, over.0, subst (λ (i : ℕ). 0 < length (call_events g.recorded i)) (sym c) some))
      by (inl (c, z)) (inr (not_over, e)) = (ap (λ (r : Replaying). r.recorded) e, ap (λ (r : Replaying). r.call) e ∙ c, ap (λ (r : Replaying). r.at) e ∙ z)
      by (inr (c, past)) (inl (over, e)) = (ap (λ (r : Replaying). r.recorded) e, omega (arith, c, ap (λ (r : Replaying). r.call) e), ap (λ (r : Replaying). r.at) e)
      by (inr (c, past)) (inr (not_over, e)) = absurd (not_over (past, omega (arith, c, few)))

  wanted_there : (mid : Replaying) (len : ℕ) → IsOpened g mid → wanted_length mid len ≡ start_length (call_events g.recorded k) len
  wanted_there mid len o =
      let (same, c, z) = opened_there mid o in
      ap (λ (b : Bool). if b then start_length (events_now mid) len else len) (eq-eqb mid.at 0 z)
      ∙ (ap (λ (rs : List (List Event)). start_length (call_events rs mid.call) len) same ∙ ap (λ (i : ℕ). start_length (call_events g.recorded i) len) c)

  module _ (h : Replaying) (len last : ℕ) (going : g.stop ≡ None) (fit : h.stop ≢ Some stop.Unfit) where
    from_wanted : (before after : ℕ) (mid : Replaying) → before ≡ len → IsOpened g mid → after ≡ wanted_length mid before → after ≤ last → start_length (call_events g.recorded k) len ≤ last
    from_wanted before after mid b o w le =
        let grown : after ≡ start_length (call_events g.recorded k) len = w ∙ (wanted_there mid before o ∙ ap (λ (n : ℕ). start_length (call_events g.recorded k) n) b) in
        omega (arith, grown, le)

    unfit_stays : (mid r : Replaying) (n : ℕ) (calls : List RequestOutcome) → r ≡ stopped_for mid stop.Unfit → ¬ Chain r n calls h last
    unfit_stays mid r n calls e rest =
        let is : r.stop ≡ Some stop.Unfit = ap (λ (x : Replaying). x.stop) e in
        fit ((stays_stopped r h n last calls (λ none. some_not_none (sym is ∙ none)) rest).0 ∙ is)
      where
        some_not_none : ¬ (Some stop.Unfit ≡ None)
        some_not_none x = cc

    -- Where the first event is of a request for a block, memory is as long as the call's start from then on.
    pub first_grown : (calls : List RequestOutcome) (c : Call) (e : Event) (more : List Event) → Chain g len calls h last → flat_map outcome_events calls ≡ e ∷ more → IsOfRequest e (reallocates c)
        → start_length (call_events g.recorded k) len ≤ last
    first_grown [] c e more chain is of = absurd (none_there e more is)
    first_grown (answered d before after answer ∷ calls) c e more (r, b, (n, (mid, begins, told, lawful, ends)), rest) is of =
        from_wanted before after mid b begins.0 begins.1 (chain_longer r h after last calls rest)
    first_grown (trapped (reallocates d) before after ∷ calls) c e more (r, b, inl (n, (mid, inl (cannot, same, ends))), rest) is of = absurd (unfit_stays mid r after calls ends rest)
    first_grown (trapped (reallocates d) before after ∷ calls) c e more (r, b, inl (n, (mid, inr (why, begins, reason, ends))), rest) is of =
        from_wanted (length before) after mid b begins.0 begins.1 (chain_longer r h after last calls rest)
    first_grown (trapped (reallocates d) before after ∷ calls) c e more (r, b, inr (stands, same, ends), rest) is of = absurd (stands going)
    first_grown (trapped (starts f ws) before after ∷ calls) c e more chain is of = absurd (other_head (event.Start f ws before) e _ more c (λ x. x) is of)
    first_grown (trapped (resumes ws) before after ∷ calls) c e more chain is of = absurd (other_head (event.Resume ws before) e _ more c (λ x. x) is of)
    first_grown (trapped (posts f ws) before after ∷ calls) c e more chain is of = absurd (other_head (event.Post f ws) e _ more c (λ x. x) is of)
    first_grown (trapped (destroys f p) before after ∷ calls) c e more chain is of = absurd (other_head (event.Dtor f p) e _ more c (λ x. x) is of)
    first_grown (stepped (starts f ws) before after s ∷ calls) c e more chain is of = absurd (other_head (event.Start f ws before) e _ more c (λ x. x) is of)
    first_grown (stepped (resumes ws) before after s ∷ calls) c e more chain is of = absurd (other_head (event.Resume ws before) e _ more c (λ x. x) is of)
    first_grown (stepped (reallocates d) before after s ∷ calls) c e more (r, b, (n, l, done), rest) is of = absurd l
    first_grown (stepped (posts f ws) before after s ∷ calls) c e more (r, b, (n, l, done), rest) is of = absurd l
    first_grown (stepped (destroys f p) before after s ∷ calls) c e more (r, b, (n, l, done), rest) is of = absurd l
    first_grown (ended (starts f ws) before ∷ calls) c e more (r, b, (n, l, done), rest) is of = absurd l
    first_grown (ended (resumes ws) before ∷ calls) c e more (r, b, (n, l, done), rest) is of = absurd l
    first_grown (ended (reallocates d) before ∷ calls) c e more (r, b, (n, l, done), rest) is of = absurd l
    first_grown (ended (posts f ws) before ∷ calls) c e more chain is of = absurd (other_head (event.Post f ws) e _ more c (λ x. x) is of)
    first_grown (ended (destroys f p) before ∷ calls) c e more chain is of = absurd (other_head (event.Dtor f p) e _ more c (λ x. x) is of)
