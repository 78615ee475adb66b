-- A guest that is before a recorded call in which no block was asked for behind its start: it is before the next one after the call was replayed, and a recorded answer
-- that is lawful is lawful where it is asked for.
use Rattle.std.proofs.Common.{List, None, Some, [], ap, arith, drop, inl, inr, length, length-append, refl, subst, suc, sym, take, zero, ℕ, ◌+◌, ◌++◌, ◌<◌, ◌^◌, ◌∙◌, ◌∷◌, ◌≡◌, ◌≤◌, ◌⊎◌}
use Rattle.std.proofs.lemmas.Option.{slice_get_within}
use Rattle.std.specs.Prelude.{slice_get}
use Rattle.canon_model.specs.Memory.{Block}
use Rattle.canon_memory.specs.declared.event.Event.{Event}
use Rattle.canon_memory.specs.Guest.{of_guest}
use Rattle.canon_memory.specs.Journal.{answer_event}
use Rattle.canon_memory.specs.Watch.{live_along}
use Rattle.canon_lowering.specs.Lowering.{Answer, events_of}
use Rattle.canon_context.specs.Core.{guest_of}
use Rattle.canon_func.specs.Runs.{Each}
use Rattle.canon_replay_guest.proofs.Fitting.{never_unfit}
use Rattle.canon_replay_guest.proofs.Following.{moves_follow}
use Rattle.canon_replay_guest.specs.Fitting.{CanReplayFrom}
use Rattle.canon_replay_guest.specs.Following.{Follows, IsBefore, IsOfRequest, IsPassedCount, Leaves, Overruns, TrapsInCall}
use Rattle.canon_replay_guest.specs.Lawful.{IsLawfulAnswer}
use Rattle.canon_replay_guest.specs.Moves.{ReplayMoves}
use Rattle.canon_replay_guest.specs.Passing.{AreAlike}
use Rattle.canon_replay_guest.specs.Replaying.{Replaying, call_events, events_now, or_none, start_length}
use Rattle.canon_replay_guest.specs.declared.stop.Stop.{Stop}
use Rattle.canon_replay_guest.specs.declared.stop.Stop.TheVariants as stop
use Rattle.canon_replay.specs.Faithful.{AreLawfulAnswers}
use Rattle.canon_replay.specs.Stores.{ReplayStore, guest_in_store}
use Rattle.canon_replay.proofs.Behind.{IsNoTrap}
use Rattle.canon_replay.proofs.Following.{calm_alike, each_alike}
use Rattle.canon_replay.proofs.Growing.{chain_goes, first_grown}
use Rattle.canon_replay.proofs.Lawfully.{IsUnanswered, alike_length, along_alike, first_asked, lawful_in_more, lawful_there, quiet_length, quiet_live, quiet_tail}
use Rattle.canon_replay.proofs.Rows.{drop_rest, get_first}

-- The guest is before call k, and these are recorded from that call on; no block lives, and it has steps to make and memories that it can make.
pub record IsBeforeCall (k : ℕ) (store : ReplayStore) (left : List (List Event)) : Type 0 where
  pub going : (guest_in_store store).stop ≡ None
  pub before : IsBefore k (guest_in_store store)
  pub can : CanReplayFrom (guest_in_store store) (length store.core.memory)
  pub small : length store.core.memory ≤ 2 ^ 32
  pub live : (guest_in_store store).live ≡ []
  pub left_are : drop k (guest_in_store store).recorded ≡ left

take_few : (n : ℕ) (xs : List Event) → length (take n xs) ≤ n
take_few zero [] = omega arith
take_few zero (x ∷ xs) = omega arith
take_few (suc n) [] = omega arith
take_few (suc n) (x ∷ xs) = omega (arith, take_few n xs)

take_length : (xs : List Event) → length (take (length xs) xs) ≡ length xs
take_length [] = refl
take_length (x ∷ xs) = ap suc (take_length xs)

some_stop : (why : Stop) → ¬ (Some why ≡ None)
some_stop why e = cc

module _ (k : ℕ) (store : ReplayStore) (its : List Event) (others : List (List Event)) (at : IsBeforeCall k store (its ∷ others)) (func : ℕ) (words memory : List ℕ) (behind : List Event) (unanswered : IsUnanswered behind)
    (none_lives : live_along [] behind ≡ []) (answers : List Answer) (is : its ≡ events_of answers None ++ quiet_tail func words memory behind) where
  abbrev g : Replaying
  g = guest_in_store store

  there : slice_get g.recorded k ≡ Some its
  there = get_first g.recorded k its others at.left_are

  events_are : call_events g.recorded k ≡ its
  events_are = ap or_none there

  few : k < length g.recorded
  few = slice_get_within g.recorded k its there

  some_its : 0 < length its
  some_its = omega (arith, ap length is, length-append (events_of answers None) (quiet_tail func words memory behind))

  some : 0 < length (call_events g.recorded k)
  some = omega (arith, some_its, ap length events_are)

  start_at : (len : ℕ) → start_length its len ≡ length memory
  start_at len = ap (λ (es : List Event). start_length es len) is ∙ quiet_length func words memory behind unanswered none_lives answers len

  -- ---- a lawful answer

  module _ (next : ReplayStore) (events : List Event) (m : ReplayMoves (of_guest (guest_of store.core)) events (of_guest (guest_of next.core))) where
    abbrev h : Replaying
    h = guest_in_store next

    pub lawful_is_given : AreLawfulAnswers [] (start_length its 0) its → (place : ℕ) → ¬ Leaves stop.Unlawful its place g.live (length next.core.memory) events
    lawful_is_given law place l =
        let (c, a, asked, told, bad) = l.left in
        let told_in : slice_get (events_of answers None ++ quiet_tail func words memory behind) place ≡ Some (answer_event c a) = subst (λ (es : List Event). slice_get es place ≡ Some (answer_event c a)) is told in
        let alike_in : AreAlike l.followed (take place (events_of answers None ++ quiet_tail func words memory behind)) = subst (λ (es : List Event). AreAlike l.followed (take place es)) is l.alike in
        let (d, e, more, first, of) = first_asked func words memory behind unanswered none_lives answers place l.followed l.rest l.made c a told_in alike_in (subst (IsOfRequest l.made) asked l.of) in
        let grown = first_grown k g at.before few some h (length store.core.memory) (length next.core.memory) at.going (never_unfit (of_guest (guest_of store.core)) (of_guest (guest_of next.core)) events at.going at.small at.can m).0
        m.calls d e more m.chain (sym m.told_by ∙ (l.is ∙ first)) of in
        let lawful : IsLawfulAnswer (live_along [] l.followed) (start_length its 0) c a = lawful_there func words memory behind unanswered none_lives answers [] (start_length its 0) place l.followed c a
        (subst (AreLawfulAnswers [] (start_length its 0)) is law) told_in alike_in in
        bad (lawful_in_more (live_along g.live l.followed) (start_length its 0) (length next.core.memory) c a
        (omega (arith, grown, start_at 0, ap (λ (es : List Event). start_length es (length store.core.memory)) events_are, start_at (length store.core.memory)))
        (subst (λ (live : List Block). IsLawfulAnswer (live_along live l.followed) (start_length its 0) c a) (sym at.live) lawful))

    -- ---- the next call

    module _ (alike : AreAlike events its) (calm : Each IsNoTrap its) (same : h.recorded ≡ g.recorded) where
      as_long : length events ≡ length its
      as_long = alike_length events its alike

      going_on : h.stop ≡ None
      going_on = chain_goes g h (length store.core.memory) (length next.core.memory) m.calls
          (subst (Each IsNoTrap) m.told_by (each_alike IsNoTrap IsNoTrap calm_alike events its alike calm)) m.chain at.going

      -- all of its events were passed
      past_all : Follows k g h events → (suc h.call ≡ k + 1) × (length (events_now h) ≤ h.at)
      past_all f = by f.passes
        where
          counted : length its ≤ f.count
          counted = omega (arith, as_long, alike_length events (take f.count (call_events g.recorded k)) f.alike, take_few f.count (call_events g.recorded k))

          by : IsPassedCount k h f.count → (suc h.call ≡ k + 1) × (length (events_now h) ≤ h.at)
          by (inl (c, n)) =
              let now : events_now h ≡ its = ap (λ (rs : List (List Event)). call_events rs h.call) same ∙ (ap (call_events g.recorded) c ∙ events_are) in
              (omega (arith, c), omega (arith, n, counted, ap length now))
          by (inr (c, n)) = absurd (omega (arith, n, counted, some_its))

      over : Follows k g h events ⊎ TrapsInCall k g h (length next.core.memory) events ⊎ Overruns k g h (length next.core.memory) events
          → (suc h.call ≡ k + 1) × (length (events_now h) ≤ h.at) × (h.live ≡ [])
      over (inl f) =
          let p = past_all f in
          (p.0, p.1, f.live ∙ (along_alike g.live events its alike ∙ (ap (live_along g.live) is ∙ quiet_live func words memory behind unanswered none_lives answers g.live)))
      over (inr (inl (why, s, c, l))) = absurd (some_stop why (sym s ∙ going_on))
      over (inr (inr (lt, l))) = absurd (omega (
        arith,
        as_long,
        ap length l.is,
        length-append l.followed (l.made ∷ l.rest),
        alike_length l.followed (take (length (call_events g.recorded k)) (call_events g.recorded k)) l.alike,
        take_length (call_events g.recorded k),
        ap length events_are,
      ))

      pub before_next : IsBeforeCall (k + 1) next others
      before_next =
          let o = over (moves_follow k (of_guest (guest_of store.core)) (of_guest (guest_of next.core)) events at.going few at.before m) in
          let on = (never_unfit (of_guest (guest_of store.core)) (of_guest (guest_of next.core)) events at.going at.small at.can m).1 going_on in
          record {
            going = going_on;
            before = inr (o.0, o.1);
            can = on.0;
            small = on.1;
            live = o.2;
            left_are = ap (drop (k + 1)) same ∙ drop_rest g.recorded k its others at.left_are;
          }
