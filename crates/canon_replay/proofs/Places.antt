-- Where a guest is in a call, by what it followed.
use Rattle.std.proofs.Common.{Bool, List, Option, [], ap, arith, false, inl, inr, length, refl, subst, suc, sym, take, true, ℕ, ◌<◌, ◌∙◌, ◌∷◌, ◌≡◌, ◌≤◌, ◌⊎◌}
use Rattle.std.proofs.lemmas.Bool.{eq-eqb, le-ltb, lt-ltb, ltb-false, ltb-true, ne_eqb}
use Rattle.std.proofs.lemmas.Option.{slice_get_past}
use Rattle.std.specs.Prelude.{nat_lt}
use Rattle.canon_model.specs.Memory.{Block}
use Rattle.canon_memory.specs.declared.event.Event.{Event}
use Rattle.canon_memory.specs.Guest.{GuestIn}
use Rattle.canon_memory.specs.Watch.{live_along}
use Rattle.canon_replay_guest.specs.Following.{IsLeftBy, Leaves}
use Rattle.canon_replay_guest.specs.Moves.{Chain, ReplayMoves, Replays, RequestOutcome, answered, ended, stepped, to_length, trapped}
use Rattle.canon_replay_guest.specs.Passing.{AreAlike}
use Rattle.canon_replay_guest.specs.Replaying.{Replaying, call_events}
use Rattle.canon_replay_guest.specs.declared.stop.Stop.{Stop}
use Rattle.canon_replay_guest.proofs.Passing.{does_pass, does_trap}
use Rattle.canon_recording.proofs.Rows.{take_all}
use Rattle.canon_replay.specs.Outcomes.{place_in_call}

-- ---- what is recorded stays

one_same : (g h : Replaying) (x : RequestOutcome) → Replays g x h → h.recorded ≡ g.recorded
one_same g h (stepped q before after step) d = (does_pass g h (stepped q before after step) tt d).same
one_same g h (answered c before after answer) d = (does_pass g h (answered c before after answer) tt d).same
one_same g h (ended q before) d = (does_pass g h (ended q before) tt d).same
one_same g h (trapped q before after) d = (does_trap g h q before after d).same

chain_same : (g h : Replaying) (len last : ℕ) (calls : List RequestOutcome) → Chain g len calls h last → h.recorded ≡ g.recorded
chain_same g h len last [] (e, f) = ap (λ (r : Replaying). r.recorded) e
chain_same g h len last (x ∷ calls) (mid, b, d, rest) = chain_same mid h (to_length x) last calls rest ∙ one_same g mid x d

pub recorded_same : (g h : GuestIn Replaying) (events : List Event) → ReplayMoves g events h → h.guest.recorded ≡ g.guest.recorded
recorded_same g h events m = chain_same g.guest h.guest g.len h.len m.calls m.chain

-- ---- places

-- the place in a call of so many events, of a guest that passed so many
abbrev pub IsPlaceIn : ℕ → ℕ → ℕ → Type 0
IsPlaceIn count at place = ((place ≡ at) × (at < count)) ⊎ ((place ≡ count) × (count ≤ at))

module _ (k : ℕ) (g : Replaying) where
  abbrev count : ℕ
  count = length (call_events g.recorded k)

  pub place_before : suc g.call ≡ k → place_in_call k g ≡ 0
  place_before e = rw (lt-ltb g.call k (omega (arith, e))) refl

  pub place_after : k < g.call → place_in_call k g ≡ count
  place_after lt = rw (le-ltb g.call k (omega (arith, lt))) rw (ne_eqb g.call k (λ e. omega (arith, lt, e))) refl

  pub place_there : g.call ≡ k → IsPlaceIn count g.at (place_in_call k g)
  place_there e = go (nat_lt g.at count) refl
    where
      go : (b : Bool) → nat_lt g.at count ≡ b → IsPlaceIn count g.at (place_in_call k g)
      go true is = inl (rw (le-ltb g.call k (omega (arith, e))) rw (eq-eqb g.call k e) rw is refl, ltb-true g.at count is)
      go false is = inr (rw (le-ltb g.call k (omega (arith, e))) rw (eq-eqb g.call k e) rw is refl, ltb-false g.at count is)

-- past the last recorded event what is recorded is the same
pub take_there : (es : List Event) (n : ℕ) → length es ≤ n → take n es ≡ take (length es) es
take_there es n h = take_all es n h ∙ sym (take_all es (length es) (omega arith))

pub leaves_there : (why : Stop) (recorded : List Event) (n : ℕ) (live : List Block) (len : ℕ) (events : List Event) → length recorded ≤ n → Leaves why recorded n live len events → Leaves why recorded (length recorded) live len events
leaves_there why recorded n live len events h l = record {
  followed = l.followed;
  made = l.made;
  rest = l.rest;
  is = l.is;
  alike = subst (AreAlike l.followed) (take_there recorded n h) l.alike;
  request = l.request;
  of = l.of;
  left = subst (λ (e : Option Event). IsLeftBy why e (live_along live l.followed) len l.request) (slice_get_past recorded n h ∙ sym (slice_get_past recorded (length recorded) (omega arith))) l.left;
}
