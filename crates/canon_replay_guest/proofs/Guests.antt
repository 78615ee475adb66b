-- What a guest that replays does, as any guest is seen.
use Rattle.std.specs.Prelude.{IfOk}
use Rattle.std.proofs.Common.{List, None, Result, Ok, Err, [], append-nil, ap, arith, flat_map, inl, inr, length, min, refl, subst, sym, true, ℕ, ◌+◌, ◌++◌, ◌-◌, ◌^◌, ◌∷◌, ◌≡◌, ◌≤◌, ◌∙◌, ◌⊎◌, ⊎_elim}
use Rattle.canon_model.specs.Memory.{Block, Memory}
use Rattle.canon_model.specs.Requests.{Call}
use Rattle.canon_memory.specs.declared.error.GuestFault.{GuestFault}
use Rattle.canon_memory.specs.declared.error.GuestFault.TheVariants as fault
use Rattle.canon_memory.specs.declared.event.Event.{Event}
use Rattle.canon_memory.specs.declared.guest.Step.{Step}
use Rattle.canon_memory.specs.Counts.{Rose}
use Rattle.canon_memory.specs.Guest.{Goes, HasCause, Mark, OnAnswer, Reallocates, guest_in, moment}
use Rattle.canon_memory.specs.Journal.{answer_event, dtor_events, post_events, realloc_events, resume_events, start_events}
use Rattle.canon_memory.specs.Realloc.{IsTidy, ReallocLaw, new_block}
use Rattle.canon_memory.specs.Watch.{relisted}
use Rattle.canon_scripted.specs.Scripted.{raised_count}
use Rattle.canon_replay_guest.specs.Leaves.{DoesEnd, DoesStep, IsCopied, IsLater, IsOutOfMemory, ReallocatesAsRecorded}
use Rattle.canon_replay_guest.specs.Moves.{BeginsRequest, GuestRequest, ReplayMoves, Replays, RequestOutcome, answered, destroys, ended, from_length, outcome_events, posts, reallocates, resumes, starts, stepped, to_length, trapped}
use Rattle.canon_replay_guest.specs.Passing.{IsUntrapped}
use Rattle.canon_replay_guest.specs.Replaying.{CanGrow, IsOpened, Replaying, grown_to, marks_of_event, moved, passed_events, replay_seen}
use Rattle.canon_replay_guest.proofs.Bytes.{after_length, is_tidy, keeps_law}
use Rattle.canon_replay_guest.proofs.Passing.{Kept, begun_kept, does_pass, does_trap, kept_itself, mark_given, marks_append, marks_by, opened_kept}

-- ---- marks and counts

abbrev marks : Replaying → List Mark
marks g = flat_map marks_of_event (passed_events g)

answered_marks : (g h : Replaying) (x : RequestOutcome) → IsUntrapped x → Replays g x h → marks h ≡ marks g ++ marks_by x
answered_marks g h x i d =
    let p = does_pass g h x i d in
    ap (λ (es : List Event). flat_map marks_of_event es) p.goes ∙ marks_append (passed_events g) p.next ∙ ap (λ (ms : List Mark). marks g ++ ms) p.marked

trap_marks : (g h : Replaying) (q : GuestRequest) (before : List ℕ) (after : ℕ) → Replays g (trapped q before after) h → marks h ≡ marks g ++ []
trap_marks g h q before after d = ap (λ (es : List Event). flat_map marks_of_event es) (does_trap g h q before after d).passes ∙ sym (append-nil (marks g))

short_kept : (g mid : Replaying) → (mid ≡ g) ⊎ IsOpened g mid → Kept g mid
short_kept g mid (inl e) = kept_itself g mid e
short_kept g mid (inr o) = opened_kept g mid o

short_marks : (g h : Replaying) → IsOutOfMemory g h → marks h ≡ marks g ++ []
short_marks g h (mid, o, e) = ap marks e ∙ ap (λ (es : List Event). flat_map marks_of_event es) (short_kept g mid o).passes ∙ sym (append-nil (marks g))

rises : (x z : ℕ) → z ≡ raised_count x → Rose x z
rises x z e = subst (λ (n : ℕ). min (x + 1) (2 ^ 64 - 1) ≤ n) (sym e) (omega arith)

trap_rises : (g h : Replaying) (q : GuestRequest) (before : List ℕ) (after : ℕ) → Replays g (trapped q before after) h → Rose g.traps h.traps
trap_rises g h q before after d = rises g.traps h.traps (does_trap g h q before after d).traps

short_rises : (g h : Replaying) → IsOutOfMemory g h → Rose g.shortages h.shortages
short_rises g h (mid, o, e) = rises g.shortages h.shortages (ap (λ (r : Replaying). r.shortages) e ∙ ap raised_count (short_kept g mid o).shortages)

goes_so : (g h : Replaying) (m m2 : List ℕ) (ms : List Mark) (es : List Event) → length m ≤ length m2 → IsLater g h → marks h ≡ marks g ++ ms → Goes (moment (replay_seen g) m) (moment (replay_seen h) m2) ms es
goes_so g h m m2 ms es le later e = record { no_shorter = le; traps_later = later.0; shortages_later = later.1; marks = e; events = refl }

-- ---- one call is a move

one_move : (g h : Replaying) (m m2 : Memory) (x : RequestOutcome) (es : List Event) → es ≡ outcome_events x ++ [] → from_length x ≡ length m.bytes → to_length x ≡ length m2.bytes → Replays g x h
    → ReplayMoves (guest_in g m) es (guest_in h m2)
one_move g h m m2 x es t b a d = record { calls = x ∷ []; told_by = t; chain = (h, b, d, (refl, sym a)) }

-- ---- steps

step_marks : (q : GuestRequest) (g h : Replaying) (m m2 : List ℕ) (r : Result Step GuestFault) → DoesStep q g m h m2 r → marks h ≡ marks g ++ []
step_marks q g h m m2 (Ok s) d = answered_marks g h (stepped q m m2 s) tt d
step_marks q g h m m2 (Err fault.Trap) d = trap_marks g h q m (length m2) d
step_marks q g h m m2 (Err fault.OutOfMemory) d = short_marks g h d

pub step_goes : (q : GuestRequest) (g h : Replaying) (m m2 : List ℕ) (r : Result Step GuestFault) (es : List Event) → DoesStep q g m h m2 r → length m ≤ length m2 → IsLater g h
    → Goes (moment (replay_seen g) m) (moment (replay_seen h) m2) [] es
step_goes q g h m m2 r es d le later = goes_so g h m m2 [] es le later (step_marks q g h m m2 r d)

pub step_cause : (q : GuestRequest) (g h : Replaying) (m m2 : List ℕ) (r : Result Step GuestFault) → DoesStep q g m h m2 r → HasCause (replay_seen g) (replay_seen h) r
step_cause q g h m m2 (Ok s) d = tt
step_cause q g h m m2 (Err fault.Trap) d = trap_rises g h q m (length m2) d
step_cause q g h m m2 (Err fault.OutOfMemory) d = short_rises g h d

pub replay_start_moves : (func : ℕ) (words : List ℕ) (g h : Replaying) (m m2 : Memory) (r : Result Step GuestFault) → DoesStep (starts func words) g m.bytes h m2.bytes r
    → OnAnswer r (ReplayMoves (guest_in g m) (start_events func words m.bytes m2.bytes r) (guest_in h m2))
replay_start_moves func words g h m m2 (Ok s) d = one_move g h m m2 (stepped (starts func words) m.bytes m2.bytes s) _ refl refl refl d
replay_start_moves func words g h m m2 (Err fault.Trap) d = one_move g h m m2 (trapped (starts func words) m.bytes (length m2.bytes)) _ refl refl refl d
replay_start_moves func words g h m m2 (Err fault.OutOfMemory) d = tt

pub replay_resume_moves : (words : List ℕ) (g h : Replaying) (m m2 : Memory) (r : Result Step GuestFault) → DoesStep (resumes words) g m.bytes h m2.bytes r
    → OnAnswer r (ReplayMoves (guest_in g m) (resume_events words m.bytes m2.bytes r) (guest_in h m2))
replay_resume_moves words g h m m2 (Ok s) d = one_move g h m m2 (stepped (resumes words) m.bytes m2.bytes s) _ refl refl refl d
replay_resume_moves words g h m m2 (Err fault.Trap) d = one_move g h m m2 (trapped (resumes words) m.bytes (length m2.bytes)) _ refl refl refl d
replay_resume_moves words g h m m2 (Err fault.OutOfMemory) d = tt

-- ---- answers

given_law : (g h : Replaying) (m m2 : List ℕ) (c : Call) (answer : ℕ) → ReallocatesAsRecorded g m c h m2 (Ok answer) → ReallocLaw g.live h.live m m2 c answer × IsTidy m m2 (new_block c answer) × (length m ≤ length m2)
given_law g h m m2 c answer ((none, (mid, begins, is, lawful, e)), copied) =
    let can = begins.2 in
    let same : mid.live ≡ g.live = (begun_kept (reallocates c) g (length m) mid (length m2) begins).live in
    let after : relisted mid.live c answer ≡ h.live = sym (ap (λ (r : Replaying). r.live) e) in
    let law = keeps_law mid.live m (length m2) m2 c answer can lawful copied in (
      subst (λ (l : List Block). ReallocLaw l h.live m m2 c answer) same (subst (λ (l : List Block). ReallocLaw mid.live l m m2 c answer) after law),
      is_tidy mid.live m (length m2) m2 c answer can lawful copied,
      can.0,
    )

pub gives_does : (c : Call) (g h : Replaying) (m m2 : List ℕ) (r : Result ℕ GuestFault) → ReallocatesAsRecorded g m c h m2 r → IsLater g h → Reallocates (moment (replay_seen g) m) (moment (replay_seen h) m2) c r
gives_does c g h m m2 (Ok answer) d later =
    let law = given_law g h m m2 c answer d in
    (mark_given, record { goes = goes_so g h m m2 (mark_given ∷ []) _ law.2 later (answered_marks g h (answered c (length m) (length m2) answer) tt d.0); lawful = λ t. law.0; tidy = λ t. law.1 })
gives_does c g h m m2 (Err fault.Trap) d later = record { goes = goes_so g h m m2 [] _ d.1 later (trap_marks g h (reallocates c) m (length m2) d.0); rose = trap_rises g h (reallocates c) m (length m2) d.0 }
gives_does c g h m m2 (Err fault.OutOfMemory) d later = record { goes = goes_so g h m m2 [] _ d.1 later (short_marks g h d.0); rose = short_rises g h d.0 }

pub gives_moves : (c : Call) (g h : Replaying) (m m2 : Memory) (r : Result ℕ GuestFault) → ReallocatesAsRecorded g m.bytes c h m2.bytes r → OnAnswer r (ReplayMoves (guest_in g m) (realloc_events c m.bytes r) (guest_in h m2))
gives_moves c g h m m2 (Ok answer) d = one_move g h m m2 (answered c (length m.bytes) (length m2.bytes) answer) _ refl refl refl d.0
gives_moves c g h m m2 (Err fault.Trap) d = one_move g h m m2 (trapped (reallocates c) m.bytes (length m2.bytes)) _ refl refl refl d.0
gives_moves c g h m m2 (Err fault.OutOfMemory) d = tt

pub gives_copied : (c : Call) (g h : Replaying) (m m2 : List ℕ) (r : Result ℕ GuestFault) → ReallocatesAsRecorded g m c h m2 r → IfOk r (λ answer. IsCopied m c answer m2)
gives_copied c g h m m2 (Ok answer) d = d.1
gives_copied c g h m m2 (Err e) d = tt

-- ---- what it ends itself

end_marks : (q : GuestRequest) (g h : Replaying) (m : List ℕ) (r : Result (Unit {0}) GuestFault) → DoesEnd q g m h r → marks h ≡ marks g ++ []
end_marks q g h m (Ok tt) d = answered_marks g h (ended q m) tt d
end_marks q g h m (Err fault.Trap) d = trap_marks g h q m (length m) d
end_marks q g h m (Err fault.OutOfMemory) d = short_marks g h d

pub end_goes : (q : GuestRequest) (g h : Replaying) (m : List ℕ) (r : Result (Unit {0}) GuestFault) (es : List Event) → DoesEnd q g m h r → IsLater g h → Goes (moment (replay_seen g) m) (moment (replay_seen h) m) [] es
end_goes q g h m r es d later = goes_so g h m m [] es (omega arith) later (end_marks q g h m r d)

pub end_cause : (q : GuestRequest) (g h : Replaying) (m : List ℕ) (r : Result (Unit {0}) GuestFault) → DoesEnd q g m h r → HasCause (replay_seen g) (replay_seen h) r
end_cause q g h m (Ok tt) d = tt
end_cause q g h m (Err fault.Trap) d = trap_rises g h q m (length m) d
end_cause q g h m (Err fault.OutOfMemory) d = short_rises g h d

pub replay_post_moves : (func : ℕ) (words : List ℕ) (g h : Replaying) (m : Memory) (r : Result (Unit {0}) GuestFault) → DoesEnd (posts func words) g m.bytes h r
    → OnAnswer r (ReplayMoves (guest_in g m) (post_events func words m.bytes r) (guest_in h m))
replay_post_moves func words g h m (Ok tt) d = one_move g h m m (ended (posts func words) m.bytes) _ refl refl refl d
replay_post_moves func words g h m (Err fault.Trap) d = one_move g h m m (trapped (posts func words) m.bytes (length m.bytes)) _ refl refl refl d
replay_post_moves func words g h m (Err fault.OutOfMemory) d = tt

pub replay_dtor_moves : (func rep : ℕ) (g h : Replaying) (m : Memory) (r : Result (Unit {0}) GuestFault) → DoesEnd (destroys func rep) g m.bytes h r
    → OnAnswer r (ReplayMoves (guest_in g m) (dtor_events func rep m.bytes r) (guest_in h m))
replay_dtor_moves func rep g h m (Ok tt) d = one_move g h m m (ended (destroys func rep) m.bytes) _ refl refl refl d
replay_dtor_moves func rep g h m (Err fault.Trap) d = one_move g h m m (trapped (destroys func rep) m.bytes (length m.bytes)) _ refl refl refl d
replay_dtor_moves func rep g h m (Err fault.OutOfMemory) d = tt
