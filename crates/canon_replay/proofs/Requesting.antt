-- What a call with the recorded parameters asks for before its start is what was recorded, as far as it was answered the same.
use Rattle.std.proofs.Common.{List, None, Option, Some, [], ap, ap₂, refl, subst, subst₂, sym, ℕ, ◌++◌, ◌∙◌, ◌∷◌, ◌≡◌, ◌⊎◌, inl, inr}
use Rattle.canon_model.specs.Requests.{Call, Request, call_of}
use Rattle.canon_memory.specs.declared.event.Event.{Event}
use Rattle.canon_memory.specs.Journal.{answer_event, asked_trap}
use Rattle.canon_memory.specs.Realloc.{call}
use Rattle.canon_lowering.specs.Lowering.{Answer, Meets, Trap, addresses_of, events_of}
use Rattle.canon_replay_guest.specs.Following.{IsOfRequest}
use Rattle.canon_replay_guest.specs.Moves.{GuestRequest, TellsRequest, destroys, posts, reallocates, resumes, starts}
use Rattle.canon_replay_guest.specs.Passing.{IsAlike}
use Rattle.canon_replay.proofs.Agreeing.{Agrees, agrees_more, agrees_none, none_there, same_head, same_tail, some_there}

-- ---- one request

realloc_asked : (x t c : Call) → x ≡ t → call t.old t.old_size t.align t.new_size ≡ c → (x.old ≡ c.old) × (x.old_size ≡ c.old_size) × (x.align ≡ c.align) × (x.new_size ≡ c.new_size)
realloc_asked x t c e f = (
  ap (λ (k : Call). k.old) e ∙ ap (λ (k : Call). k.old) f,
  ap (λ (k : Call). k.old_size) e ∙ ap (λ (k : Call). k.old_size) f,
  ap (λ (k : Call). k.align) e ∙ ap (λ (k : Call). k.align) f,
  ap (λ (k : Call). k.new_size) e ∙ ap (λ (k : Call). k.new_size) f,
)

-- a request that was answered is the recorded one, where both are the same call
answer_told : (x t : Call) (a b : ℕ) (q : GuestRequest) → x ≡ t → IsOfRequest (answer_event t b) q → TellsRequest (answer_event x a) q
answer_told x t a b (starts f ws) e h = h
answer_told x t a b (resumes ws) e h = h
answer_told x t a b (reallocates c) e h = realloc_asked x t c e h
answer_told x t a b (posts f ws) e h = h
answer_told x t a b (destroys f r) e h = h

-- and so is one that trapped
trap_told : (x t : Call) (a len : ℕ) (q : GuestRequest) → x ≡ t → IsOfRequest (asked_trap t len) q → TellsRequest (answer_event x a) q
trap_told x t a len (starts f ws) e h = h
trap_told x t a len (resumes ws) e h = h
trap_told x t a len (reallocates c) e h = realloc_asked x t c e h
trap_told x t a len (posts f ws) e h = h
trap_told x t a len (destroys f r) e h = h

pub trap_no_answer : (t x : Call) (len a : ℕ) → ¬ IsAlike (asked_trap t len) (answer_event x a)
trap_no_answer t x len a h = cc

answered_same : (y x : Call) (b a : ℕ) → IsAlike (answer_event y b) (answer_event x a) → b ≡ a
answered_same y x b a h = cc

-- the first of the same requests is the same call
one_call : (last : ℕ) (r q : Request) (rs more others : List Request) (x y : Call) → rs ≡ r ∷ more → rs ≡ q ∷ others → y ≡ call_of last r → x ≡ call_of last q → x ≡ y
one_call last r q rs more others x y is is2 c d = d ∙ (ap (λ (z : Request). call_of last z) (same_head q r others more (sym is2 ∙ is)) ∙ sym c)

-- ---- all of them

-- Of a call that met the first of some requests, and of one that met them all: the requests agree, and what comes later where all were answered
-- the same. Nothing comes later where some weren't met.
pub asked_agrees : (left : List Request) (later recorded : List Event) → (later ≡ []) ⊎ (left ≡ []) → (answers : List Answer) (asked : Option Trap) (others : List Answer) (rs : List Request) (last : ℕ)
    → Meets last rs answers asked left → Meets last rs others None [] → (addresses_of answers ≡ addresses_of others → Agrees later recorded) → Agrees (events_of answers asked ++ later) (events_of others None ++ recorded)
asked_agrees left later recorded ends [] None [] rs last m n on = on refl
asked_agrees left later recorded (inl none) [] None (x ∷ xs) rs last m n on = subst (λ (es : List Event). Agrees es (events_of (x ∷ xs) None ++ recorded)) (sym none) (agrees_none (events_of (x ∷ xs) None ++ recorded))
asked_agrees left later recorded (inr all) [] None (x ∷ xs) rs last m (r, more, is, c, n) on = absurd (none_there r more (sym all ∙ (sym m ∙ is)))
asked_agrees left later recorded ends [] (Some t) [] rs last (r, is, c) n on = absurd (some_there r left (sym is ∙ n))
asked_agrees left later recorded ends [] (Some t) (x ∷ xs) rs last (r, is, c) (q, more, is2, d, n) on =
    agrees_more (asked_trap t.call t.len) (answer_event x.call x.at) later (events_of xs None ++ recorded)
    (λ z of words. trap_told x.call t.call x.at t.len z (one_call last r q rs left more x.call t.call is is2 c d) of)
    (λ alike. absurd (trap_no_answer t.call x.call t.len x.at alike))
asked_agrees left later recorded ends (y ∷ ys) asked [] rs last (r, more, is, c, m) n on = absurd (some_there r more (sym is ∙ n))
asked_agrees left later recorded ends (y ∷ ys) asked (x ∷ xs) rs last (r, more, is, c, m) (q, others, is2, d, n) on =
    agrees_more (answer_event y.call y.at) (answer_event x.call x.at) (events_of ys asked ++ later) (events_of xs None ++ recorded)
    (λ z of words. answer_told x.call y.call x.at y.at z (one_call last r q rs more others x.call y.call is is2 c d) of)
    (λ alike.
    let at : y.at ≡ x.at = answered_same y.call x.call y.at x.at alike in
    asked_agrees left later recorded ends ys asked xs more y.at m (subst₂ (λ (a : ℕ) (zs : List Request). Meets a zs xs None []) (sym at) (same_tail q r others more (sym is2 ∙ is)) n)
    (λ e. on (ap₂ (λ (a : ℕ) (others : List ℕ). a ∷ others) at e)))
