-- Recorded answers that are lawful are lawful where they are given again.
use Rattle.std.proofs.Common.{List, None, Option, Some, [], ap, arith, length, refl, slice_get, subst, suc, sym, take, zero, ℕ, ◌++◌, ◌∙◌, ◌∷◌, ◌≡◌, ◌≤◌}
use Rattle.canon_model.specs.Memory.{Block}
use Rattle.canon_model.specs.Requests.{Call}
use Rattle.canon_memory.specs.declared.event.Event.{Event}
use Rattle.canon_memory.specs.declared.event.Event.TheVariants as event
use Rattle.canon_memory.specs.Journal.{answer_event}
use Rattle.canon_memory.specs.Realloc.{call}
use Rattle.canon_memory.specs.Watch.{live_after, live_along, relisted}
use Rattle.canon_lowering.specs.Lowering.{Answer, events_of}
use Rattle.canon_func.specs.Runs.{AskTurn, posts}
use Rattle.canon_replay_guest.specs.Following.{IsOfRequest}
use Rattle.canon_replay_guest.specs.Lawful.{IsLawfulAnswer}
use Rattle.canon_replay_guest.specs.Moves.{reallocates}
use Rattle.canon_replay_guest.specs.Passing.{AreAlike, IsAlike}
use Rattle.canon_replay_guest.specs.Replaying.{start_length}
use Rattle.canon_replay.specs.Faithful.{AreLawfulAnswers}
use Rattle.canon_replay.proofs.Agreeing.{none_there, same_head, same_tail}
use Rattle.canon_replay.proofs.AskedRuns.{asked_events}

-- ---- events that are alike

pub alike_length : (es rs : List Event) → AreAlike es rs → length es ≡ length rs
alike_length [] rs e = sym (ap length e)
alike_length (x ∷ xs) rs (r, rest, e, first, more) = ap suc (alike_length xs rest more) ∙ sym (ap length e)

answer_alike : (e : Event) (c : Call) (a : ℕ) → IsAlike e (answer_event c a) → e ≡ answer_event c a
answer_alike (event.Start f ws m) c a h = h
answer_alike (event.Ask i ws m) c a h = h
answer_alike (event.Resume ws m) c a h = h
answer_alike (event.Return ws m) c a h = h
answer_alike (event.Realloc o os al ns b) c a h = h
answer_alike (event.Post f ws) c a h = h
answer_alike (event.Dtor f rep) c a h = h
answer_alike (event.Trap told at) c a h = h

started_live : (l : List Block) (f : ℕ) (ws m : List ℕ) (r : Event) → IsAlike (event.Start f ws m) r → live_after l r ≡ []
started_live l f ws m (event.Start g vs n) h = refl
started_live l f ws m (event.Ask i vs n) h = absurd (cc)
started_live l f ws m (event.Resume vs n) h = refl
started_live l f ws m (event.Return vs n) h = absurd (cc)
started_live l f ws m (event.Realloc o os al ns a) h = absurd (cc)
started_live l f ws m (event.Post g vs) h = refl
started_live l f ws m (event.Dtor g rep) h = refl
started_live l f ws m (event.Trap told at) h = absurd (cc)

resumed_live : (l : List Block) (ws m : List ℕ) (r : Event) → IsAlike (event.Resume ws m) r → live_after l r ≡ []
resumed_live l ws m (event.Start g vs n) h = refl
resumed_live l ws m (event.Ask i vs n) h = absurd (cc)
resumed_live l ws m (event.Resume vs n) h = refl
resumed_live l ws m (event.Return vs n) h = absurd (cc)
resumed_live l ws m (event.Realloc o os al ns a) h = absurd (cc)
resumed_live l ws m (event.Post g vs) h = refl
resumed_live l ws m (event.Dtor g rep) h = refl
resumed_live l ws m (event.Trap told at) h = absurd (cc)

live_alike : (l : List Block) (e r : Event) → IsAlike e r → live_after l e ≡ live_after l r
live_alike l (event.Start f ws m) r h = sym (started_live l f ws m r h)
live_alike l (event.Resume ws m) r h = sym (resumed_live l ws m r h)
live_alike l (event.Ask i ws m) r h = ap (live_after l) h
live_alike l (event.Return ws m) r h = ap (live_after l) h
live_alike l (event.Realloc o os al ns a) r h = ap (live_after l) h
live_alike l (event.Post f ws) r h = ap (live_after l) h
live_alike l (event.Dtor f rep) r h = ap (live_after l) h
live_alike l (event.Trap told at) r h = ap (live_after l) h

pub along_alike : (l : List Block) (es rs : List Event) → AreAlike es rs → live_along l es ≡ live_along l rs
along_alike l [] rs e = ap (live_along l) (sym e)
along_alike l (x ∷ xs) rs (r, rest, e, first, more) =
    ap (λ (live : List Block). live_along live xs) (live_alike l x r first) ∙ (along_alike (live_after l r) xs rest more ∙ ap (live_along l) (sym e))

-- ---- a run

-- the start, and what comes behind it
abbrev pub quiet_tail : ℕ → List ℕ → List ℕ → List Event → List Event
quiet_tail func words memory rest = event.Start func words memory ∷ rest

-- none of these events is an answer of `realloc`
abbrev pub IsUnanswered : List Event → Type 0
IsUnanswered rest = (place : ℕ) (c : Call) (a : ℕ) → ¬ (slice_get rest place ≡ Some (answer_event c a))

-- no block is asked for behind its start, and none lives behind it
module _ (func : ℕ) (words memory : List ℕ) (behind : List Event) (unanswered : IsUnanswered behind) (none_lives : live_along [] behind ≡ []) where
  abbrev its_tail : List Event
  its_tail = quiet_tail func words memory behind

  pub quiet_length : (answers : List Answer) (len : ℕ) → start_length (events_of answers None ++ its_tail) len ≡ length memory
  quiet_length [] len = refl
  quiet_length (x ∷ xs) len = quiet_length xs len

  pub quiet_live : (answers : List Answer) (l : List Block) → live_along l (events_of answers None ++ its_tail) ≡ []
  quiet_live [] l = none_lives
  quiet_live (x ∷ xs) l = quiet_live xs (relisted l (call x.call.old x.call.old_size x.call.align x.call.new_size) x.at)

  no_answer_behind : IsUnanswered its_tail
  no_answer_behind zero c a e = cc
  no_answer_behind (suc place) c a e = unanswered place c a e

  given : (x y : Event) → Some x ≡ Some y → x ≡ y
  given x y e = cc

  -- the recorded answer at a place is lawful behind events that are alike those before it
  pub lawful_there : (answers : List Answer) (live : List Block) (len place : ℕ) (followed : List Event) (c : Call) (a : ℕ) → AreLawfulAnswers live len (events_of answers None ++ its_tail)
      → slice_get (events_of answers None ++ its_tail) place ≡ Some (answer_event c a) → AreAlike followed (take place (events_of answers None ++ its_tail)) → IsLawfulAnswer (live_along live followed) len c a
  lawful_there [] live len place followed c a law is alike = absurd (no_answer_behind place c a is)
  lawful_there (x ∷ xs) live len zero [] c a law is alike =
      (subst (λ (e : Event). AreLawfulAnswers live len (e ∷ events_of xs None ++ its_tail)) (given (answer_event x.call x.at) (answer_event c a) is) law).0
  lawful_there (x ∷ xs) live len zero (f ∷ fs) c a law is (r, rest, e, first, more) = absurd (none_there r rest e)
  lawful_there (x ∷ xs) live len (suc place) [] c a law is alike = absurd (none_there (answer_event x.call x.at) (take place (events_of xs None ++ its_tail)) (sym alike))
  lawful_there (x ∷ xs) live len (suc place) (f ∷ fs) c a law is (r, rest, e, first, more) =
      let here : r ≡ answer_event x.call x.at = sym (same_head (answer_event x.call x.at) r (take place (events_of xs None ++ its_tail)) rest e) in
      let told : f ≡ answer_event x.call x.at = answer_alike f x.call x.at (subst (IsAlike f) here first) in
      let there : rest ≡ take place (events_of xs None ++ its_tail) = sym (same_tail (answer_event x.call x.at) r (take place (events_of xs None ++ its_tail)) rest e) in
      subst (λ (y : Event). IsLawfulAnswer (live_along (live_after live y) fs) len c a) (sym told)
      (lawful_there xs (relisted live (call x.call.old x.call.old_size x.call.align x.call.new_size) x.at) len place fs c a law.1 is (subst (AreAlike fs) there more))

  -- the first event is of a request for a block then
  pub first_asked : (answers : List Answer) (place : ℕ) (followed rest : List Event) (made : Event) (c : Call) (a : ℕ) → slice_get (events_of answers None ++ its_tail) place ≡ Some (answer_event c a)
      → AreAlike followed (take place (events_of answers None ++ its_tail)) → IsOfRequest made (reallocates c) → (d : Call) × (e : Event) × (more : List Event) × (followed ++ made ∷ rest ≡ e ∷ more) × IsOfRequest e (reallocates d)
  first_asked answers place [] rest made c a is alike of = (c, made, rest, refl, of)
  first_asked [] place (f ∷ fs) rest made c a is alike of = absurd (no_answer_behind place c a is)
  first_asked (x ∷ xs) zero (f ∷ fs) rest made c a is (r, others, e, first, more) of = absurd (none_there r others e)
  first_asked (x ∷ xs) (suc place) (f ∷ fs) rest made c a is (r, others, e, first, more) of =
      let here : r ≡ answer_event x.call x.at = sym (same_head (answer_event x.call x.at) r (take place (events_of xs None ++ its_tail)) others e) in
      let told : f ≡ answer_event x.call x.at = answer_alike f x.call x.at (subst (IsAlike f) here first) in
      (x.call, f, fs ++ made ∷ rest, refl, subst (λ (y : Event). IsOfRequest y (reallocates x.call)) (sym told) refl)

-- ---- what comes behind a start

module _ (returned after : List ℕ) where
  posts_live : (p : Option ℕ) → live_along [] (posts p returned) ≡ []
  posts_live None = refl
  posts_live (Some f) = refl

  end_unanswered : (p : Option ℕ) → IsUnanswered (event.Return returned after ∷ posts p returned)
  end_unanswered p zero c a e = cc
  end_unanswered None (suc place) c a e = cc
  end_unanswered (Some f) (suc zero) c a e = cc
  end_unanswered (Some f) (suc (suc place)) c a e = cc

  -- asks that want no blocks, a return, and post-return where there is one
  pub asks_unanswered : (post : Option ℕ) (ts : List AskTurn) → IsUnanswered (asked_events ts ++ event.Return returned after ∷ posts post returned)
  asks_unanswered post [] place c a e = end_unanswered post place c a e
  asks_unanswered post (t ∷ ts) zero c a e = cc
  asks_unanswered post (t ∷ ts) (suc zero) c a e = cc
  asks_unanswered post (t ∷ ts) (suc (suc place)) c a e = asks_unanswered post ts place c a e

  pub asks_live : (post : Option ℕ) (ts : List AskTurn) → live_along [] (asked_events ts ++ event.Return returned after ∷ posts post returned) ≡ []
  asks_live post [] = posts_live post
  asks_live post (t ∷ ts) = asks_live post ts

-- in a longer memory an answer is lawful too
pub lawful_in_more : (live : List Block) (len more : ℕ) (c : Call) (a : ℕ) → len ≤ more → IsLawfulAnswer live len c a → IsLawfulAnswer live more c a
lawful_in_more live len more c a le h = record { narrow = h.narrow; aligned = h.aligned; inside = omega (arith, le, h.inside); free = h.free; from = longer _ len more h.from le }
  where
    longer : (n l m : ℕ) → n ≤ l → l ≤ m → n ≤ m
    longer n l m h g = omega (arith, h, g)
