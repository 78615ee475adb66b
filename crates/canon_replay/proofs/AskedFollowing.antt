-- Of runs with asks that want no blocks: how many asks there are, what holds of their returns, and that one that is alike a front of another is alike all of it.
use Rattle.std.proofs.Common.{List, None, Option, Some, [], ap, arith, length, refl, suc, sym, take, zero, ℕ, ◌+◌, ◌++◌, ◌∙◌, ◌∷◌, ◌≡◌, ◌≤◌}
use Rattle.canon_memory.specs.declared.event.Event.{Event}
use Rattle.canon_memory.specs.declared.event.Event.TheVariants as event
use Rattle.canon_memory.specs.Journal.{answer_event}
use Rattle.canon_lowering.specs.Lowering.{AllLawful, Answer, events_of}
use Rattle.canon_func.specs.Runs.{AskTurn, Each, OnReturn, asks_in, posts}
use Rattle.canon_replay_guest.specs.Passing.{AreAlike, IsAlike}
use Rattle.canon_replay.proofs.AskedRuns.{asked_events}
use Rattle.canon_replay.proofs.Behind.{ask_alike, recorded_end}
use Rattle.canon_replay.proofs.Following.{Completes, answer_no_start, completes_more, no_return_asks, posts_complete, start_no_answer}

-- ---- how many asks there are

abbrev is_one_ask : Event → ℕ
is_one_ask (event.Ask i ws m) = 1
is_one_ask _ = 0

asks_more : (e : Event) (es : List Event) → asks_in (e ∷ es) ≡ is_one_ask e + asks_in es
asks_more (event.Ask i ws m) es = refl
asks_more (event.Start f ws m) es = omega arith
asks_more (event.Resume ws m) es = omega arith
asks_more (event.Return ws m) es = omega arith
asks_more (event.Realloc o os al ns a) es = omega arith
asks_more (event.Post f ws) es = omega arith
asks_more (event.Dtor f rep) es = omega arith
asks_more (event.Trap told at) es = omega arith

start_asks : (f : ℕ) (ws m : List ℕ) (r : Event) → IsAlike (event.Start f ws m) r → 0 ≡ is_one_ask r
start_asks f ws m (event.Start g vs n) h = refl
start_asks f ws m (event.Ask i vs n) h = absurd (cc)
start_asks f ws m (event.Resume vs n) h = refl
start_asks f ws m (event.Return vs n) h = refl
start_asks f ws m (event.Realloc o os al ns a) h = refl
start_asks f ws m (event.Post g vs) h = refl
start_asks f ws m (event.Dtor g rep) h = refl
start_asks f ws m (event.Trap told at) h = refl

resume_asks : (ws m : List ℕ) (r : Event) → IsAlike (event.Resume ws m) r → 0 ≡ is_one_ask r
resume_asks ws m (event.Start g vs n) h = refl
resume_asks ws m (event.Ask i vs n) h = absurd (cc)
resume_asks ws m (event.Resume vs n) h = refl
resume_asks ws m (event.Return vs n) h = refl
resume_asks ws m (event.Realloc o os al ns a) h = refl
resume_asks ws m (event.Post g vs) h = refl
resume_asks ws m (event.Dtor g rep) h = refl
resume_asks ws m (event.Trap told at) h = refl

one_alike : (e r : Event) → IsAlike e r → is_one_ask e ≡ is_one_ask r
one_alike (event.Start f ws m) r h = start_asks f ws m r h
one_alike (event.Resume ws m) r h = resume_asks ws m r h
one_alike (event.Ask i ws m) r h = ap is_one_ask h
one_alike (event.Return ws m) r h = ap is_one_ask h
one_alike (event.Realloc o os al ns a) r h = ap is_one_ask h
one_alike (event.Post f ws) r h = ap is_one_ask h
one_alike (event.Dtor f rep) r h = ap is_one_ask h
one_alike (event.Trap told at) r h = ap is_one_ask h

pub as_many_asks : (es rs : List Event) → AreAlike es rs → asks_in es ≡ asks_in rs
as_many_asks [] rs e = ap asks_in (sym e)
as_many_asks (x ∷ xs) rs (r, rest, e, first, more) = let here = one_alike x r first in let others = as_many_asks xs rest more in
    asks_more x xs ∙ (ap (λ (n : ℕ). n + asks_in xs) here ∙ (ap (λ (n : ℕ). is_one_ask r + n) others ∙ (sym (asks_more r rest) ∙ ap asks_in (sym e))))

pub asks_take : (n : ℕ) (rs : List Event) → asks_in (take n rs) ≤ asks_in rs
asks_take zero [] = omega arith
asks_take zero (r ∷ rs) = omega arith
asks_take (suc n) [] = omega arith
asks_take (suc n) (r ∷ rs) = let less = asks_take n rs in let a = asks_more r (take n rs) in let b = asks_more r rs in omega (arith, less, a, b)

module _ (post : Option ℕ) (returned after : List ℕ) where
  posts_ask_nothing : (p : Option ℕ) → asks_in (posts p returned) ≡ 0
  posts_ask_nothing None = refl
  posts_ask_nothing (Some f) = refl

  asks_counted : (ts : List AskTurn) → asks_in (asked_events ts ++ recorded_end post returned after) ≡ length ts
  asks_counted [] = posts_ask_nothing post
  asks_counted (t ∷ ts) = let more = asks_counted ts in omega (arith, more)

  pub run_asks : (func : ℕ) (words memory : List ℕ) (ts : List AskTurn) (answers : List Answer) → asks_in (events_of answers None ++ (event.Start func words memory ∷ (asked_events ts ++ recorded_end post returned after))) ≡ length ts
  run_asks func words memory ts [] = asks_counted ts
  run_asks func words memory ts (x ∷ xs) = run_asks func words memory ts xs

-- ---- returns

pub each_answers : (P : Event → Type 0) → ((o os al ns a : ℕ) → P (event.Realloc o os al ns a)) → (answers : List Answer) (more : List Event) → Each P more → Each P (events_of answers None ++ more)
each_answers P one [] more h = h
each_answers P one (x ∷ xs) more h = (one x.call.old x.call.old_size x.call.align x.call.new_size x.at, each_answers P one xs more h)

pub posts_return_nothing : (P : List ℕ → List ℕ → Type 0) (post : Option ℕ) (returned : List ℕ) → Each (OnReturn P) (posts post returned)
posts_return_nothing P None returned = tt
posts_return_nothing P (Some f) returned = (tt, tt)

pub each_asked : (P : List ℕ → List ℕ → Type 0) (ts : List AskTurn) (more : List Event) → Each (OnReturn P) more → Each (OnReturn P) (asked_events ts ++ more)
each_asked P [] more h = h
each_asked P (t ∷ ts) more h = (tt, (tt, each_asked P ts more h))

-- ---- answers

pub lawful_ends : (xs ys zs : List Answer) → AllLawful (xs ++ (ys ++ zs)) → AllLawful (xs ++ zs)
lawful_ends [] [] zs h = h
lawful_ends [] (y ∷ ys) zs h = lawful_ends [] ys zs h.1
lawful_ends (x ∷ xs) ys zs h = (h.0, lawful_ends xs ys zs h.1)

-- ---- whole runs

module _ (post : Option ℕ) (returned after told left : List ℕ) where
  abbrev its_end : List Event
  its_end = recorded_end post returned after

  abbrev other_end : List Event
  other_end = recorded_end post told left

  asks_complete : (ts us : List AskTurn) → Completes (asked_events ts ++ its_end) (asked_events us ++ other_end)
  asks_complete [] [] = completes_more (event.Return returned after) (event.Return told left) (posts post returned) (posts post told) (λ same. posts_complete post returned told)
  asks_complete [] (u ∷ us) = completes_more (event.Return returned after) (event.Ask u.index u.words u.memory) (posts post returned) (event.Resume u.resumed_words u.resumed_memory ∷ asked_events us ++ other_end)
      (λ alike. absurd (no_return_asks returned after u.index u.words u.memory alike))
  asks_complete (t ∷ ts) [] = completes_more (event.Ask t.index t.words t.memory) (event.Return told left) (event.Resume t.resumed_words t.resumed_memory ∷ asked_events ts ++ its_end) (posts post told)
      (λ alike. absurd (ask_alike t.index t.words t.memory (event.Return told left) alike tt))
  asks_complete (t ∷ ts) (u ∷ us) = completes_more (event.Ask t.index t.words t.memory) (event.Ask u.index u.words u.memory) (event.Resume t.resumed_words t.resumed_memory ∷ asked_events ts ++ its_end)
      (event.Resume u.resumed_words u.resumed_memory ∷ asked_events us ++ other_end)
      (λ alike. completes_more (event.Resume t.resumed_words t.resumed_memory) (event.Resume u.resumed_words u.resumed_memory) (asked_events ts ++ its_end) (asked_events us ++ other_end) (λ same. asks_complete ts us))

  pub asked_completes : (f g : ℕ) (ws m vs n : List ℕ) (ts us : List AskTurn) (xs ys : List Answer)
      → Completes (events_of xs None ++ (event.Start f ws m ∷ (asked_events ts ++ its_end))) (events_of ys None ++ (event.Start g vs n ∷ (asked_events us ++ other_end)))
  asked_completes f g ws m vs n ts us [] [] = completes_more (event.Start f ws m) (event.Start g vs n) (asked_events ts ++ its_end) (asked_events us ++ other_end) (λ alike. asks_complete ts us)
  asked_completes f g ws m vs n ts us [] (y ∷ ys) = completes_more (event.Start f ws m) (answer_event y.call y.at) (asked_events ts ++ its_end) (events_of ys None ++ (event.Start g vs n ∷ (asked_events us ++ other_end)))
      (λ alike. absurd (start_no_answer f ws m y alike))
  asked_completes f g ws m vs n ts us (x ∷ xs) [] = completes_more (answer_event x.call x.at) (event.Start g vs n) (events_of xs None ++ (event.Start f ws m ∷ (asked_events ts ++ its_end))) (asked_events us ++ other_end)
      (λ alike. absurd (answer_no_start x g vs n alike))
  asked_completes f g ws m vs n ts us (x ∷ xs) (y ∷ ys) = completes_more (answer_event x.call x.at) (answer_event y.call y.at) (events_of xs None ++ (event.Start f ws m ∷ (asked_events ts ++ its_end)))
      (events_of ys None ++ (event.Start g vs n ∷ (asked_events us ++ other_end))) (λ alike. asked_completes f g ws m vs n ts us xs ys)
