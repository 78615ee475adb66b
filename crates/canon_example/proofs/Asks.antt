-- How often an import was asked for in one run.
use Rattle.std.proofs.Common.{List, None, Option, Some, [], ap, arith, inl, inr, refl, sym, ℕ, ◌+◌, ◌++◌, ◌∙◌, ◌∷◌, ◌≡◌, ◌≤◌}
use Rattle.std.proofs.lemmas.List.Sums.{sum_by-append, sum_by-cons}
use Rattle.std.specs.List.{sum_by}
use Rattle.std.specs.Prelude.{Bool, ◌==◌, false, if◌then◌else◌, true}
use Rattle.canon_memory.specs.Journal.{answer_event, asked_trap}
use Rattle.canon_memory.specs.declared.event.Event.{Event}
use Rattle.canon_memory.specs.declared.event.Event.TheVariants as event
use Rattle.canon_lowering.specs.Lowering.{Answer, Trap, events_of}
use Rattle.canon_func.specs.Runs.{AskTurn, Each, IsNoResume, IsOneRun, IsRealloc, IsRun, MayStart, events_in, posts}
use Rattle.canon_example.specs.Clock.{asked, asks_of}

-- ---- counts of events

abbrev pub is_ask : Event → ℕ
is_ask (event.Ask index words memory) = 1
is_ask _ = 0

abbrev pub is_resume : Event → ℕ
is_resume (event.Resume words memory) = 1
is_resume _ = 0

-- it counts nothing but asks and resumes
pub record CountsNone (f : Event → ℕ) : Type 0 where
  pub start : (func : ℕ) (words memory : List ℕ) → f (event.Start func words memory) ≡ 0
  pub return : (words memory : List ℕ) → f (event.Return words memory) ≡ 0
  pub post : (func : ℕ) (words : List ℕ) → f (event.Post func words) ≡ 0
  pub realloc : (old old_size align new_size answer : ℕ) → f (event.Realloc old old_size align new_size answer) ≡ 0
  pub trap : (why : Option (ℕ × ℕ × ℕ × ℕ)) (len : ℕ) → f (event.Trap why len) ≡ 0

asks_none : CountsNone is_ask
asks_none = record { start = λ func words memory. refl; return = λ words memory. refl; post = λ func words. refl; realloc = λ old old_size align new_size answer. refl; trap = λ why len. refl }

resumes_none : CountsNone is_resume
resumes_none = record { start = λ func words memory. refl; return = λ words memory. refl; post = λ func words. refl; realloc = λ old old_size align new_size answer. refl; trap = λ why len. refl }

pub example_asked_none : (n : ℕ) → CountsNone (asked n)
example_asked_none n = record { start = λ func words memory. refl; return = λ words memory. refl; post = λ func words. refl; realloc = λ old old_size align new_size answer. refl; trap = λ why len. refl }

module _ (f : Event → ℕ) (none : CountsNone f) where
  in_answers : (answers : List Answer) (trap : Option Trap) → sum_by f (events_of answers trap) ≡ 0
  in_answers [] None = refl
  in_answers [] (Some t) = let h = none.trap (Some (t.call.old, t.call.old_size, t.call.align, t.call.new_size)) t.len in let sum = sum_by-cons f (asked_trap t.call t.len) [] in omega (arith, h, sum)
  in_answers (x ∷ xs) trap =
      let h = none.realloc x.call.old x.call.old_size x.call.align x.call.new_size x.at in
      let more = in_answers xs trap in
      let sum = sum_by-cons f (answer_event x.call x.at) (events_of xs trap) in
      omega (arith, h, more, sum)

  in_reallocs : (events : List Event) → Each IsRealloc events → sum_by f events ≡ 0
  in_reallocs [] each = refl
  in_reallocs (event.Realloc old old_size align new_size answer ∷ es) each = let h = none.realloc old old_size align new_size answer in let more = in_reallocs es each.1 in let sum =
      sum_by-cons f (event.Realloc old old_size align new_size answer) es in omega (arith, h, more, sum)
  in_reallocs (event.Start func words memory ∷ es) each = absurd each.0
  in_reallocs (event.Ask index words memory ∷ es) each = absurd each.0
  in_reallocs (event.Resume words memory ∷ es) each = absurd each.0
  in_reallocs (event.Return words memory ∷ es) each = absurd each.0
  in_reallocs (event.Post func words ∷ es) each = absurd each.0
  in_reallocs (event.Dtor func rep ∷ es) each = absurd each.0
  in_reallocs (event.Trap why len ∷ es) each = absurd each.0

  in_posts : (post : Option ℕ) (words : List ℕ) → sum_by f (posts post words) ≡ 0
  in_posts None words = refl
  in_posts (Some func) words = let h = none.post func words in let sum = sum_by-cons f (event.Post func words) [] in omega (arith, h, sum)

  -- of a turn: its ask and its resume
  pub in_turn : (t : AskTurn) (turns : List AskTurn) → sum_by f (events_in (t ∷ turns)) ≡ f (event.Ask t.index t.words t.memory) + (f (event.Resume t.resumed_words t.resumed_memory) + sum_by f (events_in turns))
  in_turn t turns =
      let cut = sum_by-append f (events_of t.answers None) (event.Resume t.resumed_words t.resumed_memory ∷ events_in turns) in
      let zero = in_answers t.answers None in
      let ask = sum_by-cons f (event.Ask t.index t.words t.memory) (events_of t.answers None ++ event.Resume t.resumed_words t.resumed_memory ∷ events_in turns) in
      let resume = sum_by-cons f (event.Resume t.resumed_words t.resumed_memory) (events_in turns) in
      omega (arith, cut, zero, ask, resume)

  -- of what stands before the turns, and of the start
  started : (answers : List Answer) (trap : Option Trap) (func : ℕ) (words memory : List ℕ) (turns : List AskTurn) (tail : List Event)
      → sum_by f (events_of answers trap ++ ((event.Start func words memory ∷ events_in turns) ++ tail)) ≡ sum_by f (events_in turns) + sum_by f tail
  started answers trap func words memory turns tail =
      let cut = sum_by-append f (events_of answers trap) ((event.Start func words memory ∷ events_in turns) ++ tail) in
      let zero = in_answers answers trap in
      let first = none.start func words memory in
      let rest = sum_by-append f (event.Start func words memory ∷ events_in turns) tail in
      let start = sum_by-cons f (event.Start func words memory) (events_in turns) in
      omega (arith, cut, zero, first, rest, start)

  -- of a whole run
  in_run : (func : ℕ) (post : Option ℕ) (words memory returned after : List ℕ) (events : List Event) (run : IsRun func post words memory returned after events) → sum_by f events ≡ sum_by f (events_in run.turns)
  in_run func post words memory returned after events run =
      let back : List Event = event.Return returned after ∷ posts post returned in
      let cut = sum_by-append f (run.reallocs ++ (event.Start func words memory ∷ events_in run.turns)) back in
      let zero = in_reallocs run.reallocs run.only_reallocs in
      let first = none.start func words memory in
      let rest = sum_by-append f run.reallocs (event.Start func words memory ∷ events_in run.turns) in
      let last = none.return returned after in
      let end = in_posts post returned in
      let are = ap (sum_by f) run.is in
      let start = sum_by-cons f (event.Start func words memory) (events_in run.turns) in
      let return = sum_by-cons f (event.Return returned after) (posts post returned) in
      omega (arith, cut, zero, first, rest, last, end, are, start, return)

-- each turn has one ask and one resume
turns_even : (turns : List AskTurn) → sum_by is_ask (events_in turns) ≡ sum_by is_resume (events_in turns)
turns_even [] = refl
turns_even (t ∷ turns) =
    let asks = in_turn is_ask asks_none t turns in
    let resumes = in_turn is_resume resumes_none t turns in
    let more = turns_even turns in
    omega (arith, asks, resumes, more)

no_resumes : (events : List Event) → Each IsNoResume events → sum_by is_resume events ≡ 0
no_resumes [] each = refl
no_resumes (event.Start func words memory ∷ es) each = no_resumes es each.1
no_resumes (event.Ask index words memory ∷ es) each = no_resumes es each.1
no_resumes (event.Resume words memory ∷ es) each = absurd each.0
no_resumes (event.Return words memory ∷ es) each = no_resumes es each.1
no_resumes (event.Realloc old old_size align new_size answer ∷ es) each = no_resumes es each.1
no_resumes (event.Post func words ∷ es) each = no_resumes es each.1
no_resumes (event.Dtor func rep ∷ es) each = no_resumes es each.1
no_resumes (event.Trap why len ∷ es) each = no_resumes es each.1

at_most_one : (b : Bool) → (if b then 1 else 0) ≤ 1
at_most_one true = omega arith
at_most_one false = omega arith

no_more : (n : ℕ) (events : List Event) → asks_of n events ≤ sum_by is_ask events
no_more n [] = omega arith
no_more n (event.Ask index words memory ∷ es) = let one = at_most_one (index == n) in let more = no_more n es in
    let sum : asks_of n (event.Ask index words memory ∷ es) ≡ (if index == n then 1 else 0) + asks_of n es = sum_by-cons (asked n) (event.Ask index words memory) es in
    let asks : sum_by is_ask (event.Ask index words memory ∷ es) ≡ 1 + sum_by is_ask es = sum_by-cons is_ask (event.Ask index words memory) es in
    omega (arith, one, more, sum, asks)
no_more n (event.Start func words memory ∷ es) = no_more n es
no_more n (event.Resume words memory ∷ es) = no_more n es
no_more n (event.Return words memory ∷ es) = no_more n es
no_more n (event.Realloc old old_size align new_size answer ∷ es) = no_more n es
no_more n (event.Post func words ∷ es) = no_more n es
no_more n (event.Dtor func rep ∷ es) = no_more n es
no_more n (event.Trap why len ∷ es) = no_more n es

-- in a run all asks are those of the turns
pub all_in_turns : (n : ℕ) (answers : List Answer) (trap : Option Trap) (func : ℕ) (post : Option ℕ) (words memory : List ℕ) (turns : List AskTurn) (tail events : List Event)
    → events ≡ events_of answers trap ++ ((event.Start func words memory ∷ events_in turns) ++ tail)
    → Each IsNoResume tail → IsOneRun func post events → asks_of n events ≡ asks_of n (events_in turns)
all_in_turns n answers trap func post words memory turns tail events is none (words2, memory2, returned, after, run) =
    let asks = ap (sum_by is_ask) is ∙ started is_ask asks_none answers trap func words memory turns tail in
    let resumes = ap (sum_by is_resume) is ∙ started is_resume resumes_none answers trap func words memory turns tail in
    let of_n = ap (asks_of n) is ∙ started (asked n) (example_asked_none n) answers trap func words memory turns tail in
    let run_asks = in_run is_ask asks_none func post words2 memory2 returned after events run in
    let run_resumes = in_run is_resume resumes_none func post words2 memory2 returned after events run in
    let run_even = turns_even run.turns in
    let even = turns_even turns in
    let still = no_resumes tail none in
    let most = no_more n tail in
    omega (arith, asks, resumes, of_n, run_asks, run_resumes, run_even, even, still, most)

pub example_none_asked : (n : ℕ) (answers : List Answer) (trap : Option Trap) → asks_of n (events_of answers trap ++ []) ≡ 0
example_none_asked n answers trap =
    let cut = sum_by-append (asked n) (events_of answers trap) [] in
    let zero = in_answers (asked n) (example_asked_none n) answers trap in
    let end : sum_by (asked n) [] ≡ 0 = refl in
    omega (arith, cut, zero, end)

-- whatever was asked for before the start
pub all_asks : (n : ℕ) (answers : List Answer) (trap : Option Trap) (func : ℕ) (post : Option ℕ) (turns : List AskTurn) (late : List Answer) (late_trap : Option Trap) (tail later events : List Event)
    → events ≡ events_of answers trap ++ later
    → MayStart func turns late late_trap tail later → IsOneRun func post events → asks_of n events ≡ asks_of n (events_in turns)
all_asks n answers trap func post turns late late_trap tail later events is (inl (none, no_turns, no_late, no_trap, no_tail)) run =
    ap (asks_of n) (is ∙ ap (λ l. events_of answers trap ++ l) none) ∙ (example_none_asked n answers trap ∙ sym (ap (λ ts. asks_of n (events_in ts)) no_turns))
all_asks n answers trap func post turns late late_trap tail later events is (inr s) run =
    all_in_turns n answers trap func post s.words s.memory turns tail events (is ∙ ap (λ l. events_of answers trap ++ l) s.is) s.no_resume run
