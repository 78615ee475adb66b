-- Runs, prefixes of runs, and the events of answers.
use Rattle.std.proofs.Common.{IsTrue, List, None, Option, Some, [], ap, append_assoc, arith, refl, subst, sym, ℕ, ◌++◌, ◌∙◌, ◌∷◌, ◌≡◌, ◌<◌, ◌≤◌}
use Rattle.std.specs.Prelude.{⊤}
use Rattle.std.proofs.lemmas.List.{append-nil}
use Rattle.canon_model.specs.Requests.{Call}
use Rattle.canon_memory.specs.declared.event.Event.{Event}
use Rattle.canon_memory.specs.declared.event.Event.TheVariants as event
use Rattle.canon_memory.specs.Journal.{answer_event, asked_trap}
use Rattle.canon_lowering.proofs.Lowerings.{lawful_second}
use Rattle.canon_lowering.specs.Lowering.{AllLawful, Answer, LastIs, Trap, events_of}
use Rattle.canon_func.specs.Steps.{TrapsLate}
use Rattle.canon_func.specs.Runs.{Each, EndsIn, Grows, IsReallocAnswer, IsNoPost, IsOneRun, IsPrefixOfRun, IsRealloc, IsTrap, OnReturn, asks_in, events_in, last_len, posts}

-- what costs more than the fuel doesn't cost so little
pub past_cost : (fuel reach cost : ℕ) → fuel < reach → reach ≡ cost → cost ≤ fuel → ⊥
past_cost fuel reach cost h e few = omega (arith, h, e, few)

-- ---- properties of events in a row

pub each_then : (P : Event → Type 0) (xs ys : List Event) → Each P xs → Each P ys → Each P (xs ++ ys)
each_then P [] ys h g = g
each_then P (e ∷ xs) ys h g = (h.0, each_then P xs ys h.1 g)

pub each_after : (P : Event → Type 0) (xs ys : List Event) → Each P (xs ++ ys) → Each P ys
each_after P [] ys h = h
each_after P (e ∷ xs) ys h = each_after P xs ys h.1

pub ends_after : (P : Event → Type 0) (xs ys : List Event) → EndsIn P ys → EndsIn P (xs ++ ys)
ends_after P [] ys h = h
ends_after P (e ∷ []) [] h = absurd h
ends_after P (e ∷ []) (f ∷ ys) h = h
ends_after P (e ∷ f ∷ xs) ys h = ends_after P (f ∷ xs) ys h

-- ---- what stands before a return and before a trap

abbrev pub IsEarly : Event → Type 0
IsEarly (event.Return ws m) = ⊥
IsEarly (event.Post f ws) = ⊥
IsEarly (event.Trap asked len) = ⊥
IsEarly _ = ⊤

pub early_return : (P : List ℕ → List ℕ → Type 0) (xs : List Event) → Each IsEarly xs → Each (OnReturn P) xs
early_return P [] h = tt
early_return P (event.Return ws m ∷ xs) h = absurd h.0
early_return P (e ∷ xs) h = (tt, early_return P xs h.1)

pub early_post : (xs : List Event) → Each IsEarly xs → Each IsNoPost xs
early_post [] h = tt
early_post (event.Post f ws ∷ xs) h = absurd h.0
early_post (e ∷ xs) h = (tt, early_post xs h.1)

pub return_then : (P : List ℕ → List ℕ → Type 0) (xs ys : List Event) → Each IsEarly xs → Each (OnReturn P) ys → Each (OnReturn P) (xs ++ ys)
return_then P xs ys early h = each_then (OnReturn P) xs ys (early_return P xs early) h

pub post_then : (xs ys : List Event) → Each IsEarly xs → Each IsNoPost ys → Each IsNoPost (xs ++ ys)
post_then xs ys early h = each_then IsNoPost xs ys (early_post xs early) h

-- ---- the events of answers

pub each_answer : (P : Event → Type 0) → ((c : Call) (a : ℕ) → P (answer_event c a)) → ((c : Call) (n : ℕ) → P (asked_trap c n)) → (xs : List Answer) (trap : Option Trap) → Each P (events_of xs trap)
each_answer P f g [] None = tt
each_answer P f g [] (Some t) = (g t.call t.len, tt)
each_answer P f g (x ∷ xs) trap = (f x.call x.at, each_answer P f g xs trap)

pub answers_early : (xs : List Answer) → Each IsEarly (events_of xs None)
answers_early [] = tt
answers_early (x ∷ xs) = (tt, answers_early xs)

-- they are no asks
pub asks_answers : (xs : List Answer) (trap : Option Trap) (later : List Event) → asks_in (events_of xs trap ++ later) ≡ asks_in later
asks_answers [] None later = refl
asks_answers [] (Some t) later = refl
asks_answers (x ∷ xs) trap later = asks_answers xs trap later

-- and no memory
pub last_len_answers : (n : ℕ) (xs : List Answer) (es : List Event) → last_len n (events_of xs None ++ es) ≡ last_len n es
last_len_answers n [] es = refl
last_len_answers n (x ∷ xs) es = last_len_answers n xs es

pub answers_are : (xs : List Answer) → Each IsRealloc (events_of xs None)
answers_are [] = tt
answers_are (x ∷ xs) = (tt, answers_are xs)

-- the answers first, and then the trap
pub events_of-then : (xs ys : List Answer) (trap : Option Trap) → events_of (xs ++ ys) trap ≡ events_of xs None ++ events_of ys trap
events_of-then [] ys trap = refl
events_of-then (x ∷ xs) ys trap = ap (λ es. answer_event x.call x.at ∷ es) (events_of-then xs ys trap)

pub events_of-trap : (xs : List Answer) (t : Trap) → events_of xs (Some t) ≡ events_of xs None ++ asked_trap t.call t.len ∷ []
events_of-trap [] t = refl
events_of-trap (x ∷ xs) t = ap (λ es. answer_event x.call x.at ∷ es) (events_of-trap xs t)

-- ---- the length of memory

pub grows_from : (a b last : ℕ) (es : List Event) → a ≤ b → Grows b es last → Grows a es last
grows_from a b last [] h g = omega (arith, h, g)
grows_from a b last (event.Start f ws m ∷ es) h g = (omega (arith, h, g.0), g.1)
grows_from a b last (event.Ask i ws m ∷ es) h g = (omega (arith, h, g.0), g.1)
grows_from a b last (event.Resume ws m ∷ es) h g = (omega (arith, h, g.0), g.1)
grows_from a b last (event.Return ws m ∷ es) h g = (omega (arith, h, g.0), g.1)
grows_from a b last (event.Trap asked at ∷ es) h g = (omega (arith, h, g.0), grows_from a b last es h g.1)
grows_from a b last (event.Realloc o s al n p ∷ es) h g = grows_from a b last es h g
grows_from a b last (event.Post f ws ∷ es) h g = grows_from a b last es h g
grows_from a b last (event.Dtor f r ∷ es) h g = grows_from a b last es h g

-- answers say nothing of memory
pub grows_answers : (a last : ℕ) (xs : List Answer) (es : List Event) → Grows a es last → Grows a (events_of xs None ++ es) last
grows_answers a last [] es g = g
grows_answers a last (x ∷ xs) es g = grows_answers a last xs es g

-- ---- blocks asked for before a run

pub last_len-after : (len : ℕ) (xs ys : List Event) → Each IsRealloc xs → last_len len (xs ++ ys) ≡ last_len len ys
last_len-after len [] ys h = refl
last_len-after len (event.Realloc o s a n p ∷ xs) ys h = last_len-after len xs ys h.1
last_len-after len (event.Start f w m ∷ xs) ys h = absurd h.0
last_len-after len (event.Ask i w m ∷ xs) ys h = absurd h.0
last_len-after len (event.Resume w m ∷ xs) ys h = absurd h.0
last_len-after len (event.Return w m ∷ xs) ys h = absurd h.0
last_len-after len (event.Post f w ∷ xs) ys h = absurd h.0
last_len-after len (event.Dtor f r ∷ xs) ys h = absurd h.0
last_len-after len (event.Trap asked n ∷ xs) ys h = absurd h.0

inner : (ws xs ys zs : List Event) → ws ++ (xs ++ ys ++ zs) ≡ ws ++ xs ++ ys ++ zs
inner ws xs ys zs = sym (append_assoc ws (xs ++ ys) zs) ∙ ap (λ es. es ++ zs) (sym (append_assoc ws xs ys))

module _ (func : ℕ) (post : Option ℕ) where
  pub run_after : (xs ys : List Event) → Each IsRealloc xs → IsOneRun func post ys → IsOneRun func post (xs ++ ys)
  run_after xs ys h (words, memory, returned, after, r) = (
    words,
    memory,
    returned,
    after,
    record {
      reallocs = xs ++ r.reallocs;
      only_reallocs = each_then IsRealloc xs r.reallocs h r.only_reallocs;
      turns = r.turns;
      is = ap (λ es. xs ++ es) r.is ∙ inner xs r.reallocs (event.Start func words memory ∷ events_in r.turns) (event.Return returned after ∷ posts post returned);
    },
  )

  pub prefix_after : (len : ℕ) (xs ys : List Event) → Each IsRealloc xs → IsPrefixOfRun func post len ys → IsPrefixOfRun func post len (xs ++ ys)
  prefix_after len xs ys h f = record {
    run = xs ++ f.run;
    one_run = run_after xs f.run h f.one_run;
    prefix = xs ++ f.prefix;
    rest = f.rest;
    trap = f.trap;
    begins = ap (λ es. xs ++ es) f.begins ∙ sym (append_assoc xs f.prefix f.rest);
    events_are = ap (λ es. xs ++ es) f.events_are ∙ sym (append_assoc xs f.prefix f.trap);
    may_trap = rw (last_len-after len xs f.prefix h) f.may_trap;
  }

  -- ---- prefixes

  -- without asks
  pub plain_run : (words memory returned after : List ℕ) → IsOneRun func post (event.Start func words memory ∷ event.Return returned after ∷ posts post returned)
  plain_run words memory returned after = (words, memory, returned, after, record { reallocs = []; only_reallocs = tt; turns = []; is = refl })

  pub prefix_none : (len : ℕ) → IsPrefixOfRun func post len []
  prefix_none len = record {
    run = event.Start func [] [] ∷ event.Return [] [] ∷ posts post [];
    one_run = plain_run [] [] [] [];
    prefix = [];
    rest = event.Start func [] [] ∷ event.Return [] [] ∷ posts post [];
    trap = [];
    begins = refl;
    events_are = refl;
    may_trap = tt;
  }

  -- a request before the start trapped
  pub prefix_request : (len : ℕ) (c : Call) (n : ℕ) → len ≤ n → IsPrefixOfRun func post len (asked_trap c n ∷ [])
  prefix_request len c n h = record {
    run = event.Start func [] [] ∷ event.Return [] [] ∷ posts post [];
    one_run = plain_run [] [] [] [];
    prefix = [];
    rest = event.Start func [] [] ∷ event.Return [] [] ∷ posts post [];
    trap = asked_trap c n ∷ [];
    begins = refl;
    events_are = refl;
    may_trap = h;
  }

-- ---- requests, and perhaps a trap

pub prefix_requests : (func : ℕ) (post : Option ℕ) (len : ℕ) (answers : List Answer) (trap : Option Trap) → TrapsLate len trap → IsPrefixOfRun func post len (events_of answers trap)
prefix_requests func post len answers None h =
    subst (λ es. IsPrefixOfRun func post len es) (append-nil (events_of answers None)) (prefix_after func post len (events_of answers None) [] (answers_are answers) (prefix_none func post len))
prefix_requests func post len answers (Some t) h =
    subst (λ es. IsPrefixOfRun func post len es) (sym (events_of-trap answers t)) (prefix_after func post len (events_of answers None) _ (answers_are answers) (prefix_request func post len t.call t.len h))

pub grows_request : (len last : ℕ) (answers : List Answer) (trap : Option Trap) → TrapsLate len trap → len ≤ last → Grows len (events_of answers trap) last
grows_request len last answers None late h = subst (λ es. Grows len es last) (append-nil (events_of answers None)) (grows_answers len last answers [] h)
grows_request len last answers (Some t) late h = subst (λ es. Grows len es last) (sym (events_of-trap answers t)) (grows_answers len last answers _ (late, h))

-- the last answer was given to such a request
pub ends_in_answer : (P : Call → ℕ → Type 0) (answers : List Answer) (trap : Option Trap) (a : ℕ) (Bad : Answer → Type 0) → trap ≡ None → ((x : Answer) → x.at ≡ a → Bad x → P x.call x.at) → LastIs answers a Bad
    → EndsIn (IsReallocAnswer P) (events_of answers trap)
ends_in_answer P answers trap a Bad none f (prefix, x, e, is, bad) = subst (λ o. EndsIn (IsReallocAnswer P) (events_of answers o)) (sym none)
    (subst (λ xs. EndsIn (IsReallocAnswer P) (events_of xs None)) (sym e)
    (subst (λ es. EndsIn (IsReallocAnswer P) es) (sym (events_of-then prefix (x ∷ []) None)) (ends_after (IsReallocAnswer P) (events_of prefix None) _ (f x is bad))))

pub ends_in_trap : (answers : List Answer) (t : Trap) → EndsIn IsTrap (events_of answers (Some t))
ends_in_trap answers t = subst (λ es. EndsIn IsTrap es) (sym (events_of-trap answers t)) (ends_after IsTrap (events_of answers None) _ tt)

-- where each answer is lawful, so is the last
pub last_lawful : (answers : List Answer) (a : ℕ) (Bad : Answer → Type 0) → ((x : Answer) → Bad x → IsTrue x.mark.lawful → ⊥) → LastIs answers a Bad → AllLawful answers → ⊥
last_lawful answers a Bad f (prefix, x, e, is, bad) lawful = f x bad (lawful_second prefix (x ∷ []) (subst AllLawful e lawful)).0

pub no_trap : (answers : List Answer) → ¬ EndsIn IsTrap (events_of answers None)
no_trap [] h = h
no_trap (x ∷ []) h = h
no_trap (x ∷ y ∷ answers) h = no_trap (y ∷ answers) h

pub none_trapped : (answers : List Answer) (trap : Option Trap) → trap ≡ None → ¬ EndsIn IsTrap (events_of answers trap)
none_trapped answers trap none h = no_trap answers (subst (λ o. EndsIn IsTrap (events_of answers o)) none h)
