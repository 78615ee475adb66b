-- The way of a guest, in legs to its asks.
use Rattle.std.proofs.Common.{List, [], append_assoc, ap, refl, subst, sym, ℕ, ◌++◌, ◌∙◌, ◌∷◌, ◌≡◌}
use Rattle.canon_memory.specs.declared.event.Event.{Event}
use Rattle.canon_memory.specs.declared.event.Event.TheVariants as event
use Rattle.canon_func.specs.Runs.{AskTurn, AsksFrom, AsksLive, ByLegs, Leg, events_in, served_in, since_last, leg_of, legs_in, Living}

-- ---- by its states

module _ {S : Type 0} (moves : S → List Event → S → Type 0) (live : S → Living) (E F : S → List Event → Type 0) where
  -- to an end that is said otherwise
  pub legs_so : ((s : S) (xs : List Event) → E s xs → F s xs) → (s : S) (legs : List Leg) (xs : List Event) → ByLegs moves live E s legs xs → ByLegs moves live F s legs xs
  legs_so f s [] xs h = f s xs h
  legs_so f s (p ∷ legs) xs (next, does, is, h) = (next, does, is, legs_so f next legs xs h)

  -- on by more events
  pub legs_more : (ys : List Event) → ((s : S) (xs : List Event) → E s xs → F s (xs ++ ys)) → (s : S) (legs : List Leg) (xs : List Event) → ByLegs moves live E s legs xs → ByLegs moves live F s legs (xs ++ ys)
  legs_more ys f s [] xs h = f s xs h
  legs_more ys f s (p ∷ legs) xs (next, does, is, h) = (next, does, is, legs_more ys f next legs xs h)

  -- the end was an ask, which makes one more leg
  pub legs_ask : (now : S) (ys : List Event) → ((s : S) (xs : List Event) → E s xs → moves s xs now) → F now ys → (s : S) (legs : List Leg) (xs : List Event) → ByLegs moves live E s legs xs
      → ByLegs moves live F s (legs ++ record { events = xs; live = live now } ∷ []) ys
  legs_ask now ys f last s [] xs h = (now, f s xs h, refl, last)
  legs_ask now ys f last s (p ∷ legs) xs (next, does, is, h) = (next, does, is, legs_ask now ys f last next legs xs h)

-- said of other states
module _ {S U : Type 0} (moves : S → List Event → S → Type 0) (does : U → List Event → U → Type 0) (live : S → Living) (lives : U → Living) (E : S → List Event → Type 0) (F : U → List Event → Type 0)
    (of : S → U) (f : (s : S) (xs : List Event) (t : S) → moves s xs t → does (of s) xs (of t)) (same : (s : S) → lives (of s) ≡ live s) (g : (s : S) (xs : List Event) → E s xs → F (of s) xs) where
  pub legs_as : (s : S) (legs : List Leg) (xs : List Event) → ByLegs moves live E s legs xs → ByLegs does lives F (of s) legs xs
  legs_as s [] xs h = g s xs h
  legs_as s (p ∷ legs) xs (next, moved, is, h) = (of next, f s p.events next moved, same next ∙ is, legs_as next legs xs h)

-- ---- by its turns

pub legs_append : (front : List Event) (ts : List AskTurn) (t : AskTurn) → legs_in front (ts ++ t ∷ []) ≡ legs_in front ts ++ leg_of (since_last front ts) t ∷ []
legs_append front [] t = refl
legs_append front (u ∷ us) t = ap (λ legs. leg_of front u ∷ legs) (legs_append (served_in u) us t)

pub since_append : (front : List Event) (ts : List AskTurn) (t : AskTurn) → since_last front (ts ++ t ∷ []) ≡ served_in t
since_append front [] t = refl
since_append front (u ∷ us) t = since_append (served_in u) us t

-- one more turn, and what came from its resume on
pub lives_more : (Lives : List Leg → List Event → Type 0) (front : List Event) (ts : List AskTurn) (t : AskTurn) (more es : List Event) → es ≡ served_in t ++ more → Lives (legs_in front ts ++ leg_of (since_last front ts) t ∷ []) es
    → Lives (legs_in front (ts ++ t ∷ [])) (since_last front (ts ++ t ∷ []) ++ more)
lives_more Lives front ts t more es are h =
    subst (λ legs. Lives legs (since_last front (ts ++ t ∷ []) ++ more)) (sym (legs_append front ts t))
    (subst (λ xs. Lives (legs_in front ts ++ leg_of (since_last front ts) t ∷ []) (xs ++ more)) (sym (since_append front ts t))
    (subst (λ xs. Lives (legs_in front ts ++ leg_of (since_last front ts) t ∷ []) xs) are h))

-- after the turns the guest returned, and more came after
pub returned_more : (P Q : List Leg → List Event → Type 0) (later : List Event) → ((legs : List Leg) (xs : List Event) → P legs xs → Q legs (xs ++ later)) → (front : List Event) (ts : List AskTurn) (live : Living) (words memory : List ℕ)
    → AsksFrom P front ts live (event.Return words memory ∷ []) → AsksFrom Q front ts live (event.Return words memory ∷ later)
returned_more P Q later f front ts live words memory h =
    subst (λ es. Q (legs_in front ts) es) (append_assoc (since_last front ts) (event.Return words memory ∷ []) later) (f (legs_in front ts) (since_last front ts ++ event.Return words memory ∷ []) h)

-- said otherwise
module _ (P Q : List Leg → List Event → Type 0) (f : (legs : List Leg) (xs : List Event) → P legs xs → Q legs xs) where
  pub from_so : (front : List Event) (ts : List AskTurn) (live : Living) (tail : List Event) → AsksFrom P front ts live tail → AsksFrom Q front ts live tail
  from_so front ts live [] h = f _ _ h
  from_so front ts live (event.Ask i w m ∷ more) h = f _ _ h
  from_so front ts live (e ∷ more) h = f _ _ h

  pub asks_so : (ts : List AskTurn) (live : Living) (tail events : List Event) → AsksLive P ts live tail events → AsksLive Q ts live tail events
  asks_so ts live tail events (front, is, h) = (front, is, from_so front ts live tail h)

-- said of the events from an earlier moment on
module _ (P Q : List Leg → List Event → Type 0) (first : List Event) (ends : (xs : List Event) → P [] xs → Q [] (first ++ xs))
    (goes : (leg : Leg) (legs : List Leg) (xs : List Event) → P (leg ∷ legs) xs → Q (record { events = first ++ leg.events; live = leg.live } ∷ legs) xs) where
  ends_after : (front tail : List Event) → P [] (front ++ tail) → Q [] ((first ++ front) ++ tail)
  ends_after front tail h = subst (λ es. Q [] es) (sym (append_assoc first front tail)) (ends (front ++ tail) h)

  leg_after : (front ask : List Event) (live : Living) (legs : List Leg) (xs : List Event) → P (record { events = front ++ ask; live = live } ∷ legs) xs → Q (record { events = (first ++ front) ++ ask; live = live } ∷ legs) xs
  leg_after front ask live legs xs h = subst (λ es. Q (record { events = es; live = live } ∷ legs) xs) (sym (append_assoc first front ask)) (goes (record { events = front ++ ask; live = live }) legs xs h)

  from_after : (front : List Event) (ts : List AskTurn) (live : Living) (tail : List Event) → AsksFrom P front ts live tail → AsksFrom Q (first ++ front) ts live tail
  from_after front [] live [] h = ends_after front [] h
  from_after front [] live (event.Ask i w m ∷ more) h = leg_after front (event.Ask i w m ∷ []) live [] more h
  from_after front [] live (e ∷ more) h = ends_after front (e ∷ more) h
  from_after front (t ∷ ts) live [] h = leg_after front (event.Ask t.index t.words t.memory ∷ []) t.live _ _ h
  from_after front (t ∷ ts) live (event.Ask i w m ∷ more) h = leg_after front (event.Ask t.index t.words t.memory ∷ []) t.live _ _ h
  from_after front (t ∷ ts) live (e ∷ more) h = leg_after front (event.Ask t.index t.words t.memory ∷ []) t.live _ _ h

  pub asks_after : (ts : List AskTurn) (live : Living) (tail events : List Event) → AsksLive P ts live tail events → AsksLive Q ts live tail (first ++ events)
  asks_after ts live tail events (front, is, h) = (first ++ front, ap (λ es. first ++ es) is ∙ sym (append_assoc first front (events_in ts ++ tail)), from_after front ts live tail h)
