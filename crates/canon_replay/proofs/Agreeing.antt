-- Where what is told agrees with what was recorded: as long as both are alike, the request that is made next is the recorded one.
use Rattle.std.proofs.Common.{List, None, Option, Some, [], arith, length, slice_get, subst, subst₂, suc, sym, take, zero, ℕ, ◌++◌, ◌∷◌, ◌≡◌, ◌≤◌}
use Rattle.std.specs.Prelude.{⊤}
use Rattle.canon_memory.specs.declared.event.Event.{Event}
use Rattle.canon_memory.specs.declared.event.Event.TheVariants as event
use Rattle.canon_replay_guest.specs.Following.{IsOfRequest}
use Rattle.canon_replay_guest.specs.Moves.{GuestRequest, HasWords, IsNext, IsOtherRequest, TellsRequest, destroys, posts, reallocates, resumes, starts}
use Rattle.canon_replay_guest.specs.Passing.{AreAlike, IsAlike}

-- ---- lists

pub same_head : {A : Type 0} (x y : A) (xs ys : List A) → x ∷ xs ≡ y ∷ ys → x ≡ y
same_head x y xs ys e = cc

pub same_tail : {A : Type 0} (x y : A) (xs ys : List A) → x ∷ xs ≡ y ∷ ys → xs ≡ ys
same_tail x y xs ys e = cc

pub none_there : {A : Type 0} (x : A) (xs : List A) → ¬ ([] ≡ x ∷ xs)
none_there x xs e = cc

pub some_there : {A : Type 0} (x : A) (xs : List A) → ¬ (x ∷ xs ≡ [])
some_there x xs e = cc

-- ---- which events are of no request

pub no_request_of_ask : (index : ℕ) (ws m : List ℕ) (q : GuestRequest) → ¬ IsOfRequest (event.Ask index ws m) q
no_request_of_ask index ws m (starts f vs) h = h
no_request_of_ask index ws m (resumes vs) h = h
no_request_of_ask index ws m (reallocates c) h = h
no_request_of_ask index ws m (posts f vs) h = h
no_request_of_ask index ws m (destroys f r) h = h

pub no_request_of_return : (ws m : List ℕ) (q : GuestRequest) → ¬ IsOfRequest (event.Return ws m) q
no_request_of_return ws m (starts f vs) h = h
no_request_of_return ws m (resumes vs) h = h
no_request_of_return ws m (reallocates c) h = h
no_request_of_return ws m (posts f vs) h = h
no_request_of_return ws m (destroys f r) h = h

pub no_request_of_trap : (len : ℕ) (q : GuestRequest) → ¬ IsOfRequest (event.Trap None len) q
no_request_of_trap len (starts f vs) h = h
no_request_of_trap len (resumes vs) h = h
no_request_of_trap len (reallocates c) h = h
no_request_of_trap len (posts f vs) h = h
no_request_of_trap len (destroys f r) h = h

-- post-return is asked for as it is recorded
pub post_told : (f : ℕ) (ws : List ℕ) (q : GuestRequest) → IsOfRequest (event.Post f ws) q → TellsRequest (event.Post f ws) q
post_told f ws (starts g vs) h = h
post_told f ws (resumes vs) h = h
post_told f ws (reallocates c) h = h
post_told f ws (posts g vs) h = h
post_told f ws (destroys g r) h = h

-- ---- events that agree

-- where an event is recorded: the words of a request have 64 bits
abbrev pub WordsAt : Option Event → GuestRequest → Type 0
WordsAt None q = ⊤
WordsAt (Some e) q = HasWords q

-- A request that is made behind events which are alike the recorded ones up to a place is the recorded one there.
abbrev pub Agrees : List Event → List Event → Type 0
Agrees told recorded = (followed rest : List Event) (made : Event) (place : ℕ) (q : GuestRequest) → told ≡ followed ++ made ∷ rest → place ≤ length recorded → AreAlike followed (take place recorded)
    → IsOfRequest made q → WordsAt (slice_get recorded place) q → IsNext (slice_get recorded place) q

pub agrees_none : (recorded : List Event) → Agrees [] recorded
agrees_none recorded [] rest made place q is le alike of words = absurd (none_there made rest is)
agrees_none recorded (f ∷ fs) rest made place q is le alike of words = absurd (none_there f (fs ++ made ∷ rest) is)

-- one event, and those after it where it is alike the recorded one
pub agrees_more : (e r : Event) (es rs : List Event) → ((q : GuestRequest) → IsOfRequest e q → HasWords q → TellsRequest r q) → (IsAlike e r → Agrees es rs) → Agrees (e ∷ es) (r ∷ rs)
agrees_more e r es rs first others [] rest made zero q is le alike of words = first q (subst (λ (x : Event). IsOfRequest x q) (sym (same_head e made es rest is)) of) words
agrees_more e r es rs first others [] rest made (suc place) q is le alike of words = absurd (some_there r (take place rs) alike)
agrees_more e r es rs first others (f ∷ fs) rest made zero q is le (s, ss, is2, one, more) of words = absurd (none_there s ss is2)
agrees_more e r es rs first others (f ∷ fs) rest made (suc place) q is le (s, ss, is2, one, more) of words =
    let same : f ≡ e = sym (same_head e f es (fs ++ made ∷ rest) is) in
    let there : s ≡ r = sym (same_head r s (take place rs) ss is2) in
    let those : ss ≡ take place rs = sym (same_tail r s (take place rs) ss is2) in
    others (subst₂ IsAlike same there one) fs rest made place q (same_tail e f es (fs ++ made ∷ rest) is) (omega (arith, le)) (subst (AreAlike fs) those more) of words

-- an event of no request, where nothing more is recorded
pub agrees_past : (e : Event) (es : List Event) → ((q : GuestRequest) → ¬ IsOfRequest e q) → Agrees (e ∷ es) []
agrees_past e es calm [] rest made place q is le alike of words = absurd (calm q (subst (λ (x : Event). IsOfRequest x q) (sym (same_head e made es rest is)) of))
agrees_past e es calm (f ∷ fs) rest made zero q is le (s, ss, is2, one, more) of words = absurd (none_there s ss is2)
agrees_past e es calm (f ∷ fs) rest made (suc place) q is le alike of words = absurd (omega (arith, le))

-- another request isn't the recorded one
pub other_refuted : (o : Option Event) (q : GuestRequest) → IsOtherRequest o q → (WordsAt o q → IsNext o q) → ⊥
other_refuted None q other next = next tt
other_refuted (Some e) q (differs, words) next = differs (next words)
