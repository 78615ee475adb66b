-- What a guest that follows a script does.
use Rattle.std.specs.Prelude.{◌≡◌, ◌+◌, ◌-◌, ◌^◌, ℕ, ◌++◌, Bool, true, false, if◌then◌else◌, List, [], ◌∷◌, length, drop, min, None, Option, Some, Result, Ok, Err}
use Rattle.std.proofs.Common.{refl, sym, ap, subst, ◌∙◌, append-nil, append_assoc}
use Rattle.canon_model.specs.Requests.{Call}
use Rattle.canon_memory.specs.declared.error.GuestFault.{GuestFault}
use Rattle.canon_memory.specs.declared.error.GuestFault.TheVariants as fault
use Rattle.canon_memory.specs.declared.event.Event.{Event}
use Rattle.canon_memory.specs.declared.event.Event.TheVariants as event
use Rattle.canon_memory.specs.Guest.{GuestIn, Mark, Seen}
use Rattle.canon_memory.specs.Journal.{dtor_events, post_events, realloc_events, resume_events, start_events}
use Rattle.canon_scripted.specs.Actions.{carry_out}
use Rattle.canon_scripted.specs.Allocator.{Allocator, Placed, allocate}
use Rattle.canon_scripted.specs.Orders.{next_order}
use Rattle.canon_scripted.specs.declared.actions.Action.{Action}
use Rattle.canon_scripted.specs.declared.orders.Ordered.{Ordered}
use Rattle.canon_scripted.specs.declared.orders.Ordered.TheVariants as ordered

-- what it is still to do, and its allocator
pub record Plan : Type 0 where
  pub actions : List Action
  pub reallocs : List Ordered
  pub post_trap : Bool
  pub dtor_trap : Bool
  pub allocator : Allocator

-- What contracts see of it: its plan, a mark for each answer of `realloc` in its life, and how often it trapped and
-- answered want of memory.
pub record Doing : Type 0 where
  pub plan : Plan
  pub marks : List Mark
  pub traps : ℕ
  pub shortages : ℕ

-- the marks of answers, by whether the allocator gave them; an ordered answer isn't lawful, but tidy
abbrev pub marks_of_origins : List Bool → List Mark
marks_of_origins [] = []
marks_of_origins (own ∷ rest) = record { lawful = own; tidy = true } ∷ marks_of_origins rest

-- whether the allocator answers
abbrev pub is_free : Ordered → Bool
is_free (ordered.Answer answer) = false
is_free ordered.Trap = false
is_free ordered.Free = true

-- how many answers broke the law
abbrev pub breaches : List Mark → ℕ
breaches [] = 0
breaches (mark ∷ marks) = (if mark.lawful then 0 else 1) + breaches marks

-- how any guest is seen
abbrev pub seen_of : Doing → Seen
seen_of g = record { journal = None; marks = g.marks; live = g.plan.allocator.live; holds = false; traps = g.traps; shortages = g.shortages }

-- ---- what comes of its calls

-- an answer of `realloc`, where it doesn't trap, and the plan after the call
pub record Reallocating : Type 0 where
  pub result : Result ℕ GuestFault
  pub plan : Plan

abbrev pub told : Result ℕ GuestFault → Plan → Reallocating
told result plan = record { result = result; plan = plan }

-- by what the allocator gives
abbrev pub free_realloc : Option Placed → Plan → Reallocating
free_realloc None plan = told (Err fault.Trap) plan
free_realloc (Some placed) plan = told (Ok placed.answer) (record plan { allocator = placed.after })

-- by what was ordered: an answer or a trap changes nothing else
abbrev pub ordered_realloc : Ordered → ℕ → Plan → Call → Reallocating
ordered_realloc (ordered.Answer answer) len plan c = told (Ok answer) plan
ordered_realloc ordered.Trap len plan c = told (Err fault.Trap) plan
ordered_realloc ordered.Free len plan c = free_realloc (allocate len plan.allocator c) plan

-- in a memory of so many bytes
abbrev pub realloc : ℕ → Plan → Call → Reallocating
realloc len plan c = ordered_realloc (next_order plan.reallocs) len (record plan { reallocs = drop 1 plan.reallocs }) c

-- a call that the guest ends itself
abbrev pub ended : Bool → Result (Unit {0}) GuestFault
ended traps = if traps then Err fault.Trap else Ok tt

-- a call of the guest, with memory before it
pub data Asked : Type 0 where
  started : (func : ℕ) (words memory : List ℕ) → Asked
  resumed : (words memory : List ℕ) → Asked
  reallocated : (c : Call) (memory : List ℕ) → Asked
  post_returned : (func : ℕ) (words memory : List ℕ) → Asked
  destroyed : (func rep : ℕ) (memory : List ℕ) → Asked

-- the events that tell a call
abbrev pub events_telling : Plan → Asked → List Event
events_telling plan (started func words memory) = let t = carry_out plan.actions memory in start_events func words memory t.memory t.result
events_telling plan (resumed words memory) = let t = carry_out plan.actions memory in resume_events words memory t.memory t.result
events_telling plan (reallocated c memory) = realloc_events c memory (realloc (length memory) plan c).result
events_telling plan (post_returned func words memory) = post_events func words memory (ended plan.post_trap)
events_telling plan (destroyed func rep memory) = dtor_events func rep memory (ended plan.dtor_trap)

-- the marks of its answers
abbrev pub marks_by : Bool → Result ℕ GuestFault → List Mark
marks_by own (Ok answer) = marks_of_origins (own ∷ [])
marks_by own (Err f) = []

abbrev pub marks_told : Plan → Asked → List Mark
marks_told plan (started func words memory) = []
marks_told plan (resumed words memory) = []
marks_told plan (reallocated c memory) = marks_by (is_free (next_order plan.reallocs)) (realloc (length memory) plan c).result
marks_told plan (post_returned func words memory) = []
marks_told plan (destroyed func rep memory) = []

-- the plan after it
abbrev pub after : Plan → Asked → Plan
after plan (started func words memory) = record plan { actions = (carry_out plan.actions memory).left }
after plan (resumed words memory) = record plan { actions = (carry_out plan.actions memory).left }
after plan (reallocated c memory) = (realloc (length memory) plan c).plan
after plan (post_returned func words memory) = plan
after plan (destroyed func rep memory) = plan

-- the length of memory before a call, and after it: actions alone change it
abbrev pub len_before : Asked → ℕ
len_before (started func words memory) = length memory
len_before (resumed words memory) = length memory
len_before (reallocated c memory) = length memory
len_before (post_returned func words memory) = length memory
len_before (destroyed func rep memory) = length memory

abbrev pub len_after : Plan → Asked → ℕ
len_after plan (started func words memory) = length (carry_out plan.actions memory).memory
len_after plan (resumed words memory) = length (carry_out plan.actions memory).memory
len_after plan (reallocated c memory) = length memory
len_after plan (post_returned func words memory) = length memory
len_after plan (destroyed func rep memory) = length memory

-- ---- what its events tell

-- the events of calls in a row, the marks of their answers, and the plan that they leave
abbrev pub all_events : Plan → List Asked → List Event
all_events plan [] = []
all_events plan (call ∷ calls) = events_telling plan call ++ all_events (after plan call) calls

abbrev pub all_marks : Plan → List Asked → List Mark
all_marks plan [] = []
all_marks plan (call ∷ calls) = marks_told plan call ++ all_marks (after plan call) calls

abbrev pub after_all : Plan → List Asked → Plan
after_all plan [] = plan
after_all plan (call ∷ calls) = after_all (after plan call) calls

-- Memory has the first length before these calls and the other after them; between two calls it keeps its length.
abbrev pub InLength : Plan → ℕ → List Asked → ℕ → Type 0
InLength plan len [] last = last ≡ len
InLength plan len (call ∷ calls) last = (len_before call ≡ len) × InLength (after plan call) (len_after plan call) calls last

-- With this plan, in a memory of so many bytes, these events come, and their answers have these marks; that plan and that
-- length of memory are left: they tell some calls in a row.
pub record CarriesOut (plan : Plan) (len : ℕ) (events : List Event) (marks : List Mark) (left : Plan) (last : ℕ) : Type 0 where
  pub calls : List Asked
  pub told : events ≡ all_events plan calls
  pub marked : marks ≡ all_marks plan calls
  pub leaves : left ≡ after_all plan calls
  pub lengths : InLength plan len calls last

-- a count of faults, raised: it stands still at the last number of a `u64`
abbrev pub raised_count : ℕ → ℕ
raised_count n = min (n + 1) (2 ^ 64 - 1)

abbrev pub is_trap : Event → Bool
is_trap (event.Trap asked len) = true
is_trap _ = false

-- a count of traps after these events: each trap raises it
abbrev pub traps_after : ℕ → List Event → ℕ
traps_after traps [] = traps
traps_after traps (e ∷ events) = traps_after (if is_trap e then raised_count traps else traps) events

-- From one state and length of memory to others it did so, and had these marks more; its traps are counted, and it didn't
-- want memory.
pub record ScriptMoves (g : GuestIn Doing) (events : List Event) (h : GuestIn Doing) : Type 0 where
  pub new_marks : List Mark
  pub does : CarriesOut g.guest.plan g.len events new_marks h.guest.plan h.len
  pub marks : h.guest.marks ≡ g.guest.marks ++ new_marks
  pub traps : h.guest.traps ≡ traps_after g.guest.traps events
  pub shortages : h.guest.shortages ≡ g.guest.shortages

-- one thing after another
pub moves_nothing : (g : GuestIn Doing) → ScriptMoves g [] g
moves_nothing g = record {
  new_marks = [];
  does = record { calls = []; told = refl; marked = refl; leaves = refl; lengths = refl };
  marks = sym (append-nil g.guest.marks);
  traps = refl;
  shortages = refl;
}

events_then : (plan : Plan) (xs ys : List Asked) → all_events plan (xs ++ ys) ≡ all_events plan xs ++ all_events (after_all plan xs) ys
events_then plan [] ys = refl
events_then plan (x ∷ xs) ys = ap (λ (es : List Event). events_telling plan x ++ es) (events_then (after plan x) xs ys)
    ∙ sym (append_assoc (events_telling plan x) (all_events (after plan x) xs) (all_events (after_all (after plan x) xs) ys))

marks_then : (plan : Plan) (xs ys : List Asked) → all_marks plan (xs ++ ys) ≡ all_marks plan xs ++ all_marks (after_all plan xs) ys
marks_then plan [] ys = refl
marks_then plan (x ∷ xs) ys = ap (λ (ms : List Mark). marks_told plan x ++ ms) (marks_then (after plan x) xs ys) ∙ sym (append_assoc (marks_told plan x) (all_marks (after plan x) xs) (all_marks (after_all (after plan x) xs) ys))

after_then : (plan : Plan) (xs ys : List Asked) → after_all plan (xs ++ ys) ≡ after_all (after_all plan xs) ys
after_then plan [] ys = refl
after_then plan (x ∷ xs) ys = after_then (after plan x) xs ys

lengths_then : (plan : Plan) (len mid last : ℕ) (xs ys : List Asked) → InLength plan len xs mid → InLength (after_all plan xs) mid ys last → InLength plan len (xs ++ ys) last
lengths_then plan len mid last [] ys e h = subst (λ (n : ℕ). InLength plan n ys last) e h
lengths_then plan len mid last (x ∷ xs) ys (first, rest) h = (first, lengths_then (after plan x) (len_after plan x) mid last xs ys rest h)

traps_then : (n : ℕ) (xs ys : List Event) → traps_after n (xs ++ ys) ≡ traps_after (traps_after n xs) ys
traps_then n [] ys = refl
traps_then n (x ∷ xs) ys = traps_then (if is_trap x then raised_count n else n) xs ys

module _ (first mid left : Plan) (len between last : ℕ) (xs ys : List Event) (ms ns : List Mark) where
  does_then : CarriesOut first len xs ms mid between → CarriesOut mid between ys ns left last → CarriesOut first len (xs ++ ys) (ms ++ ns) left last
  does_then f g = record {
    calls = f.calls ++ g.calls;
    told = ap (λ (es : List Event). es ++ ys) f.told ∙ ap (λ (es : List Event). all_events first f.calls ++ es) (g.told ∙ ap (λ (p : Plan). all_events p g.calls) f.leaves) ∙ sym (events_then first f.calls g.calls);
    marked = ap (λ (ks : List Mark). ks ++ ns) f.marked ∙ ap (λ (ks : List Mark). all_marks first f.calls ++ ks) (g.marked ∙ ap (λ (p : Plan). all_marks p g.calls) f.leaves) ∙ sym (marks_then first f.calls g.calls);
    leaves = g.leaves ∙ ap (λ (p : Plan). after_all p g.calls) f.leaves ∙ sym (after_then first f.calls g.calls);
    lengths = lengths_then first len between last f.calls g.calls f.lengths (subst (λ (p : Plan). InLength p between g.calls last) f.leaves g.lengths);
  }

pub moves_then : (g h k : GuestIn Doing) (xs ys : List Event) → ScriptMoves g xs h → ScriptMoves h ys k → ScriptMoves g (xs ++ ys) k
moves_then g h k xs ys f e = record {
  new_marks = f.new_marks ++ e.new_marks;
  does = does_then g.guest.plan h.guest.plan k.guest.plan g.len h.len k.len xs ys f.new_marks e.new_marks f.does e.does;
  marks = e.marks ∙ ap (λ (ms : List Mark). ms ++ e.new_marks) f.marks ∙ append_assoc g.guest.marks f.new_marks e.new_marks;
  traps = e.traps ∙ ap (λ (n : ℕ). traps_after n ys) f.traps ∙ sym (traps_then g.guest.traps xs ys);
  shortages = e.shortages ∙ f.shortages;
}
