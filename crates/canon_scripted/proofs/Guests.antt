-- What a scripted guest does, as any guest is seen.
use Rattle.std.proofs.Common.{◌≡◌, ℕ, ◌+◌, ◌-◌, ◌^◌, min, ◌<◌, ◌≤◌, Bool, true, false, List, [], ◌∷◌, ◌++◌, length, drop, Some, Result, Ok, Err, refl, sym, ap, subst, ◌∙◌, arith, append-nil, IsTrue}
use Rattle.std.proofs.lemmas.Bool.{cond-true, cond-false}
use Rattle.canon_model.specs.Memory.{memory_of}
use Rattle.canon_model.specs.Requests.{Call}
use Rattle.canon_memory.specs.declared.error.GuestFault.{GuestFault}
use Rattle.canon_memory.specs.declared.error.GuestFault.TheVariants as fault
use Rattle.canon_memory.specs.declared.event.Event.{Event}
use Rattle.canon_memory.specs.declared.event.Event.TheVariants as event
use Rattle.canon_memory.specs.declared.guest.Step.{Step}
use Rattle.canon_memory.specs.declared.guest.Step.TheVariants as step
use Rattle.canon_memory.specs.Counts.{Rose}
use Rattle.canon_memory.specs.Guest.{Goes, Mark, OnAnswer, Reallocates, guest_in, moment}
use Rattle.canon_memory.specs.Journal.{dtor_events, post_events, realloc_events, resume_events, start_events, step_events}
use Rattle.canon_memory.specs.Realloc.{IsTidy, ReallocLaw, new_block}
use Rattle.canon_scripted.specs.Actions.{ActionTurn, carry_out, turn}
use Rattle.canon_scripted.specs.Allocator.{Allocator, InRow, allocate, copied}
use Rattle.canon_scripted.specs.Orders.{next_order}
use Rattle.canon_scripted.specs.Leaves.{AnswersAsPlanned, DoesRealloc, counted, with_fault_counted, with_actions}
use Rattle.canon_scripted.specs.Scripted.{Asked, Doing, ScriptMoves, Plan, Reallocating, after, destroyed, ended, events_telling, free_realloc, is_free, is_trap, len_after, len_before, marks_by, marks_of_origins, marks_told, ordered_realloc, post_returned, raised_count, realloc, reallocated, resumed, seen_of, started, told, traps_after}
use Rattle.canon_scripted.specs.declared.actions.Action.{Action}
use Rattle.canon_scripted.specs.declared.orders.Ordered.{Ordered}
use Rattle.canon_scripted.specs.declared.orders.Ordered.TheVariants as ordered
use Rattle.canon_scripted.proofs.Laws.{keeps, lawful, same_length, tidy}
use Rattle.canon_scripted.proofs.Rules.{at_place}

-- ---- an answer, as the code gives it

abbrev pub plan_of : List Action → List Ordered → Bool → Bool → Allocator → Plan
plan_of actions orders post dtor allocator = record { actions = actions; reallocs = orders; post_trap = post; dtor_trap = dtor; allocator = allocator }

abbrev pub doing : Plan → List Bool → ℕ → ℕ → Doing
doing plan answers traps shortages = record { plan = plan; marks = marks_of_origins answers; traps = traps; shortages = shortages }

marks_append : (bs cs : List Bool) → marks_of_origins (bs ++ cs) ≡ marks_of_origins bs ++ marks_of_origins cs
marks_append [] cs = refl
marks_append (b ∷ bs) cs = ap (λ (ms : List Mark). record { lawful = b; tidy = true } ∷ ms) (marks_append bs cs)

module _ (actions : List Action) (orders left : List Ordered) (post dtor : Bool) (al : Allocator) (answers answers2 : List Bool) (traps shortages : ℕ)
    (g : Doing) (view : doing (plan_of actions orders post dtor al) answers traps shortages ≡ g) (m : List ℕ) (c : Call) (rest : left ≡ drop 1 orders) where
  pub ordered_answers : (answer : ℕ) → next_order orders ≡ ordered.Answer answer → answers2 ≡ answers ++ false ∷ []
      → AnswersAsPlanned g m c (doing (plan_of actions left post dtor al) answers2 traps shortages) m answer
  ordered_answers answer order more =
      subst (λ (f : Doing). AnswersAsPlanned f m c (doing (plan_of actions left post dtor al) answers2 traps shortages) m answer) view (record {
        told = ap (λ (o : Ordered). ordered_realloc o (length m) (plan_of actions (drop 1 orders) post dtor al) c) order
            ∙ ap (λ (os : List Ordered). told (Ok answer) (plan_of actions os post dtor al)) (sym rest);
        marks = ap marks_of_origins more ∙ marks_append answers (false ∷ []) ∙ ap (λ (o : Ordered). marks_of_origins answers ++ marks_of_origins (is_free o ∷ [])) (sym order);
        bytes = sym (cond-false _ _ _ (ap is_free order));
      })

  pub free_answers : (al2 : Allocator) (bytes : List ℕ) (answer : ℕ) → next_order orders ≡ ordered.Free → allocate (length m) al c ≡ Some (at_place answer al2) → bytes ≡ copied m c answer → answers2 ≡ answers ++ true ∷ []
      → AnswersAsPlanned g m c (doing (plan_of actions left post dtor al2) answers2 traps shortages) bytes answer
  free_answers al2 bytes answer order placed copies more =
      subst (λ (f : Doing). AnswersAsPlanned f m c (doing (plan_of actions left post dtor al2) answers2 traps shortages) bytes answer) view (record {
        told = ap (λ (o : Ordered). ordered_realloc o (length m) (plan_of actions (drop 1 orders) post dtor al) c) order
            ∙ ap (λ p. free_realloc p (plan_of actions (drop 1 orders) post dtor al)) placed
            ∙ ap (λ (os : List Ordered). told (Ok answer) (plan_of actions os post dtor al2)) (sym rest);
        marks = ap marks_of_origins more ∙ marks_append answers (true ∷ []) ∙ ap (λ (o : Ordered). marks_of_origins answers ++ marks_of_origins (is_free o ∷ [])) (sym order);
        bytes = copies ∙ sym (cond-true _ _ _ (ap is_free order));
      })

-- an answer of the allocator
module _ (m bytes : List ℕ) (al al2 : Allocator) (c : Call) (answer : ℕ) (row : InRow 0 al.live al.top) (some : 0 < c.align)
    (placed : allocate (length m) al c ≡ Some (at_place answer al2)) (copies : bytes ≡ copied m c answer) where
  pub free_lawful : ReallocLaw al.live al2.live m bytes c answer
  free_lawful = subst (λ (xs : List ℕ). ReallocLaw al.live al2.live m xs c answer) (sym copies) (lawful m al c (at_place answer al2) (keeps (length m) al c row (at_place answer al2) some placed))

  pub free_tidy : IsTidy m bytes (new_block c answer)
  free_tidy = subst (λ (xs : List ℕ). IsTidy m xs (new_block c answer)) (sym copies) (tidy m al c (at_place answer al2) (keeps (length m) al c row (at_place answer al2) some placed))

  pub free_length : length bytes ≡ length m
  free_length = subst (λ (xs : List ℕ). length xs ≡ length m) (sym copies) (same_length m al c (at_place answer al2) (keeps (length m) al c row (at_place answer al2) some placed))

-- ---- a call that isn't `realloc`

abbrev pub IsLater : Doing → Doing → Type 0
IsLater g h = (g.traps ≤ h.traps) × (g.shortages ≤ h.shortages)

counted_marks : {T : Type 0} (g h : Doing) (result : Result T GuestFault) → h ≡ counted result g → h.marks ≡ g.marks
counted_marks g h (Ok x) e = ap (λ (k : Doing). k.marks) e
counted_marks g h (Err fault.Trap) e = ap (λ (k : Doing). k.marks) e
counted_marks g h (Err fault.OutOfMemory) e = ap (λ (k : Doing). k.marks) e

pub counted_goes : {T : Type 0} (g h : Doing) (result : Result T GuestFault) (m bytes : List ℕ) (es : List Event) → h ≡ counted result g → IsLater g h → length m ≤ length bytes
    → Goes (moment (seen_of g) m) (moment (seen_of h) bytes) [] es
counted_goes g h result m bytes es e later le = record {
  no_shorter = le;
  traps_later = later.0;
  shortages_later = later.1;
  marks = counted_marks g h result e ∙ sym (append-nil g.marks);
  events = refl;
}

-- ---- what one call tells

-- a call of these events, and what it leaves
record One (g h : Doing) (m bytes : List ℕ) (call : Asked) (es : List Event) : Type 0 where
  told : es ≡ events_telling g.plan call
  leaves : h.plan ≡ after g.plan call
  marks : h.marks ≡ g.marks ++ marks_told g.plan call
  before : len_before call ≡ length m
  after_it : length bytes ≡ len_after g.plan call
  traps : h.traps ≡ traps_after g.traps es
  shortages : h.shortages ≡ g.shortages

one_call : (g h : Doing) (m bytes : List ℕ) (w w2 : Bool) (call : Asked) (es : List Event) → One g h m bytes call es → ScriptMoves (guest_in g (memory_of m w)) es (guest_in h (memory_of bytes w2))
one_call g h m bytes w w2 call es o = record {
  new_marks = marks_told g.plan call;
  does = record {
    calls = call ∷ [];
    told = o.told ∙ sym (append-nil (events_telling g.plan call));
    marked = sym (append-nil (marks_told g.plan call));
    leaves = o.leaves;
    lengths = (o.before, o.after_it);
  };
  marks = o.marks;
  traps = o.traps;
  shortages = o.shortages;
}

-- a turn
module _ (g h : Doing) (m bytes : List ℕ) (w w2 : Bool) where
  acts : (result : Result Step GuestFault) (call : Asked) (es : List ℕ → Result Step GuestFault → List Event)
      → events_telling g.plan call ≡ es (carry_out g.plan.actions m).memory (carry_out g.plan.actions m).result
      → after g.plan call ≡ record g.plan { actions = (carry_out g.plan.actions m).left }
      → len_before call ≡ length m → len_after g.plan call ≡ length (carry_out g.plan.actions m).memory → [] ≡ marks_told g.plan call
      → carry_out g.plan.actions m ≡ turn bytes result h.plan.actions
      → h.plan ≡ record g.plan { actions = h.plan.actions } → h.marks ≡ g.marks → h.traps ≡ traps_after g.traps (es bytes result) → h.shortages ≡ g.shortages
      → ScriptMoves (guest_in g (memory_of m w)) (es bytes result) (guest_in h (memory_of bytes w2))
  acts result call es told leaves first last none t p ms traps shortages = one_call g h m bytes w w2 call (es bytes result) (record {
    told = sym (told ∙ ap (λ (u : ActionTurn). es u.memory u.result) t);
    leaves = p ∙ ap (λ (u : ActionTurn). record g.plan { actions = u.left }) (sym t) ∙ sym leaves;
    marks = ms ∙ sym (append-nil g.marks) ∙ ap (λ (ks : List Mark). g.marks ++ ks) none;
    before = first;
    after_it = sym (last ∙ ap (λ (u : ActionTurn). length u.memory) t);
    traps = traps;
    shortages = shortages;
  })

  module _ (call : Asked) (es : List ℕ → Result Step GuestFault → List Event)
      (told : events_telling g.plan call ≡ es (carry_out g.plan.actions m).memory (carry_out g.plan.actions m).result)
      (leaves : after g.plan call ≡ record g.plan { actions = (carry_out g.plan.actions m).left })
      (first : len_before call ≡ length m) (last : len_after g.plan call ≡ length (carry_out g.plan.actions m).memory) (none : [] ≡ marks_told g.plan call)
      (goes : (x : Step) → traps_after g.traps (es bytes (Ok x)) ≡ g.traps) (traps : traps_after g.traps (es bytes (Err fault.Trap)) ≡ raised_count g.traps) where
    turn_moves : (result : Result Step GuestFault) → h ≡ counted result (with_actions g h.plan.actions)
        → OnAnswer result (carry_out g.plan.actions m ≡ turn bytes result h.plan.actions) → OnAnswer result (ScriptMoves (guest_in g (memory_of m w)) (es bytes result) (guest_in h (memory_of bytes w2)))
    turn_moves (Ok x) e t = acts (Ok x) call es told leaves first last none t (ap (λ (k : Doing). k.plan) e) (ap (λ (k : Doing). k.marks) e)
        (ap (λ (k : Doing). k.traps) e ∙ sym (goes x)) (ap (λ (k : Doing). k.shortages) e)
    turn_moves (Err fault.Trap) e t = acts (Err fault.Trap) call es told leaves first last none t (ap (λ (k : Doing). k.plan) e) (ap (λ (k : Doing). k.marks) e)
        (ap (λ (k : Doing). k.traps) e ∙ sym traps) (ap (λ (k : Doing). k.shortages) e)
    turn_moves (Err fault.OutOfMemory) e t = tt

  -- the event of a step is no trap
  step_goes : (first : Event) (x : Step) → is_trap first ≡ false → traps_after g.traps (step_events first (length m) bytes (Ok x)) ≡ g.traps
  step_goes first (step.Return words) e = cond-false _ _ _ e
  step_goes first (step.Import index words) e = cond-false _ _ _ e

  pub start_moves : (func : ℕ) (words : List ℕ) (result : Result Step GuestFault) → h ≡ counted result (with_actions g h.plan.actions)
      → OnAnswer result (carry_out g.plan.actions m ≡ turn bytes result h.plan.actions)
      → OnAnswer result (ScriptMoves (guest_in g (memory_of m w)) (start_events func words m bytes result) (guest_in h (memory_of bytes w2)))
  start_moves func words = turn_moves (started func words m) (λ b r. start_events func words m b r) refl refl refl refl refl (λ x. step_goes (event.Start func words m) x refl) refl

  pub resume_moves : (words : List ℕ) (result : Result Step GuestFault) → h ≡ counted result (with_actions g h.plan.actions)
      → OnAnswer result (carry_out g.plan.actions m ≡ turn bytes result h.plan.actions)
      → OnAnswer result (ScriptMoves (guest_in g (memory_of m w)) (resume_events words m bytes result) (guest_in h (memory_of bytes w2)))
  resume_moves words = turn_moves (resumed words m) (λ b r. resume_events words m b r) refl refl refl refl refl (λ x. step_goes (event.Resume words m) x refl) refl

-- a call that the guest ends itself leaves the plan and memory
module _ (g h : Doing) (m : List ℕ) (w w2 : Bool) (call : Asked) (traps : Bool) (es : Result (Unit {0}) GuestFault → List Event)
    (told : es (ended traps) ≡ events_telling g.plan call) (leaves : g.plan ≡ after g.plan call) (marks : [] ≡ marks_told g.plan call)
    (before : len_before call ≡ length m) (after_it : length m ≡ len_after g.plan call)
    (none : traps_after g.traps (es (Ok tt)) ≡ g.traps) (one : traps_after g.traps (es (Err fault.Trap)) ≡ raised_count g.traps) where
  ended_moves : (result : Result (Unit {0}) GuestFault) → result ≡ ended traps → h ≡ counted result g → OnAnswer result (ScriptMoves (guest_in g (memory_of m w)) (es result) (guest_in h (memory_of m w2)))
  ended_moves (Ok tt) e k = one_call g h m m w w2 call (es (Ok tt)) (record {
    told = ap es e ∙ told;
    leaves = ap (λ (d : Doing). d.plan) k ∙ leaves;
    marks = ap (λ (d : Doing). d.marks) k ∙ sym (append-nil g.marks) ∙ ap (λ (ks : List Mark). g.marks ++ ks) marks;
    before = before;
    after_it = after_it;
    traps = ap (λ (d : Doing). d.traps) k ∙ sym none;
    shortages = ap (λ (d : Doing). d.shortages) k;
  })
  ended_moves (Err fault.Trap) e k = one_call g h m m w w2 call (es (Err fault.Trap)) (record {
    told = ap es e ∙ told;
    leaves = ap (λ (d : Doing). d.plan) k ∙ leaves;
    marks = ap (λ (d : Doing). d.marks) k ∙ sym (append-nil g.marks) ∙ ap (λ (ks : List Mark). g.marks ++ ks) marks;
    before = before;
    after_it = after_it;
    traps = ap (λ (d : Doing). d.traps) k ∙ sym one;
    shortages = ap (λ (d : Doing). d.shortages) k;
  })
  ended_moves (Err fault.OutOfMemory) e k = tt

pub post_moves : (g h : Doing) (func : ℕ) (words m : List ℕ) (w w2 : Bool) (result : Result (Unit {0}) GuestFault) → result ≡ ended g.plan.post_trap → h ≡ counted result g
    → OnAnswer result (ScriptMoves (guest_in g (memory_of m w)) (post_events func words m result) (guest_in h (memory_of m w2)))
post_moves g h func words m w w2 = ended_moves g h m w w2 (post_returned func words m) g.plan.post_trap (λ r. post_events func words m r) refl refl refl refl refl refl refl

pub dtor_moves : (g h : Doing) (func rep : ℕ) (m : List ℕ) (w w2 : Bool) (result : Result (Unit {0}) GuestFault) → result ≡ ended g.plan.dtor_trap → h ≡ counted result g
    → OnAnswer result (ScriptMoves (guest_in g (memory_of m w)) (dtor_events func rep m result) (guest_in h (memory_of m w2)))
dtor_moves g h func rep m w w2 = ended_moves g h m w w2 (destroyed func rep m) g.plan.dtor_trap (λ r. dtor_events func rep m r) refl refl refl refl refl refl refl

-- ---- `realloc`

module _ (g h : Doing) (m bytes : List ℕ) (w w2 : Bool) (c : Call) (same_len : length bytes ≡ length m) where
  told_moves : (result : Result ℕ GuestFault) → realloc (length m) g.plan c ≡ told result h.plan → h.marks ≡ g.marks ++ marks_by (is_free (next_order g.plan.reallocs)) result
      → h.traps ≡ traps_after g.traps (realloc_events c m result) → h.shortages ≡ g.shortages → ScriptMoves (guest_in g (memory_of m w)) (realloc_events c m result) (guest_in h (memory_of bytes w2))
  told_moves result t ms traps shortages = one_call g h m bytes w w2 (reallocated c m) (realloc_events c m result) (record {
    told = ap (λ (u : Reallocating). realloc_events c m u.result) (sym t);
    leaves = ap (λ (u : Reallocating). u.plan) (sym t);
    marks = ms ∙ ap (λ (u : Reallocating). g.marks ++ marks_by (is_free (next_order g.plan.reallocs)) u.result) (sym t);
    before = refl;
    after_it = same_len;
    traps = traps;
    shortages = shortages;
  })

  pub answer_moves : (answer : ℕ) → AnswersAsPlanned g m c h bytes answer → (h.traps ≡ g.traps) × (h.shortages ≡ g.shortages) → ScriptMoves (guest_in g (memory_of m w)) (realloc_events c m (Ok answer)) (guest_in h (memory_of bytes w2))
  answer_moves answer a same = told_moves (Ok answer) a.told a.marks same.0 same.1

  pub answer_does : (answer : ℕ) → AnswersAsPlanned g m c h bytes answer → (h.traps ≡ g.traps) × (h.shortages ≡ g.shortages)
      → (IsTrue (is_free (next_order g.plan.reallocs)) → ReallocLaw g.plan.allocator.live h.plan.allocator.live m bytes c answer) → IsTidy m bytes (new_block c answer)
      → Reallocates (moment (seen_of g) m) (moment (seen_of h) bytes) c (Ok answer)
  answer_does answer a same law neat = (
    record { lawful = is_free (next_order g.plan.reallocs); tidy = true },
    record {
      goes = record { no_shorter = omega (arith, same_len); traps_later = omega (arith, same.0); shortages_later = omega (arith, same.1); marks = a.marks; events = refl };
      lawful = law;
      tidy = λ t. neat;
    },
  )

-- a fault, counted
module _ (g k h : Doing) (m bytes : List ℕ) (c : Call) (same : (k.traps ≡ g.traps) × (k.shortages ≡ g.shortages)) (same_len : length bytes ≡ length m) where
  fault_goes : (es : List Event) → IsLater k h → h.marks ≡ g.marks → Goes (moment (seen_of g) m) (moment (seen_of h) bytes) [] es
  fault_goes es later marks = record {
    no_shorter = omega (arith, same_len);
    traps_later = omega (arith, same.0, later.0);
    shortages_later = omega (arith, same.1, later.1);
    marks = marks ∙ sym (append-nil g.marks);
    events = refl;
  }

  rises : (x y z : ℕ) → y ≡ x → z ≡ raised_count y → Rose x z
  rises x y z e d = subst (λ (n : ℕ). min (x + 1) (2 ^ 64 - 1) ≤ n) (ap raised_count (sym e) ∙ sym d) (omega arith)

  pub fault_does : (f r : GuestFault) → r ≡ f → DoesRealloc g m c k bytes (Err f) → h ≡ with_fault_counted f k → IsLater k h → Reallocates (moment (seen_of g) m) (moment (seen_of h) bytes) c (Err r)
  fault_does f r e d s later = subst (λ (x : GuestFault). Reallocates (moment (seen_of g) m) (moment (seen_of h) bytes) c (Err x)) (sym e) (by f d s)
    where
      by : (x : GuestFault) → DoesRealloc g m c k bytes (Err x) → h ≡ with_fault_counted x k → Reallocates (moment (seen_of g) m) (moment (seen_of h) bytes) c (Err x)
      by fault.Trap d s = record {
        goes = fault_goes _ later (ap (λ (x : Doing). x.marks) s ∙ d.marks);
        rose = rises g.traps k.traps h.traps same.0 (ap (λ (x : Doing). x.traps) s);
      }
      by fault.OutOfMemory d s = record {
        goes = fault_goes _ later (ap (λ (x : Doing). x.marks) s ∙ d.marks);
        rose = rises g.shortages k.shortages h.shortages same.1 (ap (λ (x : Doing). x.shortages) s);
      }

  pub fault_moves : (w w2 : Bool) (f r : GuestFault) → r ≡ f → DoesRealloc g m c k bytes (Err f) → h ≡ with_fault_counted f k
      → OnAnswer {T = ℕ} (Err r) (ScriptMoves (guest_in g (memory_of m w)) (realloc_events c m (Err r)) (guest_in h (memory_of bytes w2)))
  fault_moves w w2 f r e d s = subst (λ (x : GuestFault). OnAnswer {T = ℕ} (Err x) (ScriptMoves (guest_in g (memory_of m w)) (realloc_events c m (Err x)) (guest_in h (memory_of bytes w2)))) (sym e) (by f d s)
    where
      by : (x : GuestFault) → DoesRealloc g m c k bytes (Err x) → h ≡ with_fault_counted x k → OnAnswer {T = ℕ} (Err x) (ScriptMoves (guest_in g (memory_of m w)) (realloc_events c m (Err x)) (guest_in h (memory_of bytes w2)))
      by fault.Trap d s = told_moves g h m bytes w w2 c same_len (Err fault.Trap) (d.told ∙ ap (λ (x : Doing). told (Err fault.Trap) x.plan) (sym s)) (ap (λ (x : Doing). x.marks) s ∙ d.marks ∙ sym (append-nil g.marks))
          (ap (λ (x : Doing). x.traps) s ∙ ap raised_count same.0) (ap (λ (x : Doing). x.shortages) s ∙ same.1)
      by fault.OutOfMemory d s = tt
