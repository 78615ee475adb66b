-- A call of a function that reaches no handle, which asks for no import, is accepted by the ledger; and the marks of a guest that replays are lawful.
use Rattle.std.proofs.Common.{Bool, List, None, Ok, Option, Some, [], ap, arith, flat_map, length, length-append, refl, subst, sym, ℕ, ◌++◌, ◌+◌, ◌-◌, ◌∙◌, ◌∷◌, ◌≡◌}
use Rattle.std.proofs.Math.Seq.{get_or-append_seam}
use Rattle.std.proofs.lemmas.Bool.{lt-ltb, ne_eqb}
use Rattle.std.specs.Prelude.{if◌then◌else◌, not, ⊤, ◌==◌}
use Rattle.canon_memory.specs.declared.event.Event.{Event}
use Rattle.canon_memory.specs.declared.event.Event.TheVariants as event
use Rattle.canon_memory.specs.Guest.{Mark}
use Rattle.canon_model.specs.Leaves.{Leaf}
use Rattle.canon_handles.specs.Step.{refuse_if}
use Rattle.canon_ledger.specs.Handles as handles
use Rattle.canon_ledger.specs.Handles.{Handles, OpenScope, StepAnswer, exit_scope, give_back, no_scope, opened, scope_at, top_scope, with_scope}
use Rattle.canon_ledger.specs.Ledger.{LedgerState, enter, plainly}
use Rattle.canon_ledger.specs.declared.fault.ResourceFault.TheVariants as fault
use Rattle.canon_lowering.specs.Lowering.{AllLawful, Answer, SaysLawful, marks_of}
use Rattle.canon_resources.specs.Held.{Any}
use Rattle.canon_resources.specs.Parts.{LeavesLift}
use Rattle.canon_types.specs.Instance.{Instance}
use Rattle.canon_func.specs.Call.{LiftsReturned, dynamic_results, returned_leaves, scope_exit}
use Rattle.canon_func.specs.Runs.{Each, OnReturn}
use Rattle.canon_func.specs.Stores.{Callee}
use Rattle.canon_replay_guest.specs.Replaying.{marks_of_event}

-- ---- marks

abbrev pub LawfulMarks : List Mark → Type 0
LawfulMarks [] = ⊤
LawfulMarks (m ∷ ms) = SaysLawful m × LawfulMarks ms

pub marks_lawful : (events : List Event) → LawfulMarks (flat_map marks_of_event events)
marks_lawful [] = tt
marks_lawful (event.Realloc o os al ns a ∷ events) = (refl, marks_lawful events)
marks_lawful (event.Start f ws m ∷ events) = marks_lawful events
marks_lawful (event.Ask i ws m ∷ events) = marks_lawful events
marks_lawful (event.Resume ws m ∷ events) = marks_lawful events
marks_lawful (event.Return ws m ∷ events) = marks_lawful events
marks_lawful (event.Post f ws ∷ events) = marks_lawful events
marks_lawful (event.Dtor f rep ∷ events) = marks_lawful events
marks_lawful (event.Trap told at ∷ events) = marks_lawful events

pub marks_behind : (ms more : List Mark) → LawfulMarks (ms ++ more) → LawfulMarks more
marks_behind [] more h = h
marks_behind (m ∷ ms) more h = marks_behind ms more h.1

pub answers_lawful : (answers : List Answer) → LawfulMarks (marks_of answers) → AllLawful answers
answers_lawful [] h = tt
answers_lawful (x ∷ xs) h = (h.0, answers_lawful xs h.1)

-- ---- the scope

module _ (h : Handles) where
  count_more : length (h.scopes ++ no_scope ∷ []) ≡ length h.scopes + 1
  count_more = length-append h.scopes (no_scope ∷ [])

  entered_top : top_scope (handles.enter h) ≡ Some (length (h.scopes ++ no_scope ∷ []) - 1)
  entered_top = ap (λ (b : Bool). if b then None else Some (length (h.scopes ++ no_scope ∷ []) - 1)) (ne_eqb (length (h.scopes ++ no_scope ∷ [])) 0 (λ e. omega (arith, e, count_more)))

  entered_open : opened (handles.enter h) (Some (length (h.scopes ++ no_scope ∷ []) - 1)) ≡ Some (length (h.scopes ++ no_scope ∷ []) - 1)
  entered_open = ap (λ (b : Bool). if b then Some (length (h.scopes ++ no_scope ∷ []) - 1) else None) (lt-ltb (length (h.scopes ++ no_scope ∷ []) - 1) (length (h.scopes ++ no_scope ∷ [])) (omega (arith, count_more)))

  entered_empty : scope_at (handles.enter h) (length (h.scopes ++ no_scope ∷ []) - 1) ≡ no_scope
  entered_empty = let last : length (h.scopes ++ no_scope ∷ []) - 1 ≡ length h.scopes = omega (arith, count_more) in ap (scope_at (handles.enter h)) last ∙ get_or-append_seam h.scopes no_scope [] no_scope

  entered_exits : handles.validate_scope_exit (top_scope (handles.enter h)) (handles.enter h) ≡ Ok (tt, with_scope (handles.enter h) (length (h.scopes ++ no_scope ∷ []) - 1) no_scope)
  entered_exits =
      ap (λ (o : Option ℕ). exit_scope (opened (handles.enter h) o) (handles.enter h)) entered_top
      ∙ (ap (λ (o : Option ℕ). exit_scope o (handles.enter h)) entered_open
      ∙ ap (λ (s : OpenScope). refuse_if (not (s.borrow_count == 0)) fault.BorrowsRemain (Ok (tt, give_back s.lenders (with_scope (handles.enter h) (length (h.scopes ++ no_scope ∷ []) - 1) no_scope)))) entered_empty)

-- a scope that was just entered may end
pub scope_exits : (l : LedgerState)
    → scope_exit (enter l) ≡ record { answer = Ok tt; after = record { handles = with_scope (handles.enter l.handles) (length (l.handles.scopes ++ no_scope ∷ []) - 1) no_scope; host = l.host } }
scope_exits l = ap (λ (r : StepAnswer (Unit {0})). plainly r (enter l)) (entered_exits l.handles)

scope_ends : (l : LedgerState) → (ended : LedgerState) × (scope_exit (enter l) ≡ record { answer = Ok tt; after = ended })
scope_ends l = (record { handles = with_scope (handles.enter l.handles) (length (l.handles.scopes ++ no_scope ∷ []) - 1) no_scope; host = l.host }, scope_exits l)

-- and then nothing is lifted from a return that has no handle
lifts_nothing_more : (i : Instance) (l : LedgerState) (leaves : List Leaf) → leaves ≡ [] → (resources : List Any) × LeavesLift i l leaves resources l
lifts_nothing_more i l leaves e = ([], subst (λ (ls : List Leaf). LeavesLift i l ls [] l) (sym e) (refl, refl))

abbrev pub LiftsFrom : Callee → LedgerState → List ℕ → List ℕ → Type 0
LiftsFrom callee l words memory = (lifted : LedgerState) × LiftsReturned ((dynamic_results callee).accepts words memory) l lifted

lifted_from : (callee : Callee) (l m : LedgerState) (words memory : List ℕ) → m ≡ enter l → returned_leaves callee words memory ≡ [] → LiftsFrom callee m words memory
lifted_from callee l m words memory e none =
    let (ended, ends) = scope_ends l in
    (ended, record { ended = ended; ends = subst (λ (k : LedgerState). scope_exit k ≡ record { answer = Ok tt; after = ended }) (sym e) ends; lifts = lifts_nothing_more callee.types ended (returned_leaves callee words memory) none })

pub returns_accepted : (callee : Callee) (l m : LedgerState) → m ≡ enter l → (events : List Event) → Each (OnReturn (λ words memory. returned_leaves callee words memory ≡ [])) events → Each (OnReturn (LiftsFrom callee m)) events
returns_accepted callee l m e [] h = tt
returns_accepted callee l m e (event.Return ws n ∷ events) h = (lifted_from callee l m ws n e h.0, returns_accepted callee l m e events h.1)
returns_accepted callee l m e (event.Start f ws n ∷ events) h = (tt, returns_accepted callee l m e events h.1)
returns_accepted callee l m e (event.Ask i ws n ∷ events) h = (tt, returns_accepted callee l m e events h.1)
returns_accepted callee l m e (event.Resume ws n ∷ events) h = (tt, returns_accepted callee l m e events h.1)
returns_accepted callee l m e (event.Realloc o os al ns a ∷ events) h = (tt, returns_accepted callee l m e events h.1)
returns_accepted callee l m e (event.Post f ws ∷ events) h = (tt, returns_accepted callee l m e events h.1)
returns_accepted callee l m e (event.Dtor f rep ∷ events) h = (tt, returns_accepted callee l m e events h.1)
returns_accepted callee l m e (event.Trap told at ∷ events) h = (tt, returns_accepted callee l m e events h.1)
