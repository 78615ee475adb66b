-- The record of a drop, from what the drop ensures.
use Rattle.std.proofs.Common.{◌≡◌, ◌+◌, ◌++◌, ◌∙◌, Bool, Err, List, None, Ok, Option, Result, Some, [], ap, append-nil, arith, length, length-append, refl, subst, sym, ℕ}
use Rattle.std.proofs.lemmas.List.{nil_from_length}
use Rattle.std.specs.Prelude.{IfNone, IfSome, OnOk, unwrap_or}
use Rattle.canon_ledger.specs.Index.{GivenIndex}
use Rattle.canon_ledger.specs.Ledger.{LedgerState}
use Rattle.canon_memory.specs.declared.event.Event.{Event}
use Rattle.canon_memory.specs.Guest.{Mark}
use Rattle.canon_resources.specs.Held.{Any, host_index}
use Rattle.canon_scripted.specs.Scripted.{CarriesOut, traps_after}
use Rattle.canon_context.specs.Core.{guest_of}
use Rattle.canon_context.specs.declared.fault.Fault.TheVariants as fault
use Rattle.canon_func.specs.Drop.{DropAnswers, IsDrop, LeavesMemory, destructor_at, destructor_events, drop_refusal}
use Rattle.canon_func.specs.declared.error.Error.{Error}
use Rattle.canon_func.specs.declared.error.Error.TheVariants as error
use Rattle.canon_imports.specs.Imports.{entries_of}
use Rattle.canon_imports.specs.declared.imports.ScriptedImports.{ScriptedImports}
use Rattle.canon_transcript.specs.declared.transcript.Answer.{Answer}
use Rattle.canon_transcript.specs.declared.transcript.Answer.TheVariants as answer
use Rattle.canon_transcript.specs.declared.transcript.Record.{Record}
use Rattle.canon_player.specs.Session.{DroppedAt, DroppedBy, IsEnd, LeavesSame, Removed, State, WasDropped, WasRemoved, answer_values, drop_plan, answer_outcome}
use Rattle.canon_player.specs.Stores.{ScriptStore, state_of, with_plan}
use Rattle.canon_player.proofs.Played.{IsOtherItem, StoreMoves, answers_error, journaled, on_answered}

-- no value was answered
no_vals : (a : Answer) (d : Result (Unit {0}) Error) → answer_outcome a ≡ d → OnOk d (answer_values a ≡ []) → answer_values a ≡ []
no_vals (answer.Ok vs) d e h = subst (λ (c : Result (Unit {0}) Error). OnOk c (answer_values (answer.Ok vs) ≡ [])) (sym e) h
no_vals (answer.Err x) d e h = refl
no_vals answer.Typecheck d e h = refl
no_vals answer.Skipped d e h = refl

-- whether a destructor ran or not, memory is as it was
left_same : (l : LedgerState) (x : GivenIndex) (before after : List ℕ) → LeavesMemory LeavesSame (destructor_at l x) before after → after ≡ before
left_same l x before after = elim (destructor_at l x) as (λ o. LeavesMemory LeavesSame o before after → after ≡ before) [ None ↦ λ h. h | Some d ↦ λ h. h ]

no_marks : (before new after : List Mark) → after ≡ before ++ new → after ≡ before ++ [] → new ≡ []
no_marks before new after e f =
    let counted : length before + length new ≡ length before + 0 = sym (length-append before new) ∙ (ap length (sym e ∙ f) ∙ length-append before []) in
    nil_from_length new (omega (arith, counted))

-- what became of a handle, by what the drop says
removed_by : (x : GivenIndex) (s left : ScriptStore) (d : Result (Unit {0}) Error) → IsOtherItem d → DropAnswers journaled x s left d
    → OnOk d (LeavesMemory LeavesSame (destructor_at s.core.ledger x) s.core.memory left.core.memory) → Removed x (state_of s) (state_of left) d
removed_by x s left (Ok u) n h memory = (h, left_same s.core.ledger x s.core.memory left.core.memory memory)
removed_by x s left (Err (error.Fault fault.GuestTrap)) n h memory = h.0
removed_by x s left (Err (error.Fault fault.OutOfMemory)) n h memory = absurd (n refl)
removed_by x s left (Err (error.Fault (fault.Resource e))) n h memory = (h.0, ap state_of h.1)
removed_by x s left (Err e) n h memory = absurd h

-- the store whose guest is to do a drop
abbrev pub readied : Bool → ScriptStore → ScriptStore
readied dtor_trap s = with_plan s (drop_plan dtor_trap s.core.guest.guest.plan.allocator)

abbrev pub Dropping : GivenIndex → ScriptStore → ScriptStore → Result (Unit {0}) Error → Type 0
Dropping i before left dropped = IsDrop journaled StoreMoves LeavesSame i before left dropped

-- The store is `s` before the guest is loaded, and `left` as the drop leaves it.
module _ (x : Any) (dtor_trap : Bool) (r : Record) (s left : ScriptStore) (dropped : Result (Unit {0}) Error)
    (empty : s.core.guest.events ≡ []) (events : r.events ≡ left.core.guest.events) (out : answer_outcome r.answer ≡ dropped) (vals : OnOk dropped (answer_values r.answer ≡ []))
    (short : IsOtherItem dropped) (played : IsEnd r.answer) (served : r.served.items ≡ []) (kept : left.imports ≡ s.imports) (id : left.core.id ≡ s.core.id) where
  abbrev Drops : GivenIndex → Type 0
  Drops i = Dropping i (readied dtor_trap s) left dropped

  none_kept : left ≡ readied dtor_trap s → r.events ≡ []
  none_kept same = events ∙ (ap (λ (k : ScriptStore). k.core.guest.events) same ∙ empty)

  was_removed : (i : GivenIndex) → Drops i → WasRemoved i dtor_trap (state_of s) (state_of left) r
  was_removed i h =
      let d = destructor_at s.core.ledger i in
      let es : List Event = destructor_events d s.core.memory dropped in
      let gained : left.core.guest.events ≡ s.core.guest.events ++ es = ap (λ o. unwrap_or o []) h.destructor.goes.events in
      let all : r.events ≡ es = events ∙ (gained ∙ ap (λ (xs : List Event). xs ++ es) empty) in
      let moved : StoreMoves (guest_of (readied dtor_trap s).core) es (guest_of left.core) = on_answered dropped _ short h.destructor.moved in
      let did = moved.moves in
      let none : did.new_marks ≡ [] = no_marks s.core.guest.guest.marks did.new_marks left.core.guest.guest.marks did.marks h.destructor.goes.marks in
      record {
        removed = subst (λ (c : Result (Unit {0}) Error). Removed i (state_of s) (state_of left) c) (sym out) (removed_by i (readied dtor_trap s) left dropped short h.outcome h.destructor.memory);
        played = played;
        no_values = no_vals r.answer dropped out vals;
        ran = all ∙ ap (λ (c : Result (Unit {0}) Error). destructor_events d s.core.memory c) (sym out);
        left = left.core.guest.guest.plan;
        does = subst (λ (xs : List Event). CarriesOut (drop_plan dtor_trap s.core.guest.guest.plan.allocator) (length s.core.memory) xs [] left.core.guest.guest.plan (length left.core.memory)) (sym all)
            (subst (λ (ms : List Mark). CarriesOut (drop_plan dtor_trap s.core.guest.guest.plan.allocator) (length s.core.memory) es ms left.core.guest.guest.plan (length left.core.memory)) none did.does);
        served_none = served;
        store = id;
        log = ap (λ (m : ScriptedImports). entries_of m.lines.items) kept;
        refusals = ap (λ (m : ScriptedImports). m.refusals) kept;
        allocator = refl;
        marks = h.destructor.goes.marks ∙ append-nil s.core.guest.guest.marks;
        traps = subst (λ (xs : List Event). left.core.guest.guest.traps ≡ traps_after s.core.guest.guest.traps xs) (sym all) did.traps;
        shortages = moved.shortages;
      }

  dropped_at : (i : GivenIndex) (o : Option Error) → IfSome o (λ e. (dropped ≡ Err e) × (left ≡ readied dtor_trap s)) → IfNone o (Drops i) → DroppedAt i dtor_trap (state_of s) (state_of left) r o
  dropped_at i None refused drops = was_removed i drops
  dropped_at i (Some e) refused drops = (answers_error r.answer e (out ∙ refused.0), (none_kept refused.1, served), ap state_of refused.1)

  dropped_by : (o : Option GivenIndex) → IfNone o ((dropped ≡ Ok tt) × (left ≡ readied dtor_trap s)) → IfSome o (λ i. IfSome (drop_refusal s.core.ledger s.trapped i) (λ e. (dropped ≡ Err e) × (left ≡ readied dtor_trap s)))
      → IfSome o (λ i. IfNone (drop_refusal s.core.ledger s.trapped i) (Drops i)) → DroppedBy o dtor_trap (state_of s) (state_of left) r
  dropped_by None none refused drops = ((played, out ∙ none.0, no_vals r.answer dropped out vals), (none_kept none.1, served), ap state_of none.1)
  dropped_by (Some i) none refused drops = dropped_at i (drop_refusal s.core.ledger s.trapped i) refused drops

-- the store is `before` when the resource is dropped, and `final` once the journal is taken
module _ (x : Any) (dtor_trap : Bool) (r : Record) (s before left final : ScriptStore) (dropped : Result (Unit {0}) Error) where
  pub drop_is : s.core.guest.events ≡ [] → before ≡ readied dtor_trap s → state_of final ≡ state_of left → r.events ≡ left.core.guest.events → answer_outcome r.answer ≡ dropped → OnOk dropped (answer_values r.answer ≡ [])
      → IsOtherItem dropped → IsEnd r.answer → r.served.items ≡ [] → left.imports ≡ before.imports → left.core.id ≡ before.core.id → IfNone (host_index x.handle) ((dropped ≡ Ok tt) × (left ≡ before))
      → IfSome (host_index x.handle) (λ i. IfSome (drop_refusal before.core.ledger before.trapped i) (λ e. (dropped ≡ Err e) × (left ≡ before)))
      → IfSome (host_index x.handle) (λ i. IfNone (drop_refusal before.core.ledger before.trapped i) (Dropping i before left dropped))
      → WasDropped (Some x) dtor_trap (state_of s) (state_of final) r
  drop_is empty is end events out vals short played served kept id none refused drops =
      subst (λ (k : State). DroppedBy (host_index x.handle) dtor_trap (state_of s) k r) (sym end)
      (dropped_by x dtor_trap r s left dropped empty events out vals short played served (kept ∙ ap (λ (k : ScriptStore). k.imports) is) (id ∙ ap (λ (k : ScriptStore). k.core.id) is) (host_index x.handle)
      (subst (λ (k : ScriptStore). IfNone (host_index x.handle) ((dropped ≡ Ok tt) × (left ≡ k))) is none)
      (subst (λ (k : ScriptStore). IfSome (host_index x.handle) (λ i. IfSome (drop_refusal k.core.ledger k.trapped i) (λ e. (dropped ≡ Err e) × (left ≡ k)))) is refused)
      (subst (λ (k : ScriptStore). IfSome (host_index x.handle) (λ i. IfNone (drop_refusal k.core.ledger k.trapped i) (Dropping i k left dropped))) is drops))
