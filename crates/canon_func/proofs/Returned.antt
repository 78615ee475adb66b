-- What lifting the results did.
use Rattle.std.proofs.Common.{Err, Global, List, Ok, Result, Some, Vec, ap, length, subst, sym, ℕ, ◌∙◌, ◌≡◌}
use Rattle.std.specs.Prelude.{All, IfOk, false, slice_get, true}
use Rattle.std.proofs.lemmas.List.Elements.{All-get_or}
use Rattle.std.proofs.lemmas.Option.{get_or_from_slice_get, slice_get_within}
use Rattle.canon_model.specs.Flat.{max_results}
use Rattle.canon_model.specs.Shape.{Members, member_count}
use Rattle.canon_types.specs.Depth.{member_borrows}
use Rattle.canon_types.specs.Table.{TypeTable, tuple_members}
use Rattle.canon_types.specs.Valid.{HoldNoBorrow}
use Rattle.canon_types.specs.declared.types.TypeFunc.{TypeFunc}
use Rattle.canon_ledger.specs.Ledger.{LedgerState}
use Rattle.canon_lowering.specs.Storing.{narrow}
use Rattle.canon_context.specs.Lifter.{origin_in}
use Rattle.canon_context.specs.Core.{Parts, component_types}
use Rattle.canon_context.specs.declared.component.Export.{Export}
use Rattle.canon_context.specs.declared.fault.Fault.{Fault}
use Rattle.canon_value_parts.proofs.Values.{have_count}
use Rattle.canon_value_parts.specs.Lifts.{LiftsResults}
use Rattle.canon_value_parts.specs.Resources.{all_resources}
use Rattle.canon_val.specs.declared.val.Val.{Val}
use Rattle.canon_func.specs.Call.{dynamic_results, returned_leaves}
use Rattle.canon_func.specs.Steps.{Lifted, LiftsIn, items_in}
use Rattle.canon_func.specs.Stores.{Callee, export_callee, results_in}
use Rattle.canon_func.proofs.Leaving.{lifts_scopes}
use Rattle.canon_func.proofs.Owned.{values_owned}

-- what was lifted in a context, said of the core that it was made from
pub lifts_at : {T G : Type 0} (core made after : Parts T G) (b : LedgerState) (options own tuple fuel left : ℕ) (words : List ℕ) (result : Result (Vec Val Global) Fault) → made ≡ core → own ≡ options → fuel ≡ core.fuel → after.ledger ≡ b
    → LiftsResults (origin_in made own) words (tuple_members (component_types made) tuple) made.ledger fuel result after.ledger left
    → LiftsIn (origin_in core options) words (tuple_members (component_types core) tuple) core.ledger core.fuel result b
lifts_at core made after b options own tuple fuel left words result same by full ends h = (
  left,
  subst (λ l. LiftsResults (origin_in core options) words (tuple_members (component_types core) tuple) core.ledger core.fuel result l left) ends
      (subst (λ n. LiftsResults (origin_in core options) words (tuple_members (component_types core) tuple) core.ledger n result after.ledger left) full
      (subst (λ o. LiftsResults (origin_in core o) words (tuple_members (component_types core) tuple) core.ledger fuel result after.ledger left) by
      (subst (λ k. LiftsResults (origin_in k own) words (tuple_members (component_types k) tuple) k.ledger fuel result after.ledger left) same h))),
)

-- the members of the tuple are the callee's results
pub call_members_are : (t u : TypeTable) (i : ℕ) (f : TypeFunc) → u ≡ t → slice_get u.funcs i ≡ Some f → tuple_members t f.results ≡ results_in t (slice_get t.funcs i)
call_members_are t u i f same found = sym (ap (results_in t) (ap (λ v. slice_get v.funcs i) (sym same) ∙ found))

-- which hold no borrow
pub no_borrow : (t : TypeTable) (i : ℕ) (f : TypeFunc) → slice_get t.funcs i ≡ Some f → All (HoldNoBorrow t) t.funcs → member_borrows (tuple_members t f.results) ≡ false
no_borrow t i f found all = subst (HoldNoBorrow t) (get_or_from_slice_get t.funcs i f f found) (All-get_or (HoldNoBorrow t) t.funcs i f (slice_get_within t.funcs i f found) all)

-- ---- the results of an export

module _ {T G : Type 0} (core : Parts T G) (export : Export) (words : List ℕ) (types : TypeTable) (f : TypeFunc) (m : LedgerState) (is : types ≡ component_types core) (found : slice_get types.funcs export.ty ≡ Some f) where
  abbrev Callee_ : Callee
  Callee_ = export_callee core.component export

  abbrev Lifts : Members → Result (Vec Val Global) Fault → Type 0
  Lifts ms result = LiftsIn (origin_in core export.options) words ms core.ledger core.fuel result m

  of_callee : (result : Result (Vec Val Global) Fault) → Lifts (tuple_members (component_types core) f.results) result → Lifts Callee_.results result
  of_callee result h = subst (λ ms. Lifts ms result) (call_members_are (component_types core) types export.ty f is found) h

  pub lifted_so : (result : Result (Vec Val Global) Fault) → All (HoldNoBorrow types) types.funcs → Lifts (tuple_members (component_types core) f.results) result
      → Lifted (dynamic_results Callee_) core.fuel words core.memory core.ledger m (items_in result)
  lifted_so (Err e) valid h = let lifts = of_callee (Err e) h in (lifts.1.err, lifts.1.handles)
  lifted_so (Ok vals) valid h =
      let lifts = of_callee (Ok vals) h in
      let none : member_borrows Callee_.results ≡ false =
      subst (λ ms. member_borrows ms ≡ false) (call_members_are (component_types core) types export.ty f is found) (subst (λ t. member_borrows (tuple_members t f.results) ≡ false) is (no_borrow types export.ty f found valid)) in
      let owned = values_owned (narrow core.memory) words max_results Callee_.results none in
      (lifts.0, lifts.1.ok, lifts.1.handles, lifts_scopes Callee_.types core.ledger m (returned_leaves Callee_ words core.memory) (all_resources vals.items) owned lifts.1.handles)

  pub call_lifted_count : (result : Result (Vec Val Global) Fault) → Lifts (tuple_members (component_types core) f.results) result → IfOk result (λ vals. length vals.items ≡ member_count Callee_.results)
  call_lifted_count (Err e) h = tt
  call_lifted_count (Ok vals) h = let are = (of_callee (Ok vals) h).1.ok in have_count true Callee_.results vals.items are.its_trees are.have
