-- The record of a typed call, from what the call ensures.
use Rattle.std.proofs.Common.{◌≡◌, ◌∙◌, Bool, List, None, Option, Result, Some, [], ap, drop, false, length, map, refl, subst, subst₂, sym, true, ◌∷◌, ℕ}
use Rattle.std.specs.Prelude.{IfOk, IfSome, IsNone, OnErr, OnOk, slice_get}
use Rattle.std.proofs.lemmas.Option.{none-some}
use Rattle.std.proofs.lemmas.Result.{IfOk-weaker}
use Rattle.canon_types.specs.Instance.{Instance}
use Rattle.canon_types.specs.Refusal.{first_error}
use Rattle.canon_types.specs.declared.types.TypeFunc.{TypeFunc}
use Rattle.canon_context.specs.declared.component.Component.{Component}
use Rattle.canon_context.specs.declared.component.Export.{Export}
use Rattle.canon_imports.specs.Imports.{entries_of}
use Rattle.canon_scripted.specs.declared.actions.Action.{Action}
use Rattle.canon_scripted.specs.declared.orders.Ordered.{Ordered}
use Rattle.canon_scripted.specs.Allocator.{Allocator}
use Rattle.canon_scripted.specs.Scripted.{Plan}
use Rattle.canon_func.specs.Call.{entry_refusal, refused_by}
use Rattle.canon_func.specs.Passing.{Arguments}
use Rattle.canon_func.specs.Asks.{Limits}
use Rattle.canon_func.specs.Stores.{Callee, Named, callee_in, callee_of, type_in}
use Rattle.canon_abi.specs.declared.error.OutOfMemory.{OutOfMemory}
use Rattle.canon_script.specs.Imports.{HostAnswer}
use Rattle.canon_script.specs.Script.{typed_item_view}
use Rattle.canon_script.specs.Typed.{TypedValues, typed_view}
use Rattle.canon_script.specs.declared.script.TypedItem.{TypedItem}
use Rattle.canon_func.specs.Typed.{FitsParams, FitsResults, done_by, export_options, options_in, params_shape, typed_args, typed_results}
use Rattle.canon_func.specs.declared.error.Error.{Error}
use Rattle.canon_func.specs.declared.error.Error.TheVariants as error
use Rattle.canon_transcript.specs.declared.transcript.Record.{Record}
use Rattle.canon_player.specs.Session.{HasSignature, Printed, State, Tells, TypedBy, TypedCalled, TypedWith, WasItemCalled, WasTyped, entry_view, plan_with, served_view}
use Rattle.canon_player.specs.Options.{options_number}
use Rattle.canon_player.specs.Signatures.{Passing, Returning, Signature}
use Rattle.canon_player.specs.Stores.{HasItsTypes, ScriptStore, answers_of, callee_at, limits_of, state_of, with_plan}
use Rattle.canon_player.proofs.Played.{Became, Entered, IsOtherItem, call_became}

-- ---- its types

types_in : (c : Component) (o : Option Export) → c.types ≡ (callee_in c o).types
types_in c None = refl
types_in c (Some e) = refl

pub types_at : (c : Component) (func : ℕ) → c.types ≡ (callee_at c func).types
types_at c func = types_in c (slice_get c.exports.items func)

module _ {P R : Type 0} (passing : Passing P) (returning : Returning R) where
  -- the types of a function are the signature's
  abbrev pub FitBoth : Instance → Option TypeFunc → Type 0
  FitBoth i o = FitsParams passing.fits i o × FitsResults returning.fits i o

  pub signature_is : (c : Component) (func : ℕ) (o : Option TypeFunc) → o ≡ slice_get c.types.types.funcs func → FitBoth c.types o ≡ HasSignature passing returning (callee_at c func) func
  signature_is c func o e = ap (FitBoth c.types) e ∙ ap (λ (i : Instance). FitBoth i (slice_get i.types.funcs func)) (types_at c func)

-- ---- a refusal

always_refused : (x : Bool) → first_error ((x, error.AsyncLifted) ∷ (true, error.CannotEnterComponent) ∷ []) ≡ None → ⊥
always_refused true e = none-some error.AsyncLifted (sym e)
always_refused false e = none-some error.CannotEnterComponent (sym e)

free_by : (player_callee : Callee) (trapped : Bool) → entry_refusal player_callee trapped ≡ None → trapped ≡ false
free_by player_callee false e = refl
free_by player_callee true e = absurd (always_refused player_callee.async_ e)

-- ---- a call

-- The store is `s` before the guest is loaded, `before` when the function is called, `left` as the call leaves it, and `final` once
-- the journal is taken.
module _ {P R : Type 0} (passing : Passing P) (returning : Returning R) (func : ℕ) (guest : List Action) (reallocs : List Ordered) (post_trap : Bool) (params : P) (r : Record)
    (s before left final : ScriptStore) (f : Named) (called : Result R Error) (asked : ℕ) where
  abbrev plan : Allocator → Plan
  plan = plan_with guest reallocs post_trap

  abbrev player_callee : Callee
  player_callee = callee_at s.core.component func

  -- what is passed to a callee, whose types these are
  abbrev passed : Instance → Callee → Arguments
  passed types d = typed_args (passing.walks params) (passing.gives types (params_shape d) params) d

  abbrev EnteredAt : Instance → Callee → Type 0
  EnteredAt types d = Entered (passed types d) (typed_results returning.reading (options_in before f) before.core.id d) d before left called

  told_so : options_in before f ≡ options_number func → before.core.id ≡ player_callee.types.store → (why : Option Error)
      → Became (passed player_callee.types player_callee) (typed_results returning.reading (options_in before f) before.core.id player_callee) (Printed passing returning) player_callee plan s left r why
      → TypedCalled passing returning func player_callee (limits_of s) (answers_of s) plan params (state_of s) (state_of left) r why
  told_so options id (Some e) h = h
  told_so options id None h =
      subst₂ (λ n m. WasItemCalled (passed player_callee.types player_callee) (typed_results returning.reading n m player_callee) (Printed passing returning) player_callee (limits_of s) (answers_of s) plan (state_of s) (state_of left) r) options id h

  pub typed_is : s.core.guest.events ≡ [] → HasItsTypes s → export_options (slice_get s.core.component.exports.items func) ≡ options_number func
      → before ≡ with_plan s (plan s.core.guest.guest.plan.allocator) → f.export ≡ func → state_of final ≡ state_of left
      → refused_by (done_by called) ≡ entry_refusal (callee_of before f) before.trapped → IfSome (refused_by (done_by called)) (λ e. left ≡ before)
      → (IsNone (refused_by (done_by called)) → EnteredAt before.core.component.types (callee_of before f)) → OnOk called (left.trapped ≡ before.trapped) → (IsNone (refused_by (done_by called)) → OnErr called (left.trapped ≡ true))
      → r.events ≡ left.core.guest.events → Tells (Printed passing returning) called r.answer → IsOtherItem called
      → asked ≡ length s.imports.lines.items → map served_view r.served.items ≡ map entry_view (drop asked (entries_of left.imports.lines.items))
      → TypedCalled passing returning func player_callee (limits_of s) (answers_of s) plan params (state_of s) (state_of final) r (entry_refusal player_callee s.trapped)
  typed_is empty own options is export end why same entered runs traps events told short lines serves =
      let it : callee_of before f ≡ player_callee = ap (λ (k : ScriptStore). callee_of k f) is ∙ ap (λ n. callee_at s.core.component n) export in
      let its_options : options_in before f ≡ options_number func =
      ap (λ (k : ScriptStore). options_in k f) is ∙ (ap (λ n. export_options (slice_get s.core.component.exports.items n)) export ∙ options) in
      let its_store : before.core.id ≡ player_callee.types.store = ap (λ (k : ScriptStore). k.core.id) is ∙ (own ∙ ap (λ (i : Instance). i.store) (types_at s.core.component func)) in
      let its_types : before.core.component.types ≡ player_callee.types = ap (λ (k : ScriptStore). k.core.component.types) is ∙ types_at s.core.component func in
      let why2 : refused_by (done_by called) ≡ entry_refusal player_callee s.trapped =
      why ∙ (ap (λ (d : Callee). entry_refusal d before.trapped) it ∙ ap (λ (k : ScriptStore). entry_refusal player_callee k.trapped) is) in
      subst (λ (k : State). TypedCalled passing returning func player_callee (limits_of s) (answers_of s) plan params (state_of s) k r (entry_refusal player_callee s.trapped)) (sym end)
      (told_so its_options its_store (entry_refusal player_callee s.trapped)
      (call_became (passed player_callee.types player_callee) (typed_results returning.reading (options_in before f) before.core.id player_callee) (Printed passing returning) player_callee guest reallocs post_trap r s left called asked
      empty events told short lines serves
      (entry_refusal player_callee s.trapped) (free_by player_callee s.trapped) before is why2 same
      (λ none. subst (λ (i : Instance). EnteredAt i player_callee) its_types (subst (λ (d : Callee). EnteredAt before.core.component.types d) it (entered none)))
      runs traps))

-- the number of the function that a store gives
pub player_number_is : (o : Option Named) (f : Named) (i func id : ℕ) → o ≡ Some f → IfSome o (λ g. g ≡ record { store = id; export = i }) → i ≡ func → f.export ≡ func
player_number_is o f i func id e h n = let is : f ≡ record { store = id; export = i } = subst (λ (p : Option Named). IfSome p (λ g. g ≡ record { store = id; export = i })) e h in ap (λ (g : Named). g.export) is ∙ n

module _ {P R : Type 0} (passing : Passing P) (returning : Returning R) where
  pub has_signature : (c : Component) (func n : ℕ) → n ≡ func → type_in c (slice_get c.exports.items func) ≡ slice_get c.types.types.funcs func
      → FitBoth passing returning c.types (type_in c (slice_get c.exports.items n)) ≡ HasSignature passing returning (callee_at c func) func
  has_signature c func n e t = signature_is passing returning c func _ (ap (λ m. type_in c (slice_get c.exports.items m)) e ∙ t)

-- ---- by the signature of the values

module _ (item : TypedItem) (v : TypedValues) (is : typed_view item.params ≡ v) (player_callee : Callee) (limits : Limits) (answers : List (List HostAnswer)) (before after : State) (result : Result Record OutOfMemory) where
  pub play_is : {P R : Type 0} (sig : Signature P R) (params : P) → sig.values params ≡ v
      → ((r : Record) → TypedBy sig player_callee limits answers (typed_item_view item) before after r → WasTyped v player_callee limits answers (typed_item_view item) before after r)
      → IfOk result (TypedWith sig.passing sig.returning item.func player_callee limits answers (plan_with item.guest.items item.reallocs.items item.post_trap) params before after)
      → IfOk result (WasTyped (typed_view item.params) player_callee limits answers (typed_item_view item) before after)
  play_is sig params values into h =
      IfOk-weaker result _ _ (λ r typed. subst (λ (w : TypedValues). WasTyped w player_callee limits answers (typed_item_view item) before after r) (sym is) (into r (params, values ∙ sym is, typed))) h
