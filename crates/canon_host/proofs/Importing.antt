-- Imports whose functions are called by `entrypoint`.
use Rattle.std.proofs.Common.{Err, List, None, Ok, Option, Result, Some, Vec, ap, arith, false, inl, inr, length, refl, subst₂, sym, ⊎_elim, ℕ, ◌+◌, ◌++◌, ◌∙◌, ◌≡◌, ◌≢◌}
use Rattle.std.proofs.lemmas.Option.{none-some, slice_get_cases}
use Rattle.std.proofs.Math.Seq.{drop-append_seam, take-append_seam}
use Rattle.std.specs.Prelude.{IfSome, drop, slice_get, take}
use Rattle.std.specs.declared.alloc.Global.{Global}
use Rattle.canon_context.specs.Core.{Parts, component_types}
use Rattle.canon_context.specs.Host.{Closure, DoneOver, IsOutside, Returns, StaticClosure}
use Rattle.canon_context.specs.declared.component.Component.{Component}
use Rattle.canon_context.specs.declared.fault.Fault.{Fault}
use Rattle.canon_context.specs.declared.fault.Fault.TheVariants as fault
use Rattle.canon_context.specs.declared.host.HostStop.{HostStop}
use Rattle.canon_context.specs.declared.host.HostView.{HostView}
use Rattle.canon_ledger.specs.Ledger.{LedgerState}
use Rattle.canon_ledger.specs.Reached.{ledger_in}
use Rattle.canon_memory.specs.Guest.{GuestIn, Seen}
use Rattle.canon_memory.specs.declared.event.Event.{Event}
use Rattle.canon_model.specs.Shape.{member_count}
use Rattle.canon_types.specs.Table.{HasFunc, param_members, result_members}
use Rattle.canon_types.specs.declared.types.TypeFunc.{TypeFunc}
use Rattle.canon_model.specs.Memory.{cap}
use Rattle.canon_val.specs.declared.val.Val.{Val}
use Rattle.canon_val.specs.declared.val.Val.TheVariants as val
use Rattle.canon_host.specs.Forms.{DoneOn, IsOfOthers, IsOfThese, MayGive, MayGiveValues, RustTypes, TypedAnswering, ValuesAnswering, in_view, outcome, over_values}
use Rattle.canon_host.specs.HostSide.{LoggedEntry, Giving}
use Rattle.canon_host.specs.Imports.{AnswersOnly, CallsImport, CallsUnlogged, Declines, GivesOnly, LiftsOf, ServedByTyped, ServesForm, ServesTypes, ServesWith, logged, logged_entry, steps_of_types}
use Rattle.canon_host.specs.Serves.{AskValues, CallsBlank, AnswersInRow, LiftsAsked, Serves, ServesBy, ServesInRow, Values, value_steps, params_and_results}
use Rattle.canon_host.specs.ServesTyped.{FitRustTypes, CallsTyped, ServesTyped, typed_steps}
use Rattle.canon_host.specs.declared.asked.Asked.{Asked}
use Rattle.canon_host.specs.declared.error.HostError.{HostError}
use Rattle.canon_host.specs.declared.error.HostError.TheVariants as error
use Rattle.canon_host.proofs.Serving.{serves_changed, told_count}
use Rattle.std.proofs.lemmas.List.{length-replicate}

-- what is asked for by a type and options
abbrev pub host_asked_by : ℕ → TypeFunc → ℕ → Asked
host_asked_by ty func options = record { ty = ty; func = func; options = options }

-- what was done over a core was done on what it reaches
done_on : {T G : Type 0} (May : HostView T → HostView T → Type 0) (b a : Parts T G) → DoneOver May b a → DoneOn May (in_view b) a.state a.ledger
done_on May b a h = record {
  view = h.view;
  left = h.left;
  returned = h.returned;
  outside = h.outside;
  id_is = h.id_is;
  memory_is = h.memory_is;
  options_is = ap (λ (x : Component). x.options.items) h.component_is;
  types_is = ap (λ (x : Component). x.types) h.component_is;
  state_is = h.state_is;
  ledger_is = h.ledger_is;
  state_left = h.state_left;
  ledger_left = h.ledger_left;
}

-- it gave what it may
values_may : {F T G : Type 0} (g : Closure F (HostView T) Val (Result (Unit {0}) HostStop)) (f : F) (asked : Asked) (b a : Parts T G) (params results : List Val) (r : Result (Unit {0}) HostStop) → CallsBlank g f asked b params r a results
    → MayGiveValues g f asked.func (in_view b) params (outcome r results) a.state a.ledger
values_may g f asked b a params results r h = (r, results, refl, done_on _ b a h.gave)

-- The function that is called answers only what the import may answer.
module _ {F T G : Type 0} (g : Closure F (HostView T) Val (Result (Unit {0}) HostStop)) (f : F) (gives : Giving T) (may : ValuesAnswering T) (log : Option (List LoggedEntry)) (n : ℕ)
    (seen : G → Seen) (moves : GuestIn G → List Event → GuestIn G → Type 0)
    (only : IfSome log (λ entries. GivesOnly g f (gives.answers entries n))) (so : AnswersOnly g f may) where
  gave_only : (o : Option (List LoggedEntry)) → IfSome o (λ entries. GivesOnly g f (gives.answers entries n))
      → (v w : HostView T) (type : TypeFunc) (params slots results : List Val) (r : Result (Unit {0}) HostStop) → IsOutside v → Returns g f v type params slots r w results
      → IfSome o (λ entries. (ledger_in w.tables ≡ ledger_in v.tables) × gives.answers entries n v.state.now params (outcome r results) w.state.now)
  gave_only (Some entries) h v w type params slots results r outside returned = h v w type params slots results r outside returned
  gave_only None h v w type params slots results r outside returned = tt

  moved_to : (params : List Val) (answer : Result (List Val) HostStop) (s s2 t t2 : T) (l l2 m m2 : LedgerState) → s ≡ s2 → t ≡ t2 → l ≡ l2 → m ≡ m2
      → IfSome log (λ entries. (m ≡ l) × gives.answers entries n s params answer t) → IfSome log (λ entries. (m2 ≡ l2) × gives.answers entries n s2 params answer t2)
  moved_to params answer s s2 t t2 l l2 m m2 es et el em h =
      subst₂ (λ x y. IfSome log (λ entries. (y ≡ x) × gives.answers entries n s2 params answer t2)) el em (subst₂ (λ x y. IfSome log (λ entries. (m ≡ l) × gives.answers entries n x params answer y)) es et h)

  calls_import : (asked : Asked) (b a : Parts T G) (params results : List Val) (r : Result (Unit {0}) HostStop) → CallsBlank g f asked b params r a results → CallsImport gives may log n asked b params r a results
  calls_import asked b a params results r h = record {
    steps = h.steps;
    same = h.same;
    may_give = so asked.func (in_view b) params (outcome r results) a.state a.ledger (values_may g f asked b a params results r h);
    counted = h.counted ∙ length-replicate (member_count (result_members (component_types b) asked.func)) (val.Bool false);
    by_log = moved_to params (outcome r results) _ _ _ _ _ _ _ _ h.gave.state_is h.gave.state_left h.gave.ledger_is h.gave.ledger_left
        (gave_only log only h.gave.view h.gave.left asked.func params _ results r h.gave.outside h.gave.returned);
  }

  serves_import : (asked : Asked) (before after : Parts T G) (words words2 : List ℕ) (r : Result AskValues HostError) → Serves (CallsBlank g f asked) seen moves asked before words r after words2
      → ServesWith gives log n seen moves asked may before words r after words2
  serves_import asked before after words words2 r h =
      serves_changed (value_steps (CallsBlank g f asked) seen moves asked) (λ b e. e ≡ error.Fault fault.OutOfMemory) (LiftsAsked asked) (λ b params a results. CallsImport gives may log n asked b params (Ok tt) a results)
      (λ b params why a results. CallsImport gives may log n asked b params (Err why) a results) asked before (λ e is. is) (λ a ws x lifts. lifts)
      (λ b a params results calls. calls_import asked b a params results (Ok tt) calls) (λ b a params why results calls. calls_import asked b a params results (Err why) calls) after words words2 r h

  pub served_import : (asked : Asked) (before after : Parts T G) (words words2 : List ℕ) (r : Result (Vec Val Global) HostError) → ServesInRow g f seen moves asked before words r after words2
      → AnswersInRow (λ told. ServesWith gives log n seen moves asked may before words told after words2) r
  served_import asked before after words words2 (Ok values) h = (h.0, h.1, serves_import asked before after words words2 (Ok h.0) h.2)
  served_import asked before after words words2 (Err e) h = serves_import asked before after words words2 (Err e) h

  -- of a type that was found
  pub found_import : (ty options : ℕ) (before after : Parts T G) (words words2 : List ℕ) (r : Result (Vec Val Global) HostError) (o : Option TypeFunc)
      → IfSome o (λ t. ServesInRow g f seen moves (host_asked_by ty t options) before words r after words2)
      → IfSome o (λ t. AnswersInRow (λ told. ServesWith gives log n seen moves (host_asked_by ty t options) may before words told after words2) r)
  found_import ty options before after words words2 r (Some t) h = served_import (host_asked_by ty t options) before after words words2 r h
  found_import ty options before after words words2 r None h = tt

-- ---- the entry of values in a row

module _ {T G : Type 0} (gives : Giving T) (may : ValuesAnswering T) (log : Option (List LoggedEntry)) (n : ℕ) (seen : G → Seen) (moves : GuestIn G → List Event → GuestIn G → Type 0) (asked : Asked) where
  -- as many of them as the type has parameters are the parameters, and the others the results
  pub entry_in_row : (before after : Parts T G) (words words2 : List ℕ) (values : List Val) (told : AskValues) (count : ℕ)
      → ServesWith gives log n seen moves asked may before words (Ok told) after words2 → values ≡ told.params ++ told.results
      → count ≡ member_count (param_members (component_types before) asked.func) → logged_entry n (params_and_results (take count values) (drop count values)) ≡ logged_entry n told
  entry_in_row before after words words2 values told count served row is =
      let parts : count ≡ length told.params = is ∙ sym (told_count (CallsImport gives may log n asked) seen moves asked before after words words2 told served) in
      let front : take count values ≡ told.params = ap (take count) row ∙ (ap (λ k. take k (told.params ++ told.results)) parts ∙ take-append_seam told.params told.results) in
      let back : drop count values ≡ told.results = ap (drop count) row ∙ (ap (λ k. drop k (told.params ++ told.results)) parts ∙ drop-append_seam told.params told.results) in
      ap (λ ps. logged_entry n (params_and_results ps (drop count values))) front ∙ ap (λ rs. logged_entry n (params_and_results told.params rs)) back

-- ---- one ask over values, by what was done

module _ {T G : Type 0} (gives : Giving T) (may : ValuesAnswering T) (log log2 : Option (List LoggedEntry)) (n : ℕ) (seen : G → Seen) (moves : GuestIn G → List Event → GuestIn G → Type 0)
    (ty options r r2 : ℕ) (before after : Parts T G) (words words2 : List ℕ) where
  -- what was done, by its values in a row
  abbrev pub AskDone : Result (Vec Val Global) HostError → TypeFunc → Type 0
  AskDone result t = AnswersInRow (λ told. ServesWith gives log n seen moves (host_asked_by ty t options) may before words told after words2) result

  abbrev pub Answered : Result (Unit {0}) HostError → TypeFunc → Type 0
  Answered result t = ServesForm gives log n seen moves (host_asked_by ty t options) (over_values may) log2 r r2 before words result after words2

  pub logs : (o : Option TypeFunc) (values : Vec Val Global) (count : ℕ) → IfSome o (AskDone (Ok values)) → IfSome o (λ t. count ≡ member_count (param_members (component_types before) t))
      → log2 ≡ logged log (logged_entry n (params_and_results (take count values.items) (drop count values.items))) → r2 ≡ r → IfSome o (Answered (Ok tt))
  logs (Some t) values count (told, row, served) is more same =
      (told, served, more ∙ ap (logged log) (entry_in_row gives may log n seen moves (host_asked_by ty t options) before after words words2 values.items told count served row is), same)
  logs None values count done is more same = tt

  pub refuses : (o : Option TypeFunc) → IfSome o (AskDone (Err error.Refused)) → log2 ≡ log → r2 ≡ cap (r + 1) → IfSome o (Answered (Err error.Refused))
  refuses (Some t) done same once = (same, once, done)
  refuses None done same once = tt

  pub faults : (o : Option TypeFunc) (e : Fault) → IfSome o (AskDone (Err (error.Fault e))) → log2 ≡ log → r2 ≡ r → IfSome o (Answered (Err (error.Fault e)))
  faults (Some t) e done same count = (same, count, done)
  faults None e done same count = tt

  -- nothing was done since memory ran out
  pub wants : (o : Option TypeFunc) → after ≡ before → words2 ≡ words → log2 ≡ log → r2 ≡ r → IfSome o (Answered (Err (error.Fault fault.OutOfMemory)))
  wants (Some t) same words_same none count = (none, count, inl (refl, same, words_same))
  wants None same words_same none count = tt

-- ---- what its function gave

module _ {T G : Type 0} (gives : Giving T) (may : ValuesAnswering T) (entries : List LoggedEntry) (n : ℕ) (seen : G → Seen) (moves : GuestIn G → List Event → GuestIn G → Type 0) (P : Type 0)
    (gave : (s t : T) (params results : List Val) → gives.answers entries n s params (Ok results) t → P)
    (before after : Parts T G) (words words2 : List ℕ) where
  gave_in : (asked : Asked) (told : AskValues) → ServesWith gives (Some entries) n seen moves asked may before words (Ok told) after words2 → P
  gave_in asked told h = let (params, lifted, lifts, (called, same, c, ends)) = h in gave _ _ _ _ c.by_log.1

  -- of a type that was found
  pub found_gave : (ty options : ℕ) (values : Vec Val Global) (o : Option TypeFunc) → o ≢ None
      → IfSome o (λ t. AnswersInRow (λ told. ServesWith gives (Some entries) n seen moves (host_asked_by ty t options) may before words told after words2) (Ok values)) → P
  found_gave ty options values (Some t) ask_there (told, row, served) = gave_in (host_asked_by ty t options) told served
  found_gave ty options values None ask_there served = absurd (ask_there refl)

-- a function of the table is found
pub ask_there : {G T : Type 0} (before : Parts T G) (ty : ℕ) → HasFunc (component_types before) ty → slice_get (component_types before).funcs ty ≢ None
ask_there before ty inside none = ⊎_elim (λ at. absurd (none-some at.0 (sym none ∙ at.2))) (λ past. absurd (omega (arith, inside, past.0))) (slice_get_cases (component_types before).funcs ty).1

-- ---- one ask over Rust types

module _ {F T G P R : Type 0} (g : StaticClosure F (HostView T) P (Result R HostStop)) (f : F) (types : RustTypes P R) (seen : G → Seen) (moves : GuestIn G → List Event → GuestIn G → Type 0) where
  -- it gave what it may
  may_give : (b a : Parts T G) (params : P) (r : Result R HostStop) → CallsTyped g f b params r a → MayGive g f (in_view b) params r a.state a.ledger
  may_give b a params r h = done_on _ b a h.gave

  abbrev May : TypedAnswering T P R
  May = MayGive g f

  calls_unlogged : (b a : Parts T G) (params : P) (r : Result R HostStop) → CallsTyped g f b params r a → CallsUnlogged May None b params r a
  calls_unlogged b a params r h = record { steps = h.steps; same = h.same; may_give = may_give b a params r h; unlogged = refl }

  typed_import : (asked : Asked) (before after : Parts T G) (words words2 : List ℕ) (r : Result (Values P R) HostError) → IsOfThese types before.component.types asked.func
      → ServesBy (typed_steps g f types.reading types.walks types.gives seen moves asked) asked before words r after words2 → ServesBy (steps_of_types types May None seen moves asked) asked before words r after words2
  typed_import asked before after words words2 r fits h =
      serves_changed (typed_steps g f types.reading types.walks types.gives seen moves asked) (Declines types None asked) (LiftsOf types asked)
      (λ b params a results. CallsUnlogged May None b params (Ok results) a) (λ b params why a left. CallsUnlogged May None b params (Err why) a)
      asked before (λ e is. inl is) (λ a ws x lifts. (fits, lifts))
      (λ b a params results calls. calls_unlogged b a params (Ok results) calls) (λ b a params why left calls. calls_unlogged b a params (Err why) calls) after words words2 r h

  module _ (ty options : ℕ) (before after : Parts T G) (words words2 : List ℕ) where
    -- what `entrypoint` says of a function of a type
    abbrev pub DoneTyped : Result (Unit {0}) HostError → TypeFunc → Type 0
    DoneTyped result t = ServesTyped g f types.reading types.walks types.gives seen moves (host_asked_by ty t options) before words result after words2

    abbrev pub AskFits : TypeFunc → Type 0
    AskFits t = FitRustTypes types.fits_params types.fits_results before.component.types t

    abbrev pub IsSync : TypeFunc → Type 0
    IsSync t = t.async_ ≡ false

    abbrev pub AreOthers : TypeFunc → Type 0
    AreOthers t = IsOfOthers types before.component.types t

    -- this closure served the ask, or the type was refused
    abbrev pub ServedTyped : Result (Unit {0}) HostError → TypeFunc → Type 0
    ServedTyped result t = ServedByTyped g f types seen moves (host_asked_by ty t options) before words result after words2

    -- which closure served
    pub served_typed : (o : Option TypeFunc) (result : Result (Unit {0}) HostError) → IfSome o IsSync → IfSome o AskFits → IfSome o (DoneTyped result) → IfSome o (ServedTyped result)
    served_typed (Some t) result sync fits done = inr ((sync, fits), done)
    served_typed None result sync fits done = tt

    pub declined_typed : (o : Option TypeFunc) → IfSome o AreOthers → after ≡ before → words2 ≡ words → IfSome o (ServedTyped (Err error.Refused))
    declined_typed (Some t) other same words_same = inl (refl, other, same, words_same)
    declined_typed None other same words_same = tt

    -- with the counts of refusals
    module _ (r r2 : ℕ) where
      abbrev pub AnsweredTyped : Result (Unit {0}) HostError → TypeFunc → Type 0
      AnsweredTyped result t = ServesTypes types May None seen moves (host_asked_by ty t options) None r r2 before words result after words2

      pub typed_serves : (o : Option TypeFunc) → IfSome o IsSync → IfSome o AskFits → IfSome o (DoneTyped (Ok tt)) → r2 ≡ r → IfSome o (AnsweredTyped (Ok tt))
      typed_serves (Some t) sync fits (told, served) same = (told, typed_import (host_asked_by ty t options) before after words words2 (Ok told) (sync, fits) served, refl, same)
      typed_serves None sync fits done same = tt

      pub typed_refuses : (o : Option TypeFunc) → IfSome o IsSync → IfSome o AskFits → IfSome o (DoneTyped (Err error.Refused)) → r2 ≡ cap (r + 1) → IfSome o (AnsweredTyped (Err error.Refused))
      typed_refuses (Some t) sync fits done once = (refl, once, typed_import (host_asked_by ty t options) before after words words2 (Err error.Refused) (sync, fits) done)
      typed_refuses None sync fits done once = tt

      pub typed_faults : (o : Option TypeFunc) (e : Fault) → IfSome o IsSync → IfSome o AskFits → IfSome o (DoneTyped (Err (error.Fault e))) → r2 ≡ r → IfSome o (AnsweredTyped (Err (error.Fault e)))
      typed_faults (Some t) e sync fits done same = (refl, same, typed_import (host_asked_by ty t options) before after words words2 (Err (error.Fault e)) (sync, fits) done)
      typed_faults None e sync fits done same = tt

      -- nothing was done since `typecheck` refused the type
      pub typed_declines : (o : Option TypeFunc) → IfSome o AreOthers → after ≡ before → words2 ≡ words → r2 ≡ cap (r + 1) → IfSome o (AnsweredTyped (Err error.Refused))
      typed_declines (Some t) other same words_same once = (refl, once, inl (inr (refl, refl, other), same, words_same))
      typed_declines None other same words_same once = tt
