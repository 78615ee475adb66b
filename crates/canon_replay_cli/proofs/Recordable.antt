-- Whether calls of a component may be recorded is a matter of its types, its exports and its imports.
use Rattle.std.proofs.Common.{All, List, None, Option, Some, ap, length, refl, subst, sym, ℕ, ◌<◌, ◌∙◌, ◌≡◌}
use Rattle.std.specs.Prelude.{Bool, false, if◌then◌else◌, option_map, slice_get, true}
use Rattle.serde_json.specs.Data.{Data}
use Rattle.canon_model.specs.Shape.{Members, no_members}
use Rattle.canon_types.specs.Instance.{Instance}
use Rattle.canon_types.specs.declared.types.TypeFunc.{TypeFunc}
use Rattle.canon_context.specs.Quiet.{have_block}
use Rattle.canon_context.specs.declared.component.Component.{Component}
use Rattle.canon_context.specs.declared.component.Export.{Export}
use Rattle.canon_context.specs.declared.component.Import.{Import}
use Rattle.canon_context.specs.declared.component.Import.TheVariants as import
use Rattle.canon_func.specs.Stores.{callee_in, params_in, results_in}
use Rattle.canon_plan.specs.NoHandle.{HaveNoHandle}
use Rattle.canon_recording.specs.Fits.{IsHost, IsRecordable}
use Rattle.canon_recording.specs.Recordings.{import_type}
use Rattle.canon_script.specs.Script.{Play, script_of}
use Rattle.canon_replay_cli.specs.Replays.{IsNoReplayTask, ReplayTask, replay_task_with}
use Rattle.canon_replay_cli.specs.Scripts.{AreCallItems, IsNoRecordable, IsOfScript, has_handle_entry, plain_script_of}

same_params : (c d : Component) (o : Option Export) → d.types ≡ c.types → (callee_in c o).params ≡ (callee_in d o).params
same_params c d None e = refl
same_params c d (Some x) e = ap (λ (t : Instance). params_in t.types (slice_get t.types.funcs x.ty)) (sym e)

same_results : (c d : Component) (o : Option Export) → d.types ≡ c.types → (callee_in c o).results ≡ (callee_in d o).results
same_results c d None e = refl
same_results c d (Some x) e = ap (λ (t : Instance). results_in t.types (slice_get t.types.funcs x.ty)) (sym e)

same_import : (c d : Component) (o : Option Import) → d.types ≡ c.types → import_type c o ≡ import_type d o
same_import c d None e = refl
same_import c d (Some (import.Host type options)) e = ap (λ (t : Instance). slice_get t.types.funcs type) (sym e)
same_import c d (Some (import.ResourceNew r)) e = refl
same_import c d (Some (import.ResourceRep r)) e = refl
same_import c d (Some (import.ResourceDrop r)) e = refl

module _ (c d : Component) (types : d.types ≡ c.types) (exports : d.exports.items ≡ c.exports.items) (imports : d.imports.items ≡ c.imports.items) where
  export_params : (n : ℕ) → (callee_in c (slice_get c.exports.items n)).params ≡ (callee_in d (slice_get d.exports.items n)).params
  export_params n = same_params c d (slice_get c.exports.items n) types ∙ ap (λ (es : List Export). (callee_in d (slice_get es n)).params) (sym exports)

  export_results : (n : ℕ) → (callee_in c (slice_get c.exports.items n)).results ≡ (callee_in d (slice_get d.exports.items n)).results
  export_results n = same_results c d (slice_get c.exports.items n) types ∙ ap (λ (es : List Export). (callee_in d (slice_get es n)).results) (sym exports)

  of_type : (n : ℕ) → import_type c (slice_get c.imports.items n) ≡ import_type d (slice_get d.imports.items n)
  of_type n = same_import c d (slice_get c.imports.items n) types ∙ ap (λ (is : List Import). import_type d (slice_get is n)) (sym imports)

  import_params : (n : ℕ) → params_in c.types.types (import_type c (slice_get c.imports.items n)) ≡ params_in d.types.types (import_type d (slice_get d.imports.items n))
  import_params n = ap (λ (o : Option TypeFunc). params_in c.types.types o) (of_type n) ∙ ap (λ (t : Instance). params_in t.types (import_type d (slice_get d.imports.items n))) (sym types)

  import_results : (n : ℕ) → results_in c.types.types (import_type c (slice_get c.imports.items n)) ≡ results_in d.types.types (import_type d (slice_get d.imports.items n))
  import_results n = ap (λ (o : Option TypeFunc). results_in c.types.types o) (of_type n) ∙ ap (λ (t : Instance). results_in t.types (import_type d (slice_get d.imports.items n))) (sym types)

  pub same_recordable : IsRecordable c → IsRecordable d
  same_recordable h = record {
    exports = λ n lt.
        let plain = h.exports n (subst (λ (es : List Export). n < length es) exports lt) in
        (subst HaveNoHandle (export_params n) plain.0, subst HaveNoHandle (export_results n) plain.1);
    hosts = subst (All IsHost) (sym imports) h.hosts;
    imports = λ n lt.
        let plain = h.imports n (subst (λ (is : List Import). n < length is) imports lt) in
        (subst HaveNoHandle (import_params n) plain.0, subst HaveNoHandle (import_results n) plain.1);
    flat_results = λ n lt. ap have_block (sym (import_results n)) ∙ h.flat_results n (subst (λ (is : List Import). n < length is) imports lt);
  }

-- of all components of one script
pub one_recordable : (play : Play) (c d : Component) → IsOfScript play c → IsOfScript play d → IsRecordable c → IsRecordable d
one_recordable play c d is of h = same_recordable c d (of.types ∙ sym is.types) (of.exports ∙ sym is.exports) (of.imports ∙ sym is.imports) h

-- ---- why a JSON value is no task

pub no_script : (o : Option Play) → o ≡ None → IsNoRecordable o
no_script o e = subst IsNoRecordable (sym e) tt

pub no_calls : (o : Option Play) (play : Play) → o ≡ Some play → ¬ AreCallItems play.items → IsNoRecordable o
no_calls o play e lacks = subst IsNoRecordable (sym e) (λ h. lacks h.calls)

pub no_recordable : (o : Option Play) (play : Play) (c : Component) → o ≡ Some play → IsOfScript play c → ¬ IsRecordable c → IsNoRecordable o
no_recordable o play c e is lacks = subst IsNoRecordable (sym e) (λ h. lacks (h.component c is))

pub no_replay : (o : Option ReplayTask) → o ≡ None → IsNoReplayTask o
no_replay o e = subst IsNoReplayTask (sym e) tt

-- there are bytes, and the script isn't one of calls that may be recorded
pub no_replay_script : (bytes : List ℕ) (script : Option Play) (o : Option ReplayTask) → o ≡ option_map (λ s. replay_task_with s bytes) script → IsNoRecordable script → IsNoReplayTask o
no_replay_script bytes None o e h = subst IsNoReplayTask (sym e) tt
no_replay_script bytes (Some play) o e h = subst IsNoReplayTask (sym e) h

-- there is one script
pub one_script : (o : Option Play) (p q : Play) → o ≡ Some p → o ≡ Some q → p ≡ q
one_script o p q e f = let same : Some p ≡ Some q = sym e ∙ f in cc

-- a script without handles among its types is a script
pub plain_is_script : (d : Data) (p : Play) → plain_script_of d ≡ Some p → script_of d ≡ Some p
plain_is_script d p h = go (has_handle_entry d) h
  where
    go : (b : Bool) → (if b then None else script_of d) ≡ Some p → script_of d ≡ Some p
    go true e = let no : None ≡ Some p = e in absurd (cc)
    go false e = e

-- a script none of whose types is a handle
pub script_is_plain : (d : Data) (p : Play) → has_handle_entry d ≡ false → script_of d ≡ Some p → plain_script_of d ≡ Some p
script_is_plain d p none h = ap (λ (b : Bool). if b then None else script_of d) none ∙ h
