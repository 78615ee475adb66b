-- The component of a script, from how it was built.
use Rattle.std.proofs.Common.{◌≡◌, ◌∙◌, ◌+◌, ◌<◌, ◌≤◌, ℕ, Bool, List, [], ◌∷◌, ◌++◌, Some, ap, append-nil, arith, drop, length, refl, subst, suc, sym, zero, ⊎_elim}
use Rattle.std.specs.Prelude.{All, IfSome, false, slice_get, slice_index_or, unwrap_or}
use Rattle.std.proofs.Math.ListN.{drop_of_length-le}
use Rattle.std.proofs.lemmas.Option.{get_or_from_slice_get, slice_get_cases, slice_get_within}
use Rattle.canon_abi.specs.declared.options.CanonicalOptions.{CanonicalOptions}
use Rattle.canon_abi.specs.declared.options.StringEncoding.{StringEncoding}
use Rattle.canon_types.specs.Instance.{Instance}
use Rattle.canon_types.specs.Table.{HasFunc, HasResource, TypeTable}
use Rattle.canon_context.specs.Component.{IsComponent, IsHostImport, IsImport, IsInside}
use Rattle.canon_context.specs.declared.component.Component.{Component}
use Rattle.canon_context.specs.declared.component.Export.{Export}
use Rattle.canon_context.specs.declared.component.Import.{Import}
use Rattle.canon_context.specs.declared.component.Import.TheVariants as import
use Rattle.canon_func.specs.Stores.{type_in}
use Rattle.canon_func.specs.Typed as typed
use Rattle.canon_script.specs.Imports.{ImportStands}
use Rattle.canon_script.specs.Script.{Play}
use Rattle.canon_player.specs.Session.{played_callee}
use Rattle.canon_player.specs.Options.{host_options, options_for, options_from, options_number, script_options}
use Rattle.canon_player.specs.Stores.{IsScripted, callee_at, export_for, exports_from}

-- ---- the lists

exports_len : (i : ℕ) (posts : List Bool) → length (exports_from i posts) ≡ length posts
exports_len i [] = refl
exports_len i (p ∷ posts) = ap suc (exports_len (i + 1) posts)

options_len : (t : TypeTable) (encoding : StringEncoding) (i : ℕ) (posts : List Bool) → length (options_from t encoding i posts) ≡ length posts
options_len t encoding i [] = refl
options_len t encoding i (p ∷ posts) = ap suc (options_len t encoding (i + 1) posts)

exports_at : (i : ℕ) (posts : List Bool) (k : ℕ) → k < length posts → slice_get (exports_from i posts) k ≡ Some (export_for (i + k))
exports_at i [] k h = absurd (omega (arith, h))
exports_at i (p ∷ posts) zero h = let e : i ≡ i + 0 = omega arith in ap (λ n. Some (export_for n)) e
exports_at i (p ∷ posts) (suc k) h = let e : i + 1 + k ≡ i + suc k = omega arith in exports_at (i + 1) posts k (omega (arith, h)) ∙ ap (λ n. Some (export_for n)) e

options_at : (t : TypeTable) (encoding : StringEncoding) (i : ℕ) (posts : List Bool) (k : ℕ) (p : Bool) → slice_get posts k ≡ Some p → slice_get (options_from t encoding i posts) k ≡ Some (options_for t encoding (i + k) p)
options_at t encoding i [] k p h = absurd (omega (arith, slice_get_within [] k p h))
options_at t encoding i (q ∷ posts) zero p h = let e : i ≡ i + 0 = omega arith in ap (λ o. Some (options_for t encoding i (unwrap_or o q))) h ∙ ap (λ n. Some (options_for t encoding n p)) e
options_at t encoding i (q ∷ posts) (suc k) p h = let e : i + 1 + k ≡ i + suc k = omega arith in options_at t encoding (i + 1) posts k p h ∙ ap (λ n. Some (options_for t encoding n p)) e

-- all of them
module _ (i : ℕ) (posts : List Bool) (past : length posts ≤ i) where
  none_left : drop i posts ≡ []
  none_left = drop_of_length-le posts past

  pub all_options : (t : TypeTable) (encoding : StringEncoding) (os all : List CanonicalOptions) → os ++ options_from t encoding i (drop i posts) ≡ all → os ≡ all
  all_options t encoding os all h = sym (append-nil os) ∙ (ap (λ (ps : List Bool). os ++ options_from t encoding i ps) (sym none_left) ∙ h)

  pub all_exports : (es : List Export) → es ++ exports_from i (drop i posts) ≡ exports_from 0 posts → es ≡ exports_from 0 posts
  all_exports es h = sym (append-nil es) ∙ (ap (λ (ps : List Bool). es ++ exports_from i ps) (sym none_left) ∙ h)

-- an element that is there
pub player_found : {X : Type 0} (xs : List X) (i : ℕ) → i < length xs → (x : X) × (slice_get xs i ≡ Some x)
player_found xs i h = ⊎_elim (λ at. (at.0, at.2)) (λ past. absurd (omega (arith, h, past.0))) (slice_get_cases xs i).1

-- ---- the component

module _ (t : TypeTable) (encoding : StringEncoding) (posts : List Bool) (imports : List Import) (c : Component) (h : IsScripted t encoding posts imports c) where
  pub export_at : (i : ℕ) → i < length posts → slice_get c.exports.items i ≡ Some (export_for i)
  export_at i lt = let e : 0 + i ≡ i = omega arith in ap (λ es. slice_get es i) h.exports ∙ (exports_at 0 posts i lt ∙ ap (λ n. Some (export_for n)) e)

  pub export_count : length c.exports.items ≡ length posts
  export_count = ap length h.exports ∙ exports_len 0 posts

  -- its type is that of the function of its number
  pub export_type : (i : ℕ) → i < length posts → type_in c (slice_get c.exports.items i) ≡ slice_get c.types.types.funcs i
  export_type i lt = ap (type_in c) (export_at i lt)

  -- its options are that function's
  pub export_number : (i : ℕ) → i < length posts → typed.export_options (slice_get c.exports.items i) ≡ options_number i
  export_number i lt = ap typed.export_options (export_at i lt)

  -- the options of an export are one further than it
  export_options : (i : ℕ) (p : Bool) → slice_get posts i ≡ Some p → slice_get c.options.items (i + 1) ≡ Some (options_for t encoding i p)
  export_options i p h2 =
      let (e, e2) : (i + 1 ≡ suc i) × (0 + i ≡ i) = (omega arith, omega arith) in
      ap (slice_get c.options.items) e ∙ (ap (λ os. slice_get os (suc i)) h.options ∙ (options_at t encoding 0 posts i p h2 ∙ ap (λ n. Some (options_for t encoding n p)) e2))

  host_sound : (type options : ℕ) → HasFunc t type → IfSome (slice_get t.funcs type) (λ f. f.async_ ≡ false) → options ≡ 0 → IsHostImport c type options
  host_sound type under known sync first =
      let types : c.types.types ≡ t = ap (λ (u : Instance). u.types) h.types in
      let player_found : slice_get c.options.items under ≡ Some (host_options encoding) = ap (slice_get c.options.items) first ∙ ap (λ os. slice_get os 0) h.options in
      record {
        func = subst (λ u. HasFunc u type) (sym types) known;
        sync = subst (λ (u : TypeTable). IfSome (slice_get u.funcs type) (λ f. f.async_ ≡ false)) (sym types) sync;
        options = slice_get_within c.options.items under (host_options encoding) player_found;
        sync_options = subst (λ o. IfSome o (λ (x : CanonicalOptions). x.async_ ≡ false)) (sym player_found) refl;
      }

  import_sound : (i : Import) → ImportStands t i → IsImport c i
  import_sound (import.Host type options) k = host_sound type options k.0 k.1 k.2
  import_sound (import.ResourceNew r) k = subst (λ (u : Instance). HasResource u.types r) (sym h.types) k
  import_sound (import.ResourceRep r) k = subst (λ (u : Instance). HasResource u.types r) (sym h.types) k
  import_sound (import.ResourceDrop r) k = subst (λ (u : Instance). HasResource u.types r) (sym h.types) k

  exports_sound : length posts ≤ length t.funcs → All (IsInside c) c.exports.items
  exports_sound told k d lt =
      let inside : k < length posts = omega (arith, lt, export_count) in
      let e : slice_index_or c.exports.items k d ≡ export_for k = get_or_from_slice_get c.exports.items k (export_for k) d (export_at k inside) in
      let count : length c.options.items ≡ suc (length posts) = ap length h.options ∙ ap suc (options_len t encoding 0 posts) in
      let funcs : length c.types.types.funcs ≡ length t.funcs = ap (λ (u : Instance). length u.types.funcs) h.types in
      subst (IsInside c) (sym e) (record { func = omega (arith, inside, told, funcs); options = omega (arith, inside, count) })

  pub scripted_sound : length posts ≤ length t.funcs → All (ImportStands t) imports → IsComponent c
  scripted_sound told known = (exports_sound told, subst (λ is. All (IsImport c) is) (sym h.imports) (λ k d lt. import_sound _ (known k d lt)))

-- an export of the component is the function of the script
pub scripted_callee : (play : Play) (c : Component) → IsScripted play.types play.encoding play.posts play.imports c → length play.posts ≤ length play.types.funcs
    → (i : ℕ) → i < length play.posts → callee_at c i ≡ played_callee play i
scripted_callee play c h told i inside =
    let there : i < length play.types.funcs = omega (arith, inside, told) in
    let (f, func) = player_found play.types.funcs i there in
    let (p, post) = player_found play.posts i inside in
    let export = export_at play.types play.encoding play.posts play.imports c h i inside in
    let options : slice_get (script_options play.types play.encoding play.posts) (i + 1) ≡ Some (options_for play.types play.encoding i p) =
    ap (λ os. slice_get os (i + 1)) (sym h.options) ∙ export_options play.types play.encoding play.posts play.imports c h i p post in
    simp (export, h.types, h.imports, h.options, options, func, post)
