-- A store, and the functions of its component.
use Rattle.std.specs.Prelude.{Bool, List, None, Option, Some, false, length, slice_get, ℕ, ◌<◌, ◌≡◌}
use Rattle.canon_model.specs.Shape.{Members, no_members}
use Rattle.canon_model.specs.Text.{Encoding, utf8}
use Rattle.canon_abi.specs.declared.options.CanonicalOptions.{CanonicalOptions}
use Rattle.canon_types.specs.declared.types.TypeFunc.{TypeFunc}
use Rattle.canon_types.specs.Instance.{Instance}
use Rattle.canon_types.specs.Table.{TypeTable, param_members, result_members}
use Rattle.canon_context.specs.Component.{encoding_at}
use Rattle.canon_context.specs.Core.{Parts}
use Rattle.canon_context.specs.declared.component.Component.{Component}
use Rattle.canon_context.specs.declared.component.Export.{Export}
use Rattle.canon_context.specs.declared.component.Import.{Import}

-- what contracts see of a store: its core, its imports, how many asks of imports a call may have served, and whether a call trapped it
pub record StoreView (T G I : Type 0) : Type 0 where
  pub core : Parts T G
  pub imports : I
  pub turns : ℕ
  pub trapped : Bool

-- and of a function: its store, and its number among the exports
pub record Named : Type 0 where
  pub store : ℕ
  pub export : ℕ

-- the function is one of the store
pub record IsOwned {T G I : Type 0} (store : StoreView T G I) (f : Named) : Type 0 where
  pub id : f.store ≡ store.core.id
  pub export : f.export < length store.core.component.exports.items

-- What is called: a core function, the types of its component in their store, the component's imports and options, its parameters
-- and results, and its own options: how texts are spelled, the core function that runs after the results were lifted, and whether it is async.
pub record Callee : Type 0 where
  pub func : ℕ
  pub types : Instance
  pub imports : List Import
  pub options : List CanonicalOptions
  pub params : Members
  pub results : Members
  pub encoding : Encoding
  pub post : Option ℕ
  pub async_ : Bool

abbrev pub params_in : TypeTable → Option TypeFunc → Members
params_in t None = no_members
params_in t (Some f) = param_members t f

abbrev pub results_in : TypeTable → Option TypeFunc → Members
results_in t None = no_members
results_in t (Some f) = result_members t f

abbrev pub post_in : Option CanonicalOptions → Option ℕ
post_in None = None
post_in (Some options) = options.post_return

abbrev pub async_in : Option CanonicalOptions → Bool
async_in None = false
async_in (Some options) = options.async_

-- the callee of an export
abbrev pub export_callee : Component → Export → Callee
export_callee component e = record {
  func = e.func;
  types = component.types;
  imports = component.imports.items;
  options = component.options.items;
  params = params_in component.types.types (slice_get component.types.types.funcs e.ty);
  results = results_in component.types.types (slice_get component.types.types.funcs e.ty);
  encoding = encoding_at component e.options;
  post = post_in (slice_get component.options.items e.options);
  async_ = async_in (slice_get component.options.items e.options);
}

abbrev pub callee_in : Component → Option Export → Callee
callee_in component None = record { func = 0; types = component.types; imports = component.imports.items; options = component.options.items; params = no_members; results = no_members; encoding = utf8; post = None; async_ = false }
callee_in component (Some e) = export_callee component e

-- the callee that a function is
abbrev pub callee_of : {T G I : Type 0} → StoreView T G I → Named → Callee
callee_of store f = callee_in store.core.component (slice_get store.core.component.exports.items f.export)

-- the type of an export, and of a function
abbrev pub type_in : Component → Option Export → Option TypeFunc
type_in component None = None
type_in component (Some e) = slice_get component.types.types.funcs e.ty

abbrev pub type_of : {T G I : Type 0} → StoreView T G I → Named → Option TypeFunc
type_of store f = type_in store.core.component (slice_get store.core.component.exports.items f.export)
