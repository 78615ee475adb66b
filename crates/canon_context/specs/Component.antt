-- A component: each index is inside its table.
use Rattle.std.specs.Prelude.{ℕ, ◌<◌, ◌≡◌, length, false, All, IfSome, Option, None, Some, slice_get}
use Rattle.canon_model.specs.Text.{Encoding, utf8}
use Rattle.canon_abi.specs.declared.options.CanonicalOptions.{CanonicalOptions}
use Rattle.canon_abi.specs.Options.{encoding_of}
use Rattle.canon_types.specs.Table.{HasFunc, HasResource}
use Rattle.canon_context.specs.declared.component.Component.{Component}
use Rattle.canon_context.specs.declared.component.Export.{Export}
use Rattle.canon_context.specs.declared.component.Import.{Import}
use Rattle.canon_context.specs.declared.component.Import.TheVariants as import

abbrev pub HasOptions : Component → ℕ → Type 0
HasOptions component i = i < length component.options.items

pub record IsInside (component : Component) (export : Export) : Type 0 where
  pub func : HasFunc component.types.types export.ty
  pub options : HasOptions component export.options

-- a function of the host: it is of a function type under options, neither of which is async
pub record IsHostImport (component : Component) (type o : ℕ) : Type 0 where
  pub func : HasFunc component.types.types type
  pub sync : IfSome (slice_get component.types.types.funcs type) (λ f. f.async_ ≡ false)
  pub options : HasOptions component o
  pub sync_options : IfSome (slice_get component.options.items o) (λ f. f.async_ ≡ false)

abbrev pub IsImport : Component → Import → Type 0
IsImport component (import.Host type options) = IsHostImport component type options
IsImport component (import.ResourceNew t) = HasResource component.types.types t
IsImport component (import.ResourceRep t) = HasResource component.types.types t
IsImport component (import.ResourceDrop t) = HasResource component.types.types t

abbrev pub IsComponent : Component → Type 0
IsComponent component = All (IsInside component) component.exports.items × All (IsImport component) component.imports.items

-- the encoding of the options of a number
abbrev pub encoding_in : Option CanonicalOptions → Encoding
encoding_in None = utf8
encoding_in (Some options) = encoding_of options.string_encoding

abbrev pub encoding_at : Component → ℕ → Encoding
encoding_at component i = encoding_in (slice_get component.options.items i)
