-- What the component of the door exports and imports.
use Rattle.std.specs.Prelude.{◌∷◌, ◌≡◌, [], map, ℕ}
use Rattle.canon_context.specs.declared.component.Component.{Component}
use Rattle.canon_context.specs.declared.component.Export.{Export}
use Rattle.canon_context.specs.declared.component.Import.TheVariants as import

-- It is one of the store of that number. It exports one core function, and imports two functions of the host: the clock, and behind it the diary.
pub record IsDoor (store : ℕ) (component : Component) : Type 0 where
  pub store_is : component.types.store ≡ store
  pub exports : map (λ (e : Export). e.func) component.exports.items ≡ 0 ∷ []
  pub imports : (clock : ℕ) × (diary : ℕ) × (component.imports.items ≡ import.Host clock 0 ∷ import.Host diary 0 ∷ [])
