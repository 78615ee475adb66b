-- What the component of the notes exports and imports.
use Rattle.std.specs.Prelude.{◌∷◌, ◌≡◌, [], map, ℕ}
use Rattle.canon_context.specs.declared.component.Component.{Component}
use Rattle.canon_context.specs.declared.component.Export.{Export}
use Rattle.canon_context.specs.declared.component.Import.TheVariants as import

-- It is one of the store of that number. It exports the core functions that add a note, count the notes and give a broken answer, and imports a
-- function of the host and the end of a handle.
pub record IsNotes (store : ℕ) (component : Component) : Type 0 where
  pub store_is : component.types.store ≡ store
  pub exports : map (λ (e : Export). e.func) component.exports.items ≡ 0 ∷ 1 ∷ 2 ∷ []
  pub imports : (clock : ℕ) × (notebook : ℕ) × (component.imports.items ≡ import.Host clock 0 ∷ import.ResourceDrop notebook ∷ [])
