use Rattle.std.proofs.Common.{◌≡◌, drop}
use Rattle.serde_json.specs.View.{items_view}
use Rattle.canon_json.specs.Json.{onward}
use Rattle.canon_script.specs.Imports as spec
use Rattle.canon_script.proofs.imports.add_imports.Given as goal

-- the imports that are left take those so far to all
abbrev pub invariant-loop-item : goal.invariant-loop-item
invariant-loop-item l = onward (spec.add_import l.types) (spec.imported_view l.builder l.imports) (items_view (drop l.item-index l.items)) ≡ spec.imports_over l.types l.fn.builder (items_view l.items)
