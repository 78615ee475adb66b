use Rattle.canon_script.specs.Imports.{add_import, imported_view}
use Rattle.canon_script.proofs.Members.{onward_step}
use Rattle.canon_script.proofs.imports.add_imports.Goals as goal

pub loop-item-preserved : goal.loop-item-preserved
loop-item-preserved c =
    onward_step (add_import c.args.types.now) (imported_view c.loop-item.builder c.loop-item.imports) (imported_view c.add_import.new.builder c.add_import.new.imports) _ c.args.items.now c.loop-item.item-index c.item-item.result
    c.loop-item-test.true c.item-item.is c.in_ok-add_import.ensures c.loop-item.invariant
