use Rattle.std.proofs.Common.{ap, flat_map, refl, ◌∙◌}
use Rattle.canon_model.specs.Text.{unit_bytes}
use Rattle.canon_text.specs.Writing.{placed}
use Rattle.canon_text.proofs.Lanes.{map-same}
use Rattle.canon_text.proofs.unit_blocks.store_bytes.Goals as goal

pub returns : goal.returns
returns c = c.store_units.ensures ∙ ap (λ l. placed c.args.dst.now c.args.at (flat_map unit_bytes l)) (map-same _ (λ x. refl) c.args.block)
