use Rattle.canon_lift.proofs.TextViews.{lost_here, text_here}
use Rattle.canon_lift.proofs.wasm_str.WasmStr.to_str.Goals as goal

pub returns-clause-text : goal.returns-clause-text
returns-clause-text c =
    text_here c.args.view.now c.args.self.now c.options.result.now c.options.ensures c.memory.result.now c.memory.ensures c.text_range-count.result.0 c.text_range-count.ensures.bytes c.decoded.result
    c.decoded.ensures.text

pub returns-clause-lost : goal.returns-clause-lost
returns-clause-lost c =
    lost_here c.args.view.now c.args.self.now c.options.result.now c.options.ensures c.memory.result.now c.memory.ensures c.text_range-count.result.0 c.text_range-count.ensures.bytes c.decoded.result
    c.decoded.ensures.lost
