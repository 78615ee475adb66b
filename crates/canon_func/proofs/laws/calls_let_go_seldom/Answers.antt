use Rattle.canon_func.proofs.Letting.{seldom_let_go}
use Rattle.canon_func.specs.Call.{dynamic, dynamic_results, with_results}
use Rattle.canon_func.specs.Stores.{callee_of}
use Rattle.canon_func.proofs.laws.calls_let_go_seldom.Goals as goal

pub returns : goal.returns
returns g c before after func params answer results called =
    seldom_let_go (dynamic (callee_of before func) params) (dynamic_results (callee_of before func)) _ _ _ _ _ _ _ _ _ called.events (with_results answer results) called.so
