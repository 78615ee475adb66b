use Rattle.std.proofs.Common.{◌≡◌, ◌++◌, drop}
use Rattle.canon_player.specs.Options.{options_from, script_options}
use Rattle.canon_player.specs.Stores.{exports_from}
use Rattle.canon_player.proofs.component.component_of.Given as goal

abbrev pub invariant-loop-i : goal.invariant-loop-i
invariant-loop-i l = record {
  options : l.options.items ++ options_from l.fn.types l.fn.encoding l.i (drop l.i l.posts) ≡ script_options l.fn.types l.fn.encoding l.posts;
  exports : l.exports.items ++ exports_from l.i (drop l.i l.posts) ≡ exports_from 0 l.posts;
}
