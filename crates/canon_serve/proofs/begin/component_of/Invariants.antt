use Rattle.std.proofs.Common.{drop, ◌++◌, ◌∷◌, ◌≡◌}
use Rattle.canon_serve.specs.Begins.{asked_options, served_exports_from, served_options_from}
use Rattle.canon_serve.proofs.begin.component_of.Given as goal

abbrev pub invariant-loop-i : goal.invariant-loop-i
invariant-loop-i l = record {
  options : l.options.items ++ served_options_from l.fn.types l.fn.encoding l.i (drop l.i l.posts) ≡ asked_options l.fn.encoding ∷ served_options_from l.fn.types l.fn.encoding 0 l.posts;
  exports : l.exports.items ++ served_exports_from l.i (drop l.i l.posts) ≡ served_exports_from 0 l.posts;
}
