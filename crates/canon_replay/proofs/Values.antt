-- Values that were lifted from the same trees have the same image.
use Rattle.std.proofs.Common.{List, Vec, refl, subst, sym, ◌∙◌, ◌≡◌}
use Rattle.std.specs.declared.alloc.Global.{Global}
use Rattle.canon_model.proofs.Images.{image_bytes}
use Rattle.canon_model.specs.Same.{Carried, CarriedTrees}
use Rattle.canon_model.specs.Shape.{Members, Shape, of_places, product}
use Rattle.canon_model.specs.Tree.{Tree, Trees, bits, case, case_of, code_point, handle, items, no_trees, number, parts, text, tree, truth}
use Rattle.canon_val.specs.Value.{AreLiftedFrom, HasTree, HaveTrees, member_names, no_names}
use Rattle.canon_val.specs.declared.val.Val.{Val}
use Rattle.canon_val.specs.declared.val.Val.TheVariants as val
use Rattle.canon_value_parts.proofs.LiftedValues.{all_unlifted}
use Rattle.canon_value_parts.proofs.OneValue.{tree_one}
use Rattle.canon_value_parts.proofs.Values.{product_values}
use Rattle.canon_replay.specs.Calls.{HaveOtherImages}

mutual
  pub carried_then : (t u w : Tree) → Carried t u → Carried u w → Carried t w
  carried_then (number z) u w e f = subst (λ x. Carried x w) e f
  carried_then (truth b) u w e f = subst (λ x. Carried x w) e f
  carried_then (code_point c) u w e f = subst (λ x. Carried x w) e f
  carried_then (text cs n) u w (k, e) f = subst (λ x. Carried x w) e f
  carried_then (items ts) u w (us, e, c) f = let (ws, g, d) = subst (λ x. Carried x w) e f in (ws, g, trees_then ts us ws c d)
  carried_then (parts ts) u w (us, e, c) f = let (ws, g, d) = subst (λ x. Carried x w) e f in (ws, g, trees_then ts us ws c d)
  carried_then (case d) u w e f = subst (λ x. Carried x w) e f
  carried_then (case_of n t) u w (v, e, c) f = let (x, g, d) = subst (λ y. Carried y w) e f in (x, g, carried_then t v x c d)
  carried_then (bits bs) u w e f = subst (λ x. Carried x w) e f
  carried_then (handle h) u w (k, e) f = subst (λ x. Carried x w) e f

  trees_then : (ts us ws : Trees) → CarriedTrees ts us → CarriedTrees us ws → CarriedTrees ts ws
  trees_then no_trees us ws e f = subst (λ xs. CarriedTrees xs ws) e f
  trees_then (tree t ts) us ws (u, vs, e, c, cs) f =
      let (w, rest, g, d, ds) = subst (λ xs. CarriedTrees xs ws) e f in (w, rest, g, carried_then t u w c d, trees_then ts vs rest cs ds)

-- a tuple of values with these trees has the tree of both, where it has one
tuple_tree : (s : Shape) (ms : Members) (v : Vec Val Global) (ts : Trees) (t : Tree) → s ≡ product of_places ms → HaveTrees ms v.items ts → HasTree s (val.Tuple v) t → HasTree s (val.Tuple v) (parts ts)
tuple_tree s ms v ts t is have h =
    let (vs, us, p, e, others) = subst (λ (z : Shape). HasTree z (val.Tuple v) t) is h in
    let same : v.items ≡ vs = product_values of_places (no_names v.items) (member_names ms) v.items vs (val.Tuple v) (v, refl, refl, refl) p in
    subst (λ (z : Shape). HasTree z (val.Tuple v) (parts ts)) (sym is) (vs, ts, p, refl, subst (λ (xs : List Val). HaveTrees ms xs ts) same have)

-- so their images don't differ
pub lifted_alike : (s : Shape) (ms : Members) (vs ws : List Val) (ts : Trees) → s ≡ product of_places ms → AreLiftedFrom ms vs ts → AreLiftedFrom ms ws ts → ¬ HaveOtherImages s vs ws
lifted_alike s ms vs ws ts is vhave whave (bytes, others, (v, b, vi, bi, (plain, (t, vtree, vimage))), (w, d, wi, di, (plain2, (u, wtree, wimage))), differ) =
    let vs_have : HaveTrees ms v.items ts = subst (λ (xs : List Val). HaveTrees ms xs ts) (sym vi) (all_unlifted ms vs ts vhave) in
    let ws_have : HaveTrees ms w.items ts = subst (λ (xs : List Val). HaveTrees ms xs ts) (sym wi) (all_unlifted ms ws ts whave) in
    let first = tree_one s (val.Tuple v) t (parts ts) vtree (tuple_tree s ms v ts t is vs_have vtree) in
    let second = tree_one s (val.Tuple w) (parts ts) u (tuple_tree s ms w ts u is ws_have wtree) wtree in
    differ (sym bi ∙ (image_bytes s t u b.items d.items vimage wimage (carried_then t (parts ts) u first second) ∙ di))
