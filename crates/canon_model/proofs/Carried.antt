-- Values on the way from one memory to another: what stands is carried from what was read; and what some texts ask for.
use Rattle.std.proofs.Common.{[], false, refl, subst, ◌∷◌, ◌≡◌}
use Rattle.std.specs.Char.{encode_utf8}
use Rattle.canon_model.specs.Carrying.{AllHanded, AllRespelled, Handed, Respelled, carried_texts}
use Rattle.canon_model.specs.Requests.{anew, requests, resized, resized_at}
use Rattle.canon_model.specs.Same.{Carried, CarriedTrees}
use Rattle.canon_model.specs.Shape.{string}
use Rattle.canon_model.specs.Text.{compact, utf16, utf8}
use Rattle.canon_model.specs.Tree.{Tree, Trees, bits, case, case_of, code_point, handle, items, no_trees, number, parts, text, tree, truth}

-- ---- trees

mutual
  -- what is told has the handles of where it goes, and what stands is spelled as it is there
  pub carried_by : (t u v : Tree) → Handed t u → Respelled u v → Carried t v
  carried_by (number z) u v h g = subst (λ w. Respelled w v) h g
  carried_by (truth b) u v h g = subst (λ w. Respelled w v) h g
  carried_by (code_point c) u v h g = subst (λ w. Respelled w v) h g
  carried_by (text cs n) u v (k, is, same) g = let (j, e, any) = subst (λ w. Respelled w v) is g in (j, e)
  carried_by (items ts) u v (us, is, hs) g = let (vs, e, gs) = subst (λ w. Respelled w v) is g in (vs, e, all_carried_by ts us vs hs gs)
  carried_by (parts ts) u v (us, is, hs) g = let (vs, e, gs) = subst (λ w. Respelled w v) is g in (vs, e, all_carried_by ts us vs hs gs)
  carried_by (case d) u v h g = subst (λ w. Respelled w v) h g
  carried_by (case_of d t) u v (w, is, h) g = let (x, e, k) = subst (λ y. Respelled y v) is g in (x, e, carried_by t w x h k)
  carried_by (bits bs) u v h g = subst (λ w. Respelled w v) h g
  carried_by (handle h) u v (k, is, any) g = let (j, e, same) = subst (λ w. Respelled w v) is g in (j, e)

  pub all_carried_by : (ts us vs : Trees) → AllHanded ts us → AllRespelled us vs → CarriedTrees ts vs
  all_carried_by no_trees us vs h g = subst (λ ws. AllRespelled ws vs) h g
  all_carried_by (tree t ts) us vs (u, more, is, h, hs) g =
      let (v, rest, e, k, ks) = subst (λ ws. AllRespelled ws vs) is g in (v, rest, e, carried_by t u v h k, all_carried_by ts more rest hs ks)

-- ---- examples

-- U+0061 U+4E2D in UTF-16 into UTF-8; U+00E9 from each form into each
carried_examples : (requests false (carried_texts utf16 utf8).asks string (text (97 ∷ 20013 ∷ []) 4) ≡ anew 1 2 ∷ resized_at 1 2 6 ∷ resized_at 1 6 4 ∷ [])
    × (requests false (carried_texts utf8 utf16).asks string (text (233 ∷ []) 2) ≡ anew 2 4 ∷ resized 4 2 ∷ [])
    × (requests false (carried_texts utf8 compact).asks string (text (233 ∷ []) 2) ≡ anew 2 2 ∷ resized 2 1 ∷ [])
    × (requests false (carried_texts utf16 utf16).asks string (text (233 ∷ []) 2) ≡ anew 2 2 ∷ [])
    × (requests false (carried_texts utf16 compact).asks string (text (233 ∷ []) 2) ≡ anew 2 1 ∷ [])
    × (requests false (carried_texts compact compact).asks string (text (233 ∷ []) 2) ≡ anew 2 2 ∷ resized 2 1 ∷ [])
    × (requests false (carried_texts compact compact).asks string (text (233 ∷ []) 1) ≡ anew 2 1 ∷ [])
    × (requests false (carried_texts compact utf8).asks string (text (233 ∷ []) 1) ≡ anew 1 1 ∷ resized_at 1 1 2 ∷ [])
    × (requests false (carried_texts compact utf8).asks string (text (97 ∷ []) 2) ≡ anew 1 1 ∷ [])
    × (requests false (carried_texts utf16 compact).asks string (text (97 ∷ 20013 ∷ []) 4) ≡ anew 2 2 ∷ resized 2 4 ∷ [])
unfolding requests encode_utf8
carried_examples = (refl, refl, refl, refl, refl, refl, refl, refl, refl, refl)
