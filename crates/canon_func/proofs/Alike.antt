-- Two calls whose parameters mean the same trees.
use Rattle.std.proofs.Common.{List, None, Option, Some, [], ap, false, refl, subst, subst₂, sym, true, ℕ, ◌∙◌, ◌∷◌, ◌≡◌}
use Rattle.canon_model.proofs.Fields.{fields_determine}
use Rattle.canon_model.specs.Flat.{RepArgs}
use Rattle.canon_model.specs.Homes.{ParamsHome, PointsTo, host_texts}
use Rattle.canon_model.specs.Requests.{Call, Request, call_of}
use Rattle.canon_memory.specs.Journal.{answer_event}
use Rattle.canon_lowering.specs.Lowering.{Answer, Meets, Trap, addresses_of, events_of}
use Rattle.canon_lowering.specs.Storing.{narrow}
use Rattle.canon_func.specs.Alike.{AsksAlike, StartsAlike, TrapsAlike}
use Rattle.canon_func.specs.Passing.{Arguments}
use Rattle.canon_func.specs.Stores.{Callee}

pub starts_alike : (callee : Callee) (args other : Arguments) → StartsAlike callee args other
starts_alike callee args other entry entry2 answers answers2 given given2 words words2 memory memory2 bytes bytes2 few few2 h k trees same lawful lawful2 =
    let represented : RepArgs true callee.encoding (narrow memory2) words2 callee.params h.trees = subst (λ ts. RepArgs true callee.encoding (narrow memory2) words2 callee.params ts) trees (k.represented lawful2) in
    let homes : ParamsHome (PointsTo (narrow memory2)) (host_texts callee.encoding) false words2 callee.params h.trees (addresses_of answers) [] =
    subst₂ (λ ts xs. ParamsHome (PointsTo (narrow memory2)) (host_texts callee.encoding) false words2 callee.params ts xs []) trees same (k.memory_homes lawful2) in
    fields_determine.args callee.encoding false memory memory2 words words2 callee.params h.trees (addresses_of answers) [] [] bytes bytes2 few few2 (h.represented lawful) represented (h.memory_homes lawful) homes

-- what two lists with a first have in common
same_first : (x y : ℕ) (xs ys : List ℕ) → y ∷ ys ≡ x ∷ xs → y ≡ x
same_first x y xs ys e = cc

same_others : (x y : ℕ) (xs ys : List ℕ) → y ∷ ys ≡ x ∷ xs → ys ≡ xs
same_others x y xs ys e = cc

trapped_alike : (trap trap2 : Option Trap) (last : ℕ) (rs left left2 : List Request) → Meets last rs [] trap left → Meets last rs [] trap2 left2 → TrapsAlike trap trap2
trapped_alike None None last rs left left2 m n = tt
trapped_alike None (Some u) last rs left left2 m n = tt
trapped_alike (Some t) None last rs left left2 m n = tt
trapped_alike (Some t) (Some u) last rs left left2 (r, is, call) (q, is2, call2) =
    let one : q ∷ left2 ≡ r ∷ left = sym is2 ∙ is in
    let ask : q ≡ r = cc in
    call2 ∙ (ap (λ (z : Request). call_of last z) ask ∙ sym call)

module _ (trap trap2 : Option Trap) (left left2 : List Request) where
  made_alike : (xs ys : List Answer) (last : ℕ) (rs : List Request) → Meets last rs xs trap left → Meets last rs ys trap2 left2 → addresses_of ys ≡ addresses_of xs → (events_of ys None ≡ events_of xs None) × TrapsAlike trap trap2
  made_alike [] [] last rs m n e = (refl, trapped_alike trap trap2 last rs left left2 m n)
  made_alike [] (y ∷ ys) last rs m n e = absurd (cc)
  made_alike (x ∷ xs) [] last rs m n e = absurd (cc)
  made_alike (x ∷ xs) (y ∷ ys) last rs (r, more, is, call, m) (q, others, is2, call2, n) e =
      let at : y.at ≡ x.at = same_first x.at y.at (addresses_of xs) (addresses_of ys) e in
      let one : q ∷ others ≡ r ∷ more = sym is2 ∙ is in
      let ask : q ≡ r = cc in
      let rest : others ≡ more = cc in
      let asked : y.call ≡ x.call = call2 ∙ (ap (λ (z : Request). call_of last z) ask ∙ sym call) in
      let here : answer_event y.call y.at ≡ answer_event x.call x.at = ap (λ (c : Call). answer_event c y.at) asked ∙ ap (λ (a : ℕ). answer_event x.call a) at in
      let there = made_alike xs ys x.at more m (subst₂ (λ (a : ℕ) (zs : List Request). Meets a zs ys trap2 left2) at rest n) (same_others x.at y.at (addresses_of xs) (addresses_of ys) e) in
      (ap (λ event. event ∷ events_of ys None) here ∙ ap (λ events. answer_event x.call x.at ∷ events) there.0, there.1)

pub asks_alike : AsksAlike
asks_alike requests left left2 answers answers2 trap trap2 met met2 same = made_alike trap trap2 left left2 answers answers2 0 requests (met 0) (met2 0) same
