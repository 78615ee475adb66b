-- The places of values in a row are counted one after another, and a fault is reported at its place.
use Rattle.std.proofs.Common.{Err, List, Ok, Result, ap, ap₂, arith, inl, inr, length, refl, subst, sym, ℕ, ◌+◌, ◌<◌, ◌^◌, ◌∙◌, ◌∷◌, ◌≡◌}
use Rattle.canon_lowering.specs.Copies.{case_members, copies}
use Rattle.canon_model.specs.Shape.{Cases, Members, Name, ProductKind, Shape, VariantKind, fixed, member, member_count, product, variant}
use Rattle.canon_model.specs.Text.{utf8}
use Rattle.canon_value_parts.specs.Fails.{Blames, FailsAt, MemberFails}
use Rattle.canon_val.specs.Value.{IsCase, IsFixedListValue, IsProduct, all_places, member_names, places}
use Rattle.canon_model.specs.Memory.{cap}
use Rattle.canon_context.specs.declared.fault.Fault.{Fault}
use Rattle.canon_val.specs.declared.val.Val.{Val}
use Rattle.canon_value_parts.proofs.Cases.{case_fails, case_places}
use Rattle.canon_value_parts.proofs.Contents.{places_fixed}
use Rattle.canon_value_parts.proofs.Steps.{blames_later, places_product}
use Rattle.canon_value_parts.proofs.StoreSteps.{tails}
use Rattle.canon_value_parts.proofs.Walks.{copies_fail}
use Rattle.canon_image_parts.specs.Written.{CountsFields, CountsPlaces}

pub image_fields_count : (place : ℕ) (name named : Name) (s : Shape) (ms : Members) (names : List Name) (v : Val) (vs : List Val) (from mid : ℕ) (r : Result ℕ Fault) → named ≡ name → mid ≡ cap (from + places v)
    → CountsFields place ms names vs mid r → CountsFields place (member name s ms) (named ∷ names) (v ∷ vs) from r
image_fields_count place name named s ms names v vs from mid (Ok to) en em (same, e) = (ap₂ (λ x xs. x ∷ xs) en same, omega (arith, em, e))
image_fields_count place name named s ms names v vs from mid (Err e) en em (inl (is, other)) = inl (is, λ same. other (tails named name names (member_names ms) same))
image_fields_count place name named s ms names v vs from mid (Err e) en em (inr b) =
    inr (blames_later utf8 (λ how k. MemberFails how ms vs k) (λ how k. MemberFails how (member name s ms) (v ∷ vs) k) (places v) from mid e em (λ how j f. inr (j, refl, f)) b)

pub image_product_counts : (place : ℕ) (k : ProductKind) (ms : Members) (names : List Name) (vs : List Val) (v : Val) (r : Result ℕ Fault) → place < 2 ^ 64 → IsProduct k names vs v → length vs ≡ member_count ms
    → CountsFields place ms names vs (cap (place + 1)) r → CountsPlaces (λ how j. FailsAt how (product k ms) v j) place (places v) r
image_product_counts place k ms names vs v (Ok to) small p count (same, e) = omega (arith, e, places_product k names vs v p)
image_product_counts place k ms names vs v (Err e) small p count (inl (is, other)) =
    subst (λ x. Blames utf8 (λ how j. FailsAt how (product k ms) v j) place x) (sym is) (0, omega (arith, small), inl (refl, (names, vs, p, count, other)))
image_product_counts place k ms names vs v (Err e) small p count (inr b) =
    blames_later utf8 (λ how j. MemberFails how ms vs j) (λ how j. FailsAt how (product k ms) v j) 1 place (cap (place + 1)) e refl (λ how j f. inr (names, vs, j, p, count, refl, f)) b

-- of values whose names are right
pub image_count_members : (place : ℕ) (ms : Members) (names : List Name) (vs : List Val) (from : ℕ) (r : Result ℕ Fault) → names ≡ member_names ms → CountsFields place ms names vs from r
    → CountsPlaces (λ how k. MemberFails how ms vs k) from (all_places vs) r
image_count_members place ms names vs from (Ok to) same (_, e) = e
image_count_members place ms names vs from (Err e) same (inl (is, other)) = absurd (other same)
image_count_members place ms names vs from (Err e) same (inr b) = b

pub image_fixed_counted : (n : ℕ) (s : Shape) (names : List Name) (vs : List Val) (v : Val) (place : ℕ) (r : Result ℕ Fault) → length vs ≡ n → IsFixedListValue vs v
    → CountsPlaces (λ how k. MemberFails how (copies n s) vs k) (cap (place + 1)) (all_places vs) r → CountsPlaces (λ how k. FailsAt how (fixed n s) v k) place (places v) r
image_fixed_counted n s names vs v place (Ok to) count (xs, ev, same) e = omega (arith, e, ap places ev ∙ places_fixed xs, ap all_places same)
image_fixed_counted n s names vs v place (Err e) count (xs, ev, same) b =
    blames_later utf8 (λ how k. MemberFails how (copies n s) vs k) (λ how k. FailsAt how (fixed n s) v k) 1 place (cap (place + 1)) e refl (λ how j f. inr (vs, j, (xs, ev, same), count, refl, copies_fail how n s vs j f)) b

pub image_case_counted : (k : VariantKind) (cs : Cases) (d : ℕ) (vs : List Val) (v : Val) (place : ℕ) (r : Result ℕ Fault) → IsCase k cs d vs v
    → CountsPlaces (λ how j. MemberFails how (case_members cs d) vs j) (cap (place + 1)) (all_places vs) r → CountsPlaces (λ how j. FailsAt how (variant k cs) v j) place (places v) r
image_case_counted k cs d vs v place (Ok to) of e = omega (arith, e, case_places k cs d vs v of)
image_case_counted k cs d vs v place (Err e) of b =
    blames_later utf8 (λ how j. MemberFails how (case_members cs d) vs j) (λ how j. FailsAt how (variant k cs) v j) 1 place (cap (place + 1)) e refl (λ how j f. inr (d, vs, j, of, refl, case_fails how cs d vs j f)) b
