-- Being the same is an equivalence where having one type of resource is.
use Rattle.std.proofs.Common.{refl, subst, ℕ}
use Rattle.canon_model.specs.Same.{Same, SameCases, SameMembers}
use Rattle.canon_model.specs.Shape.{Cases, Members, Shape, bare, borrow, fixed, flags, list, member, no_cases, no_members, own, payload, product, scalar, string, variant}

module _ (same : ℕ → ℕ → Type 0) (itself : (r : ℕ) → same r r) where
  mutual
    pub shape_itself : (s : Shape) → Same same s s
    shape_itself (scalar k) = refl
    shape_itself string = refl
    shape_itself (own r) = (r, refl, itself r)
    shape_itself (borrow r) = (r, refl, itself r)
    shape_itself (list k s) = (s, refl, shape_itself s)
    shape_itself (fixed n s) = (s, refl, shape_itself s)
    shape_itself (product k ms) = (ms, refl, members_itself ms)
    shape_itself (variant k cs) = (cs, refl, cases_itself cs)
    shape_itself (flags names) = refl

    members_itself : (ms : Members) → SameMembers same ms ms
    members_itself no_members = refl
    members_itself (member name s ms) = (s, ms, refl, shape_itself s, members_itself ms)

    cases_itself : (cs : Cases) → SameCases same cs cs
    cases_itself no_cases = refl
    cases_itself (bare name cs) = (cs, refl, cases_itself cs)
    cases_itself (payload name s cs) = (s, cs, refl, shape_itself s, cases_itself cs)

module _ (one two joined : ℕ → ℕ → Type 0) (join : (r q p : ℕ) → one r q → two q p → joined r p) where
  mutual
    pub shapes_joined : (s v w : Shape) → Same one s v → Same two v w → Same joined s w
    shapes_joined (scalar k) v w h g = subst (λ x. Same two x w) h g
    shapes_joined string v w h g = subst (λ x. Same two x w) h g
    shapes_joined (own r) v w (q, e, h) g = let it = subst (λ x. Same two x w) e g in (it.0, it.1, join r q it.0 h it.2)
    shapes_joined (borrow r) v w (q, e, h) g = let it = subst (λ x. Same two x w) e g in (it.0, it.1, join r q it.0 h it.2)
    shapes_joined (list k s) v w (u, e, h) g = let it = subst (λ x. Same two x w) e g in (it.0, it.1, shapes_joined s u it.0 h it.2)
    shapes_joined (fixed n s) v w (u, e, h) g = let it = subst (λ x. Same two x w) e g in (it.0, it.1, shapes_joined s u it.0 h it.2)
    shapes_joined (product k ms) v w (ns, e, h) g = let it = subst (λ x. Same two x w) e g in (it.0, it.1, members_joined ms ns it.0 h it.2)
    shapes_joined (variant k cs) v w (ds, e, h) g = let it = subst (λ x. Same two x w) e g in (it.0, it.1, cases_joined cs ds it.0 h it.2)
    shapes_joined (flags names) v w h g = subst (λ x. Same two x w) h g

    members_joined : (ms ns os : Members) → SameMembers one ms ns → SameMembers two ns os → SameMembers joined ms os
    members_joined no_members ns os h g = subst (λ x. SameMembers two x os) h g
    members_joined (member name s ms) ns os (u, rest, e, h, hs) g =
        let it = subst (λ x. SameMembers two x os) e g in
        (it.0, it.1, it.2, shapes_joined s u it.0 h it.3, members_joined ms rest it.1 hs it.4)

    cases_joined : (cs ds es : Cases) → SameCases one cs ds → SameCases two ds es → SameCases joined cs es
    cases_joined no_cases ds es h g = subst (λ x. SameCases two x es) h g
    cases_joined (bare name cs) ds es (rest, e, hs) g = let it = subst (λ x. SameCases two x es) e g in (it.0, it.1, cases_joined cs rest it.0 hs it.2)
    cases_joined (payload name s cs) ds es (u, rest, e, h, hs) g =
        let it = subst (λ x. SameCases two x es) e g in
        (it.0, it.1, it.2, shapes_joined s u it.0 h it.3, cases_joined cs rest it.1 hs it.4)
