-- Types are the same where their parts are.
use Rattle.std.proofs.Common.{◌≡◌, ◌↔◌, ◌∙◌, Bool, IsTrue, List, None, Option, Some, [], ◌∷◌, ap, arith, drop, false, get_or, length, map, refl, subst, suc, sym, true, ℕ}
use Rattle.std.proofs.lemmas.Bool.{false≢true}
use Rattle.canon_model.specs.Same.{Same, SameCases, SameMembers}
use Rattle.canon_model.specs.Shape.{Cases, ListKind, Members, Name, ProductKind, Shape, VariantKind, bare, bare_cases, borrow, case_count, fixed, flags, list, map_of, member, member_count, no_cases, no_members, of_option, of_pairs, of_places, option_of, own, payload, product, string, tuple, variant}
use Rattle.canon_types.specs.Depth.{depth, element_shape, product_members, variant_cases}
use Rattle.canon_types.specs.Laid.{unnamed_cases}
use Rattle.canon_types.specs.Table.{cases_in, named_case, payload_in, shape_in}
use Rattle.canon_types.specs.declared.types.InterfaceType.{InterfaceType}
use Rattle.canon_same.specs.Same.{SamePayload}

-- ---- truth values and what they tell

pub both : {A B : Type 0} (a b : Bool) → (IsTrue a ↔ A) → (IsTrue b ↔ B) → (a ≡ true → IsTrue b ↔ (A × B))
both a b p q t = (λ h. (p.0 t, q.0 h), λ h. q.1 h.1)

pub each : {A B C D : Type 0} → A ↔ C → B ↔ D → (A × B) ↔ (C × D)
each p q = (λ h. (p.0 h.0, q.0 h.1), λ h. (p.1 h.0, q.1 h.1))

-- the first holds, or it doesn't, whatever the second test answers
pub given : {A B : Type 0} (b : Bool) → A → (IsTrue b ↔ B) → IsTrue b ↔ (A × B)
given b a q = (λ h. (a, q.0 h), λ h. q.1 h.1)

pub never : {A : Type 0} (a : Bool) → a ≡ false → (A → ⊥) → IsTrue a ↔ A
never a e differ = (λ h. absurd (false≢true (sym e ∙ h)), λ h. absurd (differ h))

pub untrue : {A : Type 0} (a : Bool) → a ≡ false → (IsTrue a ↔ A) → A → ⊥
untrue a e p h = false≢true (sym e ∙ p.1 h)

pub through : {W P Q : Type 0} → W ↔ P → P ↔ Q → W ↔ Q
through p q = (λ h. q.0 (p.0 h), λ h. p.1 (q.1 h))

pub back : {P Q : Type 0} → P ↔ Q → Q ↔ P
back p = (p.1, p.0)

pub alike : {A : Type 0} {a b x y : A} → a ≡ x → b ≡ y → (a ≡ b) ↔ (x ≡ y)
alike e f = (λ h. sym e ∙ h ∙ f, λ h. e ∙ h ∙ sym f)

-- what is left of two rows, past the first of each, which are the same
pub more : {W P A Q : Type 0} → W ↔ P → P ↔ (A × Q) → A → W ↔ Q
more p q a = (λ h. (q.0 (p.0 h)).1, λ h. p.1 (q.1 (a, h)))

-- the first of each are not the same
pub stopped : {W P A Q : Type 0} → W ↔ P → P ↔ (A × Q) → (A → ⊥) → W → ⊥
stopped p q differ h = differ (q.0 (p.0 h)).0

pub along : {M : Type 0} (P : M → M → Type 0) (Z : Type 0) (a b x y : M) → a ≡ x → b ≡ y → P x y ↔ Z → P a b ↔ Z
along P Z a b x y e f h = subst (λ m. P m b ↔ Z) (sym e) (subst (λ n. P x n ↔ Z) (sym f) h)

-- of a type that was found to be another's name
pub at_other : {A : Type 0} (Q : A → Type 0) (P : Type 0) (x y : A) → x ≡ y → P ↔ Q y → P ↔ Q x
at_other Q P x y e p = subst (λ z. P ↔ Q z) (sym e) p

-- ---- parts of shapes

abbrev count_in : Shape → ℕ
count_in (fixed n s) = n
count_in s = 0

abbrev item_in : Shape → Shape
item_in (fixed n s) = s
item_in s = s

abbrev resource_in : Shape → ℕ
resource_in (own r) = r
resource_in (borrow r) = r
resource_in s = 0

abbrev names_in : Shape → List Name
names_in (flags ns) = ns
names_in s = []

abbrev first_name : Members → Name
first_name no_members = []
first_name (member name s ms) = name

abbrev first_shape : Members → Shape
first_shape no_members = string
first_shape (member name s ms) = s

abbrev later_members : Members → Members
later_members no_members = no_members
later_members (member name s ms) = ms

abbrev case_name : Cases → Name
case_name no_cases = []
case_name (bare name cs) = name
case_name (payload name s cs) = name

abbrev case_payload : Cases → Option Shape
case_payload no_cases = None
case_payload (bare name cs) = None
case_payload (payload name s cs) = Some s

abbrev later_cases : Cases → Cases
later_cases no_cases = no_cases
later_cases (bare name cs) = cs
later_cases (payload name s cs) = cs

abbrev shape_or : Option Shape → Shape
shape_or None = string
shape_or (Some s) = s

abbrev pub depth_of_payload : List Shape → Option InterfaceType → ℕ
depth_of_payload known None = 0
depth_of_payload known (Some type) = depth (shape_in known type)

case_more : (name : Name) (p : Option Shape) (cs : Cases) → case_count (named_case name p cs) ≡ suc (case_count cs)
case_more name None cs = refl
case_more name (Some s) cs = refl

pub cases_long : (known : List Shape) (cs : List (Name × Option InterfaceType)) → case_count (cases_in known cs) ≡ length cs
cases_long known [] = refl
cases_long known (c ∷ cs) = case_more c.0 (payload_in known c.1) (cases_in known cs) ∙ ap suc (cases_long known cs)

pub unnamed_long : (known : List Shape) (ps : List (Option InterfaceType)) → case_count (unnamed_cases known ps) ≡ length ps
unnamed_long known [] = refl
unnamed_long known (p ∷ ps) = case_more [] (payload_in known p) (unnamed_cases known ps) ∙ ap suc (unnamed_long known ps)

module _ (same : ℕ → ℕ → Type 0) where
  pub own_step : (r q : ℕ) → Same same (own r) (own q) ↔ same r q
  own_step r q = (λ h. subst (same r) (sym (ap resource_in h.1)) h.2, λ h. (q, refl, h))

  pub borrow_step : (r q : ℕ) → Same same (borrow r) (borrow q) ↔ same r q
  borrow_step r q = (λ h. subst (same r) (sym (ap resource_in h.1)) h.2, λ h. (q, refl, h))

  pub list_step : (k : ListKind) (s v : Shape) → Same same (list k s) (list k v) ↔ Same same s v
  list_step k s v = (λ h. subst (Same same s) (sym (ap element_shape h.1)) h.2, λ h. (v, refl, h))

  pub fixed_step : (n m : ℕ) (s v : Shape) → Same same (fixed n s) (fixed m v) ↔ ((n ≡ m) × Same same s v)
  fixed_step n m s v = (λ h. (sym (ap count_in h.1), subst (Same same s) (sym (ap item_in h.1)) h.2), λ h. (v, ap (λ k. fixed k v) (sym h.0), h.1))

  pub product_step : (k : ProductKind) (ms ns : Members) → Same same (product k ms) (product k ns) ↔ SameMembers same ms ns
  product_step k ms ns = (λ h. subst (SameMembers same ms) (sym (ap product_members h.1)) h.2, λ h. (ns, refl, h))

  pub variant_step : (k : VariantKind) (cs ds : Cases) → Same same (variant k cs) (variant k ds) ↔ SameCases same cs ds
  variant_step k cs ds = (λ h. subst (SameCases same cs) (sym (ap variant_cases h.1)) h.2, λ h. (ds, refl, h))

  pub flags_step : (ns os : List Name) → Same same (flags ns) (flags os) ↔ (ns ≡ os)
  flags_step ns os = (λ h. sym (ap names_in h), λ h. ap flags (sym h))

  -- ---- rows

  pub member_step : (name other : Name) (s v : Shape) (ms ns : Members)
      → SameMembers same (member name s ms) (member other v ns) ↔ (((name ≡ other) × Same same s v) × SameMembers same ms ns)
  member_step name other s v ms ns = (
    λ h. ((sym (ap first_name h.2), subst (Same same s) (sym (ap first_shape h.2)) h.3), subst (SameMembers same ms) (sym (ap later_members h.2)) h.4),
    λ h. (v, ns, ap (λ n. member n v ns) (sym h.0.0), h.0.1, h.1),
  )

  pub case_step : (name other : Name) (p q : Option Shape) (cs ds : Cases)
      → SameCases same (named_case name p cs) (named_case other q ds) ↔ (((name ≡ other) × SamePayload same p q) × SameCases same cs ds)
  case_step name other None None cs ds = (
    λ h. ((sym (ap case_name h.1), tt), subst (SameCases same cs) (sym (ap later_cases h.1)) h.2),
    λ h. (ds, ap (λ n. bare n ds) (sym h.0.0), h.1),
  )
  case_step name other (Some s) (Some v) cs ds = (
    λ h. ((sym (ap case_name h.2), subst (Same same s) (sym (ap (λ c. shape_or (case_payload c)) h.2)) h.3), subst (SameCases same cs) (sym (ap later_cases h.2)) h.4),
    λ h. (v, ds, ap (λ n. payload n v ds) (sym h.0.0), h.0.1, h.1),
  )
  case_step name other None (Some v) cs ds = (λ h. let e = ap case_payload h.1 in cc, λ h. absurd h.0.1)
  case_step name other (Some s) None cs ds = (λ h. let e = ap case_payload h.2 in cc, λ h. absurd h.0.1)

  -- rows that are the same have one length
  pub members_count : (ms ns : Members) → SameMembers same ms ns → member_count ns ≡ member_count ms
  members_count no_members ns h = ap member_count h
  members_count (member name s ms) ns h = ap member_count h.2 ∙ ap suc (members_count ms h.1 h.4)

  pub cases_count : (cs ds : Cases) → SameCases same cs ds → case_count ds ≡ case_count cs
  cases_count no_cases ds h = ap case_count h
  cases_count (bare name cs) ds h = ap case_count h.1 ∙ ap suc (cases_count cs h.0 h.2)
  cases_count (payload name s cs) ds h = ap case_count h.2 ∙ ap suc (cases_count cs h.1 h.4)

  -- members of maps, cases of options and results
  pub pair_step : (key value other_key other_value : Shape)
      → Same same (map_of key value) (map_of other_key other_value) ↔ (Same same key other_key × Same same value other_value)
  pair_step key value other_key other_value =
      let row : SameMembers same (member [] key (member [] value no_members)) (member [] other_key (member [] other_value no_members)) ↔ (Same same key other_key × Same same value other_value) = (
        λ h.
            let first = (member_step [] [] key other_key (member [] value no_members) (member [] other_value no_members)).0 h in
            (first.0.1, ((member_step [] [] value other_value no_members no_members).0 first.1).0.1),
        λ h. (member_step [] [] key other_key (member [] value no_members) (member [] other_value no_members)).1 (
          (refl, h.0),
          (member_step [] [] value other_value no_members no_members).1 ((refl, h.1), refl),
        ),
      ) in
      through (list_step of_pairs (tuple (key ∷ value ∷ [])) (tuple (other_key ∷ other_value ∷ [])))
      (through (product_step of_places (member [] key (member [] value no_members)) (member [] other_key (member [] other_value no_members))) row)

  pub option_step : (s v : Shape) → Same same (option_of s) (option_of v) ↔ Same same s v
  option_step s v =
      let some = case_step [] [] (Some s) (Some v) no_cases no_cases in
      let none = case_step [] [] None None (payload [] s no_cases) (payload [] v no_cases) in
      through (variant_step of_option (bare [] (payload [] s no_cases)) (bare [] (payload [] v no_cases)))
      (λ h. (some.0 (none.0 h).1).0.1, λ h. none.1 ((refl, tt), some.1 ((refl, h), refl)))

  pub enum_step : (ns os : List Name) → SameCases same (bare_cases ns) (bare_cases os) ↔ (ns ≡ os)
  enum_step [] [] = (λ h. refl, λ h. refl)
  enum_step [] (o ∷ os) = (λ h. let e = ap case_count h in absurd (omega (arith, e)), λ h. absurd (omega (arith, ap length h)))
  enum_step (n ∷ ns) [] = (λ h. let e = ap case_count h.1 in absurd (omega (arith, e)), λ h. absurd (omega (arith, ap length h)))
  enum_step (n ∷ ns) (o ∷ os) =
      let step = case_step n o None None (bare_cases ns) (bare_cases os) in (
        λ h. let it = step.0 h in let same_name = it.0.0 in let same_names = (enum_step ns os).0 it.1 in cc,
        λ h. step.1 ((ap (λ xs. get_or xs 0 []) h, tt), (enum_step ns os).1 (ap (drop 1) h)),
      )

  -- the cases are the same where the names and the payloads are
  pub cases_step : (known other : List Shape) (cs ds : List (Name × Option InterfaceType))
      → SameCases same (cases_in known cs) (cases_in other ds)
      ↔ ((map (λ c. c.0) cs ≡ map (λ c. c.0) ds) × SameCases same (unnamed_cases known (map (λ c. c.1) cs)) (unnamed_cases other (map (λ c. c.1) ds)))
  cases_step known other [] [] = (λ h. (refl, refl), λ h. refl)
  cases_step known other [] (d ∷ ds) =
      (λ h. let e = cases_long known [] in let f = cases_long other (d ∷ ds) in absurd (omega (arith, ap case_count h, e, f)), λ h. absurd (omega (arith, ap length h.0)))
  cases_step known other (c ∷ cs) [] =
      (λ h. absurd (omega (arith, cases_count (cases_in known (c ∷ cs)) no_cases h, cases_long known (c ∷ cs))), λ h. absurd (omega (arith, ap length h.0)))
  cases_step known other (c ∷ cs) (d ∷ ds) =
      let step = case_step c.0 d.0 (payload_in known c.1) (payload_in other d.1) (cases_in known cs) (cases_in other ds) in
      let unnamed = case_step [] [] (payload_in known c.1) (payload_in other d.1) (unnamed_cases known (map (λ c. c.1) cs)) (unnamed_cases other (map (λ c. c.1) ds)) in
      let rest = cases_step known other cs ds in (
        λ h.
            let it = step.0 h in
            let left = rest.0 it.1 in
            let same_name = it.0.0 in
            let same_names = left.0 in
            (cc, unnamed.1 ((refl, it.0.1), left.1)),
        λ h.
            let it = unnamed.0 h.1 in
            step.1 ((ap (λ xs. get_or xs 0 []) h.0, it.0.1), rest.1 (ap (drop 1) h.0, it.1)),
      )
