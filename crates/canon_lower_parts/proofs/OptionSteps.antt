-- An option, stored.
use Rattle.std.proofs.Common.{◌≡◌, ◌≤◌, ◌+◌, List, None, Ok, Option, Result, Some, [], ap, arith, false, length, refl, subst, sym, true, ℕ}
use Rattle.canon_context.proofs.Moves.{GuestLaws}
use Rattle.canon_context.specs.Core.{Parts, component_types}
use Rattle.canon_context.specs.declared.fault.Fault.{Fault}
use Rattle.canon_resources.specs.Parts.{Part}
use Rattle.canon_model.proofs.Layouts.{payloads_fit}
use Rattle.canon_model.specs.Layout.{size}
use Rattle.canon_model.specs.Shape.{Cases, Shape, bare, no_cases, of_option, payload}
use Rattle.canon_model.specs.Tree.{Tree}
use Rattle.canon_types.specs.Depth.{variant_cases}
use Rattle.canon_types.specs.Instance.{Instance}
use Rattle.canon_types.specs.Table.{shape_of}
use Rattle.canon_types.specs.declared.types.InterfaceType.{InterfaceType}
use Rattle.canon_typed.specs.Meaning.{OptionMeans}
use Rattle.canon_lower_parts.proofs.CaseSteps.{case_stores}
use Rattle.canon_lower_parts.proofs.MemberSteps.{members_nothing, members_one}
use Rattle.canon_lower_parts.proofs.Stood.{value_stood}
use Rattle.canon_lower_parts.specs.CasePuts.{IsCasePut, IsOptionPut}
use Rattle.canon_lower_parts.specs.Gives.{case_shape, option_gives}
use Rattle.canon_lower_parts.specs.Stores.{IsPut, TypedStores}

abbrev lower_cases_of : Shape → Cases
lower_cases_of u = bare [] (payload [] u no_cases)

put_types : {D G : Type 0} (a b : Parts D G) (at n bytes : ℕ) → IsPut a b at n bytes → b.component.types ≡ a.component.types
put_types a b at n bytes h = ap (λ x. x.component.types) h.same

module _ {D G : Type 0} (Fits : Instance → InterfaceType → Type 0) (a b : Parts D G) (type : InterfaceType) (at : ℕ) (some : InterfaceType) (place : ℕ) where
  -- the number, by the cases of the payload's shape
  cases_put : (d : ℕ) → IsOptionPut Fits a b type at d some place → IsCasePut a b (lower_cases_of (shape_of (component_types a) some)) at d place
  cases_put d h = subst (λ (s : Shape). IsCasePut a b (variant_cases s) at d place) h.shape h.put

  pub some_room : (d : ℕ) → at + size false (shape_of (component_types a) type) ≤ length a.memory → IsOptionPut Fits a b type at d some place → place + size false (shape_of (component_types b) some) ≤ length b.memory
  some_room d room h =
      let put = cases_put d h in
      let u = shape_of (component_types a) some in
      let same : size false (shape_of (component_types b) some) ≡ size false u = ap (λ (i : Instance). size false (shape_of i.types some)) (put_types a b at _ _ put.put) in
      omega (arith, room, ap (size false) h.shape, same, put.inner, put.put.writes.same_length, (payloads_fit false of_option (lower_cases_of u)).inside 1 (omega arith))

  module _ (L : GuestLaws G) (options : ℕ) {A : Type 0} (Walks : A → Tree → Type 0) (gives : Instance → Shape → A → List (List Part)) (v : Option A) (room : at + size false (shape_of (component_types a) type) ≤ length a.memory) where
    abbrev Stored : Parts D G → Option A → Result (Unit {0}) Fault → Type 0
    Stored c w r = TypedStores L.seen L.moves options a c (shape_of (component_types a) type) at (OptionMeans Walks w) (option_gives gives a.component.types (shape_of (component_types a) type) w) r

    pub none_stores : v ≡ None → IsOptionPut Fits a b type at 0 some place → Stored b v (Ok tt)
    none_stores is h =
        let u = shape_of (component_types a) some in
        let put = cases_put 0 h in
        subst (λ (w : Option A). Stored b w (Ok tt)) (sym is)
        (case_stores L options (λ (x : Unit {0}) (t : Tree). Unit {0}) tt true a b b (shape_of (component_types a) type) u of_option (lower_cases_of u) at 0 place [] (Ok tt) h.shape room (omega arith) (omega arith) refl put
        (members_nothing L options b 0 place (omega (arith, put.small, put.put.writes.same_length))))

    pub some_stores : (x : A) (c : Parts D G) (options2 : ℕ) (r : Result (Unit {0}) Fault) → v ≡ Some x → IsOptionPut Fits a b type at 1 some place → options2 ≡ options
        → TypedStores L.seen L.moves options2 b c (shape_of (component_types b) some) place (Walks x) (gives b.component.types (shape_of (component_types b) some) x) r → Stored c v r
    some_stores x c options2 r is h eo stored =
        let i = a.component.types in
        let s = shape_of (component_types a) type in
        let u = shape_of (component_types a) some in
        let put = cases_put 1 h in
        let one : TypedStores L.seen L.moves options b c u place (Walks x) (gives i u x) r = value_stood L.seen L.moves options Walks gives i b c options2 some place x r eo (put_types a b at _ _ put.put) stored in
        let part : u ≡ case_shape 1 s = sym (ap (case_shape 1) h.shape) in
        let here : TypedStores L.seen L.moves options b c u place (Walks x) (gives i (case_shape 1 s) x) r = subst (λ (z : Shape). TypedStores L.seen L.moves options b c u place (Walks x) (gives i z x) r) part one in
        subst (λ (w : Option A). Stored c w r) (sym is)
        (case_stores L options Walks x false a b c s u of_option (lower_cases_of u) at 1 place (gives i (case_shape 1 s) x) r h.shape room (omega arith) (omega arith) refl put
        (members_one L options b c u place (Walks x) (gives i (case_shape 1 s) x) r here))
