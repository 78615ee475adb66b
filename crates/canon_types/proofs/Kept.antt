-- What the fields of a `ComponentTypes` show of its table.
use Rattle.std.proofs.Common.{◌≡◌, ℕ, zero, suc, ◌<◌, true, false, Option, Some, List, [], ◌∷◌, length, map, get_or, slice_get, refl, subst, sym, ap, ◌∙◌, arith}
use Rattle.std.specs.Prelude.{option_map}
use Rattle.std.proofs.lemmas.Option.{get_or_from_slice_get, slice_get-map, slice_get_cases}
use Rattle.std.specs.Option.{option_map_or}
use Rattle.std.proofs.lemmas.List.{length-map}
use Rattle.std.proofs.lemmas.List.Elements.{All-map}
use Rattle.canon_model.specs.Shape.{Shape, of_places, product}
use Rattle.canon_types.specs.declared.types.InterfaceType.TheVariants as ty
use Rattle.canon_types.specs.declared.types.TypeFunc.{TypeFunc}
use Rattle.canon_types.specs.declared.table.Entry.{Entry}
use Rattle.canon_types.specs.declared.table.ComponentTypes.TheInside.{Inside}
use Rattle.canon_types.specs.Depth.{has_borrow}
use Rattle.canon_types.specs.Keeps.{EntriesFit, Finds, IsEntry, IsFunc, KeepsTable, definition_of, table}
use Rattle.canon_types.specs.Table.{Definition, HasTuple, TupleType, all_shapes, defined_shape, is_tuple, members_in, no_shape, shape_of, tuple_members, tuple_types}
use Rattle.canon_types.specs.Valid.{HoldNoBorrow, IsValidTable, NamesDiffer}
use Rattle.canon_types.proofs.Distinct.{differ}
use Rattle.canon_types.proofs.Growth.{known_within}

defined_tuple : (known : List Shape) (d : Definition) → is_tuple d ≡ true → defined_shape known d ≡ product of_places (members_in known (tuple_types d))
defined_tuple known (TupleType types) h = refl
defined_tuple known _ h = cc

no_entry : (i : ℕ) → ¬ (i < 0)
no_entry i lt = omega arith

entry_at : (entries : List Entry) (i : ℕ) (e : Entry) → i < length entries → slice_get (map (λ x. definition_of x.item) entries) i ≡ Some (definition_of (get_or entries i e).item)
entry_at [] i e lt = absurd (no_entry i lt)
entry_at (x ∷ xs) zero e lt = refl
entry_at (x ∷ xs) (suc i) e lt = entry_at xs i e (omega arith)

-- a tuple of the table has the shape of its members
tuple_shape : (c : Inside) (i : ℕ) → EntriesFit (table c) c.entries.items → HasTuple (table c) i → shape_of (table c) (ty.Tuple i) ≡ product of_places (tuple_members (table c) i)
tuple_shape c i fit has = go c.entries.items refl
  where
    below : i < length c.entries.items
    below = omega (arith, known_within (table c) (ty.Tuple i) has, length-map c.entries.items (λ (x : Entry). definition_of x.item))

    go : (entries : List Entry) → c.entries.items ≡ entries → shape_of (table c) (ty.Tuple i) ≡ product of_places (tuple_members (table c) i)
    go [] e = absurd (no_entry i (subst (λ (xs : List Entry). i < length xs) e below))
    go (x ∷ xs) e =
        let d = definition_of (get_or c.entries.items i x).item in
        let at : slice_get (table c).definitions i ≡ Some d = entry_at c.entries.items i x below in
        let is : is_tuple d ≡ true = sym (ap (λ (o : Option Definition). option_map_or is_tuple o false) at) ∙ has in
        (fit i x below).shape ∙ defined_tuple (all_shapes (table c)) d is
        ∙ ap (λ (o : Option Definition). product of_places (members_in (all_shapes (table c)) (option_map_or tuple_types o []))) (sym at)

no_borrow : (c : Inside) (f : TypeFunc) → EntriesFit (table c) c.entries.items → IsFunc (table c) f → HoldNoBorrow (table c) f
no_borrow c f fit h = sym (ap has_borrow (tuple_shape c f.results fit h.over.results)) ∙ h.results

inside : {X : Type 0} (xs : List X) (i : ℕ) (x : X) → slice_get xs i ≡ Some x → i < length xs
inside xs i x at = grind (arith, slice_get_cases xs i)

-- the item at a place is the definition there
pub finds : (c : Inside) (i : ℕ) (e : Entry) → EntriesFit (table c) c.entries.items → slice_get c.entries.items i ≡ Some e → Finds (table c) i e.item
finds c i e fit at =
    let s = get_or (all_shapes (table c)) i no_shape in
    let here : IsEntry (table c) s e =
    subst (λ (x : Entry). IsEntry (table c) s x) (get_or_from_slice_get c.entries.items i e e at) (fit i e (inside c.entries.items i e at)) in
    record {
      definition = slice_get-map (λ (x : Entry). definition_of x.item) c.entries.items i ∙ ap (option_map (λ (x : Entry). definition_of x.item)) at;
      known = here.known;
      names = differ _ here.names;
      shape = here.shape;
      layout = here.layout;
    }

pub valid : (c : Inside) → KeepsTable c → IsValidTable (table c)
valid c kept = record {
  names = All-map NamesDiffer (λ (e : Entry). definition_of e.item) c.entries.items (λ k e lt. differ _ (kept.entries k e lt).names);
  results = λ k f lt. no_borrow c _ kept.entries (kept.funcs k f lt);
  instances = kept.instances;
}
