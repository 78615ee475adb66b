-- Maps: lists of pairs, of which each key keeps its last value.
use Rattle.std.proofs.Common.{◌≡◌, ◌+◌, ◌∙◌, Bool, List, [], ◌∷◌, ap, ap₂, inl, inr, length, refl, subst, sym, true, ℕ, ◌++◌}
use Rattle.std.specs.HashMap.{HashMap}
use Rattle.canon_ledger.specs.Ledger.{LedgerState}
use Rattle.canon_model.specs.Layout.{begins, ends}
use Rattle.canon_model.specs.Reach.{At, Kind}
use Rattle.canon_model.specs.Shape.{Shape, of_pairs, tuple}
use Rattle.canon_model.specs.Tree.{Tree, no_trees, parts, tree}
use Rattle.canon_types.specs.Instance.{Instance}
use Rattle.canon_types.specs.Table.{shape_of}
use Rattle.canon_types.specs.declared.types.InterfaceType.{InterfaceType}
use Rattle.canon_types.specs.declared.types.InterfaceType.TheVariants as ty
use Rattle.canon_typed.specs.Charges.{list_cost, product_cost}
use Rattle.canon_typed.specs.Maps.{IsFilledWith, MapLifts}
use Rattle.canon_typed.specs.Meaning.{PairMeans}
use Rattle.canon_typed.specs.Types.{IsMapOf}
use Rattle.canon_reading.specs.OfTrees.{IsFaulted, IsFaultedAt, IsOfTrees, IsOfTreesAt, IsPriced, IsPricedAt, faulted_at, priced_at, told_at, AreSteps}
use Rattle.canon_reading.specs.Reading.{AreTaken, Reading, Setting}
use Rattle.canon_reading.specs.Readings.{EachFault, EachReads, ListReads, RestReading, each_reach, each_steps, first_reading, list_reading, none_reading, product_reading}
use Rattle.canon_reading.specs.RowsOfTrees.{list_faulty, list_lifts, list_price, list_row_walked}
use Rattle.canon_reading.specs.Spots.{Faulty, Represents, Spot, flat_in, stored, leaves_in, spot_members, first_spot, others, Rest}
use Rattle.canon_reading.specs.Taken.{end_taken, list_taken, more_taken, product_taken}
use Rattle.canon_model.specs.Leaves.{flat_leaves, reach_leaves}
use Rattle.canon_model.specs.Memory.{Memory}
use Rattle.canon_reading.specs.Ways.{AreLiftedBy, lifted_then}

-- ---- a pair

-- a pair's key, and then its value
abbrev pub of_key : {K V : Type 0} → K × V → K
of_key p = p.0

abbrev pub of_value : {K V : Type 0} → K × V → V
of_value p = p.1

abbrev pub itself : {K V : Type 0} → K × V → K × V
itself p = p

abbrev pub of_none : {K V : Type 0} → K × V → Unit {0}
of_none p = tt

abbrev pub value_reading : {K V : Type 0} → Reading V → RestReading (K × V)
value_reading S = first_reading of_value of_none S none_reading

abbrev pub pair_reading : {K V : Type 0} → Reading K → Reading V → Reading (K × V)
pair_reading R S = product_reading itself (first_reading of_key itself R (value_reading S))

pub pair_taken : {K V : Type 0} (R : Reading K) (S : Reading V) → AreTaken R → AreTaken S → AreTaken (pair_reading R S)
pair_taken R S law law2 = product_taken itself (first_reading of_key itself R (value_reading S))
    (more_taken of_key itself R (value_reading S) law (more_taken of_value of_none S none_reading law2 end_taken))

-- the handles of a pair are those of both
pair_leaves : (m : Memory) (s u : Shape) (at : Spot) → leaves_in m (first_spot m s (spot_members at)) s ++ (leaves_in m (first_spot m u (others m s (spot_members at))) u ++ []) ≡ leaves_in m at (tuple (s ∷ u ∷ []))
unfolding reach_leaves flat_leaves
pair_leaves m s u (stored a) = refl
pair_leaves m s u (flat_in ws i) = refl

module _ {K V : Type 0} {R : Reading K} {S : Reading V} {w : Setting} {s u : Shape} where
  module _ {M : K → Tree → Type 0} {N : V → Tree → Type 0} (law : IsOfTreesAt w s R M) (law2 : IsOfTreesAt w u S N) where
    pair_lifts : (at : Spot) (before after : LedgerState) (p : K × V) → (pair_reading R S).reads w at (tuple (s ∷ u ∷ [])) before p after → (t : Tree) × Represents w.memory w.encoding at (tuple (s ∷ u ∷ [])) t × PairMeans M N p t
    pair_lifts (stored a) before after p (room, (mid, first, (last, second, same))) =
        let (t, rep, lifts) = law.reads (stored (a + begins w.memory.wide 0 s)) before mid p.0 first in
        let (v, rep2, lifts2) = law2.reads (stored (a + begins w.memory.wide (ends w.memory.wide 0 s) u)) mid last p.1 second in (
          parts (tree t (tree v no_trees)),
          (room, (tree t (tree v no_trees), refl, (t, tree v no_trees, refl, rep, (v, no_trees, refl, rep2, refl)))),
          (tree t (tree v no_trees), refl, (t, tree v no_trees, refl, lifts, (v, no_trees, refl, lifts2, refl))),
        )
    pair_lifts (flat_in ws i) before after p (room, (mid, first, (last, second, same))) =
        let (t, rep, lifts) = law.reads (flat_in ws i) before mid p.0 first in
        let (v, rep2, lifts2) = law2.reads _ mid last p.1 second in (
          parts (tree t (tree v no_trees)),
          (tree t (tree v no_trees), refl, (t, tree v no_trees, refl, rep, (v, no_trees, refl, rep2, refl))),
          (tree t (tree v no_trees), refl, (t, tree v no_trees, refl, lifts, (v, no_trees, refl, lifts2, refl))),
        )

    pair_walked : (at : Spot) → AreSteps w at (tuple (s ∷ u ∷ [])) ((pair_reading R S).steps w at (tuple (s ∷ u ∷ [])))
    pair_walked at =
        let m : Memory = w.memory in
        let p : Rest = spot_members at in
        let second = lifted_then w.types (leaves_in m (first_spot m u (others m s p)) u) [] (S.steps w (first_spot m u (others m s p)) u) [] (law2.steps (first_spot m u (others m s p))) tt in
        subst (λ ls. AreLiftedBy w.types ls ((pair_reading R S).steps w at (tuple (s ∷ u ∷ [])))) (pair_leaves m s u at)
        (lifted_then w.types (leaves_in m (first_spot m s p) s) (leaves_in m (first_spot m u (others m s p)) u ++ [])
        (R.steps w (first_spot m s p) s) (S.steps w (first_spot m u (others m s p)) u ++ []) (law.steps (first_spot m s p)) second)

    pair_told : IsOfTreesAt w (tuple (s ∷ u ∷ [])) (pair_reading R S) (PairMeans M N)
    pair_told = record { reads = pair_lifts; steps = pair_walked }

  module _ {c d : Tree → ℕ} (law : IsPricedAt w s R c) (law2 : IsPricedAt w u S d) where
    pair_price : (at : Spot) (t : Tree) → Represents w.memory w.encoding at (tuple (s ∷ u ∷ [])) t → (pair_reading R S).reach w at (tuple (s ∷ u ∷ [])) ≡ product_cost (c ∷ d ∷ []) t
    pair_price (stored a) t (room, (ts, is, (x, us, first, rep, (y, zs, second, rep2, none)))) =
        ap₂ ◌+◌ (law.reach _ x rep) (ap (λ n. n + 0) (law2.reach _ y rep2)) ∙ ap (product_cost (c ∷ d ∷ [])) (sym (is ∙ ap parts (first ∙ ap (tree x) second)))
    pair_price (flat_in ws i) t (ts, is, (x, us, first, rep, (y, zs, second, rep2, none))) =
        ap₂ ◌+◌ (law.reach _ x rep) (ap (λ n. n + 0) (law2.reach _ y rep2)) ∙ ap (product_cost (c ∷ d ∷ [])) (sym (is ∙ ap parts (first ∙ ap (tree x) second)))

    pair_priced : IsPricedAt w (tuple (s ∷ u ∷ [])) (pair_reading R S) (product_cost (c ∷ d ∷ []))
    pair_priced = record { reach = pair_price }

  module _ (law : IsFaultedAt w s R) (law2 : IsFaultedAt w u S) where
    pair_faulty : (at : Spot) (k : Kind) (x : At) → (pair_reading R S).faults w at (tuple (s ∷ u ∷ [])) k x → Faulty w.memory w.encoding at (tuple (s ∷ u ∷ [])) k x
    pair_faulty (stored a) k x (inl f) = inl (law.faults _ k x f)
    pair_faulty (stored a) k x (inr (inl f)) = inr (inl (law2.faults _ k x f))
    pair_faulty (stored a) k x (inr (inr f)) = absurd f
    pair_faulty (flat_in ws i) k x (inl f) = inl (law.faults _ k x f)
    pair_faulty (flat_in ws i) k x (inr (inl f)) = inr (inl (law2.faults _ k x f))
    pair_faulty (flat_in ws i) k x (inr (inr f)) = absurd f

    pair_faulted : IsFaultedAt w (tuple (s ∷ u ∷ [])) (pair_reading R S)
    pair_faulted = record { faults = pair_faulty }

-- ---- a map

-- n pairs in a row, of which each key keeps its last value
abbrev pub pairs_reading : {K V Z : Type 0} → (K → K → Bool) → ℕ → Reading K → Reading V → Reading (HashMap K V Z)
pairs_reading {K} {V} eq n R S = record {
  reads = λ w at s before m after. (pairs : List (K × V)) × (length pairs ≡ n) × EachReads (pair_reading R S) w s at before pairs after × IsFilledWith eq pairs m;
  faults = λ w at s. EachFault (pair_reading R S) w s at n;
  reach = λ w at s. each_reach (pair_reading R S) w s at n;
  steps = λ w at s. each_steps (pair_reading R S) w s at n;
  allocates = true;
}

abbrev pub MapReads : {K V Z : Type 0} → (K → K → Bool) → ℕ → Reading K → Reading V → Setting → Spot → Shape → LedgerState → HashMap K V Z → LedgerState → Type 0
MapReads {K} {V} eq bytes R S w at s before m after = (pairs : List (K × V)) × ListReads bytes (pair_reading R S) w at s before pairs after × IsFilledWith eq pairs m

abbrev pub map_reading : {K V Z : Type 0} → (K → K → Bool) → ℕ → Reading K → Reading V → Reading (HashMap K V Z)
map_reading eq bytes R S = record {
  reads = MapReads eq bytes R S;
  faults = (list_reading bytes (pair_reading R S)).faults;
  reach = (list_reading bytes (pair_reading R S)).reach;
  steps = (list_reading bytes (pair_reading R S)).steps;
  allocates = true;
}

pub map_taken : {K V Z : Type 0} (eq : K → K → Bool) (bytes : ℕ) (R : Reading K) (S : Reading V) → AreTaken R → AreTaken S → AreTaken (map_reading {Z = Z} eq bytes R S)
map_taken eq bytes R S law law2 w at s before after m (pairs, read, filled) = list_taken bytes (pair_reading R S) (pair_taken R S law law2) w at s before after pairs read

module _ {K V : Type 0} (bytes : ℕ) {Key Value : Instance → InterfaceType → Type 0} {R : Reading K} {S : Reading V} where
  module _ (law : IsFaulted Key R) (law2 : IsFaulted Value S) where
    map_faults : (w : Setting) (at : Spot) (type : InterfaceType) (k : Kind) (x : At) → IsMapOf Key Value w.types type
        → (list_reading bytes (pair_reading R S)).faults w at (shape_of w.types.types type) k x → Faulty w.memory w.encoding at (shape_of w.types.types type) k x
    map_faults w at (ty.Map i) k x (key, value, e, f, g) h =
        subst (λ (z : Shape). Faulty w.memory w.encoding at z k x) (sym e.shape)
        (list_faulty bytes of_pairs (pair_faulted (faulted_at w key f law) (faulted_at w value g law2)) at k x (subst (λ (z : Shape). (list_reading bytes (pair_reading R S)).faults w at z k x) e.shape h))
    map_faults w at _ k x f h = absurd f

    pub map_faulted : {Z : Type 0} (eq : K → K → Bool) → IsFaulted (IsMapOf Key Value) (map_reading {Z = Z} eq bytes R S)
    map_faulted eq = record { faults = map_faults }

  module _ {c d : Tree → ℕ} (law : IsPriced Key R c) (law2 : IsPriced Value S d) where
    map_reached : (w : Setting) (at : Spot) (type : InterfaceType) (t : Tree) → IsMapOf Key Value w.types type → Represents w.memory w.encoding at (shape_of w.types.types type) t
        → (list_reading bytes (pair_reading R S)).reach w at (shape_of w.types.types type) ≡ list_cost bytes (product_cost (c ∷ d ∷ [])) t
    map_reached w at (ty.Map i) t (key, value, e, f, g) rep =
        subst (λ (z : Shape). (list_reading bytes (pair_reading R S)).reach w at z ≡ list_cost bytes (product_cost (c ∷ d ∷ [])) t) (sym e.shape)
        (list_price bytes of_pairs (pair_priced (priced_at w key f law) (priced_at w value g law2)) at t (subst (λ (z : Shape). Represents w.memory w.encoding at z t) e.shape rep))
    map_reached w at _ t f rep = absurd f

    pub map_priced : {Z : Type 0} (eq : K → K → Bool) → IsPriced (IsMapOf Key Value) (map_reading {Z = Z} eq bytes R S) (list_cost bytes (product_cost (c ∷ d ∷ [])))
    map_priced eq = record { reach = map_reached }

  module _ {M : K → Tree → Type 0} {N : V → Tree → Type 0} (law : IsOfTrees Key R M) (law2 : IsOfTrees Value S N) where
    map_reads : {Z : Type 0} (eq : K → K → Bool) (w : Setting) (at : Spot) (type : InterfaceType) (before after : LedgerState) (m : HashMap K V Z) → IsMapOf Key Value w.types type
        → MapReads eq bytes R S w at (shape_of w.types.types type) before m after → (t : Tree) × Represents w.memory w.encoding at (shape_of w.types.types type) t × MapLifts eq M N m t
    map_reads eq w at (ty.Map i) before after m (key, value, e, f, g) (pairs, read, filled) =
        let (t, rep, (ts, is, each)) = list_lifts bytes of_pairs (pair_told (told_at w key f law) (told_at w value g law2)) at before after pairs
        (subst (λ (z : Shape). ListReads bytes (pair_reading R S) w at z before pairs after) e.shape read) in
        (t, subst (λ (z : Shape). Represents w.memory w.encoding at z t) (sym e.shape) rep, (pairs, ts, filled, is, each))
    map_reads eq w at _ before after m f h = absurd f

    map_steps : (w : Setting) (at : Spot) (type : InterfaceType) → IsMapOf Key Value w.types type → AreSteps w at (shape_of w.types.types type) ((list_reading bytes (pair_reading R S)).steps w at (shape_of w.types.types type))
    map_steps w at (ty.Map i) (key, value, e, f, g) =
        subst (λ (z : Shape). AreSteps w at z ((list_reading bytes (pair_reading R S)).steps w at z)) (sym e.shape) (list_row_walked bytes of_pairs (pair_told (told_at w key f law) (told_at w value g law2)) at)
    map_steps w at _ f = absurd f

    pub map_told : {Z : Type 0} (eq : K → K → Bool) → IsOfTrees (IsMapOf Key Value) (map_reading {Z = Z} eq bytes R S) (MapLifts eq M N)
    map_told eq = record { reads = map_reads eq; steps = map_steps }
