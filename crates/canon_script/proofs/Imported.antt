-- What is known of imports that were read.
use Rattle.std.proofs.Common.{if◌then◌else◌, ◌≡◌, ◌∙◌, ◌+◌, ◌<◌, ◌≤◌, ◌++◌, ℕ, Bool, List, None, Some, [], ◌∷◌, ap, arith, codes, false, length, length-append, nat_eq, nat_lt, option_map, refl, slice_get, subst, suc, sym, true, zero}
use Rattle.std.proofs.lemmas.Bool.{eqb-true, ltb-true}
use Rattle.std.proofs.lemmas.List.Elements.{All-from_recursion}
use Rattle.std.proofs.Math.ListN.{get_or}
use Rattle.std.proofs.lemmas.Option.{get_or_from_slice_get, option_and_then_some, same_Some, slice_get_within}
use Rattle.std.specs.List.{All, AllByRecursion}
use Rattle.std.specs.Option.{option_map_or}
use Rattle.std.specs.Prelude.{IfSome, option_and_then}
use lib.Pointwise.{pointwise}
use Rattle.serde_json.specs.Data.{Data, array, boolean, null, number, object, string}
use Rattle.serde_json.specs.Find.{as_array, as_object, as_str, get}
use Rattle.canon_context.specs.declared.component.Import.{Import}
use Rattle.canon_context.specs.declared.component.Import.TheVariants as import
use Rattle.canon_json.proofs.Found.{by_map, by_test, each_all}
use Rattle.canon_json.specs.Json.{each, each_of, has_len, u32_of}
use Rattle.canon_layout.proofs.Known.{accepted_is}
use Rattle.canon_layout.specs.Entries.{reference_of}
use Rattle.canon_types.specs.Refusal.{func_refusal, with_func}
use Rattle.canon_types.specs.Table.{HasResource, TupleType, TypeTable, tuple_types}
use Rattle.canon_types.specs.declared.types.InterfaceType.{InterfaceType}
use Rattle.canon_types.specs.declared.types.TypeFunc.{TypeFunc}
use Rattle.canon_script.specs.Imports.{HasAnswers, HaveAnswers, HostAnswer, HostParts, ImportStands, Imported, IsAnswer, add_import, answer_after, host_answer_of, builtin_by, builtin_import_of, host_of, host_with, if_many, known_resource, func_result_count, with_builtin, with_host, with_import}
use Rattle.canon_literals.specs.Literals.{Literal}
use Rattle.canon_script.specs.Numbers.{if_below}
use Rattle.canon_script.specs.Values.{plain_value_of}

-- ---- functions of the host

-- a function of the host is of what its members were read as
pub host_given : (types : List InterfaceType) (d : Data) (params results : List InterfaceType) (answers : List HostAnswer) → option_and_then (each_of (reference_of types)) (get (codes "params") d) ≡ Some params
    → option_and_then (each_of (reference_of types)) (get (codes "results") d) ≡ Some results
    → option_and_then (each_of (host_answer_of (length results))) (get (codes "answers") d) ≡ Some answers
    → host_of types d ≡ Some (host_with params results answers)
host_given types d params results answers p r a = rw (p, r, a) refl

-- ---- lists that grow

kept : {X : Type 0} (xs ys : List X) (n : ℕ) (x : X) → slice_get xs n ≡ Some x → slice_get (xs ++ ys) n ≡ Some x
kept [] ys n x e = absurd (cc)
kept (z ∷ zs) ys zero x e = e
kept (z ∷ zs) ys (suc n) x e = kept zs ys n x e

last : {X : Type 0} (xs : List X) (x : X) → slice_get (xs ++ x ∷ []) (length xs) ≡ Some x
last [] x = refl
last (z ∷ zs) x = last zs x

-- ---- one import

-- a number that is below another
pub below : (count n m : ℕ) → if_below count n ≡ Some m → m < count
below count n m e = by_test (nat_lt n count) (Some n) m e (λ lt is. subst (λ (k : ℕ). k < count) (same_Some n m is) (ltb-true n count lt))

-- a function type that isn't async, with these results
pub record IsHost (t : TypeTable) (type : ℕ) (results : List InterfaceType) : Type 0 where
  pub func : TypeFunc
  pub found : slice_get t.funcs type ≡ Some func
  pub sync : func.async_ ≡ false
  pub tuple : slice_get t.definitions func.results ≡ Some (TupleType results)

-- an import stands over a table, and has its answers
abbrev pub IsTaken : TypeTable → Import → List HostAnswer → Type 0
IsTaken t (import.Host type options) answers = (results : List InterfaceType) × IsHost t type results × (options ≡ 0) × AllByRecursion (IsAnswer (Some (length results))) answers
IsTaken t (import.ResourceNew r) answers = HasResource t r × (answers ≡ [])
IsTaken t (import.ResourceRep r) answers = HasResource t r × (answers ≡ [])
IsTaken t (import.ResourceDrop r) answers = HasResource t r × (answers ≡ [])

abbrev pub AreTaken : TypeTable → List Import → List (List HostAnswer) → Type 0
AreTaken t [] [] = Unit {0}
AreTaken t [] (a ∷ gs) = ⊥
AreTaken t (i ∷ is) [] = ⊥
AreTaken t (i ∷ is) (a ∷ gs) = IsTaken t i a × AreTaken t is gs

taken_more : (t : TypeTable) (is : List Import) (gs : List (List HostAnswer)) (i : Import) (a : List HostAnswer) → AreTaken t is gs → IsTaken t i a → AreTaken t (is ++ i ∷ []) (gs ++ a ∷ [])
taken_more t [] [] i a h x = (x, tt)
taken_more t [] (b ∷ gs) i a h x = absurd h
taken_more t (j ∷ is) [] i a h x = absurd h
taken_more t (j ∷ is) (b ∷ gs) i a h x = (h.0, taken_more t is gs i a h.1 x)

-- ---- what it comes to

results_are : (t : TypeTable) (type : ℕ) (results : List InterfaceType) → IsHost t type results → func_result_count t type ≡ Some (length results)
results_are t type results h =
    ap (option_map (λ f. length (option_map_or tuple_types (slice_get t.definitions f.results) []))) h.found ∙ ap (λ d. Some (length (option_map_or tuple_types d []))) h.tuple

stands : (t : TypeTable) (i : Import) (a : List HostAnswer) → IsTaken t i a → ImportStands t i
stands t (import.Host type options) a h =
    (slice_get_within t.funcs type h.1.func h.1.found, subst (λ o. IfSome o (λ (f : TypeFunc). f.async_ ≡ false)) (sym h.1.found) h.1.sync, h.2)
stands t (import.ResourceNew r) a h = h.0
stands t (import.ResourceRep r) a h = h.0
stands t (import.ResourceDrop r) a h = h.0

answered : (t : TypeTable) (i : Import) (a : List HostAnswer) → IsTaken t i a → HasAnswers t i a
answered t (import.Host type options) a h =
    All-from_recursion (IsAnswer (func_result_count t type)) a (subst (λ o. AllByRecursion (IsAnswer o) a) (sym (results_are t type h.0 h.1)) h.3)
answered t (import.ResourceNew r) a h = h.1
answered t (import.ResourceRep r) a h = h.1
answered t (import.ResourceDrop r) a h = h.1

stand : (t : TypeTable) (is : List Import) (gs : List (List HostAnswer)) → AreTaken t is gs → AllByRecursion (ImportStands t) is
stand t [] gs h = tt
stand t (i ∷ is) [] h = absurd h
stand t (i ∷ is) (a ∷ gs) h = (stands t i a h.0, stand t is gs h.1)

pub all_stand : (t : TypeTable) (is : List Import) (gs : List (List HostAnswer)) → AreTaken t is gs → All (ImportStands t) is
all_stand t is gs h = All-from_recursion (ImportStands t) is (stand t is gs h)

pub all_answered : (t : TypeTable) (is : List Import) (gs : List (List HostAnswer)) → AreTaken t is gs → HaveAnswers t is gs
all_answered t [] [] h = tt
all_answered t [] (a ∷ gs) h = h
all_answered t (i ∷ is) [] h = h
all_answered t (i ∷ is) (a ∷ gs) h = (answered t i a h.0, all_answered t is gs h.1)

-- ---- one function type more

module _ (t : TypeTable) (params results : List InterfaceType) where
  abbrev grown : TypeTable
  grown = with_func t params results false

  host_stays : (type : ℕ) (rs : List InterfaceType) → IsHost t type rs → IsHost grown type rs
  host_stays type rs h = record {
    func = h.func;
    found = kept t.funcs _ type h.func h.found;
    sync = h.sync;
    tuple = kept (t.definitions ++ TupleType params ∷ []) _ h.func.results (TupleType rs) (kept t.definitions _ h.func.results (TupleType rs) h.tuple);
  }

  stays : (i : Import) (a : List HostAnswer) → IsTaken t i a → IsTaken grown i a
  stays (import.Host type options) a h = (h.0, host_stays type h.0 h.1, h.2, h.3)
  stays (import.ResourceNew r) a h = h
  stays (import.ResourceRep r) a h = h
  stays (import.ResourceDrop r) a h = h

  stay : (is : List Import) (gs : List (List HostAnswer)) → AreTaken t is gs → AreTaken grown is gs
  stay [] [] h = tt
  stay [] (a ∷ gs) h = h
  stay (i ∷ is) [] h = h
  stay (i ∷ is) (a ∷ gs) h = (stays i a h.0, stay is gs h.1)

  host_added : IsHost grown (length t.funcs) results
  host_added =
      let first : List _ = t.definitions ++ TupleType params ∷ [] in
      record {
        func = record { params = length t.definitions; results = length t.definitions + 1; async_ = false };
        found = last t.funcs _;
        sync = refl;
        tuple = ap (slice_get (first ++ TupleType results ∷ [])) (sym (length-append t.definitions (TupleType params ∷ []))) ∙ last first (TupleType results);
      }

-- ---- reading

answer_sound : (results : ℕ) (d : Data) (a : HostAnswer) → host_answer_of results d ≡ Some a → IsAnswer (Some results) a
answer_sound results null a e = absurd (cc)
answer_sound results (boolean b) a e = absurd (cc)
answer_sound results (number n) a e = absurd (cc)
answer_sound results (string word) a e = by_test (pointwise nat_eq word (codes "refuse")) (Some None) a e (λ is same. subst (IsAnswer (Some results)) (same_Some None a same) tt)
answer_sound results (array ds) a e = option_and_then_some (if_many results) (each plain_value_of ds) a e (λ xs s h.
    by_test (nat_eq (length xs) results) (Some (Some xs)) a h (λ is same. subst (IsAnswer (Some results)) (same_Some (Some xs) a same) (ap Some (sym (eqb-true (length xs) results is)))))
answer_sound results (object ms) a e = absurd (cc)

abbrev HasImportParts : HostParts → Type 0
HasImportParts h = AllByRecursion (IsAnswer (Some (length h.results))) h.answers

host_sound : (types : List InterfaceType) (d : Data) (h : HostParts) → host_of types d ≡ Some h → HasImportParts h
host_sound types d h e =
    option_and_then_some _ (option_and_then (each_of (reference_of types)) (get (codes "params") d)) h e (λ params s1 e1.
    option_and_then_some _ (option_and_then (each_of (reference_of types)) (get (codes "results") d)) h e1 (λ results s2 e2.
    by_map (host_with params results) (option_and_then (each_of (host_answer_of (length results))) (get (codes "answers") d)) h e2 (λ answers s3 is.
    option_and_then_some (each_of (host_answer_of (length results))) (get (codes "answers") d) answers s3 (λ x s4 e4.
    option_and_then_some (each (host_answer_of (length results))) (as_array x) answers e4 (λ ds s5 e5.
    subst HasImportParts is (each_all (IsAnswer (Some (length results))) (host_answer_of (length results)) (answer_sound (length results)) ds answers e5))))))

builtin_over : (t : TypeTable) (r : ℕ) (word : List ℕ) (i : Import) → r < length t.resources → builtin_by r word ≡ Some i → IsTaken t i []
builtin_over t r word i known e = by_word (pointwise nat_eq word (codes "new")) (pointwise nat_eq word (codes "rep")) (pointwise nat_eq word (codes "drop")) e
  where
    by_word : (new rep drop : Bool) → (if new then Some (import.ResourceNew r) else (if rep then Some (import.ResourceRep r) else (if drop then Some (import.ResourceDrop r) else None))) ≡ Some i → IsTaken t i []
    by_word true rep drop e = subst (λ x. IsTaken t x []) (same_Some (import.ResourceNew r) i e) (known, refl)
    by_word false true drop e = subst (λ x. IsTaken t x []) (same_Some (import.ResourceRep r) i e) (known, refl)
    by_word false false true e = subst (λ x. IsTaken t x []) (same_Some (import.ResourceDrop r) i e) (known, refl)
    by_word false false false e = absurd (cc)

builtin_sound : (t : TypeTable) (d : Data) (i : Import) → builtin_import_of t d ≡ Some i → IsTaken t i []
builtin_sound t d i e =
    by_test (has_len 2 (as_object d)) _ i e (λ two e1.
    option_and_then_some (λ r. option_and_then (builtin_by r) (option_and_then as_str (get (codes "builtin") d))) (option_and_then (known_resource t) (option_and_then u32_of (get (codes "resource") d))) i e1 (λ r s1 e2.
    option_and_then_some (known_resource t) (option_and_then u32_of (get (codes "resource") d)) r s1 (λ n s2 e3.
    option_and_then_some (builtin_by r) (option_and_then as_str (get (codes "builtin") d)) i e2 (λ word s3 e4.
    builtin_over t r word i (below (length t.resources) n r e3) e4))))

-- the first functions of the table, of which there are so many, stay, and each import is taken
pub record AreImports (count : ℕ) (m : Imported) : Type 0 where
  pub funcs : count ≤ length m.table.funcs
  pub taken : AreTaken m.table m.imports m.answers

host_keeps : (count : ℕ) (m n : Imported) (h : HostParts) → AreImports count m → HasImportParts h → with_host m h ≡ Some n → AreImports count n
host_keeps count m n h are parts e =
    let t = grown m.table h.params h.results in
    let i = import.Host (length m.table.funcs) 0 in
    let longer = length-append m.table.funcs (record { params = length m.table.definitions; results = length m.table.definitions + 1; async_ = false } ∷ []) in
    subst (AreImports count) (accepted_is (func_refusal m.table h.params h.results) (with_import m t i h.answers) n e) (record {
      funcs = omega (arith, are.funcs, longer);
      taken = taken_more t m.imports m.answers i h.answers (stay m.table h.params h.results m.imports m.answers are.taken) (h.results, host_added m.table h.params h.results, refl, parts);
    })

builtin_keeps : (count : ℕ) (m n : Imported) (i : Import) → AreImports count m → IsTaken m.table i [] → with_builtin m i ≡ n → AreImports count n
builtin_keeps count m n i are taken is = subst (AreImports count) is (record {
  funcs = are.funcs;
  taken = taken_more m.table m.imports m.answers i [] are.taken taken;
})

pub import_keeps : (count : ℕ) (types : List InterfaceType) (m n : Imported) (d : Data) → AreImports count m → add_import types m d ≡ Some n → AreImports count n
import_keeps count types m n d are e = by_cases (has_len 3 (as_object d)) e
  where
    by_cases : (b : Bool) → (if b then option_and_then (with_host m) (host_of types d) else option_map (with_builtin m) (builtin_import_of m.table d)) ≡ Some n → AreImports count n
    by_cases true e = option_and_then_some (with_host m) (host_of types d) n e (λ h s more. host_keeps count m n h are (host_sound types d h s) more)
    by_cases false e = by_map (with_builtin m) (builtin_import_of m.table d) n e (λ i s is. builtin_keeps count m n i are (builtin_sound m.table d i s) is)

-- ---- of one import

pub has_answers : (t : TypeTable) (is : List Import) (gs : List (List HostAnswer)) (n : ℕ) (i : Import) (g : List HostAnswer) → HaveAnswers t is gs → slice_get is n ≡ Some i → slice_get gs n ≡ Some g → HasAnswers t i g
has_answers t [] gs n i g h e d = absurd (cc)
has_answers t (j ∷ is) [] n i g h e d = absurd h
has_answers t (j ∷ is) (k ∷ gs) zero i g h e d = subst (λ x. HasAnswers t x g) (same_Some j i e) (subst (λ x. HasAnswers t j x) (same_Some k g d) h.0)
has_answers t (j ∷ is) (k ∷ gs) (suc n) i g h e d = has_answers t is gs n i g h.1 e d

-- what a function of the host answers, where it doesn't refuse, is as many values as its type has results
pub answer_fits : (t : TypeTable) (is : List Import) (gs : List (List HostAnswer)) (n k type options : ℕ) (xs : List Literal) → HaveAnswers t is gs → slice_get is n ≡ Some (import.Host type options) → answer_after gs n k ≡ Some xs
    → func_result_count t type ≡ Some (length xs)
answer_fits t is gs n k type options xs h e d =
    option_and_then_some (λ a. a) (option_and_then (λ given. slice_get given k) (slice_get gs n)) xs d (λ a s1 e1.
    option_and_then_some (λ given. slice_get given k) (slice_get gs n) a s1 (λ given s2 e2.
    let all = has_answers t is gs n (import.Host type options) given h e s2 in
    let at : get_or given k a ≡ a = get_or_from_slice_get given k a a e2 in
    subst (IsAnswer (func_result_count t type)) (at ∙ e1) (all k a (slice_get_within given k a e2))))
