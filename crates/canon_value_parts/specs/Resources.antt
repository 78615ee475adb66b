-- The resources in values, in the order in which they are lowered and lifted: depth first.
use Rattle.std.specs.Prelude.{◌==◌, ◌++◌, ◌≡◌, ◌⊎◌, Err, IfErr, IfOk, List, Ok, Option, Result, Some, [], ◌∷◌, false, flat_map, if◌then◌else◌, length, map, nat_eq, string_bytes, suc, true, ℕ}
use Rattle.std.specs.Cmp.Lexicographic.{pointwise}
use Rattle.canon_context.specs.declared.fault.Fault.{Fault}
use Rattle.canon_context.specs.declared.fault.Fault.TheVariants as fault
use Rattle.canon_resources.specs.Parts.{PassedResource, passed, refusal_of}
use Rattle.canon_ledger.specs.Ledger.{LedgerState}
use Rattle.canon_ledger.specs.declared.fault.ResourceFault.{ResourceFault}
use Rattle.canon_lowering.specs.Copies.{case_members, copies}
use Rattle.canon_model.specs.Leaves.{Leaf}
use Rattle.canon_model.specs.Shape.{Members, Name, Shape, borrow, fixed, list, member, member_count, no_members, of_cases, of_fields, of_items, of_option, of_pairs, of_places, of_result, own, product, variant}
use Rattle.canon_plan.specs.Element.{row_of}
use Rattle.canon_resources.specs.Held.{Any}
use Rattle.canon_types.specs.Instance.{Instance}
use Rattle.canon_val.specs.Value.{case_names}
use Rattle.canon_val.specs.declared.val.Val.{Val, fold-Val}
use Rattle.canon_val.specs.declared.val.Val.TheOpen.{Val-F}
use Rattle.canon_val.specs.declared.val.Val.TheVariants as val
use Rattle.canon_passing.specs.Passed.{LiftsHandles}

-- ---- of values alone

abbrev pub joined : {A : Type 0} → List (List A) → List A
joined xss = flat_map (λ xs. xs) xss

abbrev pub resources_step : Val-F (List Any) → List Any
resources_step (Val-F.Resource x) = x ∷ []
resources_step (Val-F.Record fields) = joined (map (λ f. f.1) fields.items)
resources_step (Val-F.Tuple members) = joined members.items
resources_step (Val-F.List members) = joined members.items
resources_step (Val-F.FixedLengthList members) = joined members.items
resources_step (Val-F.Map pairs) = joined (map (λ p. p.0 ++ p.1) pairs.items)
resources_step (Val-F.Variant name (Some b)) = b.value
resources_step (Val-F.Option (Some b)) = b.value
resources_step (Val-F.Result (Ok (Some b))) = b.value
resources_step (Val-F.Result (Err (Some b))) = b.value
resources_step _ = []

abbrev pub resources : Val → List Any
resources = fold-Val (List Any) resources_step

abbrev pub all_resources : List Val → List Any
all_resources vs = joined (map resources vs)

-- ---- where handles are wanted

-- where members of these shapes are wanted: what each passes where its shape is, one after the other
abbrev pub row_passes : Members → List (Shape → List PassedResource) → List PassedResource
row_passes no_members fs = []
row_passes (member name s ms) [] = []
row_passes (member name s ms) (f ∷ fs) = f s ++ row_passes ms fs

-- the same where there are as many
abbrev pub full_passes : Members → List (Shape → List PassedResource) → List PassedResource
full_passes ms fs = if length fs == member_count ms then row_passes ms fs else []

-- the place of a name among names: the first, or how many there are
abbrev pub place_in : Name → List Name → ℕ
place_in name [] = 0
place_in name (n ∷ ns) = if pointwise nat_eq name n then 0 else suc (place_in name ns)

-- keys and values by turns
abbrev pub turns_of : {A : Type 0} → List (A × A) → List A
turns_of [] = []
turns_of (p ∷ ps) = p.0 ∷ p.1 ∷ turns_of ps

-- What a value passes where a type is wanted: the resources that stand where handles are, below parts that have the shape of
-- their types. A part that hasn't passes nothing.
abbrev pub passes_step : Val-F (Shape → List PassedResource) → Shape → List PassedResource
passes_step (Val-F.Resource x) (own r) = passed true r x ∷ []
passes_step (Val-F.Resource x) (borrow r) = passed false r x ∷ []
passes_step (Val-F.Record fields) (product of_fields ms) = full_passes ms (map (λ f. f.1) fields.items)
passes_step (Val-F.Tuple members) (product of_places ms) = full_passes ms members.items
passes_step (Val-F.FixedLengthList members) (fixed n s) = full_passes (copies n s) members.items
passes_step (Val-F.List members) (list of_items s) = row_passes (copies (length members.items) s) members.items
passes_step (Val-F.Map pairs) (list of_pairs s) = row_passes (row_of (list of_pairs s) (length pairs.items)) (turns_of pairs.items)
passes_step (Val-F.Variant name (Some b)) (variant of_cases cs) = row_passes (case_members cs (place_in (string_bytes name) (case_names cs))) (b.value ∷ [])
passes_step (Val-F.Option (Some b)) (variant of_option cs) = row_passes (case_members cs 1) (b.value ∷ [])
passes_step (Val-F.Result (Ok (Some b))) (variant of_result cs) = row_passes (case_members cs 0) (b.value ∷ [])
passes_step (Val-F.Result (Err (Some b))) (variant of_result cs) = row_passes (case_members cs 1) (b.value ∷ [])
passes_step _ _ = []

abbrev pub passes : Val → Shape → List PassedResource
passes = fold-Val (Shape → List PassedResource) passes_step

-- values in a row, as members of these shapes
abbrev pub all_passes : Members → List Val → List PassedResource
all_passes ms vs = row_passes ms (map passes vs)

-- ---- through the ledger

-- the value is the resource that the host was given for a handle of the guest, or why not; nothing but the ledger changed
pub record TakesHandle (types : Instance) (before after : LedgerState) (l : Leaf) (result : Result Val Fault) : Type 0 where
  pub lifts : LiftsHandles resources types before after (l ∷ []) result
  pub is : IfOk result (λ v. (x : Any) × (v ≡ val.Resource x))
  pub refusal : IfErr result (λ e. (e ≡ fault.OutOfMemory) ⊎ ((r : ResourceFault) × (e ≡ fault.Resource r) × (refusal_of r ≡ Some r)))
