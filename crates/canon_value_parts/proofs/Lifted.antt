-- Handles among values that are lifted one after another: what is left of the leaves completes what was done.
use Rattle.std.proofs.Common.{Err, IfErr, IfOk, List, None, Ok, Option, Result, [], ap, append-nil, append_assoc, map, refl, subst, sym, ◌++◌, ◌∙◌, ◌∷◌, ◌≡◌}
use Rattle.std.proofs.lemmas.Grind.{flat_map-append}
use Rattle.std.proofs.lemmas.List.{map-append}
use Rattle.std.specs.Result.{IsErr, IsErrAnd}
use Rattle.canon_context.proofs.Told.{handed_to}
use Rattle.canon_context.specs.Told.{IsNoRefusal}
use Rattle.canon_context.specs.declared.fault.Fault.{Fault}
use Rattle.canon_context.specs.declared.fault.Fault.TheVariants as fault
use Rattle.canon_resources.proofs.Leaves.{leaves_stop_first, leaves_stop_then, stops_at_once}
use Rattle.canon_resources.proofs.Lifts.{lifts_none, lifts_take, lifts_then}
use Rattle.canon_resources.specs.Parts.{LeavesLift, LeavesStop, Part, lift_parts}
use Rattle.canon_ledger.specs.Ledger.{LedgerState}
use Rattle.canon_ledger.specs.declared.fault.ResourceFault.{ResourceFault}
use Rattle.canon_model.specs.Leaves.{Leaf}
use Rattle.canon_resources.specs.Held.{Any}
use Rattle.canon_types.specs.Instance.{Instance}
use Rattle.canon_passing.specs.Passed.{LiftsHandles}
use Rattle.canon_value_parts.specs.Resources.{all_resources, joined, resources}
use Rattle.canon_context.specs.Faults.{stop_of}
use Rattle.canon_val.specs.declared.val.Val.{Val}

-- ---- faults

pub no_refusal : (e : Fault) → IsNoRefusal e → stop_of e ≡ None
no_refusal (fault.Resource r) h = absurd h
no_refusal (fault.PointerMisaligned x) h = refl
no_refusal (fault.PointerOutOfBounds x) h = refl
no_refusal (fault.InvalidUtf8 x) h = refl
no_refusal (fault.InvalidUtf16 x) h = refl
no_refusal (fault.InvalidChar x) h = refl
no_refusal (fault.BadDiscriminant x n) h = refl
no_refusal fault.HostcallFuelExhausted h = refl
no_refusal fault.OutOfMemory h = refl
no_refusal (fault.TypeMismatch k) h = refl
no_refusal (fault.FieldName k) h = refl
no_refusal (fault.UnknownCase k) h = refl
no_refusal (fault.UnknownFlag k) h = refl
no_refusal (fault.PayloadExpected k) h = refl
no_refusal (fault.PayloadNotExpected k) h = refl
no_refusal (fault.LengthMismatch k) h = refl
no_refusal (fault.StringTooLong n) h = refl
no_refusal (fault.SizeOverflow n) h = refl
no_refusal (fault.ReallocMisaligned a) h = refl
no_refusal (fault.ReallocOutOfBounds a) h = refl
no_refusal fault.GuestTrap h = refl

-- ---- values in a row

pub resources_more : (vs : List Val) (v : Val) → all_resources (vs ++ v ∷ []) ≡ all_resources vs ++ resources v
resources_more vs v =
    ap (λ xss. joined xss) (map-append resources vs (v ∷ [])) ∙ flat_map-append (λ xs. xs) (map resources vs) (resources v ∷ []) ∙ ap (λ xs. all_resources vs ++ xs) (append-nil (resources v))

-- ---- leaves

module _ (types : Instance) where
  abbrev pub parts_of_leaves : List Leaf → List (List Part)
  parts_of_leaves leaves = map (lift_parts types) leaves

  -- it stopped without a refusal, before anything or after all
  pub stops_before : (l n : LedgerState) (leaves : List Leaf) (e : Fault) → stop_of e ≡ None → n ≡ l → LeavesStop (stop_of e) l (parts_of_leaves leaves) n
  stops_before l n leaves e q same = subst (λ (why : Option ResourceFault). LeavesStop why l (parts_of_leaves leaves) n) (sym q) (stops_at_once l n (parts_of_leaves leaves) same)

  pub stops_after : (l n : LedgerState) (leaves : List Leaf) (xs : List Any) (e : Fault) → stop_of e ≡ None → LeavesLift types l leaves xs n → LeavesStop (stop_of e) l (parts_of_leaves leaves) n
  stops_after l n leaves xs e q h =
      let (hs, took) = lifts_take types l n leaves xs h in
      subst (λ (why : Option ResourceFault). LeavesStop why l (parts_of_leaves leaves) n) (sym q)
      (subst (λ (ps : List (List Part)). LeavesStop None l ps n) (append-nil (parts_of_leaves leaves)) (leaves_stop_then None l n n (parts_of_leaves leaves) [] hs took refl))

  -- where no handle is reached the ledger is as it was
  pub lifts_nothing : {T : Type 0} (its : T → List Any) (l n : LedgerState) (leaves : List Leaf) (r : Result T Fault) → leaves ≡ [] → n ≡ l → IfOk r (λ x. its x ≡ []) → IfErr r (λ e. stop_of e ≡ None)
      → LiftsHandles its types l n leaves r
  lifts_nothing its l n leaves (Ok x) none same has err =
      subst (λ (ls : List Leaf). LeavesLift types l ls (its x) n) (sym none) (subst (λ (xs : List Any). LeavesLift types l [] xs n) (sym has) (subst (λ (k : LedgerState). LeavesLift types l [] [] k) (sym same) (lifts_none types l)))
  lifts_nothing its l n leaves (Err e) none same has err = stops_before l n leaves e err same

  -- a refusal before anything
  pub refused_before : {T : Type 0} (its : T → List Any) (l : LedgerState) (leaves : List Leaf) (r : Result T Fault) (e : Fault) → IsErr r × IsErrAnd r (λ x. x ≡ e) → stop_of e ≡ None → LiftsHandles its types l l leaves r
  refused_before its l leaves r e h q = handed_to (λ x. LiftsHandles its types l l leaves x) r e h (stops_before l l leaves e q refl)

  -- a fault after all leaves
  pub refused_after : {T : Type 0} (its : T → List Any) (l n : LedgerState) (leaves : List Leaf) (xs : List Any) (r : Result T Fault) (e : Fault) → IsErr r × IsErrAnd r (λ x. x ≡ e) → stop_of e ≡ None
      → LeavesLift types l leaves xs n → LiftsHandles its types l n leaves r
  refused_after its l n leaves xs r e h q lifted = handed_to (λ x. LiftsHandles its types l n leaves x) r e h (stops_after l n leaves xs e q lifted)

  -- what is put together of values has their resources, or memory was wanted
  pub put_together : (l n : LedgerState) (leaves : List Leaf) (vs : List Val) (r : Result Val Fault) → LeavesLift types l leaves (all_resources vs) n → IfOk r (λ v. resources v ≡ all_resources vs) → IfErr r (λ e. e ≡ fault.OutOfMemory)
      → LiftsHandles resources types l n leaves r
  put_together l n leaves vs (Ok v) h made only = subst (λ (xs : List Any). LeavesLift types l leaves xs n) (sym made) h
  put_together l n leaves vs (Err e) h made only = stops_after l n leaves (all_resources vs) e (ap stop_of only) h

  -- ---- the walk over a row

  -- What is left of all leaves, `rest`, completes what was done; it has these resources.
  pub record IsTaking (before now : LedgerState) (all rest : List Leaf) (xs : List Any) : Type 0 where
    pub done : List Leaf
    pub split : all ≡ done ++ rest
    pub lifted : LeavesLift types before done xs now

  pub taking_begins : (l : LedgerState) (all : List Leaf) → IsTaking l l all all []
  taking_begins l all = record { done = []; split = refl; lifted = lifts_none types l }

  module _ (before now : LedgerState) (all rest : List Leaf) (xs : List Any) (h : IsTaking before now all rest xs) where
    pub taking_ends : rest ≡ [] → LeavesLift types before all xs now
    taking_ends none = subst (λ (ls : List Leaf). LeavesLift types before ls xs now) (sym (h.split ∙ ap (λ ls. h.done ++ ls) none ∙ append-nil h.done)) h.lifted

    -- it stopped in what was left
    pub taking_stops : (why : Option ResourceFault) (after : LedgerState) → LeavesStop why now (parts_of_leaves rest) after → LeavesStop why before (parts_of_leaves all) after
    taking_stops why after one =
        let (hs, took) = lifts_take types before now h.done xs h.lifted in
        subst (λ (ps : List (List Part)). LeavesStop why before ps after) (sym (ap (λ ls. parts_of_leaves ls) h.split ∙ map-append (lift_parts types) h.done rest))
        (leaves_stop_then why before now after (parts_of_leaves h.done) (parts_of_leaves rest) hs took one)

    pub taking_stops_here : {T : Type 0} (its : T → List Any) (r : Result T Fault) (e : Fault) → IsErr r × IsErrAnd r (λ x. x ≡ e) → stop_of e ≡ None → LiftsHandles its types before now all r
    taking_stops_here its r e told q = handed_to (λ x. LiftsHandles its types before now all x) r e told (taking_stops (stop_of e) now (stops_before now now rest e q refl))

    module _ (first more : List Leaf) (is : rest ≡ first ++ more) (after : LedgerState) where
      pub taking_stops_first : {T : Type 0} (its : T → List Any) (r : Result T Fault) (e : Fault) → IsErr r × IsErrAnd r (λ x. x ≡ e) → LeavesStop (stop_of e) now (parts_of_leaves first) after → LiftsHandles its types before after all r
      taking_stops_first its r e told one =
          let whole : LeavesStop (stop_of e) now (parts_of_leaves rest) after =
          subst (λ (ps : List (List Part)). LeavesStop (stop_of e) now ps after) (sym (ap (λ ls. parts_of_leaves ls) is ∙ map-append (lift_parts types) first more))
          (leaves_stop_first (stop_of e) now after (parts_of_leaves first) (parts_of_leaves more) one) in
          handed_to (λ x. LiftsHandles its types before after all x) r e told (taking_stops (stop_of e) after whole)

      pub taking_goes_on : (ys : List Any) → LeavesLift types now first ys after → IsTaking before after all more (xs ++ ys)
      taking_goes_on ys one = record {
        done = h.done ++ first;
        split = h.split ∙ ap (λ ls. h.done ++ ls) is ∙ sym (append_assoc h.done first more);
        lifted = lifts_then types before now after h.done first xs ys h.lifted one;
      }

  -- a value of a row, with the others before it
  pub value_taken : (before now after : LedgerState) (all rest first more : List Leaf) (vs : List Val) (v : Val) → IsTaking before now all rest (all_resources vs) → rest ≡ first ++ more → LeavesLift types now first (resources v) after
      → IsTaking before after all more (all_resources (vs ++ v ∷ []))
  value_taken before now after all rest first more vs v h is one =
      subst (λ (xs : List Any). IsTaking before after all more xs) (sym (resources_more vs v)) (taking_goes_on before now all rest (all_resources vs) h first more is after (resources v) one)
