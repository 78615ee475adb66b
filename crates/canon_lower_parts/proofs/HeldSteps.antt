-- Resources that the host holds, on their way through the ledger.
use Rattle.std.proofs.Common.{◌≡◌, ◌∙◌, ◌∷◌, ◌⊎◌, Bool, Err, List, None, Ok, Option, Result, [], ap, false, if◌then◌else◌, inl, inr, refl, subst, sym, true, zero, ℕ}
use Rattle.canon_handles.specs.Step.{and_then}
use Rattle.canon_resources.proofs.Moves.{moves_both, moves_one, leaf_stopped}
use Rattle.canon_resources.specs.Parts.{LeafMoves, Part, Stops, TakesParts, borrow_parts, do_part, host_own, is_defined_here, is_of_type, lend_host, lend_inserted, lower_parts, own_in, passed, refusal_of, refuse, table_for, tell}
use Rattle.canon_handles.specs.declared.handle.TypedResource.TheVariants.{Component, Host}
use Rattle.canon_ledger.specs.Handles as handles
use Rattle.canon_ledger.specs.Handles.{StepAnswer, host_table, top_scope}
use Rattle.canon_ledger.specs.Index.{GivenIndex}
use Rattle.canon_ledger.specs.Ledger.{Did, Done, HostLiftBorrow, LedgerState, do_step, given, host_resource_lower_own, inserting, resource_new}
use Rattle.canon_ledger.specs.declared.fault.ResourceFault.{ResourceFault}
use Rattle.canon_ledger.specs.declared.fault.ResourceFault.TheVariants as fault
use Rattle.canon_lower_parts.specs.Handles.{held_parts, host_parts, lent_in}
use Rattle.canon_resources.specs.Held.{any}
use Rattle.canon_resources.specs.declared.any.ResourceAnyHandle.TheVariants as handle
use Rattle.canon_resources.specs.declared.host.ResourceState.{ResourceState}
use Rattle.canon_resources.specs.declared.host.ResourceState.TheVariants as state
use Rattle.canon_types.specs.Instance.{Instance}
use Rattle.canon_types.specs.Resource.{resource_type_at}
use Rattle.canon_types.specs.declared.resource.ResourceType.{ResourceType}

-- an index of the host's table in a generation
abbrev index_in : ℕ → ℕ → GivenIndex
index_in g j = record { index = j; generation = g }

-- ---- by the type, and where the handle is

refuses : (l : LedgerState) (e : ResourceFault) → LeafMoves l l (refuse e ∷ []) (Err e)
refuses l e = moves_one l l (refuse e) (Err e) (λ last. inl (refl, refl))

module _ (i : Instance) (r : ℕ) (kind : ResourceType) (rep : ℕ) (l n : LedgerState) where
  abbrev pub IsOf : Bool → Type 0
  IsOf b = is_of_type (resource_type_at i r) kind ≡ b

  abbrev pub Moved : Bool → ResourceState → LedgerState → Result ℕ ResourceFault → Type 0
  Moved owned st m q = LeafMoves l m (held_parts owned i r kind st rep) q

  pub other_type : (owned : Bool) (st : ResourceState) → IsOf false → Moved owned st l (Err fault.ResourceTypeMismatch)
  other_type owned st e = subst (λ (b : Bool). LeafMoves l l (if b then host_parts owned i r st rep else refuse fault.ResourceTypeMismatch ∷ []) (Err fault.ResourceTypeMismatch)) (sym e) (refuses l fault.ResourceTypeMismatch)

  of_type : (owned : Bool) (st : ResourceState) (m : LedgerState) (q : Result ℕ ResourceFault) → IsOf true → LeafMoves l m (host_parts owned i r st rep) q → Moved owned st m q
  of_type owned st m q e h = subst (λ (b : Bool). LeafMoves l m (if b then host_parts owned i r st rep else refuse fault.ResourceTypeMismatch ∷ []) q) (sym e) h

  pub taken_refused : (owned : Bool) (st : ResourceState) → st ≡ state.Taken → IsOf true → Moved owned st l (Err fault.HostConsumed)
  taken_refused owned st is e = subst (λ (x : ResourceState). Moved owned x l (Err fault.HostConsumed)) (sym is) (of_type owned state.Taken l (Err fault.HostConsumed) e (at owned))
    where
      at : (b : Bool) → LeafMoves l l (host_parts b i r state.Taken rep) (Err fault.HostConsumed)
      at true = refuses l fault.HostConsumed
      at false = refuses l fault.HostConsumed

  pub borrow_refused : (st : ResourceState) → st ≡ state.Borrow → IsOf true → Moved true st l (Err fault.BorrowAsOwn)
  borrow_refused st is e = subst (λ (x : ResourceState). Moved true x l (Err fault.BorrowAsOwn)) (sym is) (of_type true state.Borrow l (Err fault.BorrowAsOwn) e (refuses l fault.BorrowAsOwn))

  pub own_given : (st : ResourceState) (q : Result ℕ ResourceFault) → st ≡ state.NotInTable → IsOf true → Did (resource_new l (table_for i r) (Component r rep)) q l n → Moved true st n q
  own_given st q is e did = subst (λ (x : ResourceState). Moved true x n q) (sym is) (of_type true state.NotInTable n q e (moves_both l l n (tell rep) (own_in (table_for i r) r) rep (λ last. (refl, refl)) q did))

  -- as a resource of any type with this handle
  pub own_moved : (st : ResourceState) (x : GivenIndex) (q : Result ℕ ResourceFault) → st ≡ state.Index x → LeafMoves l n (lower_parts i (passed true r (any (handle.Own x) kind))) q → Moved true st n q
  own_moved st x q is h = subst (λ (y : ResourceState). Moved true y n q) (sym is) h

-- ---- one that is in no table is put into the host's, and lent from there

generation_kept : (q : StepAnswer ℕ) (l : LedgerState) → (inserting zero None None q l).after.host.generation ≡ l.host.generation
generation_kept (Ok (j, h)) l = refl
generation_kept (Err e) l = refl

given_ok : (q : Result ℕ ResourceFault) (g : ℕ) (x : GivenIndex) → and_then q (λ j. Ok (index_in g j)) ≡ Ok x → (q ≡ Ok x.index) × (x ≡ index_in g x.index)
given_ok (Ok j) g x e = let same : index_in g j ≡ x = cc in (ap (λ (y : GivenIndex). Ok y.index) same, sym same ∙ ap (λ (y : GivenIndex). index_in g y.index) same)
given_ok (Err f) g x e = cc

given_not : (q : Result ℕ ResourceFault) (g : ℕ) (e : ResourceFault) → and_then q (λ j. Ok (index_in g j)) ≡ Err e → q ≡ Err e
given_not (Ok j) g e h = cc
given_not (Err f) g e h = let same : f ≡ e = cc in ap (λ (x : ResourceFault). Err x) same

lent_parts : (here : Bool) (p r : ℕ) (x : GivenIndex) → borrow_parts here p r (handle.Own x) ≡ lend_host x ∷ lent_in here p r
lent_parts true p r x = refl
lent_parts false p r x = refl

module _ (rep : ℕ) (l m : LedgerState) (x : GivenIndex) (inserted : Did (given l (host_resource_lower_own l rep None None)) (Ok x) l m) where
  answered : (host_resource_lower_own l rep None None).answer ≡ Ok x.index
  answered = (given_ok (host_resource_lower_own l rep None None).answer l.host.generation x inserted.0).0

  index : x ≡ index_in m.host.generation x.index
  index = (given_ok (host_resource_lower_own l rep None None).answer l.host.generation x inserted.0).1
      ∙ ap (λ (g : ℕ). index_in g x.index) (sym (ap (λ (k : LedgerState). k.host.generation) inserted.1 ∙ generation_kept (handles.resource_new l.handles host_table (Host rep)) l))

  -- it is lent as what was just inserted
  same_step : do_step (HostLiftBorrow (top_scope m.handles) x) m ≡ do_part x.index lend_inserted m
  same_step = ap (λ (y : GivenIndex). do_step (HostLiftBorrow (top_scope m.handles) y) m) index

  takes : (rest : List Part) (answers : List ℕ) (n : LedgerState) → TakesParts x.index m (lend_host x ∷ rest) answers n → TakesParts x.index m (lend_inserted ∷ rest) answers n
  takes rest answers n h = subst (λ (d : Done ℕ). (a : ℕ) × (more : List ℕ) × (answers ≡ a ∷ more) × (d.answer ≡ Ok a) × TakesParts a d.after rest more n) same_step h

  stops : (why : Option ResourceFault) (rest : List Part) (n : LedgerState) → Stops why x.index m (lend_host x ∷ rest) n → Stops why x.index m (lend_inserted ∷ rest) n
  stops why rest n h = subst (λ (d : Done ℕ). ((why ≡ None) × (n ≡ m)) ⊎ ((e : ResourceFault) × (why ≡ refusal_of e) × (d.answer ≡ Err e) × (n ≡ d.after)) ⊎ ((a : ℕ) × (d.answer ≡ Ok a) × Stops why a d.after rest n)) same_step h

  pub lent_after : (rest : List Part) (n : LedgerState) (q : Result ℕ ResourceFault) → LeafMoves m n (lend_host x ∷ rest) q → LeafMoves l n (tell rep ∷ host_own None None ∷ lend_inserted ∷ rest) q
  lent_after rest n (Ok h) k = record {
    answers = rep ∷ x.index ∷ k.answers;
    takes = λ last. (rep, x.index ∷ k.answers, refl, refl, (x.index, k.answers, refl, answered, subst (λ (z : LedgerState). TakesParts x.index z (lend_inserted ∷ rest) k.answers n) inserted.1 (takes rest k.answers n (k.takes x.index))));
    handle = λ last. k.handle x.index;
  }
  lent_after rest n (Err e) k = λ last. inr (inr (rep, refl, inr (inr (x.index, answered, subst (λ (z : LedgerState). Stops (refusal_of e) x.index z (lend_inserted ∷ rest) n) inserted.1 (stops (refusal_of e) rest n (k x.index))))))

module _ (i : Instance) (r : ℕ) (kind : ResourceType) (rep : ℕ) (l n : LedgerState) (st : ResourceState) (is : st ≡ state.NotInTable) (e : IsOf i r kind rep l n true) where
  fresh : (q : Result ℕ ResourceFault) → LeafMoves l n (host_parts false i r state.NotInTable rep) q → Moved i r kind rep l n false st n q
  fresh q h = subst (λ (x : ResourceState). Moved i r kind rep l n false x n q) (sym is)
      (subst (λ (b : Bool). LeafMoves l n (if b then host_parts false i r state.NotInTable rep else refuse fault.ResourceTypeMismatch ∷ []) q) (sym e) h)

  pub lent_new : (m : LedgerState) (x : GivenIndex) (q : Result ℕ ResourceFault) → Did (given l (host_resource_lower_own l rep None None)) (Ok x) l m → LeafMoves m n (lower_parts i (passed false r (any (handle.Own x) kind))) q
      → Moved i r kind rep l n false st n q
  lent_new m x q inserted moves =
      let here : LeafMoves m n (borrow_parts (is_defined_here i r) (table_for i r) r (handle.Own x)) q =
      subst (λ (b : Bool). LeafMoves m n (if b then borrow_parts (is_defined_here i r) (table_for i r) r (handle.Own x) else refuse fault.ResourceTypeMismatch ∷ []) q) e moves in
      fresh q (lent_after rep l m x inserted (lent_in (is_defined_here i r) (table_for i r) r) n q (subst (λ (ps : List Part). LeafMoves m n ps q) (lent_parts (is_defined_here i r) (table_for i r) r x) here))

  pub lent_not : (f : ResourceFault) → Did (given l (host_resource_lower_own l rep None None)) (Err f) l n → Moved i r kind rep l n false st n (Err f)
  lent_not f did = fresh (Err f) (λ last. inr (inr (rep, refl, leaf_stopped rep (host_own None None) (lend_inserted ∷ lent_in (is_defined_here i r) (table_for i r) r) l n f (one did))))
    where
      one : Did (given l (host_resource_lower_own l rep None None)) (Err f) l n → Did (host_resource_lower_own l rep None None) (Err f) l n
      one (inl d) = inl (given_not (host_resource_lower_own l rep None None).answer l.host.generation f d.0, d.1)
      one (inr d) = inr d
