-- A resource that is put into the host's table and lent from there changes the ledger: there are more live handles.
use Rattle.std.proofs.Common.{◌≡◌, ◌≢◌, ◌≤◌, ◌+◌, ◌∷◌, Bool, Err, List, None, Ok, Option, Result, Some, [], ap, arith, false, if◌then◌else◌, inl, inr, nat_le, subst, suc, sym, true, zero, ℕ}
use Rattle.std.specs.Bool.{⊤}
use Rattle.canon_handles.specs.Calls as table
use Rattle.canon_handles.specs.Step.{and_then, refuse_if}
use Rattle.canon_handles.specs.Table.{Counter, Outcome, Table, entry_at, fresh_index, insert, is_at_limit, is_full, one_more, with_entry, with_new}
use Rattle.canon_handles.specs.declared.error.HandleError.{HandleError}
use Rattle.canon_handles.specs.declared.error.HandleError.TheVariants.{HandleLimit, IndexOverflow, TooManyLends}
use Rattle.canon_handles.specs.declared.handle.Entry.{Entry}
use Rattle.canon_handles.specs.declared.handle.Entry.TheVariants as entry
use Rattle.canon_handles.specs.declared.handle.Scope.TheVariants.{Id}
use Rattle.canon_handles.specs.declared.handle.TypedResource.{TypedResource}
use Rattle.canon_handles.specs.declared.handle.TypedResource.TheVariants.{Component, Host}
use Rattle.canon_handles.specs.declared.handle.TypedResourceIndex.{TypedResourceIndex}
use Rattle.canon_handles.specs.declared.handle.TypedResourceIndex.TheVariants.{Host as HostIndex}
use Rattle.canon_resources.specs.Parts.{LeafMoves, Part, Stops, TakesParts, borrow_in, borrow_parts, do_part, is_defined_here, is_of_type, lend_host, lower_parts, passed, refusal_of, refuse, table_for}
use Rattle.canon_ledger.specs.Handles as handles
use Rattle.canon_ledger.specs.Handles.{Handles, Lender, StepAnswer, borrow_added, finished, host_table, lent, table_at, top_scope}
use Rattle.canon_ledger.specs.Index.{GivenIndex}
use Rattle.canon_ledger.specs.Ledger.{Did, Done, LedgerState, given, host_resource_lower_own, inserting, is_stale, plainly, resource_lift_borrow, unless_stale}
use Rattle.canon_ledger.specs.declared.fault.ResourceFault.{ResourceFault}
use Rattle.canon_ledger.specs.declared.fault.ResourceFault.TheVariants as fault
use Rattle.canon_lower_parts.specs.Handles.{StateAfter}
use Rattle.canon_resources.specs.Held.{any}
use Rattle.canon_resources.specs.declared.any.ResourceAnyHandle.TheVariants as handle
use Rattle.canon_resources.specs.declared.host.ResourceState.{ResourceState}
use Rattle.canon_resources.specs.declared.host.ResourceState.TheVariants as state
use Rattle.canon_types.specs.Instance.{Instance}
use Rattle.canon_types.specs.Resource.{resource_type_at}
use Rattle.canon_types.specs.declared.resource.ResourceType.{ResourceType}

abbrev live : LedgerState → ℕ
live l = l.handles.counter.live

-- ---- where a call is accepted, at least so many are live

abbrev MoreIn : {A : Type 0} → ℕ → Outcome Entry A → Type 0
MoreIn n (Ok (a, t, c)) = n ≤ c.live
MoreIn n (Err e) = ⊤

abbrev More : {A : Type 0} → ℕ → StepAnswer A → Type 0
More n (Ok (a, h)) = n ≤ h.counter.live
More n (Err e) = ⊤

finished_more : {A : Type 0} (n : ℕ) (h : Handles) (p i : ℕ) (o : Outcome Entry A) → MoreIn n o → More n (finished h p i o)
finished_more n h p i (Ok (a, t, c)) m = m
finished_more n h p i (Err e) m = tt

insert_more : (n : ℕ) (t : Table Entry) (c : Counter) (e : Entry) → n ≤ c.live + 1 → MoreIn n (insert t c e)
insert_more n t c e le = go (is_full t) (is_at_limit c)
  where
    go : (a b : Bool) → MoreIn n (refuse_if a IndexOverflow (refuse_if b HandleLimit (Ok (fresh_index t, with_new t e, one_more c))))
    go true b = tt
    go false true = tt
    go false false = le

lend_more : (t : Table Entry) (c : Counter) (idx : TypedResourceIndex) (o : Option Entry) → MoreIn c.live (table.lend_entry t c idx o)
lend_more t c idx None = tt
lend_more t c idx (Some (entry.ResourceOwn resource lends)) = go (table.rep_as idx resource) (nat_le table.most_lends lends) (is_at_limit c)
  where
    go : (q : Result ℕ HandleError) (a b : Bool)
        → MoreIn {A = ℕ × Bool} c.live (and_then q (λ rep. refuse_if a TooManyLends (refuse_if b HandleLimit (Ok ((rep, true), with_entry t (table.raw_index idx) (entry.ResourceOwn resource (lends + 1)), one_more c)))))
    go (Ok rep) true b = tt
    go (Ok rep) false true = tt
    go (Ok rep) false false = omega arith
    go (Err e) a b = tt
lend_more t c idx (Some (entry.ResourceBorrow resource scope)) = go (table.rep_as idx resource)
  where
    go : (q : Result ℕ HandleError) → MoreIn {A = ℕ × Bool} c.live (and_then q (λ rep. Ok ((rep, false), t, c)))
    go (Ok rep) = omega arith
    go (Err e) = tt
lend_more t c idx (Some _) = tt

lent_more : (n k : ℕ) (lender : Lender) (r : StepAnswer (ℕ × Bool)) → More n r → More n (and_then r (lent k lender))
lent_more n k lender (Ok ((rep, true), h)) m = m
lent_more n k lender (Ok ((rep, false), h)) m = m
lent_more n k lender (Err e) m = tt

lift_more : (scope : Option ℕ) (h : Handles) (p : ℕ) (idx : TypedResourceIndex) → More h.counter.live (handles.lift_borrow_in scope h p idx)
lift_more (Some k) h p idx =
    let lends : MoreIn h.counter.live (table.resource_lend (table_at h p) h.counter idx) = lend_more (table_at h p) h.counter idx (entry_at (table_at h p) (table.raw_index idx)) in
    lent_more h.counter.live k (record { table = p; index = idx }) (handles.lending h p idx) (finished_more h.counter.live h p (table.raw_index idx) (table.resource_lend (table_at h p) h.counter idx) lends)
lift_more None h p idx = go (handles.resource_rep h p idx) (table.is_own (entry_at (table_at h p) (table.raw_index idx)))
  where
    go : (q : Result ℕ ResourceFault) (b : Bool) → More h.counter.live (and_then q (λ rep. refuse_if b fault.NoScope (Ok (rep, h))))
    go (Ok rep) true = tt
    go (Ok rep) false = omega arith
    go (Err e) b = tt

lower_more : (scope : Option ℕ) (h : Handles) (p : ℕ) (resource : TypedResource) → More h.counter.live (handles.lower_borrow_in scope h p resource)
lower_more (Some k) h p resource =
    let inserts : MoreIn h.counter.live (table.resource_borrow_insert (table_at h p) h.counter resource (Id k)) = insert_more h.counter.live (table_at h p) h.counter (entry.ResourceBorrow resource (Id k)) (omega arith) in
    go (handles.inserting_borrow h p resource k) (finished_more h.counter.live h p 0 (table.resource_borrow_insert (table_at h p) h.counter resource (Id k)) inserts)
  where
    go : (r : StepAnswer ℕ) → More h.counter.live r → More h.counter.live (and_then r (λ (i, h'). Ok (i, borrow_added h' k)))
    go (Ok (i, h')) m = m
    go (Err e) m = tt
lower_more None h p resource = tt

-- ---- of steps

plain_more : {A : Type 0} (r : StepAnswer A) (l : LedgerState) → More (live l) r → live l ≤ live (plainly r l).after
plain_more (Ok (a, h)) l m = m
plain_more (Err e) l m = omega arith

inserting_more : (p : ℕ) (r : StepAnswer ℕ) (l : LedgerState) → More (live l) r → live l ≤ live (inserting p None None r l).after
inserting_more zero (Ok (i, h)) l m = m
inserting_more zero (Err e) l m = omega arith
inserting_more (suc n) r l m = plain_more r l m

stale_more : {A : Type 0} (b : Bool) (l : LedgerState) (d : Done A) → live l ≤ live d.after → live l ≤ live (unless_stale l b d).after
stale_more true l d m = omega arith
stale_more false l d m = m

abbrev Grows : Part → Type 0
Grows p = (last : ℕ) (l : LedgerState) → live l ≤ live (do_part last p l).after

lend_grows : (x : GivenIndex) → Grows (lend_host x)
lend_grows x last l =
    let scope = top_scope l.handles in
    stale_more (is_stale l.host x) l (resource_lift_borrow scope l host_table (HostIndex x.index))
    (plain_more (handles.resource_lift_borrow scope l.handles host_table (HostIndex x.index)) l (lift_more (handles.opened l.handles scope) l.handles host_table (HostIndex x.index)))

borrow_grows : (p r : ℕ) → Grows (borrow_in p r)
borrow_grows p r last l =
    let scope = top_scope l.handles in
    inserting_more p (handles.resource_lower_borrow scope l.handles p (Component r last)) l (lower_more (handles.opened l.handles scope) l.handles p (Component r last))

refuse_grows : (e : ResourceFault) → Grows (refuse e)
refuse_grows e last l = omega arith

-- ---- of lists of parts

abbrev AllGrow : List Part → Type 0
AllGrow [] = ⊤
AllGrow (p ∷ ps) = Grows p × AllGrow ps

takes_more : (last : ℕ) (l : LedgerState) (ps : List Part) (answers : List ℕ) (l2 : LedgerState) → AllGrow ps → TakesParts last l ps answers l2 → live l ≤ live l2
takes_more last l [] answers l2 g (e, same) = omega (arith, ap live same)
takes_more last l (p ∷ ps) answers l2 (g, gs) (a, rest, e, ok, t) = omega (arith, g last l, takes_more a (do_part last p l).after ps rest l2 gs t)

stops_more : (why : Option ResourceFault) (last : ℕ) (l : LedgerState) (ps : List Part) (l2 : LedgerState) → AllGrow ps → Stops why last l ps l2 → live l ≤ live l2
stops_more None last l [] l2 g same = omega (arith, ap live same)
stops_more (Some e) last l [] l2 g h = absurd h
stops_more why last l (p ∷ ps) l2 (g, gs) (inl h) = omega (arith, ap live h.1)
stops_more why last l (p ∷ ps) l2 (g, gs) (inr (inl (e, is, refused, same))) = omega (arith, g last l, ap live same)
stops_more why last l (p ∷ ps) l2 (g, gs) (inr (inr (a, ok, h))) = omega (arith, g last l, stops_more why a (do_part last p l).after ps l2 gs h)

moves_more : (l l2 : LedgerState) (ps : List Part) (q : Result ℕ ResourceFault) → AllGrow ps → LeafMoves l l2 ps q → live l ≤ live l2
moves_more l l2 ps (Ok h) g k = takes_more 0 l ps k.answers l2 g (k.takes 0)
moves_more l l2 ps (Err e) g k = stops_more (refusal_of e) 0 l ps l2 g (k 0)

lent_grow : (i : Instance) (r : ℕ) (kind : ResourceType) (x : GivenIndex) → AllGrow (lower_parts i (passed false r (any (handle.Own x) kind)))
lent_grow i r kind x = go (is_of_type (resource_type_at i r) kind) (is_defined_here i r)
  where
    go : (b here : Bool) → AllGrow (if b then borrow_parts here (table_for i r) r (handle.Own x) else refuse fault.ResourceTypeMismatch ∷ [])
    go true true = (lend_grows x, tt)
    go true false = (lend_grows x, (borrow_grows (table_for i r) r, tt))
    go false here = (refuse_grows fault.ResourceTypeMismatch, tt)

-- ---- put into the host's table

inserted_more : (rep : ℕ) (l m : LedgerState) (x : GivenIndex) → Did (given l (host_resource_lower_own l rep None None)) (Ok x) l m → live l + 1 ≤ live m
inserted_more rep l m x did =
    let t : Table Entry = table_at l.handles host_table in
    let c = l.handles.counter in
    let inserts : MoreIn (live l + 1) (table.resource_own_insert t c (Host rep)) = insert_more (live l + 1) t c (entry.ResourceOwn (Host rep) 0) (omega arith) in
    omega (arith, ap live did.1, go (handles.resource_new l.handles host_table (Host rep)) (finished_more (live l + 1) l.handles host_table 0 (table.resource_own_insert t c (Host rep)) inserts) did.0)
  where
    go : (r : StepAnswer ℕ) → More (live l + 1) r → (given l (inserting zero None None r l)).answer ≡ Ok x → live l + 1 ≤ live (inserting zero None None r l).after
    go (Ok (i, h)) m e = m
    go (Err f) m e = cc

-- where it stands then, whatever was answered
pub lower_placed : (i : Instance) (r : ℕ) (kind : ResourceType) (rep : ℕ) (l m n : LedgerState) (x : GivenIndex) (q : Result ℕ ResourceFault) (ok : Bool) (st new : ResourceState)
    → is_of_type (resource_type_at i r) kind ≡ true → st ≡ state.NotInTable → new ≡ state.Index x
    → Did (given l (host_resource_lower_own l rep None None)) (Ok x) l m → LeafMoves m n (lower_parts i (passed false r (any (handle.Own x) kind))) q
    → StateAfter (is_of_type (resource_type_at i r) kind) false ok st rep l n new
lower_placed i r kind rep l m n x q ok st new typed is at did moves =
    subst (λ (b : Bool). StateAfter b false ok st rep l n new) (sym typed)
    (subst (λ (s : ResourceState). StateAfter true false ok s rep l n new) (sym is) (inl (x, did.0, at, changed)))
  where
    changed : n ≢ l
    changed e = omega (arith, inserted_more rep l m x did, moves_more m n (lower_parts i (passed false r (any (handle.Own x) kind))) q (lent_grow i r kind x) moves, ap live e)
