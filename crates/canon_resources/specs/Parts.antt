-- The steps that the handles among values take on the ledger. A step takes the answer of the one just before it, and none by
-- its place, so that lists of steps concatenate as they stand.
use Rattle.std.specs.Prelude.{Bool, Err, List, None, Ok, Option, Result, Some, [], false, if◌then◌else◌, slice_get, true, ℕ, ◌&&◌, ◌==◌, ◌≡◌, ◌⊎◌, ◌∷◌}
use Rattle.std.specs.Option.{option_map_or}
use Rattle.canon_handles.specs.declared.handle.TypedResource.TheVariants.{Component}
use Rattle.canon_handles.specs.declared.handle.TypedResourceIndex.TheVariants.{Component as ComponentIndex}
use Rattle.canon_ledger.specs.declared.fault.ResourceFault.{ResourceFault}
use Rattle.canon_ledger.specs.declared.fault.ResourceFault.TheVariants as fault
use Rattle.canon_ledger.specs.Handles.{top_scope}
use Rattle.canon_ledger.specs.Index.{GivenIndex}
use Rattle.canon_ledger.specs.Ledger.{Done, HostLiftBorrow, HostLiftOwn, HostLowerBorrow, HostLowerOwn, LedgerState, LiftBorrow, LiftOwn, LowerBorrow, New, do_step}
use Rattle.canon_ledger.specs.Places.{type_table}
use Rattle.canon_model.specs.Leaves.{Leaf}
use Rattle.canon_resources.specs.Held.{Any, any, table_handle}
use Rattle.canon_resources.specs.declared.any.ResourceAnyHandle.{ResourceAnyHandle}
use Rattle.canon_resources.specs.declared.any.ResourceAnyHandle.TheVariants as handle
use Rattle.canon_types.specs.Instance.{Instance}
use Rattle.canon_types.specs.Resource.{resource_type_at}
use Rattle.canon_types.specs.declared.resource.ResourceType.{ResourceType}
use Rattle.canon_types.specs.declared.resource.ResourceType.TheVariants as type
use Rattle.canon_types.specs.declared.types.ResourceKind.{ResourceKind}
use Rattle.canon_types.specs.declared.types.ResourceKind.TheVariants as kind
use Rattle.canon_types.specs.declared.types.TypeResourceTable.{TypeResourceTable}

-- A part of what a handle does on its way, and what it answers: one step of the ledger; one on the representation that was just
-- answered; a refusal before any step; or a number that is answered without a step. The current scope is the top open one.
pub data Part : Type 0 where
  -- an own handle of the host is taken out, or a handle of the host is lent
  take_host : GivenIndex → Part
  lend_host : GivenIndex → Part
  -- the host lends what was just put into its table
  lend_inserted : Part
  -- the same of a component's table: the table, the resource type, and the index
  take : ℕ → ℕ → ℕ → Part
  lend : ℕ → ℕ → ℕ → Part
  -- what was answered is put into a component's table, as an own or a borrow handle: the table, and the resource type
  own_in : ℕ → ℕ → Part
  borrow_in : ℕ → ℕ → Part
  -- what was answered is put into the host's, as an own handle with its destructor and its instance, or as a borrow handle
  host_own : Option ℕ → Option ℕ → Part
  host_borrow : Part
  refuse : ResourceFault → Part
  tell : ℕ → Part

-- what it does where `last` was answered just before
abbrev pub do_part : ℕ → Part → LedgerState → Done ℕ
do_part last (take_host x) l = do_step (HostLiftOwn x) l
do_part last (lend_host x) l = do_step (HostLiftBorrow (top_scope l.handles) x) l
do_part last lend_inserted l = do_step (HostLiftBorrow (top_scope l.handles) (record { index = last; generation = l.host.generation })) l
do_part last (take p ty i) l = do_step (LiftOwn p (ComponentIndex ty i)) l
do_part last (lend p ty i) l = do_step (LiftBorrow (top_scope l.handles) p (ComponentIndex ty i)) l
do_part last (own_in p ty) l = do_step (New p (Component ty last)) l
do_part last (borrow_in p ty) l = do_step (LowerBorrow (top_scope l.handles) p (Component ty last)) l
do_part last (host_own dtor instance) l = do_step (HostLowerOwn last dtor instance) l
do_part last host_borrow l = do_step (HostLowerBorrow (top_scope l.handles) last) l
do_part last (refuse e) l = record { answer = Err e; after = l }
do_part last (tell n) l = record { answer = Ok n; after = l }

-- Lists of parts

-- every part is accepted and answers so, and the last leaves l2
abbrev pub TakesParts : ℕ → LedgerState → List Part → List ℕ → LedgerState → Type 0
TakesParts last l [] answers l2 = (answers ≡ []) × (l2 ≡ l)
TakesParts last l (p ∷ ps) answers l2 = (a : ℕ) × (rest : List ℕ) × (answers ≡ a ∷ rest) × ((do_part last p l).answer ≡ Ok a) × TakesParts a (do_part last p l).after ps rest l2

-- a refusal, except out of memory, which stops where it comes
abbrev pub refusal_of : ResourceFault → Option ResourceFault
refusal_of fault.OutOfMemory = None
refusal_of e = Some e

-- They are accepted up to some part: there it stopped, without a refusal (None), or since that part was refused so.
abbrev pub Stops : Option ResourceFault → ℕ → LedgerState → List Part → LedgerState → Type 0
Stops None last l [] l2 = l2 ≡ l
Stops (Some e) last l [] l2 = ⊥
Stops why last l (p ∷ ps) l2 =
    ((why ≡ None) × (l2 ≡ l))
    ⊎ ((e : ResourceFault) × (why ≡ refusal_of e) × ((do_part last p l).answer ≡ Err e) × (l2 ≡ (do_part last p l).after))
    ⊎ ((a : ℕ) × ((do_part last p l).answer ≡ Ok a) × Stops why a (do_part last p l).after ps l2)

-- the last of some answers
abbrev pub last_of : ℕ → List ℕ → ℕ
last_of n [] = n
last_of n (a ∷ answers) = last_of a answers

-- Handles, one after another, each with its parts. What a handle is answered is the last answer of its parts.

-- the parts of one read no answer from before it
pub record LeafTakes (l : LedgerState) (parts : List Part) (h : ℕ) (l2 : LedgerState) : Type 0 where
  pub answers : List ℕ
  pub takes : (last : ℕ) → TakesParts last l parts answers l2
  pub handle : (last : ℕ) → last_of last answers ≡ h

abbrev pub LeavesTake : LedgerState → List (List Part) → List ℕ → LedgerState → Type 0
LeavesTake l [] hs l2 = (hs ≡ []) × (l2 ≡ l)
LeavesTake l (leaf ∷ leaves) hs l2 = (h : ℕ) × (rest : List ℕ) × (mid : LedgerState) × (hs ≡ h ∷ rest) × LeafTakes l leaf h mid × LeavesTake mid leaves rest l2

abbrev pub LeavesStop : Option ResourceFault → LedgerState → List (List Part) → LedgerState → Type 0
LeavesStop why l [] l2 = Stops why 0 l [] l2
LeavesStop why l (leaf ∷ leaves) l2 =
    ((last : ℕ) → Stops why last l leaf l2)
    ⊎ ((h : ℕ) × (mid : LedgerState) × LeafTakes l leaf h mid × LeavesStop why mid leaves l2)

-- One was lowered or lifted, and this was answered, or it was refused; or memory ran out.
abbrev pub LeafMoves : LedgerState → LedgerState → List Part → Result ℕ ResourceFault → Type 0
LeafMoves l l2 parts (Ok h) = LeafTakes l parts h l2
LeafMoves l l2 parts (Err e) = (last : ℕ) → Stops (refusal_of e) last l parts l2

-- Resource types

abbrev pub same_type : ResourceType → ResourceType → Bool
same_type (type.Host a) (type.Host b) = a == b
same_type (type.HostDynamic a) (type.HostDynamic b) = a == b
same_type (type.Guest s i n) (type.Guest t j m) = (s == t) && (i == j) && (n == m)
same_type _ _ = false

abbrev pub is_of_type : Option ResourceType → ResourceType → Bool
is_of_type None ty = false
is_of_type (Some wanted) ty = same_type wanted ty

-- the number of the table of its instance, in which handles of a resource type stand
abbrev pub table_for : Instance → ℕ → ℕ
table_for i ty = type_table (Some i.types) ty

-- whether its instance defines it itself
abbrev pub is_defined_here : Instance → ℕ → Bool
is_defined_here i ty = option_map_or (λ (r : TypeResourceTable). r.defined_here) (slice_get i.types.resources ty) false

-- Lowering

-- a resource that is passed where a handle of this resource type is wanted
pub record PassedResource : Type 0 where
  pub owned : Bool
  pub resource : ℕ
  pub any : Any

abbrev pub passed : Bool → ℕ → Any → PassedResource
passed owned ty a = record { owned = owned; resource = ty; any = a }

-- an own handle is taken out of the host's table and put into the instance's; a borrow that the host made is none
abbrev pub own_parts : ℕ → ℕ → ResourceAnyHandle → List Part
own_parts p ty (handle.Own x) = take_host x ∷ own_in p ty ∷ []
own_parts p ty (handle.Borrow x) = take_host x ∷ own_in p ty ∷ []
own_parts p ty (handle.Synthetic rep) = refuse fault.BorrowAsOwn ∷ []

-- the host lends it; of a borrow that it made it gives the representation
abbrev pub lent_part : ResourceAnyHandle → Part
lent_part (handle.Own x) = lend_host x
lent_part (handle.Borrow x) = lend_host x
lent_part (handle.Synthetic rep) = tell rep

-- what was lent is put into the instance's table, but where the instance defines the type: it gets the bare representation
abbrev pub borrow_parts : Bool → ℕ → ℕ → ResourceAnyHandle → List Part
borrow_parts true p ty h = lent_part h ∷ []
borrow_parts false p ty h = lent_part h ∷ borrow_in p ty ∷ []

abbrev pub passed_parts : Bool → Instance → ℕ → ResourceAnyHandle → List Part
passed_parts true i ty h = own_parts (table_for i ty) ty h
passed_parts false i ty h = borrow_parts (is_defined_here i ty) (table_for i ty) ty h

-- the type is tested first
abbrev pub lower_parts : Instance → PassedResource → List Part
lower_parts i p = if is_of_type (resource_type_at i p.resource) p.any.ty then passed_parts p.owned i p.resource p.any.handle else refuse fault.ResourceTypeMismatch ∷ []

-- Lifting

abbrev pub its_type : Option ResourceType → ResourceType
its_type None = type.Host 0
its_type (Some ty) = ty

-- what the host keeps of an own handle of a type that a component defines: the destructor, and the instance
abbrev pub dtor_of : ResourceKind → Option ℕ
dtor_of (kind.Host id) = None
dtor_of (kind.HostDynamic payload) = None
dtor_of (kind.Guest id dtor) = dtor

abbrev pub instance_of_kind : ℕ → ResourceKind → Option ℕ
instance_of_kind instance (kind.Host id) = None
instance_of_kind instance (kind.HostDynamic payload) = None
instance_of_kind instance (kind.Guest id dtor) = Some instance

abbrev pub dtor_for : Instance → ℕ → Option ℕ
dtor_for i ty = option_map_or (λ (r : TypeResourceTable). dtor_of r.kind) (slice_get i.types.resources ty) None

abbrev pub instance_for : Instance → ℕ → Option ℕ
instance_for i ty = option_map_or (λ (r : TypeResourceTable). instance_of_kind r.instance r.kind) (slice_get i.types.resources ty) None

abbrev pub lifted_parts : Bool → Instance → ℕ → ℕ → List Part
lifted_parts true i ty index = take (table_for i ty) ty index ∷ host_own (dtor_for i ty) (instance_for i ty) ∷ []
lifted_parts false i ty index = lend (table_for i ty) ty index ∷ host_borrow ∷ []

-- it is taken or lent from the instance's table, and put into the host's
abbrev pub lift_parts : Instance → Leaf → List Part
lift_parts i leaf = lifted_parts leaf.owned i leaf.resource leaf.index

-- what the host gets for it: the index that was answered, in the generation before, which no removal from a component's table raises
abbrev pub lifted_any : Instance → LedgerState → Leaf → ℕ → Any
lifted_any i l leaf h = any (table_handle (record { index = h; generation = l.host.generation }) leaf.owned) (its_type (resource_type_at i leaf.resource))

-- it was lifted to a resource, or refused
abbrev pub LeafLifts : Instance → LedgerState → LedgerState → Leaf → Result Any ResourceFault → Type 0
LeafLifts i l l2 leaf (Ok x) = (h : ℕ) × (x ≡ lifted_any i l leaf h) × LeafTakes l (lift_parts i leaf) h l2
LeafLifts i l l2 leaf (Err e) = (last : ℕ) → Stops (refusal_of e) last l (lift_parts i leaf) l2

-- handles, in order, were lifted to these resources
abbrev pub LeavesLift : Instance → LedgerState → List Leaf → List Any → LedgerState → Type 0
LeavesLift i l [] xs l2 = (xs ≡ []) × (l2 ≡ l)
LeavesLift i l (leaf ∷ leaves) xs l2 =
    (h : ℕ) × (rest : List Any) × (mid : LedgerState) × (xs ≡ lifted_any i l leaf h ∷ rest) × LeafTakes l (lift_parts i leaf) h mid × LeavesLift i mid leaves rest l2
