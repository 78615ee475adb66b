-- What writing an image adds to some bytes, or whose fault it reports.
use Rattle.std.specs.Prelude.{Err, IfErr, IfOk, List, Ok, Result, Vec, false, length, map, slice_index, ⊤, ◌+◌, ◌++◌, ◌<◌, ◌≡◌, ◌⊎◌, ℕ}
use Rattle.std.specs.declared.alloc.Global.{Global}
use Rattle.canon_lowering.specs.Steps.{Writes}
use Rattle.canon_lowering.specs.Storing.{narrow}
use Rattle.canon_memory.specs.Realloc.{block}
use Rattle.canon_model.specs.Image.{EachImage, Image, MembersImage}
use Rattle.canon_resources.specs.Held.{Any}
use Rattle.canon_model.specs.Layout.{flags_size}
use Rattle.canon_model.specs.Memory.{cap, num}
use Rattle.canon_model.specs.Shape.{Members, Name, Shape}
use Rattle.canon_model.specs.Text.{utf8}
use Rattle.canon_model.specs.Tree.{Tree, Trees}
use Rattle.canon_plan.specs.NoHandle.{HasNoHandle}
use Rattle.canon_value_parts.specs.Fails.{Blames, BlamesValue, FailsAt, Failure, MemberFails, PairFails, SomeFails}
use Rattle.canon_value_parts.specs.Elements.{by_turns}
use Rattle.canon_value_parts.specs.Flags.{AreSet, SomeUnknown}
use Rattle.canon_value_parts.specs.Resources.{all_resources, resources}
use Rattle.canon_val.specs.Value.{EachHas, HasTree, HaveTrees, PairHas, all_places, member_names, pair_places, places, total}
use Rattle.canon_context.specs.declared.fault.Fault.{Fault}
use Rattle.canon_context.specs.declared.fault.Fault.TheVariants as fault
use Rattle.canon_val.specs.declared.val.Val.{Val}
use Rattle.canon_image_parts.specs.Numbered.{AreAdded, NumberedImage, all_handles, handles_in, numbered_members, numbered_shape, numbered_trees}
use Rattle.canon_image_parts.specs.declared.error.ImageError.{ImageError}
use Rattle.canon_image_parts.specs.declared.error.ImageError.TheVariants as error

-- the fault says that a value isn't of its type
abbrev pub IsTypeFault : Fault → Type 0
IsTypeFault (fault.TypeMismatch k) = ⊤
IsTypeFault (fault.FieldName k) = ⊤
IsTypeFault (fault.LengthMismatch k) = ⊤
IsTypeFault (fault.UnknownCase k) = ⊤
IsTypeFault (fault.UnknownFlag k) = ⊤
IsTypeFault (fault.PayloadExpected k) = ⊤
IsTypeFault (fault.PayloadNotExpected k) = ⊤
IsTypeFault _ = ⊥

-- it does, or it is out of memory
abbrev pub IsTold : Fault → Type 0
IsTold fault.OutOfMemory = ⊤
IsTold e = IsTypeFault e

-- `image` of a value answers so
abbrev pub IsImaged : Shape → Val → Result (Vec ℕ Global) ImageError → Type 0
IsImaged s v (Ok bytes) = HasNoHandle s × ((t : Tree) × HasTree s v t × Image s t bytes.items)
IsImaged s v (Err error.Resource) = ¬ HasNoHandle s
IsImaged s v (Err (error.NotOfType e)) = HasNoHandle s × IsTypeFault e × BlamesValue utf8 s v e
IsImaged s v (Err error.OutOfMemory) = ⊤
IsImaged s v (Err _) = ⊥

-- the image of a value with resources, which were added to a list and have their numbers there
abbrev pub IsListedImage : List Any → List Any → Shape → Val → List ℕ → Type 0
IsListedImage before after s v bs = (t : Tree) × HasTree s v t × NumberedImage s t bs × AreAdded before after (resources v) (handles_in t)

-- `image_with_resources` of a value answers so
abbrev pub IsNumberedImage : List Any → List Any → Shape → Val → Result (Vec ℕ Global) ImageError → Type 0
IsNumberedImage before after s v (Ok bytes) = IsListedImage before after s v bytes.items
IsNumberedImage before after s v (Err (error.NotOfType e)) = IsTypeFault e × BlamesValue utf8 s v e
IsNumberedImage before after s v (Err error.OutOfMemory) = ⊤
IsNumberedImage before after s v (Err _) = ⊥

-- Two answers to one question are the same, but that one of them may be out of memory, and that of several values that aren't of their
-- types any may be reported.
abbrev pub IsSameImage : Result (Vec ℕ Global) ImageError → Result (Vec ℕ Global) ImageError → Type 0
IsSameImage (Err error.OutOfMemory) q = ⊤
IsSameImage r (Err error.OutOfMemory) = ⊤
IsSameImage (Ok a) (Ok b) = a.items ≡ b.items
IsSameImage (Err (error.NotOfType e)) (Err (error.NotOfType f)) = ⊤
IsSameImage (Err error.Resource) (Err error.Resource) = ⊤
IsSameImage r q = ⊥

-- each cause of another answer is that of this one
abbrev pub IsOnlyImage : Shape → Val → Result (Vec ℕ Global) ImageError → Type 0
IsOnlyImage s v result = (other : Result (Vec ℕ Global) ImageError) → IsImaged s v other → IsSameImage result other

-- the bits of these names were set in the bytes from `at` on, or one of them is no name of the type
pub record AreMarkedAt (old new : List ℕ) (at : ℕ) (names set : List Name) : Type 0 where
  pub writes : Writes (block at (flags_size (length names))) old new
  pub below : (j : ℕ) → j < flags_size (length names) → slice_index new (at + j) < 256
  pub marked : AreSet names set (num (narrow new) at (flags_size (length names)))

abbrev pub MarksTo : List ℕ → List ℕ → ℕ → List Name → List Name → ℕ → Result ℕ Fault → Type 0
MarksTo old new at names set place (Ok next) = AreMarkedAt old new at names set × (next ≡ cap (place + 1))
MarksTo old new at names set place (Err e) = (e ≡ fault.UnknownFlag place) × SomeUnknown names set

-- n places were counted from `from` on, or the fault is reported at its place
abbrev pub CountsPlaces : (Failure → ℕ → Type 0) → ℕ → ℕ → Result ℕ Fault → Type 0
CountsPlaces F from n (Ok next) = next ≡ cap (from + n)
CountsPlaces F from n (Err e) = Blames utf8 F from e

-- the same of the fields of a record that has this place, with their names
abbrev pub CountsFields : ℕ → Members → List Name → List Val → ℕ → Result ℕ Fault → Type 0
CountsFields place ms names vs from (Ok next) = (names ≡ member_names ms) × (next ≡ cap (from + all_places vs))
CountsFields place ms names vs from (Err e) = ((e ≡ fault.FieldName place) × ¬ (names ≡ member_names ms)) ⊎ Blames utf8 (λ how k. MemberFails how ms vs k) from e

-- ---- one after another; no text is too long, so that faults are those under any encoding

-- the bytes so far, and the list of resources
pub record Sink : Type 0 where
  pub bytes : List ℕ
  pub list : List Any

abbrev pub sink : List ℕ → List Any → Sink
sink bytes list = record { bytes = bytes; list = list }

module _ (old new : Sink) where
  -- bytes were added at the end, and resources that have these numbers
  pub record AddsImage (bs : List ℕ) (xs : List Any) (ns : List ℕ) : Type 0 where
    pub bytes : new.bytes ≡ old.bytes ++ bs
    pub list : AreAdded old.list new.list xs ns

  -- a value's image was added at the end, and its places were counted
  pub record WritesTo (s : Shape) (v : Val) (from : ℕ) (result : Result ℕ Fault) : Type 0 where
    pub written : IfOk result (λ next. (t : Tree) × (bs : List ℕ) × AddsImage bs (resources v) (handles_in t) × HasTree s v t × NumberedImage s t bs)
    pub counted : CountsPlaces (λ how k. FailsAt how s v k) from (places v) result
    pub told : IfErr result IsTold

  -- those of values in a row, whose names were tested
  pub record PartsWriteTo (place : ℕ) (ms : Members) (names : List Name) (vs : List Val) (from : ℕ) (result : Result ℕ Fault) : Type 0 where
    pub written : IfOk result (λ next. (ts : Trees) × (bs : List ℕ) × AddsImage bs (all_resources vs) (all_handles ts) × HaveTrees ms vs ts × MembersImage (numbered_members ms) (numbered_trees ts) bs)
    pub counted : CountsFields place ms names vs from result
    pub told : IfErr result IsTold

  -- those of the pairs of a map, each a product of this shape
  pub record PairsWriteTo (s : Shape) (pairs : List (Val × Val)) (from : ℕ) (result : Result ℕ Fault) : Type 0 where
    pub written : IfOk result (λ next.
        (ts : Trees) × (bs : List ℕ) × AddsImage bs (all_resources (by_turns pairs)) (all_handles ts) × EachHas (λ p u. PairHas false s p u) pairs ts × EachImage (λ u xs. Image (numbered_shape s) u xs) (numbered_trees ts) bs)
    pub counted : CountsPlaces (λ how k. SomeFails pair_places (λ p i. PairFails how s p i) pairs k) from (total (map pair_places pairs)) result
    pub told : IfErr result IsTold
