-- What reading an image gives, or where it stops.
use Rattle.std.specs.Prelude.{Err, List, Ok, Result, Vec, drop, length, true, ⊤, ◌+◌, ◌++◌, ◌<◌, ◌≡◌, ◌≤◌, ℕ}
use Rattle.std.specs.declared.alloc.Global.{Global}
use Rattle.canon_model.specs.Image.{EachImage, Image, IsField, MembersImage}
use Rattle.canon_model.specs.Shape.{Members, Shape}
use Rattle.canon_model.specs.Tree.{Tree, Trees}
use Rattle.canon_plan.specs.NoHandle.{HasNoHandle}
use Rattle.canon_val.specs.Value.{AreLiftedFrom, EachHas, IsLiftedFrom, PairHas}
use Rattle.canon_val.specs.declared.val.Val.{Val}
use Rattle.canon_value_parts.specs.Elements.{by_turns}
use Rattle.canon_value_parts.specs.Resources.{all_resources, resources}
use Rattle.canon_image_parts.specs.Numbered.{NumberedImage, StandFor, all_handles, handles_in, numbered_members, numbered_shape, numbered_trees}
use Rattle.canon_image_parts.specs.Stops.{IsFollowed, MembersStop, RowStops, Stop, StopsAt, malformed, truncated}
use Rattle.canon_image_parts.specs.declared.error.ImageError.{ImageError}
use Rattle.canon_image_parts.specs.declared.error.ImageError.TheVariants as error

-- `read_image` of these bytes answers so
abbrev pub IsRead : Shape → List ℕ → Result Val ImageError → Type 0
IsRead s bs (Ok v) = HasNoHandle s × ((t : Tree) × Image s t bs × IsLiftedFrom s v t)
IsRead s bs (Err error.Resource) = ¬ HasNoHandle s
IsRead s bs (Err (error.Truncated p)) = HasNoHandle s × StopsAt s bs p truncated
IsRead s bs (Err (error.Malformed p)) = HasNoHandle s × StopsAt s bs p malformed
IsRead s bs (Err (error.Trailing p)) = HasNoHandle s × IsFollowed s bs p
IsRead s bs (Err error.OutOfMemory) = ⊤
IsRead s bs (Err (error.NotOfType e)) = ⊥

-- `read_numbered_image` answers so: of a value with resources, for which borrows of their numbers stand
abbrev pub IsNumberedRead : Shape → List ℕ → Result Val ImageError → Type 0
IsNumberedRead s bs (Ok v) = (t : Tree) × NumberedImage s t bs × IsLiftedFrom s v t × StandFor (handles_in t) (resources v)
IsNumberedRead s bs (Err (error.Truncated p)) = StopsAt (numbered_shape s) bs p truncated
IsNumberedRead s bs (Err (error.Malformed p)) = StopsAt (numbered_shape s) bs p malformed
IsNumberedRead s bs (Err (error.Trailing p)) = IsFollowed (numbered_shape s) bs p
IsNumberedRead s bs (Err error.OutOfMemory) = ⊤
IsNumberedRead s bs (Err error.Resource) = ⊥
IsNumberedRead s bs (Err (error.NotOfType e)) = ⊥

-- Two answers to one question are the same, but that one of them may be out of memory; of two values this says only that both are.
abbrev pub IsSameReading : Result Val ImageError → Result Val ImageError → Type 0
IsSameReading (Err error.OutOfMemory) q = ⊤
IsSameReading r (Err error.OutOfMemory) = ⊤
IsSameReading (Ok v) (Ok w) = ⊤
IsSameReading (Err e) (Err f) = e ≡ f
IsSameReading r q = ⊥

-- each cause of another answer is that of this one
abbrev pub IsOnlyReading : Shape → List ℕ → Result Val ImageError → Type 0
IsOnlyReading s bs result = (other : Result Val ImageError) → IsRead s bs other → IsSameReading result other

abbrev pub IsOnlyNumberedRead : Shape → List ℕ → Result Val ImageError → Type 0
IsOnlyNumberedRead s bs result = (other : Result Val ImageError) → IsNumberedRead s bs other → IsSameReading result other

-- ---- one after another

-- reading from place `from` on stopped at the reported place, or memory was short
abbrev pub StopsFrom : (ℕ → Stop → Type 0) → ℕ → ImageError → Type 0
StopsFrom F from (error.Truncated p) = (j : ℕ) × (p ≡ from + j) × F j truncated
StopsFrom F from (error.Malformed p) = (j : ℕ) × (p ≡ from + j) × F j malformed
StopsFrom F from error.OutOfMemory = ⊤
StopsFrom F from _ = ⊥

-- so many bytes xs stand from one place to another
pub record Spans (bs : List ℕ) (from to : ℕ) (xs : List ℕ) : Type 0 where
  pub is : drop from bs ≡ xs ++ drop to bs
  pub to_is : to ≡ from + length xs
  pub inside : to ≤ length bs

module _ (bs : List ℕ) (from to : ℕ) where
  abbrev pub ReadsTo : Shape → Result Val ImageError → Type 0
  ReadsTo s (Ok v) = (t : Tree) × (xs : List ℕ) × Spans bs from to xs × NumberedImage s t xs × IsLiftedFrom s v t × StandFor (handles_in t) (resources v)
  ReadsTo s (Err e) = StopsFrom (StopsAt (numbered_shape s) (drop from bs)) from e

  abbrev pub PartsReadTo : Members → Result (Vec Val Global) ImageError → Type 0
  PartsReadTo ms (Ok vs) =
      (ts : Trees) × (xs : List ℕ) × Spans bs from to xs × MembersImage (numbered_members ms) (numbered_trees ts) xs × AreLiftedFrom ms vs.items ts × StandFor (all_handles ts) (all_resources vs.items)
  PartsReadTo ms (Err e) = StopsFrom (MembersStop (numbered_members ms) (drop from bs)) from e

  abbrev pub PairsReadTo : Shape → ℕ → Result (Vec (Val × Val) Global) ImageError → Type 0
  PairsReadTo s n (Ok ps) = (ts : Trees) × (xs : List ℕ) × Spans bs from to xs × EachImage (λ t ys. Image (numbered_shape s) t ys) (numbered_trees ts) xs × EachHas (λ p t. PairHas true s p t) ps.items ts
      × (length ps.items ≡ n) × StandFor (all_handles ts) (all_resources (by_turns ps.items))
  PairsReadTo s n (Err e) = StopsFrom (RowStops (λ t ys. Image (numbered_shape s) t ys) (λ ys i h. StopsAt (numbered_shape s) ys i h) n (drop from bs)) from e

  -- a number in k bytes
  abbrev pub NumberReadTo : ℕ → Result ℕ ImageError → Type 0
  NumberReadTo k (Ok n) = IsField k n (drop from bs) (drop to bs) × (to ≡ from + k) × (to ≤ length bs)
  NumberReadTo k (Err e) = (e ≡ error.Truncated from) × (length (drop from bs) < k)
