-- One answer comes exactly where its cause stands: two causes stand together only where they are the same.
use Rattle.std.proofs.Common.{Err, List, Ok, Result, Vec, [], append-nil, ap, arith, length, length-append, refl, sym, ℕ, ◌∙◌, ◌∷◌, ◌≡◌, inl}
use Rattle.std.specs.declared.alloc.Global.{Global}
use Rattle.canon_model.proofs.Images.{image_bytes, image_front}
use Rattle.canon_model.specs.Image.{Image}
use Rattle.canon_model.specs.Shape.{Shape, member, no_members}
use Rattle.canon_model.specs.Text.{utf8}
use Rattle.canon_model.specs.Tree.{Tree, no_trees, tree}
use Rattle.canon_context.specs.declared.fault.Fault.{Fault}
use Rattle.canon_context.specs.declared.fault.Fault.TheVariants as fault
use Rattle.canon_value_parts.specs.Fails.{BlamesValue, Failure, FailsAt, IsTypeFailure, field_name, mismatch, payload_expected, payload_not_expected, unknown_case, unknown_flag, wrong_length}
use Rattle.canon_val.specs.Value.{HasTree}
use Rattle.canon_val.specs.declared.val.Val.{Val}
use Rattle.canon_value_parts.proofs.Values.{failure_excludes}
use Rattle.canon_value_parts.proofs.OneValue.{tree_one}
use Rattle.canon_image_parts.proofs.Stopping.{image_good, stops_at_one}
use Rattle.canon_image_parts.specs.Numbered.{numbered_shape, numbered_tree}
use Rattle.canon_image_parts.specs.Read.{IsNumberedRead, IsRead, IsSameReading}
use Rattle.canon_image_parts.specs.Stops.{IsFollowed, Stop, StopsAt, malformed, truncated}
use Rattle.canon_image_parts.specs.Written.{IsImaged, IsSameImage, IsTypeFault}
use Rattle.canon_image_parts.specs.declared.error.ImageError.{ImageError}
use Rattle.canon_image_parts.specs.declared.error.ImageError.TheVariants as error

-- ---- writing

-- a reported fault stands at a value
pub failing : (s : Shape) (v : Val) (e : Fault) → IsTypeFault e → BlamesValue utf8 s v e → (how : Failure) × (j : ℕ) × IsTypeFailure how × FailsAt how s v j
failing s v (fault.TypeMismatch k) h (j, e, f) = (mismatch, j, tt, f)
failing s v (fault.FieldName k) h (j, e, f) = (field_name, j, tt, f)
failing s v (fault.LengthMismatch k) h (j, e, f) = (wrong_length, j, tt, f)
failing s v (fault.UnknownCase k) h (j, e, f) = (unknown_case, j, tt, f)
failing s v (fault.UnknownFlag k) h (j, e, f) = (unknown_flag, j, tt, f)
failing s v (fault.PayloadExpected k) h (j, e, f) = (payload_expected, j, tt, f)
failing s v (fault.PayloadNotExpected k) h (j, e, f) = (payload_not_expected, j, tt, f)
failing s v _ h g = absurd h

no_tree : (s : Shape) (v : Val) (e : Fault) (t : Tree) → IsTypeFault e → BlamesValue utf8 s v e → ¬ HasTree s v t
no_tree s v e t told blames has =
    let (how, j, kind, fails) = failing s v e told blames in
    failure_excludes how (member [] s no_members) (v ∷ []) j (tree t no_trees) kind (inl fails) (v, [], t, no_trees, refl, refl, has, (refl, refl))

pub same_image : (s : Shape) (v : Val) (r q : Result (Vec ℕ Global) ImageError) → IsImaged s v r → IsImaged s v q → IsSameImage r q
same_image s v (Err error.OutOfMemory) q h g = tt
same_image s v (Ok a) (Err error.OutOfMemory) h g = tt
same_image s v (Ok a) (Ok b) (no_handle, (t, has, is)) (also, (u, has2, is2)) = image_bytes s t u a.items b.items is is2 (tree_one s v t u has has2)
same_image s v (Ok a) (Err error.Resource) (no_handle, h) g = absurd (g no_handle)
same_image s v (Ok a) (Err (error.NotOfType e)) (no_handle, (t, has, is)) (also, told, blames) = absurd (no_tree s v e t told blames has)
same_image s v (Ok a) (Err (error.Truncated p)) h g = absurd g
same_image s v (Ok a) (Err (error.Malformed p)) h g = absurd g
same_image s v (Ok a) (Err (error.Trailing p)) h g = absurd g
same_image s v (Err error.Resource) (Err error.OutOfMemory) h g = tt
same_image s v (Err error.Resource) (Ok b) h (no_handle, g) = absurd (h no_handle)
same_image s v (Err error.Resource) (Err error.Resource) h g = tt
same_image s v (Err error.Resource) (Err (error.NotOfType e)) h (no_handle, told, blames) = absurd (h no_handle)
same_image s v (Err error.Resource) (Err (error.Truncated p)) h g = absurd g
same_image s v (Err error.Resource) (Err (error.Malformed p)) h g = absurd g
same_image s v (Err error.Resource) (Err (error.Trailing p)) h g = absurd g
same_image s v (Err (error.NotOfType e)) (Err error.OutOfMemory) h g = tt
same_image s v (Err (error.NotOfType e)) (Ok b) (no_handle, told, blames) (also, (t, has, is)) = absurd (no_tree s v e t told blames has)
same_image s v (Err (error.NotOfType e)) (Err error.Resource) (no_handle, told, blames) g = absurd (g no_handle)
same_image s v (Err (error.NotOfType e)) (Err (error.NotOfType f)) h g = tt
same_image s v (Err (error.NotOfType e)) (Err (error.Truncated p)) h g = absurd g
same_image s v (Err (error.NotOfType e)) (Err (error.Malformed p)) h g = absurd g
same_image s v (Err (error.NotOfType e)) (Err (error.Trailing p)) h g = absurd g
same_image s v (Err (error.Truncated p)) q h g = absurd h
same_image s v (Err (error.Malformed p)) q h g = absurd h
same_image s v (Err (error.Trailing p)) q h g = absurd h

-- ---- reading

ways_differ : ¬ (truncated ≡ malformed)
ways_differ e = cc

stops_not_whole : (s : Shape) (t : Tree) (bs : List ℕ) (p : ℕ) (how : Stop) → Image s t bs → ¬ StopsAt s bs p how
stops_not_whole s t bs p how is h = image_good s t bs bs [] p how (sym (append-nil bs)) is h

followed_not_whole : (s : Shape) (t : Tree) (bs : List ℕ) (p : ℕ) → Image s t bs → ¬ IsFollowed s bs p
followed_not_whole s t bs p is (u, xs, rest, e, is2, ep, some) =
    let same = (image_front s t u bs xs [] rest is is2 (append-nil bs ∙ e)).1 in
    omega (arith, some, ap length same)

followed_not_stopped : (s : Shape) (bs : List ℕ) (p q : ℕ) (how : Stop) → IsFollowed s bs p → ¬ StopsAt s bs q how
followed_not_stopped s bs p q how (u, xs, rest, e, is, ep, some) h = image_good s u bs xs rest q how e is h

followed_once : (s : Shape) (bs : List ℕ) (p q : ℕ) → IsFollowed s bs p → IsFollowed s bs q → p ≡ q
followed_once s bs p q (t, xs, rest, e, is, ep, some) (u, ys, end, f, is2, eq, more) =
    let same = (image_front s t u xs ys rest end is is2 (sym e ∙ f)).1 in
    omega (arith, ep, eq, ap length e, ap length f, ap length same, length-append xs rest, length-append ys end)

pub same_reading : (s : Shape) (bs : List ℕ) (r q : Result Val ImageError) → IsRead s bs r → IsRead s bs q → IsSameReading r q
same_reading s bs (Err error.OutOfMemory) q h g = tt
same_reading s bs (Err (error.NotOfType e)) q h g = absurd h
same_reading s bs (Ok v) (Err error.OutOfMemory) h g = tt
same_reading s bs (Ok v) (Ok w) h g = tt
same_reading s bs (Ok v) (Err error.Resource) (no_handle, h) g = absurd (g no_handle)
same_reading s bs (Ok v) (Err (error.NotOfType e)) h g = absurd g
same_reading s bs (Ok v) (Err (error.Truncated p)) (no_handle, (t, is, lifted)) (also, g) = absurd (stops_not_whole s t bs p truncated is g)
same_reading s bs (Ok v) (Err (error.Malformed p)) (no_handle, (t, is, lifted)) (also, g) = absurd (stops_not_whole s t bs p malformed is g)
same_reading s bs (Ok v) (Err (error.Trailing p)) (no_handle, (t, is, lifted)) (also, g) = absurd (followed_not_whole s t bs p is g)
same_reading s bs (Err error.Resource) (Err error.OutOfMemory) h g = tt
same_reading s bs (Err error.Resource) (Ok v) h (no_handle, g) = absurd (h no_handle)
same_reading s bs (Err error.Resource) (Err error.Resource) h g = refl
same_reading s bs (Err error.Resource) (Err (error.NotOfType e)) h g = absurd g
same_reading s bs (Err error.Resource) (Err (error.Truncated p)) h (no_handle, g) = absurd (h no_handle)
same_reading s bs (Err error.Resource) (Err (error.Malformed p)) h (no_handle, g) = absurd (h no_handle)
same_reading s bs (Err error.Resource) (Err (error.Trailing p)) h (no_handle, g) = absurd (h no_handle)
same_reading s bs (Err (error.Truncated p)) (Err error.OutOfMemory) h g = tt
same_reading s bs (Err (error.Truncated p)) (Ok v) (also, h) (no_handle, (t, is, lifted)) = absurd (stops_not_whole s t bs p truncated is h)
same_reading s bs (Err (error.Truncated p)) (Err error.Resource) (no_handle, h) g = absurd (g no_handle)
same_reading s bs (Err (error.Truncated p)) (Err (error.NotOfType e)) h g = absurd g
same_reading s bs (Err (error.Truncated p)) (Err (error.Truncated q)) (no_handle, h) (also, g) = ap (λ i. error.Truncated i) (stops_at_one s bs p q truncated truncated h g).0
same_reading s bs (Err (error.Truncated p)) (Err (error.Malformed q)) (no_handle, h) (also, g) = absurd (ways_differ (stops_at_one s bs p q truncated malformed h g).1)
same_reading s bs (Err (error.Truncated p)) (Err (error.Trailing q)) (no_handle, h) (also, g) = absurd (followed_not_stopped s bs q p truncated g h)
same_reading s bs (Err (error.Malformed p)) (Err error.OutOfMemory) h g = tt
same_reading s bs (Err (error.Malformed p)) (Ok v) (also, h) (no_handle, (t, is, lifted)) = absurd (stops_not_whole s t bs p malformed is h)
same_reading s bs (Err (error.Malformed p)) (Err error.Resource) (no_handle, h) g = absurd (g no_handle)
same_reading s bs (Err (error.Malformed p)) (Err (error.NotOfType e)) h g = absurd g
same_reading s bs (Err (error.Malformed p)) (Err (error.Truncated q)) (no_handle, h) (also, g) = absurd (ways_differ (stops_at_one s bs q p truncated malformed g h).1)
same_reading s bs (Err (error.Malformed p)) (Err (error.Malformed q)) (no_handle, h) (also, g) = ap (λ i. error.Malformed i) (stops_at_one s bs p q malformed malformed h g).0
same_reading s bs (Err (error.Malformed p)) (Err (error.Trailing q)) (no_handle, h) (also, g) = absurd (followed_not_stopped s bs q p malformed g h)
same_reading s bs (Err (error.Trailing p)) (Err error.OutOfMemory) h g = tt
same_reading s bs (Err (error.Trailing p)) (Ok v) (also, h) (no_handle, (t, is, lifted)) = absurd (followed_not_whole s t bs p is h)
same_reading s bs (Err (error.Trailing p)) (Err error.Resource) (no_handle, h) g = absurd (g no_handle)
same_reading s bs (Err (error.Trailing p)) (Err (error.NotOfType e)) h g = absurd g
same_reading s bs (Err (error.Trailing p)) (Err (error.Truncated q)) (no_handle, h) (also, g) = absurd (followed_not_stopped s bs p q truncated h g)
same_reading s bs (Err (error.Trailing p)) (Err (error.Malformed q)) (no_handle, h) (also, g) = absurd (followed_not_stopped s bs p q malformed h g)
same_reading s bs (Err (error.Trailing p)) (Err (error.Trailing q)) (no_handle, h) (also, g) = ap (λ i. error.Trailing i) (followed_once s bs p q h g)

-- of a value with resources
pub same_numbered : (s : Shape) (bs : List ℕ) (r q : Result Val ImageError) → IsNumberedRead s bs r → IsNumberedRead s bs q → IsSameReading r q
same_numbered s bs (Err error.OutOfMemory) q h g = tt
same_numbered s bs (Err (error.NotOfType e)) q h g = absurd h
same_numbered s bs (Err error.Resource) q h g = absurd h
same_numbered s bs (Ok v) (Err error.OutOfMemory) h g = tt
same_numbered s bs (Ok v) (Ok w) h g = tt
same_numbered s bs (Ok v) (Err error.Resource) h g = absurd g
same_numbered s bs (Ok v) (Err (error.NotOfType e)) h g = absurd g
same_numbered s bs (Ok v) (Err (error.Truncated p)) (t, is, lifted, numbers) g = absurd (stops_not_whole (numbered_shape s) (numbered_tree t) bs p truncated is g)
same_numbered s bs (Ok v) (Err (error.Malformed p)) (t, is, lifted, numbers) g = absurd (stops_not_whole (numbered_shape s) (numbered_tree t) bs p malformed is g)
same_numbered s bs (Ok v) (Err (error.Trailing p)) (t, is, lifted, numbers) g = absurd (followed_not_whole (numbered_shape s) (numbered_tree t) bs p is g)
same_numbered s bs (Err (error.Truncated p)) (Err error.OutOfMemory) h g = tt
same_numbered s bs (Err (error.Truncated p)) (Ok v) h (t, is, lifted, numbers) = absurd (stops_not_whole (numbered_shape s) (numbered_tree t) bs p truncated is h)
same_numbered s bs (Err (error.Truncated p)) (Err error.Resource) h g = absurd g
same_numbered s bs (Err (error.Truncated p)) (Err (error.NotOfType e)) h g = absurd g
same_numbered s bs (Err (error.Truncated p)) (Err (error.Truncated q)) h g = ap (λ i. error.Truncated i) (stops_at_one (numbered_shape s) bs p q truncated truncated h g).0
same_numbered s bs (Err (error.Truncated p)) (Err (error.Malformed q)) h g = absurd (ways_differ (stops_at_one (numbered_shape s) bs p q truncated malformed h g).1)
same_numbered s bs (Err (error.Truncated p)) (Err (error.Trailing q)) h g = absurd (followed_not_stopped (numbered_shape s) bs q p truncated g h)
same_numbered s bs (Err (error.Malformed p)) (Err error.OutOfMemory) h g = tt
same_numbered s bs (Err (error.Malformed p)) (Ok v) h (t, is, lifted, numbers) = absurd (stops_not_whole (numbered_shape s) (numbered_tree t) bs p malformed is h)
same_numbered s bs (Err (error.Malformed p)) (Err error.Resource) h g = absurd g
same_numbered s bs (Err (error.Malformed p)) (Err (error.NotOfType e)) h g = absurd g
same_numbered s bs (Err (error.Malformed p)) (Err (error.Truncated q)) h g = absurd (ways_differ (stops_at_one (numbered_shape s) bs q p truncated malformed g h).1)
same_numbered s bs (Err (error.Malformed p)) (Err (error.Malformed q)) h g = ap (λ i. error.Malformed i) (stops_at_one (numbered_shape s) bs p q malformed malformed h g).0
same_numbered s bs (Err (error.Malformed p)) (Err (error.Trailing q)) h g = absurd (followed_not_stopped (numbered_shape s) bs q p malformed g h)
same_numbered s bs (Err (error.Trailing p)) (Err error.OutOfMemory) h g = tt
same_numbered s bs (Err (error.Trailing p)) (Ok v) h (t, is, lifted, numbers) = absurd (followed_not_whole (numbered_shape s) (numbered_tree t) bs p is h)
same_numbered s bs (Err (error.Trailing p)) (Err error.Resource) h g = absurd g
same_numbered s bs (Err (error.Trailing p)) (Err (error.NotOfType e)) h g = absurd g
same_numbered s bs (Err (error.Trailing p)) (Err (error.Truncated q)) h g = absurd (followed_not_stopped (numbered_shape s) bs p q truncated h g)
same_numbered s bs (Err (error.Trailing p)) (Err (error.Malformed q)) h g = absurd (followed_not_stopped (numbered_shape s) bs p q malformed h g)
same_numbered s bs (Err (error.Trailing p)) (Err (error.Trailing q)) h g = ap (λ i. error.Trailing i) (followed_once (numbered_shape s) bs p q h g)
