-- Bytes that are read to their end.
use Rattle.std.proofs.Common.{Err, List, Ok, Result, [], append-nil, ap, arith, drop, length, length-drop, subst, sym, true, ℕ, ◌++◌, ◌<◌, ◌∙◌, ◌≡◌, ◌≤◌}
use Rattle.canon_model.specs.Image.{Image}
use Rattle.canon_model.specs.Shape.{Shape}
use Rattle.canon_model.specs.Tree.{Tree}
use Rattle.canon_plan.specs.NoHandle.{HasNoHandle}
use Rattle.canon_plan.proofs.Lookups.{drop_all}
use Rattle.canon_val.specs.declared.val.Val.{Val}
use Rattle.canon_image_parts.proofs.Numbering.{numbered_same, plain_tree}
use Rattle.canon_image_parts.specs.Numbered.{NumberedImage, numbered_shape, numbered_tree}
use Rattle.canon_image_parts.specs.Read.{IsNumberedRead, IsRead, ReadsTo}
use Rattle.canon_image_parts.specs.Stops.{IsFollowed, StopsAt, malformed, truncated}
use Rattle.canon_image_parts.specs.declared.error.ImageError.{ImageError}
use Rattle.canon_image_parts.specs.declared.error.ImageError.TheVariants as error

pub read_all : (s : Shape) (bs : List ℕ) (to : ℕ) (v : Val) → ReadsTo bs 0 to s (Ok v) → length bs ≤ to → IsNumberedRead s bs (Ok v)
read_all s bs to v (t, xs, span, image, lifted, numbers) end =
    let none : drop to bs ≡ [] = drop_all bs to (omega (arith, end, span.inside)) in
    let whole : xs ≡ bs = sym (span.is ∙ (ap (λ l. xs ++ l) none ∙ append-nil xs)) in
    (t, subst (NumberedImage s t) whole image, lifted, numbers)

pub read_more : (s : Shape) (bs : List ℕ) (to : ℕ) (v : Val) → ReadsTo bs 0 to s (Ok v) → to < length bs → IsNumberedRead s bs (Err (error.Trailing to))
read_more s bs to v (t, xs, span, image, lifted, numbers) more = (numbered_tree t, xs, drop to bs, span.is, image, omega (arith, span.to_is), omega (arith, more, length-drop to bs))

pub read_stopped : (s : Shape) (bs : List ℕ) (to : ℕ) (e : ImageError) → ReadsTo bs 0 to s (Err e) → IsNumberedRead s bs (Err e)
read_stopped s bs to error.Resource h = absurd h
read_stopped s bs to (error.NotOfType k) h = absurd h
read_stopped s bs to (error.Truncated p) (j, ep, h) = subst (λ i. StopsAt (numbered_shape s) bs i truncated) (let same : j ≡ p = omega (arith, ep) in same) h
read_stopped s bs to (error.Malformed p) (j, ep, h) = subst (λ i. StopsAt (numbered_shape s) bs i malformed) (let same : j ≡ p = omega (arith, ep) in same) h
read_stopped s bs to (error.Trailing p) h = absurd h
read_stopped s bs to error.OutOfMemory h = tt

-- of a type that reaches no handle
pub read_plain : (s : Shape) (bs : List ℕ) (r : Result Val ImageError) → HasNoHandle s → IsNumberedRead s bs r → IsRead s bs r
read_plain s bs (Ok v) plain (t, image, lifted, numbers) =
    (plain, (t, subst (λ (u : Shape). Image u t bs) (numbered_same s plain) (subst (λ (u : Tree). Image (numbered_shape s) u bs) (plain_tree true s v t plain lifted) image), lifted))
read_plain s bs (Err (error.Truncated p)) plain h = (plain, subst (λ (u : Shape). StopsAt u bs p truncated) (numbered_same s plain) h)
read_plain s bs (Err (error.Malformed p)) plain h = (plain, subst (λ (u : Shape). StopsAt u bs p malformed) (numbered_same s plain) h)
read_plain s bs (Err (error.Trailing p)) plain h = (plain, subst (λ (u : Shape). IsFollowed u bs p) (numbered_same s plain) h)
read_plain s bs (Err error.OutOfMemory) plain h = tt
read_plain s bs (Err error.Resource) plain h = absurd h
read_plain s bs (Err (error.NotOfType e)) plain h = absurd h
