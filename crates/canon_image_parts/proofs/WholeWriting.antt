-- A whole image.
use Rattle.std.proofs.Common.{Err, List, Ok, Result, Vec, [], ap, false, subst, sym, ℕ, ◌++◌, ◌∙◌, ◌≡◌}
use Rattle.std.specs.declared.alloc.Global.{Global}
use Rattle.canon_model.specs.Image.{Image}
use Rattle.canon_model.specs.Shape.{Shape}
use Rattle.canon_model.specs.Tree.{Tree}
use Rattle.canon_plan.specs.NoHandle.{HasNoHandle}
use Rattle.canon_resources.specs.Held.{Any}
use Rattle.canon_val.specs.declared.val.Val.{Val}
use Rattle.canon_image_parts.proofs.Numbering.{numbered_same, plain_tree}
use Rattle.canon_image_parts.specs.Numbered.{NumberedImage, numbered_shape}
use Rattle.canon_image_parts.specs.Written.{IsImaged, IsListedImage, IsNumberedImage, WritesTo, sink}
use Rattle.canon_image_parts.specs.declared.error.ImageError.{ImageError}
use Rattle.canon_image_parts.specs.declared.error.ImageError.TheVariants as error

pub written_all : (before after : List Any) (none bytes : List ℕ) (s : Shape) (v : Val) (next : ℕ) → none ≡ [] → WritesTo (sink none before) (sink bytes after) s v 0 (Ok next) → IsListedImage before after s v bytes
written_all before after none bytes s v next is h =
    let (t, bs, adds, has, image) = h.written in
    let whole : bytes ≡ bs = adds.bytes ∙ ap (λ l. l ++ bs) is in
    (t, has, subst (λ l. NumberedImage s t l) (sym whole) image, adds.list)

-- of a type that reaches no handle
pub imaged_plain : (before after : List Any) (s : Shape) (v : Val) (r : Result (Vec ℕ Global) ImageError) → HasNoHandle s → IsNumberedImage before after s v r → IsImaged s v r
imaged_plain before after s v (Ok bytes) plain (t, has, image, added) =
    (plain, (t, has, subst (λ (u : Shape). Image u t bytes.items) (numbered_same s plain) (subst (λ (u : Tree). Image (numbered_shape s) u bytes.items) (plain_tree false s v t plain has) image)))
imaged_plain before after s v (Err (error.NotOfType e)) plain (told, blames) = (plain, told, blames)
imaged_plain before after s v (Err error.OutOfMemory) plain h = tt
imaged_plain before after s v (Err error.Resource) plain h = absurd h
imaged_plain before after s v (Err (error.Truncated p)) plain h = absurd h
imaged_plain before after s v (Err (error.Malformed p)) plain h = absurd h
imaged_plain before after s v (Err (error.Trailing p)) plain h = absurd h
