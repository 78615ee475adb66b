use Rattle.std.proofs.Common.{List, OnOk, ap, subst, take, ℕ, ◌++◌, ◌∙◌, ◌≡◌}
use Rattle.canon_model.proofs.NumberBytes.{low_bytes}
use Rattle.canon_image_parts.proofs.write.put_number.Goals as goal

pub returns-clause-ok : goal.returns-clause-ok
returns-clause-ok c =
    subst (λ (l : List ℕ). OnOk c.append.result (c.append.new.bytes.items ≡ c.args.bytes.now.items ++ l))
    (ap (take c.args.size) c.to_le_bytes-all.ensures ∙ low_bytes c.args.size c.args.number c.requires.few) c.append.ensures.ok
