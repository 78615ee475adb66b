use Rattle.std.proofs.Common.{sym}
use Rattle.canon_model.proofs.SameTypes.{same_align, same_flat, same_size}
use Rattle.canon_types.specs.Table.{shape_of}
use Rattle.canon_same.specs.Same.{SameResource}
use Rattle.canon_same.proofs.laws.same_lies_alike.Goals as goal

pub returns : goal.returns
returns c = record {
  size = λ i j type other wide h. sym (same_size (SameResource i j) wide (shape_of i.types type) (shape_of j.types other) h);
  align = λ i j type other wide h. sym (same_align (SameResource i j) wide (shape_of i.types type) (shape_of j.types other) h);
  flat = λ i j type other h. sym (same_flat (SameResource i j) (shape_of i.types type) (shape_of j.types other) h);
}
