use Rattle.std.proofs.Common.{refl, sym, ◌∙◌}
use Rattle.canon_model.proofs.SameTypes.{same_turned}
use Rattle.canon_types.specs.Table.{shape_of}
use Rattle.canon_same.specs.Same.{SameResource}
use Rattle.canon_same.proofs.Equivalence.{shape_itself, shapes_joined}
use Rattle.canon_same.proofs.laws.same_is_equivalence.Goals as goal

pub returns : goal.returns
returns c = record {
  itself = λ i type. shape_itself (SameResource i i) (λ r. refl) (shape_of i.types type);
  turned = λ i j type other h. same_turned (SameResource i j) (SameResource j i) (λ r q e. sym e) (shape_of i.types type) (shape_of j.types other) h;
  joined = λ i j k one two three h g. shapes_joined (SameResource i j) (SameResource j k) (SameResource i k) (λ r q p e f. e ∙ f) (shape_of i.types one) (shape_of j.types two) (shape_of k.types three) h g;
}
