-- The members of a tuple from one on, as a reading.
use Rattle.canon_model.specs.Shape.{Members}
use Rattle.canon_reading.specs.Reading.{Reading}
use Rattle.canon_reading.specs.Readings.{RestReading}
use Rattle.canon_reading.specs.Spots.{Rest}

abbrev pub rest_reading : {A : Type 0} → RestReading A → Rest → Members → Reading A
rest_reading S from ms = record {
  reads = λ w at s. S.reads w from ms;
  faults = λ w at s. S.faults w from ms;
  reach = λ w at s. S.reach w from ms;
  steps = λ w at s. S.steps w from ms;
  allocates = S.allocates;
}
