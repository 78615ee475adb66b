-- What is left of the names tells whether one stands twice.
use Rattle.std.proofs.Common.{◌≡◌, map, string_bytes, drop}
use Rattle.canon_types.specs.Refusal.{has_repeats, repeats_after}
use Rattle.canon_types.proofs.table.names.check_fields.Given as goal

abbrev pub invariant-loop-field : goal.invariant-loop-field
invariant-loop-field l =
    repeats_after (map (λ s. s.now) l.seen.keys) (map (λ f. string_bytes f.name) (drop l.field-index l.fields)) ≡ has_repeats (map (λ f. string_bytes f.name) l.fields)
