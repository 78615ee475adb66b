use Rattle.std.proofs.Common.{◌≡◌, length, map, string_bytes, take}
use Rattle.canon_named.proofs.names.are_field_names.Given as goal

abbrev pub invariant-loop-k : goal.invariant-loop-k
invariant-loop-k l = record {
  long : length l.fields ≡ length l.names;
  same : take l.k (map (λ f. string_bytes f.name) l.fields) ≡ take l.k (map (λ n. string_bytes n) l.names);
}
