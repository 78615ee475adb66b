use Rattle.std.proofs.Common.{◌≡◌, map, string_bytes, take}
use denote.Text.{Utf8}
use denote.Shadow.{shadow}
use Rattle.std.specs.Fmt.{HasWrittenStyled, IsFlush}
use Rattle.std.specs.List.{join_with_byte}
use Rattle.canon_named.specs.FlagText.{set_names}
use Rattle.canon_named.proofs.SetNames.{bar_after}
use Rattle.canon_named.proofs.names.write_set_names.Given as goal

abbrev pub invariant-loop-k : goal.invariant-loop-k
invariant-loop-k g l = record {
  text : shadow (Utf8 l.separator);
  separator : l.separator ≡ bar_after (set_names l.bits (map (λ n. string_bytes n) (take l.k l.names)));
  written : IsFlush l.initial.f → HasWrittenStyled g.W.Write.write_str_gives l.initial.f (join_with_byte 124 (set_names l.bits (map (λ n. string_bytes n) (take l.k l.names)))) l.f;
}
