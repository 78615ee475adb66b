use Rattle.std.proofs.Common.{◌≡◌, ◌++◌, string_bytes}
use Rattle.std.specs.Str.{IsUtf8}
use Rattle.std.specs.Str.Iter.{chars_rest}
use Rattle.canon_transcript.specs.Text.{name_text}
use Rattle.canon_transcript.proofs.values.print_name.Given as goal

-- the text so far and that of the characters that are left are the whole
abbrev pub invariant-loop-c : goal.invariant-loop-c
invariant-loop-c l =
    record {
      utf8 : IsUtf8 (chars_rest l.c-iterator);
      printed : string_bytes l.text ++ name_text (chars_rest l.c-iterator) ≡ string_bytes l.fn.text ++ name_text l.name;
    }
