-- The encoding that an option names.
use Rattle.canon_model.specs.Text.{Encoding, compact, utf16, utf8}
use Rattle.canon_abi.specs.declared.options.StringEncoding.{StringEncoding}
use Rattle.canon_abi.specs.declared.options.StringEncoding.TheVariants.{CompactUtf16, Utf16, Utf8}

abbrev pub encoding_of : StringEncoding → Encoding
encoding_of Utf8 = utf8
encoding_of Utf16 = utf16
encoding_of CompactUtf16 = compact
