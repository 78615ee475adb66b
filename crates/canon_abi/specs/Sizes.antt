-- The bytes that a discriminant and that flags take, as the code tells them.
use Rattle.std.specs.Prelude.{ℕ, ◌*◌}
use Rattle.canon_abi.specs.declared.sizes.DiscriminantSize.{DiscriminantSize}
use Rattle.canon_abi.specs.declared.sizes.DiscriminantSize.TheVariants.{Size1, Size2, Size4}
use Rattle.canon_abi.specs.declared.sizes.FlagsSize.{FlagsSize}
use Rattle.canon_abi.specs.declared.sizes.FlagsSize.TheVariants as flags

abbrev pub tag_bytes : DiscriminantSize → ℕ
tag_bytes Size1 = 1
tag_bytes Size2 = 2
tag_bytes Size4 = 4

abbrev pub flag_bytes : FlagsSize → ℕ
flag_bytes flags.Size0 = 0
flag_bytes flags.Size1 = 1
flag_bytes flags.Size2 = 2
flag_bytes (flags.Size4Plus words) = 4 * words
