-- What holds for each width.
use Rattle.std.proofs.Common.{Bool, false, true}

pub for_both : (P : Bool → Type 0) → P false → P true → (wide : Bool) → P wide
for_both P narrow broad false = narrow
for_both P narrow broad true = broad
