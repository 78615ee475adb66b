-- A text read from memory. `before` and `after` are the fuel.
use Rattle.std.specs.Prelude.{◌≡◌, ◌+◌, List, String, false, string_bytes, ℕ}
use Rattle.std.specs.declared.alloc.Global.{Global}
use Rattle.canon_model.specs.Memory.{Inside, Memory}
use Rattle.canon_model.specs.Rep.{IsText}
use Rattle.canon_model.specs.Text.{Encoding, Spells, in_utf8}
use Rattle.canon_model.specs.Tree.{text}

-- the text of length n at p, whose spelled bytes were taken from the fuel
abbrev pub IsTextLoaded : Encoding → Memory → ℕ → ℕ → ℕ → ℕ → String Global → Type 0
IsTextLoaded enc m p n before after s = (cs : List ℕ) × (k : ℕ) × IsText (Inside m) false enc m p n (text cs k) × Spells in_utf8 (string_bytes s) cs × (before ≡ after + k)
