-- What is asked of each function of a component that may be recorded.
use Rattle.std.specs.Prelude.{IfSome, false, slice_get, ℕ, ◌≡◌}
use Rattle.canon_context.specs.Quiet.{have_block}
use Rattle.canon_context.specs.declared.component.Component.{Component}
use Rattle.canon_plan.specs.NoHandle.{HaveNoHandle}
use Rattle.canon_recording.specs.Fits.{IsHost}
use Rattle.canon_recording.specs.Recordings.{Functions, imports_of}

-- function n reaches no handle
abbrev pub IsPlain : Functions → ℕ → Type 0
IsPlain functions n = HaveNoHandle (functions.params n) × HaveNoHandle (functions.results n)

-- import n is a function of the host that reaches no handle, and its results reach no text, list or map
pub record IsFlatImport (c : Component) (n : ℕ) : Type 0 where
  pub host : IfSome (slice_get c.imports.items n) IsHost
  pub plain : IsPlain (imports_of c) n
  pub flat : have_block ((imports_of c).results n) ≡ false
