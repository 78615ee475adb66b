-- What holds of every table that a builder makes.
use Rattle.std.specs.Prelude.{◌≡◌, ◌≢◌, ◌<◌, false, All, AllPairs}
use Rattle.canon_types.specs.declared.types.TypeFunc.{TypeFunc}
use Rattle.canon_types.specs.Depth.{member_borrows}
use Rattle.canon_types.specs.Refusal.{names}
use Rattle.canon_types.specs.Table.{Definition, TypeTable, result_members}

-- no two fields, cases or names of a definition have the same name
abbrev pub NamesDiffer : Definition → Type 0
NamesDiffer d = AllPairs (λ a b. a ≢ b) (names d)

-- no borrowed handle occurs in a function's results, at any depth
abbrev pub HoldNoBorrow : TypeTable → TypeFunc → Type 0
HoldNoBorrow t f = member_borrows (result_members t f) ≡ false

pub record IsValidTable (t : TypeTable) : Type 0 where
  pub names : All NamesDiffer t.definitions
  pub results : All (HoldNoBorrow t) t.funcs
  pub instances : All (λ r. r.instance < 256) t.resources
