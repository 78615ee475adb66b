-- A tuple as a first member and those behind it.
use Rattle.canon_model.specs.Tree.{Tree, Trees}
use Rattle.canon_typed.specs.Meaning.{FirstAnd, NoTrees}
use Rattle.canon_lift.specs.declared.members.First.{First}

abbrev pub first_and : {A R : Type 0} → A → R → First A R
first_and a r = record { first = a; rest = r }

abbrev pub no_more : Unit {0}
no_more = tt

abbrev pub first_in : {A R : Type 0} → First A R → A
first_in m = m.first

abbrev pub rest_in : {A R : Type 0} → First A R → R
rest_in m = m.rest

-- the trees of each
abbrev pub FirstHave : {A R : Type 0} → (A → Tree → Type 0) → (R → Trees → Type 0) → First A R → Trees → Type 0
FirstHave Has Have m = FirstAnd (Has m.first) (Have m.rest)

abbrev pub NoneHave : {R : Type 0} → R → Trees → Type 0
NoneHave m = NoTrees
