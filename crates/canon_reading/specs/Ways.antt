-- What a handle that is lifted does in the ledger.
use Rattle.std.specs.Prelude.{◌≡◌, ◌++◌, ◌⊎◌, Bool, List, [], ◌∷◌, if◌then◌else◌, false, true, ⊤, ℕ}
use Rattle.canon_resources.specs.Parts.{Part, lend, lift_parts, table_for, take}
use Rattle.canon_model.specs.Leaves.{Leaf}
use Rattle.canon_types.specs.Instance.{Instance}

-- it is taken or lent from the instance's table, and its representation is what the host gets
abbrev pub taken_parts : Bool → Instance → ℕ → ℕ → List Part
taken_parts true i ty index = take (table_for i ty) ty index ∷ []
taken_parts false i ty index = lend (table_for i ty) ty index ∷ []

abbrev pub rep_parts : Instance → Leaf → List Part
rep_parts i leaf = taken_parts leaf.owned i leaf.resource leaf.index

-- It goes into the host's table, as one that carries its type does, or the host gets its representation alone, as of a resource of its own.
abbrev pub IsLiftedBy : Instance → Leaf → List Part → Type 0
IsLiftedBy i leaf ps = (ps ≡ lift_parts i leaf) ⊎ (ps ≡ rep_parts i leaf)

-- handles, one after another
abbrev pub AreLiftedBy : Instance → List Leaf → List (List Part) → Type 0
AreLiftedBy i [] [] = ⊤
AreLiftedBy i (leaf ∷ leaves) (ps ∷ rest) = IsLiftedBy i leaf ps × AreLiftedBy i leaves rest
AreLiftedBy i _ _ = ⊥

pub lifted_then : (i : Instance) (ls ms : List Leaf) (ps qs : List (List Part)) → AreLiftedBy i ls ps → AreLiftedBy i ms qs → AreLiftedBy i (ls ++ ms) (ps ++ qs)
lifted_then i [] ms [] qs h g = g
lifted_then i [] ms (p ∷ ps) qs h g = absurd h
lifted_then i (l ∷ ls) ms [] qs h g = absurd h
lifted_then i (l ∷ ls) ms (p ∷ ps) qs (first, rest) g = (first, lifted_then i ls ms ps qs rest g)

-- of what is reached or not
pub lifted_if : (i : Instance) (b : Bool) (ls : List Leaf) (ps : List (List Part)) → AreLiftedBy i ls ps → AreLiftedBy i (if b then ls else []) (if b then ps else [])
lifted_if i true ls ps h = h
lifted_if i false ls ps h = tt
