-- Two calls, typed or dynamic, in one store or two, whose starts name the same trees.
use Rattle.std.specs.Prelude.{List, None, Option, Some, false, ℕ, ⊤, ◌≡◌}
use Rattle.canon_model.specs.Fields.{SameArgs}
use Rattle.canon_model.specs.Flat.{AreWords}
use Rattle.canon_model.specs.Memory.{IsMemory}
use Rattle.canon_model.specs.Requests.{Request}
use Rattle.canon_memory.specs.Guest.{Moment}
use Rattle.canon_lowering.specs.Lowering.{AllLawful, Answer, Meets, Trap, addresses_of, events_of}
use Rattle.canon_lowering.specs.Storing.{narrow}
use Rattle.canon_func.specs.Call.{IsStart}
use Rattle.canon_func.specs.Passing.{Arguments}
use Rattle.canon_func.specs.Stores.{Callee}

-- Where `realloc` gave both the same answers, and kept its law, both started with the same words; and all that these point to has the same
-- bytes, but for padding.
abbrev pub StartsAlike : Callee → Arguments → Arguments → Type 0
StartsAlike callee args other = (entry entry2 : Moment) (answers answers2 : List Answer) (given given2 words words2 memory memory2 : List ℕ)
    → IsMemory (narrow memory) → IsMemory (narrow memory2) → AreWords words → AreWords words2
    → (h : IsStart args callee entry answers given words memory) → (k : IsStart other callee entry2 answers2 given2 words2 memory2)
    → k.trees ≡ h.trees → addresses_of answers2 ≡ addresses_of answers → AllLawful answers → AllLawful answers2
    → SameArgs callee.encoding false memory memory2 words words2 callee.params h.trees

-- both trapped at the same request, or not both trapped
abbrev pub TrapsAlike : Option Trap → Option Trap → Type 0
TrapsAlike (Some t) (Some u) = u.call ≡ t.call
TrapsAlike _ _ = ⊤

-- Two that met the first of the same requests, and were answered the same, made the same requests.
abbrev pub AsksAlike : Type 0
AsksAlike = (requests left left2 : List Request) (answers answers2 : List Answer) (trap trap2 : Option Trap)
    → ((last : ℕ) → Meets last requests answers trap left) → ((last : ℕ) → Meets last requests answers2 trap2 left2)
    → addresses_of answers2 ≡ addresses_of answers → (events_of answers2 None ≡ events_of answers None) × TrapsAlike trap trap2
