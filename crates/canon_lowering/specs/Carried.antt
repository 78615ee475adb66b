-- Lowering of values that come from another memory. They are told by trees with the spelled lengths of where they come from, and the
-- handles that they are given; what stands is a tree that is spelled as the texts are lowered.
use Rattle.std.specs.Prelude.{Bool, List, [], false, ℕ, ◌∷◌}
use Rattle.canon_model.specs.Carrying.{AllHanded, AllRespelled, Handed, Respelled}
use Rattle.canon_model.specs.Flat.{MembersFlat, RepFlatAt}
use Rattle.canon_model.specs.Homes.{Texts}
use Rattle.canon_model.specs.Memory.{Inside, Memory}
use Rattle.canon_model.specs.Rep.{MembersStored, RepMem}
use Rattle.canon_model.specs.Shape.{Members, Shape}
use Rattle.canon_model.specs.Text.{Encoding}
use Rattle.canon_model.specs.Tree.{Tree, Trees}
use Rattle.canon_lowering.specs.Stages.{Stage}
use Rattle.canon_lowering.specs.Attempt.{Aim, Attempt, args_in, members_at, members_span, members_words, value_at, value_place, value_words}
use Rattle.canon_lowering.specs.Lowering.{Ending}

-- the same aim, where another x stands that is alike
abbrev pub loosened : {X : Type 0} → (X → X → Type 0) → Aim X → Aim X
loosened {X} Alike aim = record {
  Is = aim.Is;
  asks = aim.asks;
  Rep = λ blocks bytes x. (y : X) × Alike x y × aim.Rep blocks bytes y;
  Home = aim.Home;
  handles = aim.handles;
}

abbrev pub StoresCarried : {K : Type 0} → Bool → Stage K → Stage K → Texts → Shape → ℕ → (Tree → Type 0) → List ℕ → Ending → Type 0
StoresCarried wide before after texts s at Has hs ending = Attempt wide before after (value_place wide s at ∷ []) (loosened Respelled (value_at wide texts s at Has)) hs ending

abbrev pub MembersCarried : {K : Type 0} → Bool → Stage K → Stage K → Texts → Members → ℕ → ℕ → (Trees → Type 0) → List ℕ → Ending → Type 0
MembersCarried wide before after texts ms o at Have hs ending = Attempt wide before after (members_span wide ms o at ∷ []) (loosened AllRespelled (members_at wide texts ms o at Have)) hs ending

abbrev pub LowersCarried : {K : Type 0} → Bool → Stage K → Stage K → Texts → Shape → List ℕ → ℕ → (Tree → Type 0) → List ℕ → Ending → Type 0
LowersCarried wide before after texts s ws i Has hs ending = Attempt wide before after [] (loosened Respelled (value_words wide texts s ws i Has)) hs ending

abbrev pub WordsCarried : {K : Type 0} → Bool → Stage K → Stage K → Texts → Members → List ℕ → ℕ → (Trees → Type 0) → List ℕ → Ending → Type 0
WordsCarried wide before after texts ms ws i Have hs ending = Attempt wide before after [] (loosened AllRespelled (members_words wide texts ms ws i Have)) hs ending

-- a function's parameters
abbrev pub ArgsCarried : {K : Type 0} → Bool → Stage K → Stage K → Texts → Members → (Trees → Type 0) → List ℕ → List ℕ → Ending → Type 0
ArgsCarried wide before after texts ms Have ws hs ending = Attempt wide before after [] (loosened AllRespelled (args_in wide texts ms ws Have)) hs ending

-- ---- what is told of a value that is read in a memory

module _ (enc : Encoding) (m : Memory) where
  -- the tree that stands at an address, with other handles
  abbrev pub StandsWith : Shape → ℕ → Tree → Type 0
  StandsWith s a t = (u : Tree) × RepMem false enc m a s u × Handed u t

  -- the trees of members, from where the one before them ends
  abbrev pub StandWith : Members → ℕ → ℕ → Trees → Type 0
  StandWith ms o a ts = (us : Trees) × MembersStored (Inside m) false enc m ms o a us × AllHanded us ts

  -- the same in words
  abbrev pub StandsWithIn : List ℕ → Shape → ℕ → Tree → Type 0
  StandsWithIn ws s i t = (u : Tree) × RepFlatAt false enc m ws i s u × Handed u t

  abbrev pub StandWithIn : List ℕ → Members → ℕ → Trees → Type 0
  StandWithIn ws ms i ts = (us : Trees) × MembersFlat (Inside m) false enc m ws ms i us × AllHanded us ts
