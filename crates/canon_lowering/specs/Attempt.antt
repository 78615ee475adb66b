-- An attempt to lower something: what stands at its places afterwards, with which handles and requests, or why not.
use Rattle.std.specs.Prelude.{Bool, List, Option, [], true, ℕ, ◌++◌, ◌*◌, ◌+◌, ◌-◌, ◌∷◌, ◌≡◌, ◌⊎◌}
use Rattle.canon_model.specs.Flat.{Flat, MembersFlat, RepValuesIn, max_params}
use Rattle.canon_model.specs.Homes.{AnyPointer, FlatHomes, Homes, MembersFlatHome, MembersHome, ParamsHome, PointsTo, Texts}
use Rattle.canon_model.specs.Layout.{align, members_align, members_end, size}
use Rattle.canon_model.specs.Leaves.{Leaf, leaves, members_leaves}
use Rattle.canon_model.specs.Memory.{Block, InsideBlocks, Within, memory_of}
use Rattle.canon_model.specs.Rep.{MembersStored, RepMemIn}
use Rattle.canon_model.specs.Requests.{Call, Request, members_requests, params_requests, requests}
use Rattle.canon_model.specs.Shape.{Members, Shape, of_places, product}
use Rattle.canon_model.specs.Tree.{Tree, Trees}
use Rattle.canon_memory.specs.Realloc.{block, call}
use Rattle.canon_lowering.specs.Stages.{Stage}
use Rattle.canon_lowering.specs.Steps.{Apart}
use Rattle.canon_lowering.specs.Lowering.{AllLawful, AllTidy, Answer, Ending, Lowering, Requested, Trap, WhenDone, addresses_of, blocks_of}

-- the handles of leaves, in order
abbrev pub handle_numbers : List Leaf → List ℕ
handle_numbers [] = []
handle_numbers (leaf ∷ others) = leaf.index ∷ handle_numbers others

-- What is to be lowered, told by an x as a tree, or trees in a row: which x it is, what it asks for, what blocks and memory
-- are to represent, which answers are its homes, and which handles it has, in order.
pub record Aim (X : Type 0) : Type 1 where
  pub Is : X → Type 0
  pub asks : X → List Request
  pub Rep : List Block → List ℕ → X → Type 0
  pub Home : (ℕ → ℕ → Type 0) → X → List ℕ → List ℕ → Type 0
  pub handles : X → List ℕ

-- The places lived, or no answer came near them.
abbrev pub AreHeld : {K : Type 0} → Stage K → List Answer → List Block → Type 0
AreHeld before answers places = Within places before.guest.live ⊎ (AllTidy answers × Apart (blocks_of answers) places)

module _ {K : Type 0} {X : Type 0} (wide : Bool) (before after : Stage K) (places : List Block) (aim : Aim X) where
  -- It stands, and these are the handles of the x that it is.
  pub record Shown (answers : List Answer) (fresh : List Block) (hs : List ℕ) : Type 0 where
    pub it : X
    pub is : aim.Is it
    pub handles : aim.handles it ≡ hs
    pub rep : AllLawful answers → AreHeld before answers places → aim.Rep (places ++ fresh) after.bytes it
    pub homes : (rest : List ℕ) → aim.Home AnyPointer it (addresses_of answers ++ rest) rest
    pub memory_homes : AllLawful answers → AreHeld before answers places → (rest : List ℕ) → aim.Home (PointsTo (memory_of after.bytes wide)) it (addresses_of answers ++ rest) rest

  -- Where it wasn't done, the handles say nothing.
  pub record Attempt (hs : List ℕ) (ending : Ending) : Type 0 where
    pub answers : List Answer
    pub trap : Option Trap
    pub fresh : List Block
    pub lowering : Lowering before after places ending answers trap fresh
    pub requested : (x : X) → aim.Is x → Requested (aim.asks x) ending answers trap
    pub shown : WhenDone ending (Shown answers fresh hs)

-- ---- the aims

-- a value in memory, and members from where the one before them ends, at offset o
abbrev pub value_at : Bool → Texts → Shape → ℕ → (Tree → Type 0) → Aim Tree
value_at wide texts s at Has = record {
  Is = Has;
  asks = λ t. requests wide texts.asks s t;
  Rep = λ blocks bytes t. RepMemIn blocks true texts.encoding (memory_of bytes wide) at s t;
  Home = λ pointer t xs ys. Homes pointer texts wide s at t xs ys;
  handles = λ t. handle_numbers (leaves s t);
}

abbrev pub members_at : Bool → Texts → Members → ℕ → ℕ → (Trees → Type 0) → Aim Trees
members_at wide texts ms o at Have = record {
  Is = Have;
  asks = λ ts. members_requests wide texts.asks ms ts;
  Rep = λ blocks bytes ts. MembersStored (InsideBlocks blocks (memory_of bytes wide)) true texts.encoding (memory_of bytes wide) ms o at ts;
  Home = λ pointer ts xs ys. MembersHome pointer texts wide ms o at ts xs ys;
  handles = λ ts. handle_numbers (members_leaves ms ts);
}

-- the same in words from word i on
abbrev pub value_words : Bool → Texts → Shape → List ℕ → ℕ → (Tree → Type 0) → Aim Tree
value_words wide texts s ws i Has = record {
  Is = Has;
  asks = λ t. requests wide texts.asks s t;
  Rep = λ blocks bytes t. Flat (InsideBlocks blocks (memory_of bytes wide)) true texts.encoding (memory_of bytes wide) ws s i t;
  Home = λ pointer t xs ys. FlatHomes pointer texts wide ws s i t xs ys;
  handles = λ t. handle_numbers (leaves s t);
}

abbrev pub members_words : Bool → Texts → Members → List ℕ → ℕ → (Trees → Type 0) → Aim Trees
members_words wide texts ms ws i Have = record {
  Is = Have;
  asks = λ ts. members_requests wide texts.asks ms ts;
  Rep = λ blocks bytes ts. MembersFlat (InsideBlocks blocks (memory_of bytes wide)) true texts.encoding (memory_of bytes wide) ws ms i ts;
  Home = λ pointer ts xs ys. MembersFlatHome pointer texts wide ws ms i ts xs ys;
  handles = λ ts. handle_numbers (members_leaves ms ts);
}

abbrev pub value_place : Bool → Shape → ℕ → Block
value_place wide s at = block at (size wide s)

abbrev pub members_span : Bool → Members → ℕ → ℕ → Block
members_span wide ms o at = block (at + o) (members_end wide o ms - o)

-- ---- the attempts

abbrev pub StoresValue : {K : Type 0} → Bool → Stage K → Stage K → Texts → Shape → ℕ → (Tree → Type 0) → List ℕ → Ending → Type 0
StoresValue wide before after texts s at Has hs ending = Attempt wide before after (value_place wide s at ∷ []) (value_at wide texts s at Has) hs ending

abbrev pub StoresMembers : {K : Type 0} → Bool → Stage K → Stage K → Texts → Members → ℕ → ℕ → (Trees → Type 0) → List ℕ → Ending → Type 0
StoresMembers wide before after texts ms o at Have hs ending = Attempt wide before after (members_span wide ms o at ∷ []) (members_at wide texts ms o at Have) hs ending

abbrev pub LowersValue : {K : Type 0} → Bool → Stage K → Stage K → Texts → Shape → List ℕ → ℕ → (Tree → Type 0) → List ℕ → Ending → Type 0
LowersValue wide before after texts s ws i Has hs ending = Attempt wide before after [] (value_words wide texts s ws i Has) hs ending

abbrev pub LowersMembers : {K : Type 0} → Bool → Stage K → Stage K → Texts → Members → List ℕ → ℕ → (Trees → Type 0) → List ℕ → Ending → Type 0
LowersMembers wide before after texts ms ws i Have hs ending = Attempt wide before after [] (members_words wide texts ms ws i Have) hs ending

-- ---- the blocks that are asked for

-- of a list of n items, and of a function's parameters as a tuple
abbrev pub items_call : Bool → Shape → ℕ → Call
items_call wide s n = call 0 0 (align wide s) (n * size wide s)

abbrev pub args_call : Bool → Members → Call
args_call wide ms = call 0 0 (members_align wide ms) (size wide (product of_places ms))

-- ---- parameters

-- a function's parameters, whose words these are: in a row, or a pointer to them
abbrev pub args_in : Bool → Texts → Members → List ℕ → (Trees → Type 0) → Aim Trees
args_in wide texts ms ws Have = record {
  Is = Have;
  asks = λ ts. params_requests wide texts.asks ms ts;
  Rep = λ blocks bytes ts. RepValuesIn blocks max_params true texts.encoding (memory_of bytes wide) ws ms ts;
  Home = λ pointer ts xs ys. ParamsHome pointer texts wide ws ms ts xs ys;
  handles = λ ts. handle_numbers (members_leaves ms ts);
}

abbrev pub LowersArgs : {K : Type 0} → Bool → Stage K → Stage K → Texts → Members → (Trees → Type 0) → List ℕ → List ℕ → Ending → Type 0
LowersArgs wide before after texts ms Have ws hs ending = Attempt wide before after [] (args_in wide texts ms ws Have) hs ending
