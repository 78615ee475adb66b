-- Values on the way from one memory to another: how their texts ask for blocks, by how they were spelled, and the trees on the way, which
-- have the spelled lengths of where they come from and the handles of where they go.
use Rattle.std.specs.Prelude.{Bool, List, [], false, if◌then◌else◌, length, nat_lt, true, ℕ, ⊤, ◌*◌, ◌==◌, ◌∷◌, ◌≡◌}
use Rattle.std.specs.Str.{encode_utf8_all}
use Rattle.canon_model.specs.Homes.{IsTextLength, Texts}
use Rattle.canon_model.specs.Requests.{Request, anew, limited, resized, resized_at, shrunk, shrunk_at, text_blocks}
use Rattle.canon_model.specs.Text.{Encoding, all_latin1, compact, in_utf16, text_bytes, units, utf16, utf8}
use Rattle.canon_model.specs.Tree.{Tree, Trees, bits, case, case_of, code_point, handle, items, no_trees, number, parts, scalars_of, text, text_length, tree, truth}

-- ---- texts

-- how a text is spelled where it comes from; under "latin1+utf16" it is tagged, or Latin-1
pub data Source : Type 0 where
  from_utf8 from_utf16 from_tagged from_latin1 : Source

-- by the encoding there, and its tree: as many bytes as scalars are Latin-1
abbrev pub source_of : Encoding → Tree → Source
source_of utf8 t = from_utf8
source_of utf16 t = from_utf16
source_of compact t = if text_length t == length (scalars_of t) then from_latin1 else from_tagged

abbrev pub all_ascii : List ℕ → Bool
all_ascii [] = true
all_ascii (c ∷ cs) = if nat_lt c 128 then all_ascii cs else false

-- n units go into UTF-8 in passes: the first has a byte for each and reads ASCII alone, the second has the most that they may take
abbrev pub pass_requests : ℕ → ℕ → List ℕ → List Request
pass_requests n most cs = anew 1 n ∷ (if all_ascii cs then [] else resized_at 1 n most ∷ shrunk_at 1 most (length (encode_utf8_all cs)))

-- What a text asks for that is transcoded, were it short enough: from UTF-8 as a text of the host does, and else by its units.
abbrev pub carried_requests : Source → Encoding → List ℕ → List Request
carried_requests from_utf8 to cs = text_blocks to (length (encode_utf8_all cs)) cs
carried_requests from_utf16 utf8 cs = let n = length (units in_utf16 cs) in pass_requests n (3 * n) cs
carried_requests from_utf16 utf16 cs = anew 2 (2 * length (units in_utf16 cs)) ∷ []
carried_requests from_utf16 compact cs = let n = length (units in_utf16 cs) in anew 2 n ∷ (if all_latin1 cs then [] else resized n (2 * n) ∷ [])
carried_requests from_tagged utf8 cs = let n = length (units in_utf16 cs) in pass_requests n (3 * n) cs
carried_requests from_tagged utf16 cs = anew 2 (2 * length (units in_utf16 cs)) ∷ []
carried_requests from_tagged compact cs = let n = length (units in_utf16 cs) in anew 2 (2 * n) ∷ (if all_latin1 cs then shrunk (2 * n) n else [])
carried_requests from_latin1 utf8 cs = pass_requests (length cs) (2 * length cs) cs
carried_requests from_latin1 utf16 cs = anew 2 (2 * length cs) ∷ []
carried_requests from_latin1 compact cs = anew 2 (length cs) ∷ []

-- Of texts that go from one encoding into another. Their trees have the lengths of where they come from. No request is made for 2 ^ 31
-- bytes or more.
abbrev pub carried_texts : Encoding → Encoding → Texts
carried_texts from to = record {
  encoding = to;
  asks = λ t. limited (carried_requests (source_of from t) to (scalars_of t));
  Long = λ n t. IsTextLength to n (text (scalars_of t) (text_bytes to n));
}

-- ---- trees

-- equal trees, but for what texts' lengths and handles' numbers have to be
module _ (Lengths Handles : ℕ → ℕ → Type 0) where
  abbrev mutual
    pub Alike : Tree → Tree → Type 0
    Alike (number z) v = v ≡ number z
    Alike (truth b) v = v ≡ truth b
    Alike (code_point c) v = v ≡ code_point c
    Alike (text cs n) v = (k : ℕ) × (v ≡ text cs k) × Lengths n k
    Alike (items ts) v = (us : Trees) × (v ≡ items us) × AllAlike ts us
    Alike (parts ts) v = (us : Trees) × (v ≡ parts us) × AllAlike ts us
    Alike (case d) v = v ≡ case d
    Alike (case_of d t) v = (u : Tree) × (v ≡ case_of d u) × Alike t u
    Alike (bits bs) v = v ≡ bits bs
    Alike (handle h) v = (k : ℕ) × (v ≡ handle k) × Handles h k

    pub AllAlike : Trees → Trees → Type 0
    AllAlike no_trees vs = vs ≡ no_trees
    AllAlike (tree t ts) vs = (u : Tree) × (us : Trees) × (vs ≡ tree u us) × Alike t u × AllAlike ts us

abbrev pub AnyTwo : ℕ → ℕ → Type 0
AnyTwo n k = ⊤

abbrev pub Equal : ℕ → ℕ → Type 0
Equal n k = n ≡ k

-- the same values, with other handles
abbrev pub Handed : Tree → Tree → Type 0
Handed = Alike Equal AnyTwo

abbrev pub AllHanded : Trees → Trees → Type 0
AllHanded = AllAlike Equal AnyTwo

-- the same values, with texts spelled otherwise
abbrev pub Respelled : Tree → Tree → Type 0
Respelled = Alike AnyTwo Equal

abbrev pub AllRespelled : Trees → Trees → Type 0
AllRespelled = AllAlike AnyTwo Equal

-- Which trees stand for one that is told: itself, or one whose texts are spelled otherwise.
pub data Standing : Type 0 where
  as_told respelled : Standing

abbrev pub Stood : Standing → (Tree → Type 0) → Tree → Type 0
Stood as_told P t = P t
Stood respelled P t = (u : Tree) × Respelled t u × P u

abbrev pub AllStood : Standing → (Trees → Type 0) → Trees → Type 0
AllStood as_told P ts = P ts
AllStood respelled P ts = (us : Trees) × AllRespelled ts us × P us
