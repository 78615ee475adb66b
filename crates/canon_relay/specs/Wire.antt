-- How a demand and a reply are spelled: as numbers of 8 bytes, the lowest byte first.
use Rattle.std.specs.Prelude.{List, [], drop, length, take, ℕ, suc, zero, ◌*◌, ◌+◌, ◌++◌, ◌∷◌}
use Rattle.std.specs.Int.{from_le_bytes, to_le_bytes, w64}
use Rattle.canon_relay.specs.declared.demand.Demand.{Demand}
use Rattle.canon_relay.specs.declared.demand.Demand.TheVariants as demand

abbrev pub number_bytes : ℕ → List ℕ
number_bytes n = to_le_bytes w64 n

abbrev pub numbers_bytes : List ℕ → List ℕ
numbers_bytes [] = []
numbers_bytes (n ∷ ns) = number_bytes n ++ numbers_bytes ns

-- ---- a demand

-- the number of what is demanded, and its operands
abbrev pub demand_head : Demand → List ℕ
demand_head (demand.Start func) = 0 ∷ func ∷ 0 ∷ 0 ∷ 0 ∷ []
demand_head demand.Resume = 1 ∷ 0 ∷ 0 ∷ 0 ∷ 0 ∷ []
demand_head (demand.Realloc old old_size align new_size) = 2 ∷ old ∷ old_size ∷ align ∷ new_size ∷ []
demand_head (demand.PostReturn func) = 3 ∷ func ∷ 0 ∷ 0 ∷ 0 ∷ []
demand_head (demand.Dtor func rep) = 4 ∷ func ∷ rep ∷ 0 ∷ 0 ∷ []
demand_head demand.Instantiate = 5 ∷ 0 ∷ 0 ∷ 0 ∷ 0 ∷ []

-- with the length of the memory that is lent, how many words follow, and these
abbrev pub demand_bytes : Demand → ℕ → List ℕ → List ℕ
demand_bytes d len words = numbers_bytes (demand_head d) ++ number_bytes len ++ number_bytes (length words) ++ numbers_bytes words

-- ---- a reply

-- the number in the 8 bytes at `at`
abbrev pub number_at : List ℕ → ℕ → ℕ
number_at bytes at = from_le_bytes w64 (take 8 (drop at bytes))

-- n words of a reply, from word i on
abbrev pub numbers_from : ℕ → ℕ → List ℕ → List ℕ
numbers_from zero i bytes = []
numbers_from (suc n) i bytes = number_at bytes (32 + 8 * i) ∷ numbers_from n (i + 1) bytes

-- how it ended: by a return (0), by an ask (1), by a trap (2) or out of memory (3). Any other number is taken for a trap.
abbrev pub reply_kind : List ℕ → ℕ
reply_kind bytes = number_at bytes 0

-- the import that is asked for, or the address of the block that is given
abbrev pub reply_number : List ℕ → ℕ
reply_number bytes = number_at bytes 8

-- by how many bytes memory is to be longer
abbrev pub reply_grown : List ℕ → ℕ
reply_grown bytes = number_at bytes 16

-- how many words it has, and these
abbrev pub reply_count : List ℕ → ℕ
reply_count bytes = number_at bytes 24

abbrev pub reply_words : List ℕ → List ℕ
reply_words bytes = numbers_from (reply_count bytes) 0 bytes
