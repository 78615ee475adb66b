-- Where a value is lifted from, and what stands there.
use Rattle.std.specs.Prelude.{List, slice_index, ⊤, ◌%◌, ◌+◌, ◌^◌, false, ℕ}
use Rattle.canon_model.specs.Flat.{RepFlatAt, flat_bits}
use Rattle.canon_model.specs.Layout.{begins, ends, flat, payload_offset, scalar_size, size}
use Rattle.canon_model.specs.Leaves.{Leaf, flat_leaves, reach_leaves}
use Rattle.canon_model.specs.Memory.{Inside, Memory, length_at, low, num, pointer_at, ptr, tag_at}
use Rattle.canon_model.specs.Reach as reach
use Rattle.canon_model.specs.Reach.{FlatFault, Kind, StoredFault}
use Rattle.canon_model.specs.Rep.{RepMem}
use Rattle.canon_model.specs.Shape.{Cases, Scalar, Shape}
use Rattle.canon_model.specs.Text.{Encoding}
use Rattle.canon_model.specs.Tree.{Tree}

-- the bytes at an address, or the words from one on
pub data Spot : Type 0 where
  stored : ℕ → Spot
  flat_in : List ℕ → ℕ → Spot

-- how faults name it
abbrev pub at_of : Spot → reach.At
at_of (stored a) = reach.address a
at_of (flat_in ws i) = reach.word i

module _ (m : Memory) where
  -- the bytes are inside memory; there are words
  abbrev pub HasRoom : Spot → Shape → Type 0
  HasRoom (stored a) s = Inside m a (size m.wide s)
  HasRoom (flat_in ws i) s = ⊤

  -- the number of a scalar, and of a handle
  abbrev pub scalar_number : Scalar → Spot → ℕ
  scalar_number k (stored a) = num m a (scalar_size k)
  scalar_number k (flat_in ws i) = slice_index ws i % 2 ^ flat_bits k

  abbrev pub handle_in : Spot → ℕ
  handle_in (stored a) = num m a 4
  handle_in (flat_in ws i) = low (slice_index ws i)

  -- the pointer of a text or a list, and the length after it
  abbrev pub pointer_in : Spot → ℕ
  pointer_in (stored a) = pointer_at m a
  pointer_in (flat_in ws i) = ptr m (slice_index ws i)

  abbrev pub length_in : Spot → ℕ
  length_in (stored a) = length_at m a
  length_in (flat_in ws i) = ptr m (slice_index ws (i + 1))

  -- the discriminant among these cases, and where the payload stands
  abbrev pub tag_in : Spot → Cases → ℕ
  tag_in (stored a) cs = tag_at m a cs
  tag_in (flat_in ws i) cs = low (slice_index ws i)

  abbrev pub payload_spot : Spot → Cases → Spot
  payload_spot (stored a) cs = stored (a + payload_offset m.wide cs)
  payload_spot (flat_in ws i) cs = flat_in ws (i + 1)

  -- behind a value of the shape, where the next one of a row stands
  abbrev pub behind : Shape → Spot → Spot
  behind s (stored a) = stored (a + size m.wide s)
  behind s (flat_in ws i) = flat_in ws (i + flat s)

  -- which handles are reached
  abbrev pub leaves_in : Spot → Shape → List Leaf
  leaves_in (stored a) s = reach_leaves m s a
  leaves_in (flat_in ws i) s = flat_leaves m ws s i

  -- what stands there represents the tree; a reached place there has the fault
  abbrev pub Represents : Encoding → Spot → Shape → Tree → Type 0
  Represents enc (stored a) s t = RepMem false enc m a s t
  Represents enc (flat_in ws i) s t = RepFlatAt false enc m ws i s t

  abbrev pub Faulty : Encoding → Spot → Shape → Kind → reach.At → Type 0
  Faulty enc (stored a) s k x = StoredFault enc m s a k x
  Faulty enc (flat_in ws i) s k x = FlatFault enc m ws s i k x

-- members of a product at an address, where the one before ends at an offset, or in the words from one on
pub data Rest : Type 0 where
  stored_from : ℕ → ℕ → Rest
  flat_from : List ℕ → ℕ → Rest

abbrev pub spot_members : Spot → Rest
spot_members (stored a) = stored_from a 0
spot_members (flat_in ws i) = flat_from ws i

module _ (m : Memory) (s : Shape) where
  -- where the first of them stands, of the shape, and those behind it
  abbrev pub first_spot : Rest → Spot
  first_spot (stored_from a o) = stored (a + begins m.wide o s)
  first_spot (flat_from ws i) = flat_in ws i

  abbrev pub others : Rest → Rest
  others (stored_from a o) = stored_from a (ends m.wide o s)
  others (flat_from ws i) = flat_from ws (i + flat s)
