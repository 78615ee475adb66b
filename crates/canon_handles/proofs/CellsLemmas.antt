-- What writing a cell does to the table that the cells and the stack stand for.
use Rattle.std.proofs.Common.{◌≡◌, ◌≢◌, ℕ, suc, ◌+◌, ◌-◌, ◌<◌, ◌≤◌, max, Bool, true, false, ◌==◌, ◌&&◌, ◌||◌, cond, nat_lt, List, [], ◌∷◌, ◌++◌, length, get_or, reverse, Option, Some, None, is_some, Ok, IsSome, rules, refl, sym, ap, subst, ◌∙◌, arith, length-append, inl, inr}
use Rattle.std.proofs.lemmas.List.{reverse-append, length-reverse}
use Rattle.std.proofs.lemmas.Bool.{eq-eqb, ne_eqb}
use Rattle.std.proofs.lemmas.Bool.Decides.{nat_tests}
use Rattle.std.specs.Option.{option_map, option_flatten}
use Rattle.std.specs.BTreeMap.{BTreeMap, WritesThrough, is_at}
use Rattle.std.specs.Ordering.{nat_cmp}
use Rattle.canon_handles.specs.declared.error.HandleError.TheVariants.{IndexOverflow, HandleLimit}
use Rattle.canon_handles.specs.Step.{put, refuse_if, one_if}
use Rattle.canon_handles.specs.Table.{Table, TableState, Counter, entry_at, entry_count, fresh_index, with_new, with_entry, without, IsTable, IsFresh, first_or, other_entries, is_full, is_at_limit, insert, one_more}
use Rattle.canon_handles.specs.Cells.{cell_at, entry_in, values_from, table_of, cell_of, AreCells, spare_of, IsStored, WritesCell}
use Rattle.canon_handles.specs.Laws.{TableLaws}
use Rattle.canon_handles.specs.LendingTable.{stored_with}
use Rattle.canon_handles.proofs.ValuesLemmas.{length-values, value_at, value_past, below_or_not, values_put, no_items}
use Rattle.canon_handles.proofs.StepLemmas.{length-put, get_or-put_same, get_or-put_other, some_within}
use Rattle.canon_handles.proofs.TableLemmas.{fresh, first_within, entry_positive, equal_or_not, entry-with_new, is_table-with_new, is_table-with_entry, is_table-without}
use Rattle.canon_handles.proofs.HeldLemmas.{entry_count-with_new, entry_count-with_entry, entry_count-without}

-- Tables

pub same_record : {E : Type 0} (t u : Table E) → t.array ≡ u.array → t.free ≡ u.free → t.max ≡ u.max → t ≡ u
same_record t u a f m = λ i. record { array = a i; free = f i; max = m i }

pub not_below : (a b : ℕ) → b ≤ a → nat_lt a b ≡ false
not_below a b h = grind (arith, nat_tests)

pub insert_ok : {E : Type 0} (t t' : Table E) (c c' : Counter) (e : E) (n : ℕ) → is_full t ≡ false → is_at_limit c ≡ false
    → n ≡ fresh_index t → t' ≡ with_new t e → c' ≡ one_more c → insert t c e ≡ Ok (n, t', c')
insert_ok t t' c c' e n room below index table counter =
    ap (λ (b : Bool). refuse_if b IndexOverflow (refuse_if (is_at_limit c) HandleLimit (Ok (fresh_index t, with_new t e, one_more c)))) room
    ∙ ap (λ (b : Bool). refuse_if b HandleLimit (Ok (fresh_index t, with_new t e, one_more c))) below
    ∙ (λ i. Ok (sym index i, sym table i, sym counter i))

-- of the greatest index allowed, the fresh index, the number of entries and the greatest index given
full_at_end : (m f c g : ℕ) → g ≤ m → f ≡ g + 1 → c ≡ g → nat_lt m f ≡ (c == m)
full_at_end m f c g h e d = grind (arith, nat_tests)

not_full_within : (m f c g : ℕ) → g ≤ m → f ≤ g → c < g → nat_lt m f ≡ (c == m)
not_full_within m f c g h e d = grind (arith, nat_tests)

-- Cells

pub some_entry : {E : Type 0} (o : Option E) → is_some o ≡ true → (e : E) × (o ≡ Some e)
some_entry None h = absurd (cc)
some_entry (Some e) h = (e, refl)

some_is : {A : Type 0} (o : Option A) (x : A) → Some x ≡ o → IsSome o
some_is (Some y) x e = search rules
some_is None x e = absurd (cc)

at_is : (i q : ℕ) → is_at (nat_cmp i) q ≡ (q == i)
at_is i q = grind (arith, nat_tests)

-- what is written through a loan of the map
pub writes_through : {E : Type 0} (m n : BTreeMap ℕ (Option E)) (i : ℕ) (c old : Option E)
    → Some old ≡ cell_at m.entries i → WritesThrough nat_cmp (nat_cmp i) m c n → WritesCell m.entries n.entries i (Some c)
writes_through m n i c old there w q = (w.3 (some_is (cell_at m.entries i) old there)).0 q ∙ ap (λ b. cond b (Some c) (cell_at m.entries q)) (at_is i q)

pub flatten_none : {E : Type 0} (b : Bool) → option_flatten (cell_of {E = E} b None) ≡ None
flatten_none true = refl
flatten_none false = refl

flatten_some : {E : Type 0} (o : Option E) → option_flatten (option_map Some o) ≡ o
flatten_some None = refl
flatten_some (Some e) = refl

and_not : (b : Bool) (i k : ℕ) → i ≢ k → (b && (i == k)) ≡ false
and_not true i k ne = ne_eqb i k ne
and_not false i k ne = refl

and_here : (b : Bool) (i k : ℕ) → i ≡ k → (b && (i == k)) ≡ b
and_here true i k e = eq-eqb i k e
and_here false i k e = refl

pub written_here : {E : Type 0} (cells cells' : List (ℕ × Option E)) (i : ℕ) (c : Option (Option E)) → WritesCell cells cells' i c → cell_at cells' i ≡ c
written_here cells cells' i c w = w i ∙ ap (λ b. cond b c (cell_at cells i)) (eq-eqb i i refl)

pub written_else : {E : Type 0} (cells cells' : List (ℕ × Option E)) (i : ℕ) (c : Option (Option E)) → WritesCell cells cells' i c → (q : ℕ) → q ≢ i → cell_at cells' q ≡ cell_at cells q
written_else cells cells' i c w q ne = w q ∙ ap (λ b. cond b c (cell_at cells q)) (ne_eqb q i ne)

module _ {E : Type 0} {greatest most : ℕ} {vacant : Bool} {cells : List (ℕ × Option E)} {stack : List ℕ} {room : ℕ}
    (s : IsStored greatest most vacant cells stack room) {v : TableState E}
    (view : ◌≡◌ {A = TableState E} (record { table = table_of greatest most cells stack; spare = spare_of vacant (table_of greatest most cells stack) }) v) where
  table_is : table_of greatest most cells stack ≡ v.table
  table_is = ap (λ (v : TableState E). v.table) view

  pub sound : IsTable v.table
  sound = subst IsTable table_is s.sound

  pub is_fresh : IsFresh v.table (fresh_index v.table)
  is_fresh = fresh v.table sound

  array : v.table.array ≡ values_from (entry_in cells) 0 (suc greatest)
  array = ap (λ (u : Table E). u.array) (sym table_is)

  array_length : length v.table.array ≡ suc greatest
  array_length = ap length array ∙ length-values (entry_in cells) 0 (suc greatest)

  free : v.table.free ≡ reverse stack
  free = ap (λ (u : Table E). u.free) (sym table_is)

  greatest_allowed : v.table.max ≡ most
  greatest_allowed = ap (λ (u : Table E). u.max) (sym table_is)

  pub fresh_le : fresh_index v.table ≤ suc greatest
  fresh_le = let f = is_fresh.at_end in let l = array_length in omega arith

  exact : AreCells vacant v.table cells
  exact = subst (λ (u : Table E). AreCells vacant u cells) table_is s.exact

  pub counted : entry_count v.table + length stack ≡ greatest
  counted = subst (λ (u : Table E). entry_count u + length stack ≡ greatest) table_is s.counted

  pub ready : vacant ≡ true → fresh_index v.table ≤ room
  ready = subst (λ (u : Table E). vacant ≡ true → fresh_index u ≤ room) table_is s.ready

  -- the entries, as the cells have them
  pub entries : (i : ℕ) → entry_in cells i ≡ entry_at v.table i
  entries i = elim (below_or_not i (suc greatest)) as (λ _. entry_in cells i ≡ entry_at v.table i) [
    | inl lt ↦ sym (ap (λ xs. get_or xs i None) array ∙ value_at (entry_in cells) (suc greatest) i None lt)
    | inr past ↦
        (let none : entry_at v.table i ≡ None = ap (λ xs. get_or xs i None) array ∙ value_past (entry_in cells) (suc greatest) i None past in
        ap option_flatten (exact i) ∙ ap (λ o. option_flatten (cell_of (vacant && (i == fresh_index v.table)) o)) none ∙ flatten_none (vacant && (i == fresh_index v.table)) ∙ sym none)
  ]

  -- what is read in a cell is the entry
  pub read_entry : (i : ℕ) (o : Option E) → Some o ≡ cell_at cells i → o ≡ entry_at v.table i
  read_entry i o is = ap option_flatten is ∙ entries i

  exact_else : (i : ℕ) → i ≢ fresh_index v.table → cell_at cells i ≡ option_map Some (entry_at v.table i)
  exact_else i ne = exact i ∙ ap (λ b. cell_of b (entry_at v.table i)) (and_not vacant i (fresh_index v.table) ne)

  pub exact_fresh : cell_at cells (fresh_index v.table) ≡ cell_of vacant None
  exact_fresh =
      exact (fresh_index v.table) ∙ ap (λ b. cell_of b (entry_at v.table (fresh_index v.table))) (and_here vacant (fresh_index v.table) (fresh_index v.table) refl) ∙ ap (cell_of vacant) is_fresh.vacant

  -- an insertion takes a freed index off the stack, or raises the greatest
  counts_by : (free : List ℕ) → v.table.free ≡ free
      → max greatest (first_or (suc greatest) free) + length free ≡ greatest + length (other_entries free) + 1
  counts_by [] e = omega arith
  counts_by (i ∷ is) e = let h = first_within v.table i is e sound in let l = array_length in omega arith

  fresh_above : first_or (suc greatest) v.table.free ≡ fresh_index v.table
  fresh_above = ap (λ (n : ℕ). first_or n v.table.free) (sym array_length)

  -- the index above the greatest, where none is free
  pub fresh_next : length stack ≡ 0 → greatest + 1 ≡ fresh_index v.table
  fresh_next none =
      let e : stack ≡ [] = no_items stack none in
      let one : greatest + 1 ≡ suc greatest = omega arith in
      one ∙ sym (ap (first_or (suc greatest)) (free ∙ ap reverse e)) ∙ fresh_above

  pub not_full : (index : ℕ) → index ≡ fresh_index v.table → index ≤ most → is_full v.table ≡ false
  not_full index at le = ap (λ (n : ℕ). nat_lt n (fresh_index v.table)) greatest_allowed ∙ ap (nat_lt most) (sym at) ∙ not_below most index le

  -- an entry stands below the fresh index, or beside it
  apart : (index : ℕ) (e : E) → entry_at v.table index ≡ Some e → index ≢ fresh_index v.table
  apart index e is eq = absurd (let n : entry_at v.table index ≡ None = ap (entry_at v.table) eq ∙ is_fresh.vacant in cc)

  within : (index : ℕ) (e : E) → entry_at v.table index ≡ Some e → index < suc greatest
  within index e is = let h = some_within v.table.array index e is in let l = array_length in omega arith

  -- Each table has its laws
  free_count : entry_count v.table + length v.table.free ≡ greatest
  free_count = let c = counted in let l : length v.table.free ≡ length stack = ap length free ∙ length-reverse stack in omega arith

  full_by : (free : List ℕ) → v.table.free ≡ free → nat_lt v.table.max (first_or (length v.table.array) free) ≡ (entry_count v.table == v.table.max)
  full_by [] e =
      let c = free_count in let l : length v.table.free ≡ 0 = ap length e in let a = array_length in let m = greatest_allowed in let w = s.within in
      full_at_end v.table.max (length v.table.array) (entry_count v.table) greatest (omega arith) (omega arith) (omega arith)
  full_by (i ∷ is) e =
      let c = free_count in let l : length v.table.free ≡ suc (length is) = ap length e in let a = array_length in let m = greatest_allowed in let w = s.within in
      let i_within = first_within v.table i is e sound in
      not_full_within v.table.max i (entry_count v.table) greatest (omega arith) (omega arith) (omega arith)

  given : (i : ℕ) → is_some (entry_at v.table i) ≡ true → (0 < i) × (i ≤ length v.table.array - 1)
  given i some =
      let w = some_entry (entry_at v.table i) some in
      let h = within i w.0 w.1 in
      let a = array_length in
      (entry_positive v.table i w.0 sound w.1, omega arith)

  pub laws : TableLaws v.table
  laws = record {
    indexes = sound;
    entries_were_given = given;
    entries_and_free = (let c = free_count in let a = array_length in omega arith);
    greatest_allowed = (let a = array_length in let m = greatest_allowed in let w = s.within in omega arith);
    max_allowed = (let m = greatest_allowed in let w = s.small in omega arith);
    next_is_fresh = is_fresh;
    full = full_by v.table.free refl;
  }

  -- the array after one entry is written, or none
  entries_put : (cells' : List (ℕ × Option E)) (index : ℕ) (o : Option E) → index ≤ suc greatest
      → ((q : ℕ) → q ≢ index → entry_in cells' q ≡ entry_in cells q) → entry_in cells' index ≡ o
      → values_from (entry_in cells') 0 (max (suc greatest) (suc index)) ≡ put v.table.array index o
  entries_put cells' index o le else here =
      values_put (entry_in cells) (entry_in cells') index (suc greatest) o None le else here ∙ ap (λ xs. put xs index o) (sym array)

  cells_put : (cells' : List (ℕ × Option E)) (index : ℕ) (c : Option (Option E)) → index ≤ suc greatest → WritesCell cells cells' index c
      → values_from (entry_in cells') 0 (max (suc greatest) (suc index)) ≡ put v.table.array index (option_flatten c)
  cells_put cells' index c le writes =
      entries_put cells' index (option_flatten c) le
      (λ q ne. ap option_flatten (written_else cells cells' index c writes q ne))
      (ap option_flatten (written_here cells cells' index c writes))

  -- an entry stands within the array
  as_long : (index : ℕ) (e : E) → entry_at v.table index ≡ Some e → suc greatest ≡ max (suc greatest) (suc index)
  as_long index e is = let h = within index e is in omega arith

  -- the stack has room for an index that has an entry
  pub push_room : (index : ℕ) → is_some (entry_at v.table index) ≡ true → length stack < room
  push_room index some = let a = entry_count-without v.table index some in let b = counted in let r = s.roomy in omega arith

  -- An insertion
  module _ (cells' : List (ℕ × Option E)) (index greatest' : ℕ) (e : E) (stack' : List ℕ) (top : greatest' ≡ max greatest index)
      (at : index ≡ fresh_index v.table) (writes : WritesCell cells cells' index (Some (Some e))) (popped : reverse stack' ≡ other_entries (reverse stack)) where
    inserted_array : values_from (entry_in cells') 0 (suc greatest') ≡ put v.table.array (fresh_index v.table) (Some e)
    inserted_array =
        let n : suc greatest' ≡ max (suc greatest) (suc index) = omega arith in
        let le = fresh_le in
        ap (values_from (entry_in cells') 0) n
        ∙ cells_put cells' index (Some (Some e)) (omega arith) writes
        ∙ ap (λ (k : ℕ). put v.table.array k (Some e)) at

    pub inserted : table_of greatest' most cells' stack' ≡ with_new v.table e
    inserted = same_record _ (with_new v.table e) inserted_array (popped ∙ sym (ap other_entries free)) (sym greatest_allowed)

    inserted_exact : (i : ℕ) → cell_at cells' i ≡ option_map Some (entry_at (with_new v.table e) i)
    inserted_exact i = elim (equal_or_not i index) as (λ _. cell_at cells' i ≡ option_map Some (entry_at (with_new v.table e) i)) [
      | inl eq ↦ ap (cell_at cells') eq ∙ written_here cells cells' index (Some (Some e)) writes ∙ sym (ap (λ o. option_map Some o) (ap (entry_at (with_new v.table e)) (eq ∙ at) ∙ entry-with_new v.table e sound))
      | inr ne ↦
          written_else cells cells' index (Some (Some e)) writes i ne
          ∙ exact_else i (λ q. ne (q ∙ sym at))
          ∙ ap (λ o. option_map Some o) (sym (get_or-put_other v.table.array (fresh_index v.table) i (Some e) None is_fresh.at_end (λ q. ne (q ∙ sym at))))
    ]

    inserted_counted : entry_count (with_new v.table e) + length stack' ≡ greatest'
    inserted_counted =
        let a = entry_count-with_new v.table e is_fresh in
        let b = counted in
        let c = counts_by v.table.free refl in
        let d : max greatest (first_or (suc greatest) v.table.free) ≡ max greatest index = ap (λ (n : ℕ). max greatest n) (fresh_above ∙ sym at) in
        let f : length v.table.free ≡ length stack = ap length free ∙ length-reverse stack in
        let g : length (other_entries v.table.free) ≡ length stack' = ap (λ l. length (other_entries l)) free ∙ ap length (sym popped) ∙ length-reverse stack' in
        omega arith

    pub inserted_stored : (room' : ℕ) → index ≤ most → index ≤ room' → room ≤ room' → IsStored greatest' most false cells' stack' room'
    inserted_stored room' allowed enough more = record {
      sound = subst IsTable (sym inserted) (is_table-with_new v.table e sound);
      exact = subst (λ (u : Table E). AreCells false u cells') (sym inserted) inserted_exact;
      counted = subst (λ (u : Table E). entry_count u + length stack' ≡ greatest') (sym inserted) inserted_counted;
      within = (let h = s.within in omega arith);
      small = s.small;
      roomy = (let h = s.roomy in omega arith);
      ready = λ no. absurd (cc);
    }

    pub insert_step : (c c' : Counter) → index ≤ most → is_at_limit c ≡ false → c' ≡ one_more c → insert v.table c e ≡ Ok (index, table_of greatest' most cells' stack', c')
    insert_step c c' allowed below counter =
        insert_ok v.table (table_of greatest' most cells' stack') c c' e index (not_full index at allowed) below at inserted counter

  -- A vacant cell is put
  module _ (cells' : List (ℕ × Option E)) (index : ℕ) (stack' : List ℕ) (same : stack' ≡ stack)
      (at : index ≡ fresh_index v.table) (writes : WritesCell cells cells' index (Some None)) where
    reserved_entry : (q : ℕ) → entry_in cells' q ≡ entry_in cells q
    reserved_entry q = elim (equal_or_not q index) as (λ _. entry_in cells' q ≡ entry_in cells q) [
      | inl eq ↦ ap (entry_in cells') eq ∙ ap option_flatten (written_here cells cells' index (Some None) writes) ∙ sym (entries q ∙ ap (entry_at v.table) (eq ∙ at) ∙ is_fresh.vacant)
      | inr ne ↦ ap option_flatten (written_else cells cells' index (Some None) writes q ne)
    ]

    pub reserved : table_of greatest most cells' stack' ≡ v.table
    reserved =
        ap (table_of greatest most cells') same
        ∙ ap (λ (f : ℕ → Option E). let u : Table E = record { array = values_from f 0 (suc greatest); free = reverse stack; max = most } in u) (λ i q. reserved_entry q i)
        ∙ table_is

    reserved_exact : (i : ℕ) → cell_at cells' i ≡ cell_of (i == fresh_index v.table) (entry_at v.table i)
    reserved_exact i = elim (equal_or_not i index) as (λ _. cell_at cells' i ≡ cell_of (i == fresh_index v.table) (entry_at v.table i)) [
      | inl eq ↦ ap (cell_at cells') eq ∙ written_here cells cells' index (Some None) writes ∙ sym (ap (λ b. cell_of b (entry_at v.table i)) (eq-eqb i (fresh_index v.table) (eq ∙ at)))
      | inr ne ↦
          written_else cells cells' index (Some None) writes i ne
          ∙ exact_else i (λ q. ne (q ∙ sym at))
          ∙ sym (ap (λ b. cell_of b (entry_at v.table i)) (ne_eqb i (fresh_index v.table) (λ q. ne (q ∙ sym at))))
    ]

    pub reserved_stored : (room' : ℕ) → index ≤ room' → room ≤ room' → IsStored greatest most true cells' stack' room'
    reserved_stored room' enough more = record {
      sound = subst IsTable (sym reserved) sound;
      exact = subst (λ (u : Table E). AreCells true u cells') (sym reserved) reserved_exact;
      counted = subst (λ (u : Table E). entry_count u + length stack' ≡ greatest) (sym reserved) (let a = ap length same in let b = counted in omega arith);
      within = s.within;
      small = s.small;
      roomy = (let h = s.roomy in omega arith);
      ready = λ _. subst (λ (u : Table E). fresh_index u ≤ room') (sym reserved) (omega arith);
    }

  -- Another entry is written
  module _ (cells' : List (ℕ × Option E)) (index : ℕ) (e e' : E) (is : entry_at v.table index ≡ Some e)
      (writes : WritesCell cells cells' index (Some (Some e'))) where
    pub written : table_of greatest most cells' stack ≡ with_entry v.table index e'
    written =
        let h = within index e is in
        same_record _ (with_entry v.table index e')
        (ap (values_from (entry_in cells') 0) (as_long index e is) ∙ cells_put cells' index (Some (Some e')) (omega arith) writes)
        (sym free) (sym greatest_allowed)

    pub same_fresh : fresh_index (with_entry v.table index e') ≡ fresh_index v.table
    same_fresh = ap (λ (n : ℕ). first_or n v.table.free) (length-put v.table.array index (Some e') (some_within v.table.array index e is))

    pub same_full : is_full (with_entry v.table index e') ≡ is_full v.table
    same_full = ap (nat_lt v.table.max) same_fresh

    -- table and spare insertions after the write
    pub written_stored_with : ◌≡◌ {A = TableState E} (record { table = table_of greatest most cells' stack; spare = spare_of vacant (table_of greatest most cells' stack) }) (stored_with v index e')
    written_stored_with =
        let same : spare_of vacant (table_of greatest most cells' stack) ≡ v.spare =
        ap (spare_of vacant) written ∙ ap (λ b. one_if (vacant || b)) same_full ∙ ap (spare_of vacant) (sym table_is) ∙ ap (λ (v : TableState E). v.spare) view in
        λ i. record { table = written i; spare = same i }

    written_exact : (i : ℕ) → cell_at cells' i ≡ cell_of (vacant && (i == fresh_index v.table)) (entry_at (with_entry v.table index e') i)
    written_exact i = elim (equal_or_not i index) as (λ _. cell_at cells' i ≡ cell_of (vacant && (i == fresh_index v.table)) (entry_at (with_entry v.table index e') i)) [
      | inl eq ↦
          (let h = some_within v.table.array index e is in
          ap (cell_at cells') eq ∙ written_here cells cells' index (Some (Some e')) writes
          ∙ sym (ap (λ b. cell_of b (entry_at (with_entry v.table index e') i)) (and_not vacant i (fresh_index v.table) (λ q. apart index e is (sym eq ∙ q)))
          ∙ ap (λ o. option_map Some o) (ap (entry_at (with_entry v.table index e')) eq ∙ get_or-put_same v.table.array index (Some e') None (omega arith))))
      | inr ne ↦
          (let h = some_within v.table.array index e is in
          written_else cells cells' index (Some (Some e')) writes i ne ∙ exact i
          ∙ sym (ap (cell_of (vacant && (i == fresh_index v.table))) (get_or-put_other v.table.array index i (Some e') None (omega arith) ne)))
    ]

    pub written_stored : IsStored greatest most vacant cells' stack room
    written_stored = record {
      sound = subst IsTable (sym written) (is_table-with_entry v.table index e e' sound is);
      exact = subst (λ (u : Table E). AreCells vacant u cells') (sym written)
          (λ i. written_exact i ∙ ap (λ (n : ℕ). cell_of (vacant && (i == n)) (entry_at (with_entry v.table index e') i)) (sym same_fresh));
      counted = subst (λ (u : Table E). entry_count u + length stack ≡ greatest) (sym written) (let a = entry_count-with_entry v.table index e' (ap is_some is) in let b = counted in omega arith);
      within = s.within;
      small = s.small;
      roomy = s.roomy;
      ready = λ v. subst (λ (u : Table E). fresh_index u ≤ room) (sym written) (let a = same_fresh in let b = ready v in omega arith);
    }

  -- A removal
  module _ (cells' : List (ℕ × Option E)) (stack' : List ℕ) (index next : ℕ) (keeps : Bool) (some : is_some (entry_at v.table index) ≡ true)
      (at : next ≡ fresh_index v.table)
      (writes : (q : ℕ) → cell_at cells' q ≡ cond (q == index) (cond keeps (Some None) None) (cond (keeps && (q == next)) None (cell_at cells q)))
      (kept : keeps ≡ (v.spare == 1)) (pushed : stack' ≡ stack ++ index ∷ []) where
    e : E
    e = (some_entry (entry_at v.table index) some).0

    is : entry_at v.table index ≡ Some e
    unfolding e
    is = (some_entry (entry_at v.table index) some).1

    keeps_vacant : vacant ≡ true → keeps ≡ true
    keeps_vacant h = kept ∙ ap (λ (n : ℕ). n == 1) (sym (ap (λ (v : TableState E). v.spare) view) ∙ ap (λ b. one_if (b || is_full (table_of greatest most cells stack))) h)

    cell_here : cell_at cells' index ≡ cell_of keeps None
    cell_here = writes index ∙ ap (λ b. cond b (cond keeps (Some None) None) (cond (keeps && (index == next)) None (cell_at cells index))) (eq-eqb index index refl)

    cell_else : (q : ℕ) → q ≢ index → cell_at cells' q ≡ cond (keeps && (q == next)) None (cell_at cells q)
    cell_else q ne = writes q ∙ ap (λ b. cond b (cond keeps (Some None) None) (cond (keeps && (q == next)) None (cell_at cells q))) (ne_eqb q index ne)

    -- the vacant cell that stood at next is gone
    gone : (v k : Bool) → (v ≡ true → k ≡ true) → cond k None (cell_of {E = E} v None) ≡ None
    gone v true h = refl
    gone false false h = refl
    gone true false h = absurd (let e = h refl in cc)

    cell_left : (q : ℕ) → q ≢ index → cell_at cells' q ≡ option_map Some (entry_at v.table q)
    cell_left q ne = cell_else q ne ∙ (elim (equal_or_not q next) as (λ _. cond (keeps && (q == next)) None (cell_at cells q) ≡ option_map Some (entry_at v.table q)) [
      | inl eq ↦
          ap (λ b. cond b None (cell_at cells q)) (and_here keeps q next eq)
          ∙ ap (λ c. cond keeps None c) (ap (cell_at cells) (eq ∙ at) ∙ exact_fresh)
          ∙ gone vacant keeps keeps_vacant
          ∙ sym (ap (λ o. option_map Some o) (ap (entry_at v.table) (eq ∙ at) ∙ is_fresh.vacant))
      | inr other ↦ ap (λ b. cond b None (cell_at cells q)) (and_not keeps q next other) ∙ exact_else q (λ h. other (h ∙ sym at))
    ])

    entry_left : (q : ℕ) → q ≢ index → entry_in cells' q ≡ entry_in cells q
    entry_left q ne = ap option_flatten (cell_left q ne) ∙ flatten_some (entry_at v.table q) ∙ sym (entries q)

    pub vacated : table_of greatest most cells' stack' ≡ without v.table index
    vacated =
        let h = within index e is in
        same_record _ (without v.table index)
        (ap (values_from (entry_in cells') 0) (as_long index e is) ∙ entries_put cells' index None (omega arith) entry_left (ap option_flatten cell_here ∙ flatten_none keeps))
        (ap reverse pushed ∙ reverse-append stack (index ∷ []) ∙ ap (λ l. index ∷ l) (sym free))
        (sym greatest_allowed)

    vacated_exact : (i : ℕ) → cell_at cells' i ≡ cell_of (keeps && (i == index)) (entry_at (without v.table index) i)
    vacated_exact i = elim (equal_or_not i index) as (λ _. cell_at cells' i ≡ cell_of (keeps && (i == index)) (entry_at (without v.table index) i)) [
      | inl eq ↦
          (let h = some_within v.table.array index e is in
          ap (cell_at cells') eq ∙ cell_here
          ∙ sym (ap (λ b. cell_of b (entry_at (without v.table index) i)) (and_here keeps i index eq) ∙ ap (cell_of keeps) (ap (entry_at (without v.table index)) eq ∙ get_or-put_same v.table.array index None None (omega arith))))
      | inr ne ↦
          (let h = some_within v.table.array index e is in
          cell_left i ne
          ∙ sym (ap (λ b. cell_of b (entry_at (without v.table index) i)) (and_not keeps i index ne) ∙ ap (λ o. option_map Some o) (get_or-put_other v.table.array index i None None (omega arith) ne)))
    ]

    pub vacated_stored : (room' : ℕ) → room ≤ room' → IsStored greatest most keeps cells' stack' room'
    vacated_stored room' more = record {
      sound = subst IsTable (sym vacated) (is_table-without v.table index e sound is);
      exact = subst (λ (u : Table E). AreCells keeps u cells') (sym vacated) vacated_exact;
      counted = subst (λ (u : Table E). entry_count u + length stack' ≡ greatest) (sym vacated)
          (let a = entry_count-without v.table index (ap is_some is) in let b = counted in let c = ap length pushed in let d = length-append stack (index ∷ []) in omega arith);
      within = s.within;
      small = s.small;
      roomy = (let h = s.roomy in omega arith);
      ready = λ _. subst (λ (u : Table E). fresh_index u ≤ room') (sym vacated) (let h = within index e is in let r = s.roomy in omega arith);
    }
