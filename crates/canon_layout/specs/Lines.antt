-- What the command `layout` prints.
use Rattle.std.specs.Prelude.{ℕ, ◌+◌, List, [], ◌∷◌, ◌++◌, false, nat_le, if◌then◌else◌, codes}
use Rattle.std.specs.Fmt.{decimal}
use Rattle.canon_model.specs.Flat.{max_params, max_results}
use Rattle.canon_model.specs.Layout.{align, begins, ends, flat, payload_offset, size, tag_size}
use Rattle.canon_model.specs.Shape.{Cases, Members, Shape, borrow, case_count, fixed, flags, list, member, no_members, own, product, scalar, string, variant}
use Rattle.canon_types.specs.Table.{TypeTable, shape_of}
use Rattle.canon_types.specs.declared.types.InterfaceType.{InterfaceType}
use Rattle.canon_types.specs.declared.types.InterfaceType.TheVariants as ty
use Rattle.canon_types.specs.declared.types.TypeFunc.{TypeFunc}
use Rattle.canon_layout.specs.Asked.{Listed}
use Rattle.canon_layout.specs.Words.{type_word}

-- a number of words, or - where there are more than parameters may take
abbrev pub flat_text : ℕ → List ℕ
flat_text words = if nat_le words max_params then decimal words else codes "-"

abbrev pub numbers_text : Shape → List ℕ
numbers_text s = codes " size " ++ decimal (size false s) ++ codes " align " ++ decimal (align false s) ++ codes " flat " ++ flat_text (flat s)

-- where each member begins, after a space, if the one before the first ends at o
abbrev pub offsets_text : ℕ → Members → List ℕ
offsets_text o no_members = []
offsets_text o (member name s ms) = 32 ∷ decimal (begins false o s) ++ offsets_text (ends false o s) ms

abbrev pub cases_text : Cases → List ℕ
cases_text cs = codes " tag " ++ decimal (tag_size (case_count cs)) ++ codes " payload " ++ decimal (payload_offset false cs)

-- where the parts of a record, a tuple or a variant stand
abbrev pub parts_text : Shape → List ℕ
parts_text (product k ms) = codes " at" ++ offsets_text 0 ms
parts_text (variant k cs) = cases_text cs
parts_text (scalar k) = []
parts_text string = []
parts_text (own r) = []
parts_text (borrow r) = []
parts_text (list k s) = []
parts_text (fixed n s) = []
parts_text (flags names) = []

-- the line of a type, the entry of number i
abbrev pub type_line : TypeTable → ℕ → InterfaceType → List ℕ
type_line t i type = codes "type " ++ decimal i ++ 32 ∷ type_word type ++ numbers_text (shape_of t type) ++ parts_text (shape_of t type) ++ codes "\n"

abbrev pub type_lines : TypeTable → ℕ → List InterfaceType → List ℕ
type_lines t i [] = []
type_lines t i (type ∷ types) = type_line t i type ++ type_lines t (i + 1) types

-- at most so many words, or else a pointer to the tuple
abbrev pub passed_text : ℕ → Shape → List ℕ
passed_text most s =
    if nat_le (flat s) most then codes "flat " ++ decimal (flat s)
    else codes "memory " ++ decimal (size false s) ++ 32 ∷ decimal (align false s)

-- the line of function i
abbrev pub func_line : TypeTable → ℕ → TypeFunc → List ℕ
func_line t i f =
    codes "func " ++ decimal i ++ codes " params " ++ passed_text max_params (shape_of t (ty.Tuple f.params))
    ++ codes " results " ++ passed_text max_results (shape_of t (ty.Tuple f.results)) ++ codes "\n"

abbrev pub func_lines : TypeTable → ℕ → List TypeFunc → List ℕ
func_lines t i [] = []
func_lines t i (f ∷ fs) = func_line t i f ++ func_lines t (i + 1) fs

-- a line for each type, and then one for each function
abbrev pub layout_text : Listed → List ℕ
layout_text l = type_lines l.table 0 l.types ++ func_lines l.table 0 l.table.funcs
