-- Texts and printings in a row, with a separator between them, and the printing of a value by those of its members.
use Rattle.std.proofs.Common.{◌≡◌, ℕ, Bool, true, false, if◌then◌else◌, List, [], ◌∷◌, ◌++◌, map, refl, ap, sym, ◌∙◌, Vec, String, append-nil, subst}
use Rattle.std.proofs.lemmas.Simd.{map-map}
use Rattle.std.specs.Prelude.{OnOk, Result, codes}
use Rattle.std.specs.List.{join_with_byte}
use Rattle.std.specs.declared.alloc.Global.{Global}
use Rattle.canon_val.specs.declared.val.Val.{Val}
use Rattle.canon_val.specs.declared.val.Val.TheFolds.{fold-roll-Val}
use Rattle.canon_val.specs.declared.val.Val.TheOpen.{Val-F}
use Rattle.canon_val.specs.declared.val.Val.TheVariants as val
use Rattle.canon_val.specs.declared.val.Val.TheVariants.{rolls-Map, rolls-Record}
use Rattle.canon_transcript.specs.Text.{Page, Printing, between, each_after, fields_printing, comma_separated, labelled, layer_printing, key_and_value, pairs_printing, value_printing}

-- what stands before an element: nothing, or the separator
abbrev pub lead : Bool → ℕ → List ℕ
lead is_first by = if is_first then [] else by ∷ []

-- the first behind this, and each other behind the separator
abbrev pub transcript_row : {X : Type 0} → ℕ → (X → List ℕ) → List ℕ → List X → List ℕ
transcript_row by f before [] = []
transcript_row by f before (x ∷ xs) = before ++ f x ++ transcript_row by f (by ∷ []) xs

row_joined : {X : Type 0} (by : ℕ) (f : X → List ℕ) (xs : List X) → transcript_row by f [] xs ≡ join_with_byte by (map f xs)
row_joined by f [] = refl
row_joined by f (x ∷ []) = append-nil (f x)
row_joined by f (x ∷ y ∷ xs) = ap (λ ys. f x ++ (by ∷ ys)) (row_joined by f (y ∷ xs))

pub row_begins : {X : Type 0} (by : ℕ) (f : X → List ℕ) (xs : List X) (text text2 before : List ℕ) → text2 ≡ text ++ before
    → text2 ++ transcript_row by f [] xs ≡ text ++ before ++ join_with_byte by (map f xs)
row_begins by f xs text text2 before e = ap (λ s. s ++ transcript_row by f [] xs) e ∙ ap (λ s. text ++ before ++ s) (row_joined by f xs)

-- what is left of a row: its first stands alone, and each other after a comma
abbrev pub transcript_left : Bool → List Printing → Printing
transcript_left true fs = comma_separated fs
transcript_left false fs = each_after (codes ",") fs

-- the printing of a value, by those of its members
pub value_of_record : (fields : Vec (String Global × Val) Global) → value_printing (val.Record fields) ≡ fields_printing fields.items
value_of_record fields =
    ap value_printing (sym (rolls-Record fields)) ∙ (fold-roll-Val Printing layer_printing (Val-F.Record fields)
    ∙ ap (λ fs. between (codes "{") (comma_separated fs) (codes "}")) (map-map labelled (λ field. (field.0, value_printing field.1)) fields.items))

pub value_of_map : (pairs : Vec (Val × Val) Global) → value_printing (val.Map pairs) ≡ pairs_printing pairs.items
value_of_map pairs =
    ap value_printing (sym (rolls-Map pairs)) ∙ (fold-roll-Val Printing layer_printing (Val-F.Map pairs)
    ∙ ap (λ fs. between (codes "map[") (comma_separated fs) (codes "]")) (map-map key_and_value (λ pair. (value_printing pair.0, value_printing pair.1)) pairs.items))

-- the same printing, spelled otherwise
pub printed_as : {T E : Type 0} (r : Result T E) (new old : Page) (f g : Printing) → f ≡ g → OnOk r (new ≡ f old) → OnOk r (new ≡ g old)
printed_as r new old f g e h = subst (λ k. OnOk r (new ≡ k old)) e h
