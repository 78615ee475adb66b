-- What is seen of a text and of a value with members.
use Rattle.std.proofs.Common.{◌≡◌, sym, ap, ◌∙◌, map, Box, Option, None, Some, Ok, Err, String, Vec, Global, string_bytes}
use Rattle.canon_val.specs.declared.val.Val.{Val, fold-roll-Val}
use Rattle.canon_val.specs.declared.val.Val.TheOpen.{Val-F}
use Rattle.canon_val.specs.declared.val.Val.TheVariants as val
use Rattle.canon_literals.specs.Literals.{Literal, enum, fields, fields_of, fields_view, fixed, flags, list, literal_step, literal_view, literals_of, literals_view, ok, error, option, pairs, literal_pairs, pairs_view, payload_view, text, tuple, variant}

pub literal-String : (s : String Global) → literal_view (val.String s) ≡ text (string_bytes s)
literal-String s = ap literal_view (sym (val.rolls-String s)) ∙ fold-roll-Val Literal literal_step (Val-F.String s)

pub literal-List : (members : Vec Val Global) → literal_view (val.List members) ≡ list (literals_of (literals_view members.items))
literal-List members = ap literal_view (sym (val.rolls-List members)) ∙ fold-roll-Val Literal literal_step (Val-F.List members)

pub literal-Map : (members : Vec (Val × Val) Global) → literal_view (val.Map members) ≡ pairs (literal_pairs (pairs_view members.items))
literal-Map members = ap literal_view (sym (val.rolls-Map members)) ∙ fold-roll-Val Literal literal_step (Val-F.Map members)

pub literal-Record : (members : Vec (String Global × Val) Global) → literal_view (val.Record members) ≡ fields (fields_of (fields_view members.items))
literal-Record members = ap literal_view (sym (val.rolls-Record members)) ∙ fold-roll-Val Literal literal_step (Val-F.Record members)

pub literal-Tuple : (members : Vec Val Global) → literal_view (val.Tuple members) ≡ tuple (literals_of (literals_view members.items))
literal-Tuple members = ap literal_view (sym (val.rolls-Tuple members)) ∙ fold-roll-Val Literal literal_step (Val-F.Tuple members)

pub literal-Variant : (name : String Global) (p : Option (Box Val Global)) → literal_view (val.Variant name p) ≡ variant (string_bytes name) (payload_view p)
literal-Variant name None = ap literal_view (sym (val.rolls-Variant name None)) ∙ fold-roll-Val Literal literal_step (Val-F.Variant name None)
literal-Variant name (Some v) = ap literal_view (sym (val.rolls-Variant name (Some v))) ∙ fold-roll-Val Literal literal_step (Val-F.Variant name (Some v))

pub literal-Enum : (name : String Global) → literal_view (val.Enum name) ≡ enum (string_bytes name)
literal-Enum name = ap literal_view (sym (val.rolls-Enum name)) ∙ fold-roll-Val Literal literal_step (Val-F.Enum name)

pub literal-Option : (p : Option (Box Val Global)) → literal_view (val.Option p) ≡ option (payload_view p)
literal-Option None = ap literal_view (sym (val.rolls-Option None)) ∙ fold-roll-Val Literal literal_step (Val-F.Option None)
literal-Option (Some v) = ap literal_view (sym (val.rolls-Option (Some v))) ∙ fold-roll-Val Literal literal_step (Val-F.Option (Some v))

pub literal-Ok : (p : Option (Box Val Global)) → literal_view (val.Result (Ok p)) ≡ ok (payload_view p)
literal-Ok None = ap literal_view (sym (val.rolls-Result (Ok None))) ∙ fold-roll-Val Literal literal_step (Val-F.Result (Ok None))
literal-Ok (Some v) = ap literal_view (sym (val.rolls-Result (Ok (Some v)))) ∙ fold-roll-Val Literal literal_step (Val-F.Result (Ok (Some v)))

pub literal-Err : (p : Option (Box Val Global)) → literal_view (val.Result (Err p)) ≡ error (payload_view p)
literal-Err None = ap literal_view (sym (val.rolls-Result (Err None))) ∙ fold-roll-Val Literal literal_step (Val-F.Result (Err None))
literal-Err (Some v) = ap literal_view (sym (val.rolls-Result (Err (Some v)))) ∙ fold-roll-Val Literal literal_step (Val-F.Result (Err (Some v)))

pub literal-Flags : (names : Vec (String Global) Global) → literal_view (val.Flags names) ≡ flags (map (λ name. string_bytes name) names.items)
literal-Flags names = ap literal_view (sym (val.rolls-Flags names)) ∙ fold-roll-Val Literal literal_step (Val-F.Flags names)

pub literal-FixedLengthList : (members : Vec Val Global) → literal_view (val.FixedLengthList members) ≡ fixed (literals_of (literals_view members.items))
literal-FixedLengthList members = ap literal_view (sym (val.rolls-FixedLengthList members)) ∙ fold-roll-Val Literal literal_step (Val-F.FixedLengthList members)
