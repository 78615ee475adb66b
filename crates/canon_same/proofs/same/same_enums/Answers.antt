use Rattle.std.proofs.Common.{ap, false, refl}
use Rattle.canon_types.specs.Keeps.{names_of}
use Rattle.canon_types.specs.declared.types.InterfaceType.TheVariants as ty
use Rattle.canon_same.specs.Same.{SameTypes}
use Rattle.canon_same.proofs.Definitions.{enums_same}
use Rattle.canon_same.proofs.Steps.{alike, at_other, back, through}
use Rattle.canon_same.proofs.TypeKinds.{number_of, unlike}
use Rattle.canon_same.proofs.same.same_enums.Goals as goal

pub returns-in_default : goal.returns-in_default
returns-in_default c = unlike c.args.read.now c.args.written.now (ty.Enum c.args.i) c.args.other.now false refl c.requires.known c.requires.other_known (c.in_default.not-Enum (number_of c.args.other.now))

pub returns : goal.returns
returns c = at_other (SameTypes c.args.read.now c.args.written.now (ty.Enum c.args.i)) _ _ _ c.in-Enum.is
    (through c.are_same_names.ensures (through (alike (ap names_of c.as_slice.ensures.keys) (ap names_of c.as_slice-2.ensures.keys)) (back (
    enums_same c.args.read.now c.args.written.now _ _ c.types.ensures c.types-2.ensures (ty.Enum c.args.i) (ty.Enum c.in-Enum.j) _ _ c.enum_.ensures.entry c.enum_-2.ensures.entry))))
