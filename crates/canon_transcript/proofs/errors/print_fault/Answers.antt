use Rattle.std.specs.Prelude.{codes, string_bytes}
use Rattle.canon_transcript.proofs.Pushed.{pushed}
use Rattle.canon_transcript.proofs.errors.print_fault.Goals as goal

pub returns-in-TypeMismatch : goal.returns-in-TypeMismatch
returns-in-TypeMismatch c = rw c.in-TypeMismatch.is c.write.ensures.bytes

pub returns-in-FieldName : goal.returns-in-FieldName
returns-in-FieldName c = rw c.in-FieldName.is c.write-in-FieldName.ensures.bytes

pub returns-in-UnknownCase : goal.returns-in-UnknownCase
returns-in-UnknownCase c = rw c.in-UnknownCase.is c.write-in-UnknownCase.ensures.bytes

pub returns-in-UnknownFlag : goal.returns-in-UnknownFlag
returns-in-UnknownFlag c = rw c.in-UnknownFlag.is c.write-in-UnknownFlag.ensures.bytes

pub returns-in-PayloadExpected : goal.returns-in-PayloadExpected
returns-in-PayloadExpected c = rw c.in-PayloadExpected.is c.write-in-PayloadExpected.ensures.bytes

pub returns-in-PayloadNotExpected : goal.returns-in-PayloadNotExpected
returns-in-PayloadNotExpected c = rw c.in-PayloadNotExpected.is c.write-in-PayloadNotExpected.ensures.bytes

pub returns-in-LengthMismatch : goal.returns-in-LengthMismatch
returns-in-LengthMismatch c = rw c.in-LengthMismatch.is c.write-in-LengthMismatch.ensures.bytes

pub returns-in-StringTooLong : goal.returns-in-StringTooLong
returns-in-StringTooLong c = rw c.in-StringTooLong.is c.write-in-StringTooLong.ensures.bytes

pub returns-in-SizeOverflow : goal.returns-in-SizeOverflow
returns-in-SizeOverflow c = rw c.in-SizeOverflow.is c.write-in-SizeOverflow.ensures.bytes

pub returns-in-ReallocMisaligned : goal.returns-in-ReallocMisaligned
returns-in-ReallocMisaligned c = rw c.in-ReallocMisaligned.is c.write-in-ReallocMisaligned.ensures.bytes

pub returns-in-ReallocOutOfBounds : goal.returns-in-ReallocOutOfBounds
returns-in-ReallocOutOfBounds c = rw c.in-ReallocOutOfBounds.is c.write-in-ReallocOutOfBounds.ensures.bytes

pub returns-in-GuestTrap : goal.returns-in-GuestTrap
returns-in-GuestTrap c = rw c.in-GuestTrap.is (pushed c.push_str.result (string_bytes c.args.text.now) (string_bytes c.push_str.new.self) (codes "GuestTrap") c.push_str.ensures.bytes)

pub returns-in-PointerMisaligned : goal.returns-in-PointerMisaligned
returns-in-PointerMisaligned c = rw c.in-PointerMisaligned.is c.print_at.ensures

pub returns-in-PointerOutOfBounds : goal.returns-in-PointerOutOfBounds
returns-in-PointerOutOfBounds c = rw c.in-PointerOutOfBounds.is c.print_at-in-PointerOutOfBounds.ensures

pub returns-in-InvalidUtf8 : goal.returns-in-InvalidUtf8
returns-in-InvalidUtf8 c = rw c.in-InvalidUtf8.is c.print_at-in-InvalidUtf8.ensures

pub returns-in-InvalidUtf16 : goal.returns-in-InvalidUtf16
returns-in-InvalidUtf16 c = rw c.in-InvalidUtf16.is c.print_at-in-InvalidUtf16.ensures

pub returns-in-InvalidChar : goal.returns-in-InvalidChar
returns-in-InvalidChar c = rw c.in-InvalidChar.is c.print_at-in-InvalidChar.ensures

pub returns-in-Resource : goal.returns-in-Resource
returns-in-Resource c = rw c.in-Resource.is c.print_refusal.ensures

pub returns-in-HostcallFuelExhausted : goal.returns-in-HostcallFuelExhausted
returns-in-HostcallFuelExhausted c = rw c.in-HostcallFuelExhausted.is (pushed c.push_str-in-HostcallFuelExhausted.result (string_bytes c.args.text.now) (string_bytes c.push_str-in-HostcallFuelExhausted.new.self) (codes "HostcallFuelExhausted") c.push_str-in-HostcallFuelExhausted.ensures.bytes)

pub returns-in-OutOfMemory : goal.returns-in-OutOfMemory
returns-in-OutOfMemory c = rw c.in-OutOfMemory.is (pushed c.push_str-in-OutOfMemory.result (string_bytes c.args.text.now) (string_bytes c.push_str-in-OutOfMemory.new.self) (codes "OutOfMemory") c.push_str-in-OutOfMemory.ensures.bytes)
