-- The errors of a call as numbers: which it is, of which import, what kind of place it has, that place, and what more it carries.
use Rattle.std.specs.Prelude.{List, [], ◌+◌, ◌∷◌, ℕ}
use Rattle.canon_context.specs.declared.fault.At.{At}
use Rattle.canon_context.specs.declared.fault.At.TheVariants as at
use Rattle.canon_context.specs.declared.fault.Fault.{Fault}
use Rattle.canon_context.specs.declared.fault.Fault.TheVariants as fault
use Rattle.canon_ledger.specs.declared.fault.ResourceFault.{ResourceFault}
use Rattle.canon_ledger.specs.declared.fault.ResourceFault.TheVariants as resource
use Rattle.canon_func.specs.declared.error.Error.{Error}
use Rattle.canon_func.specs.declared.error.Error.TheVariants as error

-- where a fault was found: a word by its index, or an address
abbrev pub at_numbers : ℕ → At → ℕ → List ℕ
at_numbers code (at.Word index) more = code ∷ 2 ∷ index ∷ more ∷ []
at_numbers code (at.Address address) more = code ∷ 3 ∷ address ∷ more ∷ []

-- a refusal of the ledger, with the number of the handle that it names
abbrev pub resource_numbers : ResourceFault → List ℕ
resource_numbers (resource.UnknownHandle index) = 40 ∷ 0 ∷ 0 ∷ index ∷ []
resource_numbers (resource.NotAResource index) = 41 ∷ 0 ∷ 0 ∷ index ∷ []
resource_numbers resource.ResourceTypeMismatch = 42 ∷ 0 ∷ 0 ∷ 0 ∷ []
resource_numbers (resource.StillLent index) = 43 ∷ 0 ∷ 0 ∷ index ∷ []
resource_numbers (resource.TooManyLends index) = 44 ∷ 0 ∷ 0 ∷ index ∷ []
resource_numbers resource.HandleLimit = 45 ∷ 0 ∷ 0 ∷ 0 ∷ []
resource_numbers resource.IndexOverflow = 46 ∷ 0 ∷ 0 ∷ 0 ∷ []
resource_numbers resource.BorrowAsOwn = 47 ∷ 0 ∷ 0 ∷ 0 ∷ []
resource_numbers resource.HostConsumed = 48 ∷ 0 ∷ 0 ∷ 0 ∷ []
resource_numbers resource.HostDeallocated = 49 ∷ 0 ∷ 0 ∷ 0 ∷ []
resource_numbers resource.GenerationExhausted = 50 ∷ 0 ∷ 0 ∷ 0 ∷ []
resource_numbers resource.BorrowsRemain = 51 ∷ 0 ∷ 0 ∷ 0 ∷ []
resource_numbers resource.NoScope = 52 ∷ 0 ∷ 0 ∷ 0 ∷ []
resource_numbers resource.OutOfMemory = 53 ∷ 0 ∷ 0 ∷ 0 ∷ []

-- a fault: the place of a value is of kind 1, a count of kind 4
abbrev pub fault_numbers : Fault → List ℕ
fault_numbers (fault.TypeMismatch place) = 11 ∷ 1 ∷ place ∷ 0 ∷ []
fault_numbers (fault.FieldName place) = 12 ∷ 1 ∷ place ∷ 0 ∷ []
fault_numbers (fault.LengthMismatch place) = 13 ∷ 1 ∷ place ∷ 0 ∷ []
fault_numbers (fault.UnknownCase place) = 14 ∷ 1 ∷ place ∷ 0 ∷ []
fault_numbers (fault.UnknownFlag place) = 15 ∷ 1 ∷ place ∷ 0 ∷ []
fault_numbers (fault.PayloadExpected place) = 16 ∷ 1 ∷ place ∷ 0 ∷ []
fault_numbers (fault.PayloadNotExpected place) = 17 ∷ 1 ∷ place ∷ 0 ∷ []
fault_numbers (fault.StringTooLong count) = 18 ∷ 4 ∷ count ∷ 0 ∷ []
fault_numbers (fault.SizeOverflow count) = 19 ∷ 4 ∷ count ∷ 0 ∷ []
fault_numbers (fault.ReallocMisaligned address) = 20 ∷ 3 ∷ address ∷ 0 ∷ []
fault_numbers (fault.ReallocOutOfBounds address) = 21 ∷ 3 ∷ address ∷ 0 ∷ []
fault_numbers fault.GuestTrap = 22 ∷ 0 ∷ 0 ∷ 0 ∷ []
fault_numbers (fault.PointerMisaligned where_) = at_numbers 23 where_ 0
fault_numbers (fault.PointerOutOfBounds where_) = at_numbers 24 where_ 0
fault_numbers (fault.InvalidUtf8 where_) = at_numbers 25 where_ 0
fault_numbers (fault.InvalidUtf16 where_) = at_numbers 26 where_ 0
fault_numbers (fault.InvalidChar where_) = at_numbers 27 where_ 0
fault_numbers (fault.BadDiscriminant where_ case_) = at_numbers 28 where_ case_
fault_numbers fault.HostcallFuelExhausted = 29 ∷ 0 ∷ 0 ∷ 0 ∷ []
fault_numbers (fault.Resource refusal) = resource_numbers refusal
fault_numbers fault.OutOfMemory = 8 ∷ 0 ∷ 0 ∷ 0 ∷ []

-- a fault of an import
abbrev pub of_import : ℕ → List ℕ → List ℕ
of_import index (code ∷ rest) = (code + 100) ∷ index ∷ rest
of_import index [] = []

abbrev pub of_call : List ℕ → List ℕ
of_call (code ∷ rest) = code ∷ 0 ∷ rest
of_call [] = []

abbrev pub error_numbers : Error → List ℕ
error_numbers error.WrongCount = 1 ∷ 0 ∷ 0 ∷ 0 ∷ 0 ∷ []
error_numbers error.AsyncLifted = 2 ∷ 0 ∷ 0 ∷ 0 ∷ 0 ∷ []
error_numbers error.CannotEnterComponent = 3 ∷ 0 ∷ 0 ∷ 0 ∷ 0 ∷ []
error_numbers error.WrongWords = 4 ∷ 0 ∷ 0 ∷ 0 ∷ 0 ∷ []
error_numbers (error.UnknownImport index) = 5 ∷ index ∷ 0 ∷ 0 ∷ 0 ∷ []
error_numbers error.TurnsExhausted = 6 ∷ 0 ∷ 0 ∷ 0 ∷ 0 ∷ []
error_numbers (error.HostRefused index) = 7 ∷ index ∷ 0 ∷ 0 ∷ 0 ∷ []
error_numbers (error.Fault f) = of_call (fault_numbers f)
error_numbers (error.ImportFault index f) = of_import index (fault_numbers f)
