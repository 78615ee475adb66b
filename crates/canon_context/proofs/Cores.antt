-- Cores one after another, memory written over, and endings.
use Rattle.std.proofs.Common.{◌≡◌, ◌++◌, ◌∙◌, List, [], ap, drop, length, sym, take, ℕ}
use Rattle.std.proofs.Math.Seq.{drop-length, take-length}
use Rattle.std.proofs.lemmas.List.{append-nil}
use Rattle.canon_lowering.proofs.Lowerings.{NotDone}
use Rattle.canon_memory.specs.Memory.{written_over}
use Rattle.canon_context.specs.Asks.{SameBut}
use Rattle.canon_context.specs.Core.{Parts, encoding_by, component_types}
use Rattle.canon_context.specs.Lowers.{fault_ending}
use Rattle.canon_context.specs.declared.fault.Fault.{Fault}
use Rattle.canon_context.specs.declared.fault.Fault.TheVariants as fault

pub same_then : {T G : Type 0} → (a b c : Parts T G) → SameBut a b → SameBut b c → SameBut a c
same_then {T} {G} a b c e f = f ∙ ap (λ (x : Parts T G). record x { guest = c.guest; memory = c.memory }) e

pub same_encoding : {T G : Type 0} → (a b : Parts T G) (options : ℕ) → SameBut a b → encoding_by b options ≡ encoding_by a options
same_encoding {T} {G} a b options e = ap (λ (x : Parts T G). encoding_by x options) e

pub same_types : {T G : Type 0} → (a b : Parts T G) → SameBut a b → component_types b ≡ component_types a
same_types {T} {G} a b e = ap (λ (x : Parts T G). component_types x) e

-- all of it written over
pub written_whole : (xs ws : List ℕ) → length ws ≡ length xs → written_over xs ws ≡ ws
written_whole xs ws e =
    let rest : drop (length ws) xs ≡ [] = ap (λ n. drop n xs) e ∙ drop-length xs in
    ap (λ ys. take (length xs) (ws ++ ys)) rest ∙ (ap (take (length xs)) (append-nil ws) ∙ (ap (λ n. take n ws) (sym e) ∙ take-length ws))

pub not_done : (e : Fault) → NotDone (fault_ending e)
not_done (fault.TypeMismatch k) = tt
not_done (fault.LengthMismatch k) = tt
not_done (fault.FieldName k) = tt
not_done (fault.UnknownCase k) = tt
not_done (fault.UnknownFlag k) = tt
not_done (fault.PayloadExpected k) = tt
not_done (fault.PayloadNotExpected k) = tt
not_done (fault.ReallocMisaligned a) = tt
not_done (fault.ReallocOutOfBounds a) = tt
not_done fault.GuestTrap = tt
not_done (fault.PointerMisaligned at) = tt
not_done (fault.PointerOutOfBounds at) = tt
not_done (fault.StringTooLong n) = tt
not_done (fault.SizeOverflow n) = tt
not_done (fault.InvalidUtf8 at) = tt
not_done (fault.InvalidUtf16 at) = tt
not_done (fault.InvalidChar at) = tt
not_done (fault.BadDiscriminant at n) = tt
not_done fault.HostcallFuelExhausted = tt
not_done fault.OutOfMemory = tt
not_done (fault.Resource e) = tt
