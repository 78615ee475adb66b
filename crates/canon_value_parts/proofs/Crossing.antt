-- From a walk's answer to a public call's, where a shortage of the ledger's memory becomes out of memory.
use Rattle.std.proofs.Common.{◌≡◌, ◌⊎◌, Bool, Err, List, None, [], ap, false, inl, inr, map, refl, subst, sym, true, ℕ}
use Rattle.canon_context.specs.Lowers.{fault_ending}
use Rattle.canon_context.specs.declared.fault.Fault.{Fault}
use Rattle.canon_context.specs.declared.fault.Fault.TheVariants as fault
use Rattle.canon_ledger.specs.Ledger.{LedgerState}
use Rattle.canon_ledger.specs.declared.fault.ResourceFault.TheVariants as resource
use Rattle.canon_resources.specs.Parts.{LeavesStop, PassedResource, lower_parts}
use Rattle.canon_lowering.specs.Lowering.{Ending, refused}
use Rattle.canon_model.specs.Text.{Encoding}
use Rattle.canon_types.specs.Instance.{Instance}
use Rattle.canon_passing.proofs.Passing.{Ended}
use Rattle.canon_value_parts.specs.Fails.{Blames, Failure}
use Rattle.canon_passing.specs.Passed.{Crosses, EndsAs, UsesLedger, ledger_fault, told_fault}
use Rattle.canon_context.specs.Faults.{stop_of}

-- want of the ledger's memory, inside
abbrev wanting : Fault
wanting = fault.Resource resource.OutOfMemory

-- what is reported is out of memory, or the same
pub value_told_by : (P : Fault → Type 0) (e : Fault) → (e ≡ wanting → P fault.OutOfMemory) → P e → P (told_fault e)
value_told_by P (fault.TypeMismatch k) f h = h
value_told_by P (fault.LengthMismatch k) f h = h
value_told_by P (fault.FieldName k) f h = h
value_told_by P (fault.UnknownCase k) f h = h
value_told_by P (fault.UnknownFlag k) f h = h
value_told_by P (fault.PayloadExpected k) f h = h
value_told_by P (fault.PayloadNotExpected k) f h = h
value_told_by P (fault.ReallocMisaligned a) f h = h
value_told_by P (fault.ReallocOutOfBounds a) f h = h
value_told_by P fault.GuestTrap f h = h
value_told_by P (fault.PointerMisaligned at) f h = h
value_told_by P (fault.PointerOutOfBounds at) f h = h
value_told_by P (fault.StringTooLong n) f h = h
value_told_by P (fault.SizeOverflow n) f h = h
value_told_by P (fault.InvalidUtf8 at) f h = h
value_told_by P (fault.InvalidUtf16 at) f h = h
value_told_by P (fault.InvalidChar at) f h = h
value_told_by P (fault.BadDiscriminant at n) f h = h
value_told_by P fault.HostcallFuelExhausted f h = h
value_told_by P fault.OutOfMemory f h = h
value_told_by P (fault.Resource (resource.UnknownHandle i)) f h = h
value_told_by P (fault.Resource (resource.NotAResource i)) f h = h
value_told_by P (fault.Resource resource.ResourceTypeMismatch) f h = h
value_told_by P (fault.Resource (resource.StillLent i)) f h = h
value_told_by P (fault.Resource (resource.TooManyLends i)) f h = h
value_told_by P (fault.Resource resource.HandleLimit) f h = h
value_told_by P (fault.Resource resource.IndexOverflow) f h = h
value_told_by P (fault.Resource resource.BorrowAsOwn) f h = h
value_told_by P (fault.Resource resource.HostConsumed) f h = h
value_told_by P (fault.Resource resource.HostDeallocated) f h = h
value_told_by P (fault.Resource resource.GenerationExhausted) f h = h
value_told_by P (fault.Resource resource.BorrowsRemain) f h = h
value_told_by P (fault.Resource resource.NoScope) f h = h
value_told_by P (fault.Resource resource.OutOfMemory) f h = f refl

-- what was reported is reported as it is
told_itself : (e : Fault) → told_fault (told_fault e) ≡ told_fault e
told_itself (fault.TypeMismatch k) = refl
told_itself (fault.LengthMismatch k) = refl
told_itself (fault.FieldName k) = refl
told_itself (fault.UnknownCase k) = refl
told_itself (fault.UnknownFlag k) = refl
told_itself (fault.PayloadExpected k) = refl
told_itself (fault.PayloadNotExpected k) = refl
told_itself (fault.ReallocMisaligned a) = refl
told_itself (fault.ReallocOutOfBounds a) = refl
told_itself fault.GuestTrap = refl
told_itself (fault.PointerMisaligned at) = refl
told_itself (fault.PointerOutOfBounds at) = refl
told_itself (fault.StringTooLong n) = refl
told_itself (fault.SizeOverflow n) = refl
told_itself (fault.InvalidUtf8 at) = refl
told_itself (fault.InvalidUtf16 at) = refl
told_itself (fault.InvalidChar at) = refl
told_itself (fault.BadDiscriminant at n) = refl
told_itself fault.HostcallFuelExhausted = refl
told_itself fault.OutOfMemory = refl
told_itself (fault.Resource (resource.UnknownHandle i)) = refl
told_itself (fault.Resource (resource.NotAResource i)) = refl
told_itself (fault.Resource resource.ResourceTypeMismatch) = refl
told_itself (fault.Resource (resource.StillLent i)) = refl
told_itself (fault.Resource (resource.TooManyLends i)) = refl
told_itself (fault.Resource resource.HandleLimit) = refl
told_itself (fault.Resource resource.IndexOverflow) = refl
told_itself (fault.Resource resource.BorrowAsOwn) = refl
told_itself (fault.Resource resource.HostConsumed) = refl
told_itself (fault.Resource resource.HostDeallocated) = refl
told_itself (fault.Resource resource.GenerationExhausted) = refl
told_itself (fault.Resource resource.BorrowsRemain) = refl
told_itself (fault.Resource resource.NoScope) = refl
told_itself (fault.Resource resource.OutOfMemory) = refl

ends_as : (X : Type 0) (handles : Bool) (ps : List PassedResource) (e : Fault) → EndsAs {T = X} handles ps (Err e) (fault_ending e)
ends_as X handles ps (fault.TypeMismatch k) = refl
ends_as X handles ps (fault.LengthMismatch k) = refl
ends_as X handles ps (fault.FieldName k) = refl
ends_as X handles ps (fault.UnknownCase k) = refl
ends_as X handles ps (fault.UnknownFlag k) = refl
ends_as X handles ps (fault.PayloadExpected k) = refl
ends_as X handles ps (fault.PayloadNotExpected k) = refl
ends_as X handles ps (fault.ReallocMisaligned a) = refl
ends_as X handles ps (fault.ReallocOutOfBounds a) = refl
ends_as X handles ps fault.GuestTrap = refl
ends_as X handles ps (fault.PointerMisaligned at) = refl
ends_as X handles ps (fault.PointerOutOfBounds at) = refl
ends_as X handles ps (fault.StringTooLong n) = refl
ends_as X handles ps (fault.SizeOverflow n) = refl
ends_as X handles ps (fault.InvalidUtf8 at) = refl
ends_as X handles ps (fault.InvalidUtf16 at) = refl
ends_as X handles ps (fault.InvalidChar at) = refl
ends_as X handles ps (fault.BadDiscriminant at n) = refl
ends_as X handles ps fault.HostcallFuelExhausted = refl
ends_as X handles ps fault.OutOfMemory = inl refl
ends_as X handles ps (fault.Resource e) = refl

-- the ledger wants memory only where handles are passed
wants_handles : (handles : Bool) (ps : List PassedResource) (e : Fault) → (handles ≡ false → ps ≡ []) → (ledger_fault e ≡ None) ⊎ ¬ (ps ≡ []) → e ≡ wanting → UsesLedger handles ps
wants_handles true ps e none (inr some) is = (refl, some)
wants_handles true ps e none (inl other) is = let here : ledger_fault e ≡ ledger_fault wanting = ap ledger_fault is in cc
wants_handles false ps e none (inr some) is = absurd (some (none refl))
wants_handles false ps e none (inl other) is = let here : ledger_fault e ≡ ledger_fault wanting = ap ledger_fault is in cc

module _ (types : Instance) (handles : Bool) (ps : List PassedResource) (none : handles ≡ false → ps ≡ []) (l n : LedgerState) (e : Fault) (stopped : Ended types l n ps e) where
  -- a lowering that ended with this fault
  pub crossed : {X : Type 0} (Attempted : List ℕ → Ending → Type 0) (hs : List ℕ) (told : Fault) → told ≡ told_fault e → Attempted hs (fault_ending e) → Crosses {T = X} types handles ps Attempted l n (Err told)
  crossed {X} Attempted hs told is h = subst (λ (x : Fault). Crosses {T = X} types handles ps Attempted l n (Err x)) (sym is) (record {
    given = hs;
    ending = fault_ending e;
    ends = value_told_by (λ x. EndsAs {T = X} handles ps (Err x) (fault_ending e)) e (λ want. inr (wants_handles handles ps e none stopped.1 want, ap fault_ending want)) (ends_as X handles ps e);
    lowered = h;
    passed = value_told_by (λ x. Ended types l n ps x) e (λ want. (subst (λ x. LeavesStop (stop_of x) l (map (lower_parts types) ps) n) want stopped.0, inl refl)) stopped;
    as_told = told_itself e;
  })

  -- as `QuietBut` has it, from `Quiet`
  pub quiet_but : (blocks : Bool) (Same : Type 0) (told : Fault) → told ≡ told_fault e → (blocks ≡ false → Same × (fault_ending e ≡ refused)) → blocks ≡ false
      → Same × ((fault_ending told ≡ refused) ⊎ (UsesLedger handles ps × (told ≡ fault.OutOfMemory)))
  quiet_but blocks Same told is h quiet = (
    (h quiet).0,
    subst (λ (x : Fault). (fault_ending x ≡ refused) ⊎ (UsesLedger handles ps × (x ≡ fault.OutOfMemory))) (sym is)
        (value_told_by (λ x. (fault_ending x ≡ refused) ⊎ (UsesLedger handles ps × (x ≡ fault.OutOfMemory))) e (λ want. inr (wants_handles handles ps e none stopped.1 want, refl)) (inl (h quiet).1)),
  )

pub told_blames : (enc : Encoding) (F : Failure → ℕ → Type 0) (from : ℕ) (e told : Fault) → told ≡ told_fault e → Blames enc F from e → Blames enc F from told
told_blames enc F from e told is h = subst (λ x. Blames enc F from x) (sym is) (value_told_by (λ x. Blames enc F from x) e (λ want. tt) h)
