-- How the faults of lifting are reported and handed on.
use Rattle.std.proofs.Common.{◌≡◌, Err, IfErr, IfOk, Ok, Result, inl, inr, refl, subst, sym, ℕ}
use Rattle.std.specs.Result.{IsErr, IsErrAnd}
use Rattle.canon_model.specs.Memory.{Memory}
use Rattle.canon_model.specs.Reach as reach
use Rattle.canon_model.specs.Reach.{IsFault, Kind, ListFault, PointerFault, TextFault, misaligned, out_of_bounds}
use Rattle.canon_model.specs.Shape.{Shape}
use Rattle.canon_model.specs.Text.{Encoding}
use Rattle.canon_context.specs.Told.{Exactly, IsPlace, LiftBlames, ToldAt, place_of}
use Rattle.canon_context.specs.declared.fault.At.{At as Place}
use Rattle.canon_context.specs.declared.fault.At.TheVariants as at
use Rattle.canon_context.specs.declared.fault.Fault.{Fault}
use Rattle.canon_context.specs.declared.fault.Fault.TheVariants as fault

-- ---- results

-- of a result, what follows
pub core_on_ok : {X : Type 0} (r : Result X Fault) (P Q : X → Type 0) → ((x : X) → P x → Q x) → IfOk r P → IfOk r Q
core_on_ok (Ok y) P Q f h = f y h
core_on_ok (Err x) P Q f h = tt

pub core_on_err : {X : Type 0} (r : Result X Fault) (P Q : Fault → Type 0) → ((e : Fault) → P e → Q e) → IfErr r P → IfErr r Q
core_on_err (Ok y) P Q f h = tt
core_on_err (Err x) P Q f h = f x h

-- a fault that is handed on
pub handed_on : {X : Type 0} (r : Result X Fault) (e : Fault) (Q : Fault → Type 0) → IsErr r × IsErrAnd r (λ x. x ≡ e) → Q e → IfErr r Q
handed_on (Ok y) e Q h q = tt
handed_on (Err x) e Q h q = subst Q (sym h.1) q

-- a fault that is handed on
pub handed_to : {X : Type 0} (P : Result X Fault → Type 0) (r : Result X Fault) (e : Fault) → IsErr r × IsErrAnd r (λ x. x ≡ e) → P (Err e) → P r
handed_to P (Ok y) e h q = absurd h.1
handed_to P (Err x) e h q = subst (λ y. P (Err y)) (sym h.1) q

-- ---- faults

-- what is a fault of F is one of G
pub blamed_by : (F G : Kind → Place → Type 0) (Low Lower : Type 0) → ((k : Kind) (x : Place) → F k x → G k x) → (Low → Lower) → (e : Fault) → LiftBlames F Low e → LiftBlames G Lower e
blamed_by F G Low Lower f g (fault.PointerMisaligned x) h = f _ _ h
blamed_by F G Low Lower f g (fault.PointerOutOfBounds x) h = f _ _ h
blamed_by F G Low Lower f g (fault.InvalidUtf8 x) h = f _ _ h
blamed_by F G Low Lower f g (fault.InvalidUtf16 x) h = f _ _ h
blamed_by F G Low Lower f g (fault.InvalidChar x) h = f _ _ h
blamed_by F G Low Lower f g (fault.BadDiscriminant x n) h = f _ _ h
blamed_by F G Low Lower f g fault.HostcallFuelExhausted h = g h
blamed_by F G Low Lower f g fault.OutOfMemory h = h
blamed_by F G Low Lower f g (fault.Resource e) h = h
blamed_by F G Low Lower f g (fault.TypeMismatch k) h = h
blamed_by F G Low Lower f g (fault.FieldName k) h = h
blamed_by F G Low Lower f g (fault.UnknownCase k) h = h
blamed_by F G Low Lower f g (fault.UnknownFlag k) h = h
blamed_by F G Low Lower f g (fault.PayloadExpected k) h = h
blamed_by F G Low Lower f g (fault.PayloadNotExpected k) h = h
blamed_by F G Low Lower f g (fault.LengthMismatch k) h = h
blamed_by F G Low Lower f g (fault.StringTooLong n) h = h
blamed_by F G Low Lower f g (fault.SizeOverflow n) h = h
blamed_by F G Low Lower f g (fault.ReallocMisaligned a) h = h
blamed_by F G Low Lower f g (fault.ReallocOutOfBounds a) h = h
blamed_by F G Low Lower f g fault.GuestTrap h = h

-- what is a fault of F is one of G, and fuel that is too low for the one is so for the other
pub core_told_by : (F G : Kind → reach.At → Type 0) (Low Less : Type 0) → ((k : Kind) (y : reach.At) → F k y → G k y) → (Low → Less) → (e : Fault) → LiftBlames (ToldAt F) Low e → LiftBlames (ToldAt G) Less e
core_told_by F G Low Less f less e h = blamed_by (ToldAt F) (ToldAt G) Low Less (λ k x (y, is, g). (y, is, f k y g)) less e h

-- the fuel was too low
pub exhausted : {X : Type 0} (r : Result X Fault) (e : Fault) (F : Kind → Place → Type 0) (Low : Type 0) → IsErr r × IsErrAnd r (λ x. x ≡ e) → e ≡ fault.HostcallFuelExhausted → Low → IfErr r (LiftBlames F Low)
exhausted r e F Low h is low = handed_on r e (LiftBlames F Low) h (subst (λ x. LiftBlames F Low x) (sym is) low)

-- ---- places

pub is_its_place : (x : Place) → IsPlace x (place_of x)
is_its_place (at.Word k) = inl refl
is_its_place (at.Address a) = refl

place_one : (x y : Place) → place_of x ≡ place_of y → x ≡ y
place_one (at.Word k) (at.Word j) e = cc
place_one (at.Word k) (at.Address b) e = cc
place_one (at.Address a) (at.Word j) e = cc
place_one (at.Address a) (at.Address b) e = cc

-- The pointer stands at y, and `at` says this.
module _ (at : Place) (y : reach.At) (is : IsPlace at y) where
  same_place : (kind k : Kind) (x : Place) → IsFault kind (place_of at) k (place_of x) → IsPlace x y × IsFault kind y k y
  same_place kind k x f = (subst (λ z. IsPlace z y) (sym (place_one x at f.at_is)) is, record { kind_is = f.kind_is; at_is = refl })

  pointer_told : (m : Memory) (p n a : ℕ) (k : Kind) (x : Place) → PointerFault m (place_of at) p n a k (place_of x) → IsPlace x y × PointerFault m y p n a k y
  pointer_told m p n a k x (inl (f, wrong)) = let (here, g) = same_place misaligned k x f in (here, inl (g, wrong))
  pointer_told m p n a k x (inr (f, wrong)) = let (here, g) = same_place out_of_bounds k x f in (here, inr (g, wrong))

  pub text_told : (enc : Encoding) (m : Memory) (p n : ℕ) (k : Kind) (x : Place) → Exactly (TextFault enc m (place_of at) p n) k x → ToldAt (TextFault enc m y p n) k x
  text_told enc m p n k x (inl f) = let (here, g) = pointer_told m p _ _ k x f in (y, here, inl g)
  text_told enc m p n k x (inr (f, good, none)) = let (here, g) = same_place _ k x f in (y, here, inr (g, good, none))

  pub core_list_told : (enc : Encoding) (m : Memory) (Items : ℕ → Kind → reach.At → Type 0) (s : Shape) (p n : ℕ) (k : Kind) (x : Place)
      → Exactly (ListFault enc m Items s (place_of at) p n) k x → ToldAt (ListFault enc m Items s y p n) k x
  core_list_told enc m Items s p n k x (inl f) = let (here, g) = pointer_told m p _ _ k x f in (y, here, inl g)
  core_list_told enc m Items s p n k x (inr (good, f)) = (place_of x, is_its_place x, inr (good, f))
