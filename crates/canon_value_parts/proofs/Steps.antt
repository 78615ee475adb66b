-- Places, blame from one place to another, and types that reach no text and no list.
use Rattle.std.proofs.Common.{◌≡◌, ◌+◌, ◌∙◌, List, None, Option, String, Vec, [], ◌∷◌, ap, arith, inl, map, refl, rules, sym, ℕ, Bool, false, true, ◌<◌, ◌^◌, length, subst}
use Rattle.std.specs.declared.alloc.Global.{Global}
use Rattle.canon_ledger.specs.declared.fault.ResourceFault.{ResourceFault}
use Rattle.canon_model.specs.Shape.{Name, ProductKind, of_fields, of_places, of_items, of_pairs, Members, Shape, borrow, fixed, flags, list, own, product, scalar, string, variant}
use Rattle.canon_value_parts.specs.Fails.{Blames, Failure, Fails, field_name, mismatch, overflow, too_long, wrong_length, FailsAt, payload_expected, payload_not_expected, unknown_case, unknown_flag}
use Rattle.canon_val.specs.Value.{IsProduct, all_places, places, total, values_in, IsFixedListValue, no_names}
use Rattle.canon_model.specs.Memory.{cap}
use Rattle.canon_context.specs.Lowers.{fault_ending}
use Rattle.canon_context.specs.declared.fault.Fault.{Fault}
use Rattle.canon_context.specs.declared.fault.Fault.TheVariants as fault
use Rattle.canon_val.specs.declared.val.Val.{Val, the_lemmas}
use Rattle.canon_val.specs.declared.val.Val.TheShapes.{former-Val-Record-0-at-2}
use Rattle.canon_val.specs.declared.val.Val.TheVariants as val
use Rattle.canon_lowering.specs.Copies.{copies}
use Rattle.canon_lowering.specs.Lowering.{Ending, refused}
use Rattle.canon_passing.specs.Passed.{ledger_fault}
use Rattle.canon_value_parts.specs.Viewed.{BlamesItself, HasMembers}
use Rattle.canon_plan.specs.Plan.{LiesAs}
use Rattle.canon_model.specs.Text.{Encoding}

-- ---- places

places_tuple : (xs : Vec Val Global) → places (val.Tuple xs) ≡ 1 + all_places xs.items
places_tuple xs = search (rules, the_lemmas)

-- what each field takes
row_places : (fs : List (String Global × Val)) → total (map (λ f. f.1) (map (former-Val-Record-0-at-2.map Val ℕ places) fs)) ≡ all_places (values_in fs)
row_places [] = refl
row_places (f ∷ fs) = ap (λ n. places f.1 + n) (row_places fs)

places_record : (fs : Vec (String Global × Val) Global) → places (val.Record fs) ≡ 1 + all_places (values_in fs.items)
places_record fs = search (rules, the_lemmas, row_places fs.items)

pub places_product : (k : ProductKind) (names : List Name) (vs : List Val) (v : Val) → IsProduct k names vs v → places v ≡ 1 + all_places vs
places_product of_fields names vs v (fs, e, en, ev) = ap places e ∙ (places_record fs ∙ ap (λ (xs : List Val). 1 + all_places xs) (sym ev))
places_product of_places names vs v (xs, e, en, ev) = ap places e ∙ (places_tuple xs ∙ ap (λ (ys : List Val). 1 + all_places ys) (sym ev))

-- ---- blame

pub blames_later : (enc : Encoding) (F G : Failure → ℕ → Type 0) (n start mid : ℕ) (e : Fault) → mid ≡ cap (start + n) → ((how : Failure) (j : ℕ) → F how j → G how (n + j)) → Blames enc F mid e → Blames enc G start e
blames_later enc F G n start mid (fault.TypeMismatch k) em h (j, ek, f) = (n + j, omega (arith, em, ek), h mismatch j f)
blames_later enc F G n start mid (fault.LengthMismatch k) em h (j, ek, f) = (n + j, omega (arith, em, ek), h wrong_length j f)
blames_later enc F G n start mid (fault.FieldName k) em h (j, ek, f) = (n + j, omega (arith, em, ek), h field_name j f)
blames_later enc F G n start mid (fault.UnknownCase k) em h (j, ek, f) = (n + j, omega (arith, em, ek), h unknown_case j f)
blames_later enc F G n start mid (fault.UnknownFlag k) em h (j, ek, f) = (n + j, omega (arith, em, ek), h unknown_flag j f)
blames_later enc F G n start mid (fault.PayloadExpected k) em h (j, ek, f) = (n + j, omega (arith, em, ek), h payload_expected j f)
blames_later enc F G n start mid (fault.PayloadNotExpected k) em h (j, ek, f) = (n + j, omega (arith, em, ek), h payload_not_expected j f)
blames_later enc F G n start mid (fault.ReallocMisaligned a) em h b = b
blames_later enc F G n start mid (fault.ReallocOutOfBounds a) em h b = b
blames_later enc F G n start mid fault.GuestTrap em h b = b
blames_later enc F G n start mid (fault.PointerMisaligned at) em h b = b
blames_later enc F G n start mid (fault.PointerOutOfBounds at) em h b = b
blames_later enc F G n start mid (fault.StringTooLong k) em h (j, f) = (n + j, h (too_long enc k) j f)
blames_later enc F G n start mid (fault.SizeOverflow k) em h (j, f) = (n + j, h (overflow k) j f)
blames_later enc F G n start mid (fault.InvalidUtf8 at) em h b = b
blames_later enc F G n start mid (fault.InvalidUtf16 at) em h b = b
blames_later enc F G n start mid (fault.InvalidChar at) em h b = b
blames_later enc F G n start mid (fault.BadDiscriminant at d) em h b = b
blames_later enc F G n start mid fault.HostcallFuelExhausted em h b = b
blames_later enc F G n start mid fault.OutOfMemory em h b = b
blames_later enc F G n start mid (fault.Resource e) em h b = b

-- only a refusal is for a value
pub blames_unless : (enc : Encoding) (F : Failure → ℕ → Type 0) (start : ℕ) (e : Fault) → (fault_ending e ≡ refused → Blames enc F start e) → Blames enc F start e
blames_unless enc F start (fault.ReallocMisaligned a) h = tt
blames_unless enc F start (fault.ReallocOutOfBounds a) h = tt
blames_unless enc F start fault.GuestTrap h = tt
blames_unless enc F start fault.OutOfMemory h = tt
blames_unless enc F start (fault.Resource e) h = tt
blames_unless enc F start (fault.TypeMismatch k) h = h refl
blames_unless enc F start (fault.LengthMismatch k) h = h refl
blames_unless enc F start (fault.FieldName k) h = h refl
blames_unless enc F start (fault.UnknownCase k) h = h refl
blames_unless enc F start (fault.UnknownFlag k) h = h refl
blames_unless enc F start (fault.PayloadExpected k) h = h refl
blames_unless enc F start (fault.PayloadNotExpected k) h = h refl
blames_unless enc F start (fault.StringTooLong n) h = h refl
blames_unless enc F start (fault.SizeOverflow n) h = h refl
blames_unless enc F start (fault.PointerMisaligned x) h = h refl
blames_unless enc F start (fault.PointerOutOfBounds x) h = h refl
blames_unless enc F start (fault.InvalidUtf8 x) h = h refl
blames_unless enc F start (fault.InvalidUtf16 x) h = h refl
blames_unless enc F start (fault.InvalidChar x) h = h refl
blames_unless enc F start (fault.BadDiscriminant x d) h = h refl
blames_unless enc F start fault.HostcallFuelExhausted h = h refl

pub blames_first : (enc : Encoding) (F G : Failure → ℕ → Type 0) (start : ℕ) (e : Fault) → ((how : Failure) (j : ℕ) → F how j → G how j) → Blames enc F start e → Blames enc G start e
blames_first enc F G start (fault.TypeMismatch k) h (j, ek, f) = (j, ek, h mismatch j f)
blames_first enc F G start (fault.LengthMismatch k) h (j, ek, f) = (j, ek, h wrong_length j f)
blames_first enc F G start (fault.FieldName k) h (j, ek, f) = (j, ek, h field_name j f)
blames_first enc F G start (fault.UnknownCase k) h (j, ek, f) = (j, ek, h unknown_case j f)
blames_first enc F G start (fault.UnknownFlag k) h (j, ek, f) = (j, ek, h unknown_flag j f)
blames_first enc F G start (fault.PayloadExpected k) h (j, ek, f) = (j, ek, h payload_expected j f)
blames_first enc F G start (fault.PayloadNotExpected k) h (j, ek, f) = (j, ek, h payload_not_expected j f)
blames_first enc F G start (fault.ReallocMisaligned a) h b = b
blames_first enc F G start (fault.ReallocOutOfBounds a) h b = b
blames_first enc F G start fault.GuestTrap h b = b
blames_first enc F G start (fault.PointerMisaligned at) h b = b
blames_first enc F G start (fault.PointerOutOfBounds at) h b = b
blames_first enc F G start (fault.StringTooLong k) h (j, f) = (j, h (too_long enc k) j f)
blames_first enc F G start (fault.SizeOverflow k) h (j, f) = (j, h (overflow k) j f)
blames_first enc F G start (fault.InvalidUtf8 at) h b = b
blames_first enc F G start (fault.InvalidUtf16 at) h b = b
blames_first enc F G start (fault.InvalidChar at) h b = b
blames_first enc F G start (fault.BadDiscriminant at d) h b = b
blames_first enc F G start fault.HostcallFuelExhausted h b = b
blames_first enc F G start fault.OutOfMemory h b = b
blames_first enc F G start (fault.Resource e) h b = b

-- ---- types that reach no text and no list

-- a type doesn't both reach one and reach none
pub blocks_none : (a : Bool) → a ≡ true → a ≡ false → ⊥
blocks_none a e f = cc

-- ---- views of values, by what a look-up gives

-- the value itself fails
pub own_failure : (how : Failure) (s s2 : Shape) (v : Val) (place : ℕ) → s2 ≡ s → Fails how s v → (place ≡ place) × Fails how s2 v
own_failure how s s2 v place e f = (refl, subst (λ (x : Shape). Fails how x v) (sym e) f)

fails_first : (how : Failure) (s : Shape) (v : Val) → Fails how s v → FailsAt how s v 0
fails_first how (product k ms) v f = inl (refl, f)
fails_first how (scalar k) v f = (refl, f)
fails_first how string v f = (refl, f)
fails_first how (own r) v f = (refl, f)
fails_first how (borrow r) v f = (refl, f)
fails_first how (list of_items s) v f = inl (refl, f)
fails_first how (list of_pairs s) v f = inl (refl, f)
fails_first how (fixed n s) v f = inl (refl, f)
fails_first how (variant k cs) v f = inl (refl, f)
fails_first how (flags names) v f = (refl, f)

-- it is refused, and not by the ledger
module _ (s : Shape) (v : Val) (place : ℕ) (few : place < 2 ^ 64) where
  abbrev IsRefused : Fault → Type 0
  IsRefused e = ◌≡◌ {A = Ending × Option ResourceFault} (fault_ending e, ledger_fault e) (refused, None) × ((enc : Encoding) → Blames enc (λ how k. FailsAt how s v k) place e)

  at_first : (how : Failure) (k : ℕ) → k ≡ place → Fails how s v → (j : ℕ) × (k ≡ cap (place + j)) × FailsAt how s v j
  at_first how k is f = (0, omega (arith, is, few), fails_first how s v f)

  pub blames_itself : (e : Fault) → BlamesItself s v place e → IsRefused e
  blames_itself (fault.TypeMismatch k) (is, f) = (refl, λ enc. at_first mismatch k is f)
  blames_itself (fault.LengthMismatch k) (is, f) = (refl, λ enc. at_first wrong_length k is f)
  blames_itself (fault.UnknownCase k) (is, f) = (refl, λ enc. at_first unknown_case k is f)
  blames_itself (fault.PayloadExpected k) (is, f) = (refl, λ enc. at_first payload_expected k is f)
  blames_itself (fault.PayloadNotExpected k) (is, f) = (refl, λ enc. at_first payload_not_expected k is f)
  blames_itself (fault.FieldName k) h = absurd h
  blames_itself (fault.UnknownFlag k) h = absurd h
  blames_itself (fault.StringTooLong n) h = absurd h
  blames_itself (fault.SizeOverflow n) h = absurd h
  blames_itself (fault.ReallocMisaligned a) h = absurd h
  blames_itself (fault.ReallocOutOfBounds a) h = absurd h
  blames_itself fault.GuestTrap h = absurd h
  blames_itself (fault.PointerMisaligned at) h = absurd h
  blames_itself (fault.PointerOutOfBounds at) h = absurd h
  blames_itself (fault.InvalidUtf8 at) h = absurd h
  blames_itself (fault.InvalidUtf16 at) h = absurd h
  blames_itself (fault.InvalidChar at) h = absurd h
  blames_itself (fault.BadDiscriminant at n) h = absurd h
  blames_itself fault.HostcallFuelExhausted h = absurd h
  blames_itself fault.OutOfMemory h = absurd h
  blames_itself (fault.Resource e) h = absurd h

pub product_seen : (k : ProductKind) (ms : Members) (s : Shape) (names : List Name) (vs : List Val) (v : Val) → s ≡ product k ms → IsProduct k names vs v → LiesAs s ms × HasMembers s names vs v
product_seen k ms s names vs v e h = subst (λ (x : Shape). LiesAs x ms × HasMembers x names vs v) (sym e) (refl, h)

pub fixed_seen : (n : ℕ) (part s : Shape) (vs : List Val) (v : Val) → s ≡ fixed n part → length vs ≡ n → IsFixedListValue vs v → LiesAs s (copies (length vs) part) × HasMembers s (no_names vs) vs v
fixed_seen n part s vs v e count h = subst (λ (x : Shape). LiesAs x (copies (length vs) part) × HasMembers x (no_names vs) vs v) (sym e) (ap (λ k. copies k part) count, (refl, h))
