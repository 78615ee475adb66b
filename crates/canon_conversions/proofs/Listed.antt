-- Lists that are walked: calls by name, and lines.
use Rattle.std.proofs.Common.{◌≡◌, ◌≤◌, ◌<◌, ◌+◌, ◌++◌, ℕ, suc, List, [], ◌∷◌, map, length, drop, drop-cons, slice_index_or, nat_eq, Bool, true, false, if◌then◌else◌, Option, Some, IfSome, refl, ap, sym, subst, ◌∙◌, arith, append-nil, append_assoc}
use Rattle.std.proofs.Math.ListN.{drop_of_length-le}
use lib.Pointwise.{pointwise}
use Rattle.canon_conversions.specs.Conversions.{call_among, job_of}
use Rattle.canon_conversions.specs.Lines.{Line, Lines}
use Rattle.canon_conversions.specs.TextCalls.{name_of}
use Rattle.canon_conversions.specs.declared.conversion.Conversion.{Conversion}
use Rattle.canon_conversions.specs.declared.conversion.TextCall.{TextCall}

pub conversion_drop_next : {A : Type 0} → (xs : List A) (i : ℕ) (d : A) → i < length xs → drop i xs ≡ slice_index_or xs i d ∷ drop (i + 1) xs
conversion_drop_next xs i d h =
    let e : suc i ≡ i + 1 = omega arith in
    drop-cons xs i d h ∙ ap (λ n. slice_index_or xs i d ∷ drop n xs) e

pub some_is : {A : Type 0} → (P : A → Type 0) (o : Option A) (x : A) → o ≡ Some x → P x → IfSome o P
some_is P o x e h = subst (λ t. IfSome t P) (sym e) h

-- the call at the front of those that are left
among_front : (cs : List TextCall) (i : ℕ) (d : TextCall) (name : List ℕ) (b : Bool) → i < length cs → b ≡ pointwise nat_eq name (name_of (slice_index_or cs i d))
    → call_among (drop i cs) name ≡ (if b then Some (slice_index_or cs i d) else call_among (drop (i + 1) cs) name)
among_front cs i d name b h e = ap (λ xs. call_among xs name) (conversion_drop_next cs i d h) ∙ ap (λ t. if t then Some (slice_index_or cs i d) else call_among (drop (i + 1) cs) name) (sym e)

pub among_here : (cs : List TextCall) (i : ℕ) (d : TextCall) (name : List ℕ) (b : Bool) → i < length cs → b ≡ pointwise nat_eq name (name_of (slice_index_or cs i d)) → b ≡ true
    → call_among (drop i cs) name ≡ call_among cs name → Some (slice_index_or cs i d) ≡ call_among cs name
among_here cs i d name b h e is all = sym (among_front cs i d name b h e ∙ ap (λ t. if t then Some (slice_index_or cs i d) else call_among (drop (i + 1) cs) name) is) ∙ all

pub among_next : (cs : List TextCall) (i : ℕ) (d : TextCall) (name : List ℕ) (b : Bool) → i < length cs → b ≡ pointwise nat_eq name (name_of (slice_index_or cs i d)) → b ≡ false
    → call_among (drop i cs) name ≡ call_among cs name → call_among (drop (i + 1) cs) name ≡ call_among cs name
among_next cs i d name b h e is all = sym (among_front cs i d name b h e ∙ ap (λ t. if t then Some (slice_index_or cs i d) else call_among (drop (i + 1) cs) name) is) ∙ all

-- with the lines of the conversions that are left, a text is the lines of all
abbrev pub Goes : List Conversion → ℕ → List ℕ → Type 0
Goes cs i text = (rest : List ℕ) → Lines (map job_of (drop i cs)) rest → Lines (map job_of cs) (text ++ rest)

pub lines_more : (cs : List Conversion) (i : ℕ) (c : Conversion) (text text' line : List ℕ) → drop i cs ≡ c ∷ drop (i + 1) cs → Goes cs i text → Line (job_of c) line → text' ≡ text ++ line → Goes cs (i + 1) text'
lines_more cs i c text text' line e goes one is = λ rest more.
    subst (Lines (map job_of cs)) (sym (append_assoc text line rest) ∙ ap (λ t. t ++ rest) (sym is))
    (goes (line ++ rest) (subst (λ xs. Lines (map job_of xs) (line ++ rest)) (sym e) (line, rest, one, more, refl)))

pub lines_end : (cs : List Conversion) (i : ℕ) (text : List ℕ) → length cs ≤ i → Goes cs i text → Lines (map job_of cs) text
lines_end cs i text h goes = subst (Lines (map job_of cs)) (append-nil text) (goes [] (subst (λ xs. Lines (map job_of xs) []) (sym (drop_of_length-le cs h)) refl))
