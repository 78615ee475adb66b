-- A printing only adds to the page, and takes a number for each resource.
use Rattle.std.proofs.Common.{◌≡◌, ◌≤◌, ℕ, List, [], ◌∷◌, ◌++◌, None, Ok, Err, Option, Result, Some, String, ap, ap₂, append-nil, append_assoc, drop, flat_map, length, map, refl, string_bytes, subst, sym, ◌∙◌}
use Rattle.std.proofs.Math.ListN.{drop_of_length-le}
use Rattle.std.specs.Prelude.{OnOk, codes}
use Rattle.std.specs.declared.alloc.Global.{Global}
use Rattle.canon_resources.specs.Held.{Any}
use Rattle.canon_value_parts.specs.Resources.{all_resources, resources, resources_step}
use Rattle.canon_val.specs.declared.val.Val.{Val}
use Rattle.canon_val.specs.declared.val.Val.TheFolds.{fold-roll-Val, ind-Val, map-Val}
use Rattle.canon_val.specs.declared.val.Val.TheOpen.{Val-F, Val-F as F}
use Rattle.canon_val.specs.declared.val.Val.TheShapes.{former-Val-Map-0-at-2, former-Val-Record-0-at-2}
use Rattle.canon_transcript.specs.declared.transcript.Answer.{Answer}
use Rattle.canon_transcript.specs.declared.transcript.Answer.TheVariants as answer
use Rattle.canon_transcript.specs.declared.transcript.Record.{Record}
use Rattle.canon_transcript.specs.Text.{Page, Printing, acts_text, text_then, answer_printing, answer_text, between, each_after, end, error_text, following, resources_given, head_text, comma_separated, labelled, layer_printing, live_text, name_text, next_number, number_after, page, key_and_value, record_printing, record_text, records_text, resource_printing, resource_text, transcript_text, value_printing, value_text, values_printing, values_text, write}

-- ---- numbers

abbrev after_all : List Any → Option ℕ → Option ℕ
after_all xs None = None
after_all xs (Some n) = Some (number_after n xs)

after_none : (n : Option ℕ) → n ≡ after_all [] n
after_none None = refl
after_none (Some n) = refl

after_one : (x : Any) (n : Option ℕ) → next_number n ≡ after_all (x ∷ []) n
after_one x None = refl
after_one x (Some n) = refl

number_more : (xs ys : List Any) (n : ℕ) → number_after (number_after n xs) ys ≡ number_after n (xs ++ ys)
number_more [] ys n = refl
number_more (x ∷ xs) ys n = number_more xs ys (following n)

after_more : (xs ys : List Any) (n : Option ℕ) → after_all ys (after_all xs n) ≡ after_all (xs ++ ys) n
after_more xs ys None = refl
after_more xs ys (Some n) = ap Some (number_more xs ys n)

-- ---- printings

-- a printing adds the text that it has on an empty page, and these resources take their numbers
record Adds (f : Printing) (xs : List Any) : Type 0 where
  on : (p : Page) → f p ≡ page (p.text ++ (f (page [] p.next)).text) (after_all xs p.next)

adds_nothing : Adds (λ p. p) []
adds_nothing = record { on = λ p. ap₂ page (sym (append-nil p.text)) (after_none p.next) }

adds_text : (text : List ℕ) → Adds (write text) []
adds_text text = record { on = λ p. ap (λ n. page (p.text ++ text) n) (after_none p.next) }

adds_resource : (x : Any) → Adds resource_printing (x ∷ [])
adds_resource x = record { on = λ p. ap (λ n. page (p.text ++ resource_text p.next) n) (after_one x p.next) }

adds_both : (f g : Printing) (xs ys : List Any) → Adds f xs → Adds g ys → Adds (λ p. g (f p)) (xs ++ ys)
adds_both f g xs ys a b = record {
  on = λ p.
      let q = f (page [] p.next) in
      let n = after_all xs p.next in
      let alone : q ≡ page q.text n = a.on (page [] p.next) in
      let both : (g q).text ≡ q.text ++ (g (page [] n)).text = ap (λ r. (g r).text) alone ∙ ap (λ (r : Page). r.text) (b.on (page q.text n)) in
      ap g (a.on p) ∙ (b.on (page (p.text ++ q.text) n)
      ∙ ap₂ page (append_assoc p.text q.text (g (page [] n)).text ∙ ap (λ text. p.text ++ text) (sym both)) (after_more xs ys p.next));
}

adds_after : (text : List ℕ) (f : Printing) (xs : List Any) → Adds f xs → Adds (text_then text f) xs
adds_after text f xs a = adds_both (write text) f [] xs (adds_text text) a

adds_between : (opening closing : List ℕ) (f : Printing) (xs : List Any) → Adds f xs → Adds (between opening f closing) xs
adds_between opening closing f xs a =
    subst (λ ys. Adds (between opening f closing) ys) (append-nil xs) (adds_both (text_then opening f) (write closing) xs [] (adds_after opening f xs a) (adds_text closing))

adds_same : (f g : Printing) (xs ys : List Any) → g ≡ f → ys ≡ xs → Adds f xs → Adds g ys
adds_same f g xs ys e d a = subst (λ k. Adds k ys) (sym e) (subst (λ zs. Adds f zs) (sym d) a)

-- each printing adds the resources in its place
abbrev AllAdd : List Printing → List (List Any) → Type 0
AllAdd [] [] = Unit {0}
AllAdd [] (xs ∷ xss) = ⊥
AllAdd (f ∷ fs) [] = ⊥
AllAdd (f ∷ fs) (xs ∷ xss) = Adds f xs × AllAdd fs xss

abbrev all_of : List (List Any) → List Any
all_of xss = flat_map (λ xs. xs) xss

adds_each : (separator : List ℕ) (fs : List Printing) (xss : List (List Any)) → AllAdd fs xss → Adds (each_after separator fs) (all_of xss)
adds_each separator [] [] a = adds_nothing
adds_each separator [] (xs ∷ xss) a = absurd a
adds_each separator (f ∷ fs) [] a = absurd a
adds_each separator (f ∷ fs) (xs ∷ xss) a =
    adds_both (text_then separator f) (each_after separator fs) xs (all_of xss) (adds_after separator f xs a.0) (adds_each separator fs xss a.1)

adds_row : (fs : List Printing) (xss : List (List Any)) → AllAdd fs xss → Adds (comma_separated fs) (all_of xss)
adds_row [] [] a = adds_nothing
adds_row [] (xs ∷ xss) a = absurd a
adds_row (f ∷ fs) [] a = absurd a
adds_row (f ∷ fs) (xs ∷ xss) a = adds_both f (each_after (codes ",") fs) xs (all_of xss) a.0 (adds_each (codes ",") fs xss a.1)

-- ---- values

-- one level of a value, of whose parts it is known
module _ {E : Type 0} (f : E → Val) (h : (e : E) → Adds (value_printing (f e)) (resources (f e))) where
  members : (es : List E) → AllAdd (map value_printing (map f es)) (map resources (map f es))
  members [] = tt
  members (e ∷ es) = (h e, members es)

  pairs : (ps : List (E × E)) → AllAdd (map key_and_value (map (former-Val-Map-0-at-2.map Val Printing value_printing) (map (former-Val-Map-0-at-2.map E Val f) ps)))
      (map (λ p. p.0 ++ p.1) (map (former-Val-Map-0-at-2.map Val (List Any) resources) (map (former-Val-Map-0-at-2.map E Val f) ps)))
  pairs [] = tt
  pairs (p ∷ ps) = (adds_both (value_printing (f p.0)) (text_then (codes "=") (value_printing (f p.1))) _ _ (h p.0) (adds_after (codes "=") _ _ (h p.1)), pairs ps)

  fields : (gs : List (String Global × E)) → AllAdd (map labelled (map (former-Val-Record-0-at-2.map Val Printing value_printing) (map (former-Val-Record-0-at-2.map E Val f) gs)))
      (map (λ g. g.1) (map (former-Val-Record-0-at-2.map Val (List Any) resources) (map (former-Val-Record-0-at-2.map E Val f) gs)))
  fields [] = tt
  fields (g ∷ gs) = (adds_after (name_text (string_bytes g.0)) _ _ (adds_after (codes ":") _ _ (h g.1)), fields gs)

  payload : (e : E) → Adds (between (codes "(") (value_printing (f e)) (codes ")")) (resources (f e))
  payload e = adds_between (codes "(") (codes ")") _ _ (h e)

  level : (y : Val-F E) → Adds (layer_printing (map-Val Val Printing value_printing (map-Val E Val f y))) (resources_step (map-Val Val (List Any) resources (map-Val E Val f y)))
  level (F.Bool b) = adds_text _
  level (F.S8 z) = adds_text _
  level (F.U8 n) = adds_text _
  level (F.S16 z) = adds_text _
  level (F.U16 n) = adds_text _
  level (F.S32 z) = adds_text _
  level (F.U32 n) = adds_text _
  level (F.S64 z) = adds_text _
  level (F.U64 n) = adds_text _
  level (F.Float32 n) = adds_text _
  level (F.Float64 n) = adds_text _
  level (F.Char n) = adds_text _
  level (F.String s) = adds_text _
  level (F.List xs) = adds_between _ _ _ _ (adds_row _ _ (members xs.items))
  level (F.Map ps) = adds_between _ _ _ _ (adds_row _ _ (pairs ps.items))
  level (F.Record fs) = adds_between _ _ _ _ (adds_row _ _ (fields fs.items))
  level (F.Tuple xs) = adds_between _ _ _ _ (adds_row _ _ (members xs.items))
  level (F.Variant name None) = adds_after _ _ _ adds_nothing
  level (F.Variant name (Some b)) = adds_after _ _ _ (payload b.value)
  level (F.Enum name) = adds_text _
  level (F.Option None) = adds_text _
  level (F.Option (Some b)) = adds_after _ _ _ (payload b.value)
  level (F.Result (Ok None)) = adds_after _ _ _ adds_nothing
  level (F.Result (Ok (Some b))) = adds_after _ _ _ (payload b.value)
  level (F.Result (Err None)) = adds_after _ _ _ adds_nothing
  level (F.Result (Err (Some b))) = adds_after _ _ _ (payload b.value)
  level (F.Flags names) = adds_text _
  level (F.Resource x) = adds_resource x
  level (F.FixedLengthList xs) = adds_between _ _ _ _ (adds_row _ _ (members xs.items))

adds_value : (v : Val) → Adds (value_printing v) (resources v)
adds_value = ind-Val (λ v. Adds (value_printing v) (resources v)) (λ x y is.
    adds_same _ _ _ _ (fold-roll-Val Printing layer_printing x) (fold-roll-Val (List Any) resources_step x)
    (subst (λ z. Adds (layer_printing (map-Val Val Printing value_printing z)) (resources_step (map-Val Val (List Any) resources z))) is (level (λ w. w.0) (λ w. w.1) y)))

each_value : (vs : List Val) → AllAdd (map value_printing vs) (map resources vs)
each_value [] = tt
each_value (v ∷ vs) = (adds_value v, each_value vs)

-- ---- records

adds_answer : (a : Answer) → Adds (answer_printing a) (resources_given a)
adds_answer (answer.Ok values) = adds_between (codes "ok") end (values_printing values.items) (all_resources values.items) (adds_each (codes " ") _ _ (each_value values.items))
adds_answer (answer.Err e) = adds_text (codes "error " ++ error_text e ++ end)
adds_answer answer.Typecheck = adds_text (codes "error TypecheckFailed" ++ end)
adds_answer answer.Skipped = adds_text (codes "skipped" ++ end)

-- the records, one after the other
abbrev pub records_printing : List Record → Printing
records_printing [] p = p
records_printing (r ∷ rs) p = records_printing rs (record_printing r p)

regrouped_value : (t v vs : List ℕ) → (t ++ codes " " ++ v) ++ vs ≡ t ++ (codes " " ++ v ++ vs)
regrouped_value t v vs = simp append_assoc

regrouped : (t h e a l : List ℕ) → t ++ h ++ e ++ a ++ l ≡ t ++ (h ++ e ++ a ++ l)
regrouped t h e a l = simp append_assoc

-- values whose resources have no numbers
pub values_added : (vs : List Val) (text : List ℕ) → (values_printing vs (page text None)).text ≡ text ++ values_text vs
values_added [] text = sym (append-nil text)
values_added (v ∷ vs) text =
    ap (λ p. (values_printing vs p).text) ((adds_value v).on (page (text ++ codes " ") None))
    ∙ (values_added vs (text ++ codes " " ++ value_text v) ∙ regrouped_value text (value_text v) (values_text vs))

pub unnumbered : {T E : Type 0} (r : Result T E) (old new : List ℕ) (n : Option ℕ) (vs : List Val) → OnOk r (page new n ≡ values_printing vs (page old None)) → OnOk r (new ≡ old ++ values_text vs)
unnumbered (Ok x) old new n vs h = ap (λ p. p.text) h ∙ values_added vs old
unnumbered (Err e) old new n vs h = tt

record_adds : (r : Record) (text : List ℕ) (n : ℕ) → record_printing r (page text (Some n)) ≡ page (text ++ record_text n r) (Some (number_after n (resources_given r.answer)))
record_adds r text n =
    ap (write (live_text r.live)) ((adds_answer r.answer).on (page (text ++ head_text r.head ++ acts_text r) (Some n)))
    ∙ ap (λ t. page t (Some (number_after n (resources_given r.answer)))) (regrouped text (head_text r.head) (acts_text r) (answer_text n r.answer) (live_text r.live))

records_add : (rs : List Record) (text : List ℕ) (n : ℕ) → (records_printing rs (page text (Some n))).text ≡ text ++ records_text n rs
records_add [] text n = sym (append-nil text)
records_add (r ∷ rs) text n =
    ap (λ p. (records_printing rs p).text) (record_adds r text n)
    ∙ (records_add rs (text ++ record_text n r) (number_after n (resources_given r.answer)) ∙ append_assoc text (record_text n r) (records_text (number_after n (resources_given r.answer)) rs))

-- the text on a page with the records, once none is left
pub printed_records : (rs : List Record) (i : ℕ) (text : List ℕ) (n : Option ℕ) → length rs ≤ i
    → records_printing (drop i rs) (page text n) ≡ records_printing rs (page [] (Some 0)) → text ≡ transcript_text rs
printed_records rs i text n past e =
    ap (λ p. p.text) (ap (λ qs. records_printing qs (page text n)) (sym (drop_of_length-le rs past)) ∙ e) ∙ records_add rs [] 0
