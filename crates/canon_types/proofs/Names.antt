-- A name is new where it isn't among those before it.
use Rattle.std.proofs.Common.{append_assoc, cond, is_some, Option, Some, true≢false, ◌≡◌, ℕ, ◌+◌, ◌<◌, Bool, true, false, not, ◌||◌, List, [], ◌∷◌, ◌++◌, length, map, drop, get_or, refl, sym, ap, ◌∙◌}
use Rattle.std.specs.Prelude.{bytes_eq, if◌then◌else◌}
use Rattle.std.specs.List.{list_any}
use Rattle.std.specs.Map.{lookup}
use Rattle.indexmap.specs.IndexMap.{insert_entry}
use Rattle.std.proofs.lemmas.List.{at_drop_more, map-append}
use Rattle.canon_model.specs.Shape.{Name}
use Rattle.canon_types.specs.Refusal.{repeats_after}

module _ {K : Type 0} (view : K → Name) (eq : K → K → Bool) (same : (a b : K) → eq a b ≡ bytes_eq (view a) (view b)) where
  any_view : (k : K) (ks : List K) → list_any (eq k) ks ≡ list_any (bytes_eq (view k)) (map view ks)
  any_view k [] = refl
  any_view k (x ∷ xs) =
      ap (λ (b : Bool). b || list_any (eq k) xs) (same k x) ∙ ap (λ (b : Bool). bytes_eq (view k) (view x) || b) (any_view k xs)

  step : (ks : List K) (k : K) (rest : List Name) (b : Bool) → list_any (eq k) ks ≡ b → repeats_after (map view ks) (view k ∷ rest) ≡ (b || repeats_after (map view ks ++ view k ∷ []) rest)
  step ks k rest b h = ap (λ (x : Bool). x || repeats_after (map view ks ++ view k ∷ []) rest) (sym (any_view k ks) ∙ h)

  -- a name that is there is a repetition
  pub found : (ks : List K) (k : K) (rest : List Name) (all : Bool) → list_any (eq k) ks ≡ true → repeats_after (map view ks) (view k ∷ rest) ≡ all → all ≡ true
  found ks k rest all h e = sym e ∙ step ks k rest true h

  -- after a new name the others are left
  pub is_new : (ks : List K) (k : K) (rest : List Name) (all : Bool) → list_any (eq k) ks ≡ false → repeats_after (map view ks) (view k ∷ rest) ≡ all → repeats_after (map view (ks ++ k ∷ [])) rest ≡ all
  is_new ks k rest all h e =
      ap (λ (before : List Name). repeats_after before rest) (map-append view ks (k ∷ [])) ∙ sym (step ks k rest false h) ∙ e

  -- the same, of a list that begins with the name
  pub found_next : (ks items : List K) (k : K) (rest : List K) (all : Bool) → list_any (eq k) ks ≡ true → items ≡ k ∷ rest → repeats_after (map view ks) (map view items) ≡ all → all ≡ true
  found_next ks items k rest all h e r = found ks k (map view rest) all h (ap (λ (xs : List K). repeats_after (map view ks) (map view xs)) (sym e) ∙ r)

  pub new_next : (ks items : List K) (k : K) (rest after : List K) (all : Bool) → list_any (eq k) ks ≡ false → items ≡ k ∷ rest → after ≡ ks ++ k ∷ [] → repeats_after (map view ks) (map view items) ≡ all
      → repeats_after (map view after) (map view rest) ≡ all
  new_next ks items k rest after all h e grown r =
      ap (λ (xs : List K). repeats_after (map view xs) (map view rest)) grown
      ∙ is_new ks k (map view rest) all h (ap (λ (xs : List K). repeats_after (map view ks) (map view xs)) (sym e) ∙ r)

pub all_next : {K : Type 0} (ks items : List K) (k : K) (rest after all : List K) → items ≡ k ∷ rest → after ≡ ks ++ k ∷ [] → ks ++ items ≡ all → after ++ rest ≡ all
all_next {K} ks items k rest after all e grown h =
    ap (λ (xs : List K). xs ++ rest) grown ∙ append_assoc ks (k ∷ []) rest ∙ ap (λ (xs : List K). ks ++ xs) (sym e) ∙ h

-- the keys after a new key
pub keys_new : {K : Type 0} (eq : K → K → Bool) (ks : List K) (k : K) (b : Bool) → b ≡ false → (if b then ks else ks ++ k ∷ []) ≡ ks ++ k ∷ []
keys_new eq ks k b h = ap (λ (x : Bool). if x then ks else ks ++ k ∷ []) h

-- the rest of a list, by its first item
pub rest_more : {X : Type 0} (view : X → Name) (xs : List X) (i : ℕ) (x : X) → i < length xs → x ≡ get_or xs i x → map view (drop i xs) ≡ view x ∷ map view (drop (i + 1) xs)
rest_more {X} view xs i x lt is =
    at_drop_more (map view) xs i x lt ∙ ap (λ (y : X). view y ∷ map view (drop (i + 1) xs)) (sym is)

pub not_false : (b : Bool) → not b ≡ false → b ≡ true
not_false true h = refl
not_false false h = cc

pub not_true : (b : Bool) → not b ≡ true → b ≡ false
not_true true h = cc
not_true false h = refl

-- ---- entries

module _ {K X : Type 0} (eq : K → K → Bool) where
  abbrev pub same_key : K × X → K × X → Bool
  same_key e f = eq e.0 f.0

  present_by : (es : List (K × X)) (k : K) (v : X) (e : K × X) (b : Bool) → eq k e.0 ≡ b → is_some (lookup (eq k) es) ≡ list_any (same_key (k, v)) es → is_some (lookup (eq k) (e ∷ es)) ≡ list_any (same_key (k, v)) (e ∷ es)
  present_by es k v e true h rest =
      ap (λ (b : Bool). is_some (cond b (Some e.1) (lookup (eq k) es))) h ∙ sym (ap (λ (b : Bool). b || list_any (same_key (k, v)) es) h)
  present_by es k v e false h rest =
      ap (λ (b : Bool). is_some (cond b (Some e.1) (lookup (eq k) es))) h ∙ rest ∙ sym (ap (λ (b : Bool). b || list_any (same_key (k, v)) es) h)

  present : (es : List (K × X)) (k : K) (v : X) → is_some (lookup (eq k) es) ≡ list_any (same_key (k, v)) es
  present [] k v = refl
  present (e ∷ es) k v = present_by es k v e (eq k e.0) refl (present es k v)

  insert_by : (es : List (K × X)) (k : K) (v : X) (e : K × X) (b : Bool) → eq k e.0 ≡ b → list_any (same_key (k, v)) (e ∷ es) ≡ false
      → (list_any (same_key (k, v)) es ≡ false → insert_entry eq es k v ≡ es ++ (k, v) ∷ []) → insert_entry eq (e ∷ es) k v ≡ (e ∷ es) ++ (k, v) ∷ []
  insert_by es k v e true t h rest = absurd (true≢false (sym (ap (λ (b : Bool). b || list_any (same_key (k, v)) es) t) ∙ h))
  insert_by es k v e false f h rest =
      ap (λ (b : Bool). if b then (e.0, v) ∷ es else e ∷ insert_entry eq es k v) f
      ∙ ap (λ (xs : List (K × X)). e ∷ xs) (rest (sym (ap (λ (b : Bool). b || list_any (same_key (k, v)) es) f) ∙ h))

  insert_new : (es : List (K × X)) (k : K) (v : X) → list_any (same_key (k, v)) es ≡ false → insert_entry eq es k v ≡ es ++ (k, v) ∷ []
  insert_new [] k v h = refl
  insert_new (e ∷ es) k v h = insert_by es k v e (eq k e.0) refl h (insert_new es k v)

  apart : (es : List (K × X)) (k : K) (v : X) (o : Option X) → o ≡ lookup (eq k) es → is_some o ≡ false → list_any (same_key (k, v)) es ≡ false
  apart es k v o is h = sym (present es k v) ∙ sym (ap (λ (x : Option X). is_some x) is) ∙ h

  -- an entry whose key wasn't there goes last
  pub entry_new : (es after : List (K × X)) (k : K) (v : X) (o : Option X) → o ≡ lookup (eq k) es → is_some o ≡ false → after ≡ insert_entry eq es k v → after ≡ es ++ (k, v) ∷ []
  entry_new es after k v o is h e = e ∙ insert_new es k v (apart es k v o is h)

  module _ (view : K → Name) (same : (a b : K) → eq a b ≡ bytes_eq (view a) (view b)) where
    pub found_entry : (es items : List (K × X)) (k : K) (v : X) (rest : List (K × X)) (all : Bool) (o : Option X) → o ≡ lookup (eq k) es → is_some o ≡ true → items ≡ (k, v) ∷ rest
        → repeats_after (map (λ e. view e.0) es) (map (λ e. view e.0) items) ≡ all → all ≡ true
    found_entry es items k v rest all o is h e r =
        found_next (λ e. view e.0) same_key (λ a b. same a.0 b.0) es items (k, v) rest all (sym (present es k v) ∙ sym (ap (λ (x : Option X). is_some x) is) ∙ h) e r

    pub next_entry : (es items : List (K × X)) (k : K) (v : X) (rest after : List (K × X)) (all : Bool) (o : Option X) → o ≡ lookup (eq k) es → is_some o ≡ false → items ≡ (k, v) ∷ rest → after ≡ es ++ (k, v) ∷ []
        → repeats_after (map (λ e. view e.0) es) (map (λ e. view e.0) items) ≡ all → repeats_after (map (λ e. view e.0) after) (map (λ e. view e.0) rest) ≡ all
    next_entry es items k v rest after all o is h e grown r =
        new_next (λ e. view e.0) same_key (λ a b. same a.0 b.0) es items (k, v) rest after all (apart es k v o is h) e grown r
