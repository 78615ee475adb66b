-- What is known where a reading found something.
use Rattle.std.proofs.Common.{◌≡◌, ℕ, zero, suc, List, [], ◌∷◌, ◌++◌, slice_get, Bool, true, false, cond, IsTrue, if◌then◌else◌, Option, None, Some, refl, subst, option_map}
use Rattle.std.proofs.lemmas.Option.{option_and_then_some, same_Some}
use Rattle.std.specs.List.{AllByRecursion, find}
use Rattle.serde_json.specs.Data.{Data, Items, item, no_items}
use Rattle.canon_json.specs.Json.{each, onward}

pub by_map : {A B P : Type 0} (f : A → B) (o : Option A) (b : B) → option_map f o ≡ Some b → ((a : A) → o ≡ Some a → f a ≡ b → P) → P
by_map f None b e go = absurd (cc)
by_map f (Some a) b e go = go a refl (same_Some (f a) b e)

-- where a test came to something, it passed
pub by_test : {A P : Type 0} (b : Bool) (o : Option A) (x : A) → (if b then o else None) ≡ Some x → (IsTrue b → o ≡ Some x → P) → P
by_test true o x e go = go refl e
by_test false o x e go = absurd (cc)

-- what is so of all, is so of the one of a number
pub nth_so : {A : Type 0} (P : A → Type 0) (xs : List A) (n : ℕ) (x : A) → AllByRecursion P xs → slice_get xs n ≡ Some x → P x
nth_so P [] n x h e = absurd (cc)
nth_so P (y ∷ ys) zero x h e = subst P (same_Some y x e) h.0
nth_so P (y ∷ ys) (suc n) x h e = nth_so P ys n x h.1 e

picked_so : {A : Type 0} (P : A → Type 0) (b : Bool) (y : A) (rest : Option A) (x : A) → P y → (rest ≡ Some x → P x) → cond b (Some y) rest ≡ Some x → P x
picked_so P true y rest x h more e = subst P (same_Some y x e) h
picked_so P false y rest x h more e = more e

-- and of the one that is found
pub found_so : {A : Type 0} (P : A → Type 0) (test : A → Bool) (xs : List A) (x : A) → AllByRecursion P xs → find test xs ≡ Some x → P x
found_so P test [] x h e = absurd (cc)
found_so P test (y ∷ ys) x h e = picked_so P (test y) y (find test ys) x h.0 (λ more. found_so P test ys x h.1 more) e

pub all_append : {A : Type 0} (P : A → Type 0) (xs ys : List A) → AllByRecursion P xs → AllByRecursion P ys → AllByRecursion P (xs ++ ys)
all_append P [] ys h g = g
all_append P (x ∷ xs) ys h g = (h.0, all_append P xs ys h.1 g)

-- what is so of each item that is read, is so of all
pub each_all : {A : Type 0} (P : A → Type 0) (read : Data → Option A) → ((d : Data) (a : A) → read d ≡ Some a → P a) → (ds : Items) (xs : List A) → each read ds ≡ Some xs → AllByRecursion P xs
each_all P read so no_items xs e = subst (AllByRecursion P) (same_Some [] xs e) tt
each_all {A} P read so (item d ds) xs e =
    option_and_then_some (λ x. option_map (λ ys. x ∷ ys) (each read ds)) (read d) xs e (λ x s more.
    by_map (λ ys. x ∷ ys) (each read ds) xs more (λ ys made is. subst (AllByRecursion P) is (so d x s, each_all P read so ds ys made)))

-- what each step keeps, all keep
pub onward_keeps : {A : Type 0} (P : A → Type 0) (step : A → Data → Option A) → ((a b : A) (d : Data) → P a → step a d ≡ Some b → P b) → (a b : A) (ds : Items) → P a → onward step a ds ≡ Some b → P b
onward_keeps P step keeps a b no_items p e = subst P (same_Some a b e) p
onward_keeps P step keeps a b (item d ds) p e =
    option_and_then_some (λ c. onward step c ds) (step a d) b e (λ c s more. onward_keeps P step keeps c b ds (keeps a c d p s) more)
