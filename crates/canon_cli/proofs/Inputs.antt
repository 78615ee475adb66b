-- What the program answers an input that was there to be read.
use Rattle.std.proofs.Common.{◌≡◌, ◌≤◌, ◌<◌, ℕ, List, [], ◌∷◌, ◌++◌, length, IfSome, String, Option, None, Some, ap, sym, subst, ◌∙◌, arith, inl, inr, append-nil, length-append, ◌⊎◌}
use Rattle.std.specs.Io.KnownBytes.{Consumes}
use Rattle.serde_json.specs.Data.{Data}
use Rattle.std.specs.declared.alloc.Global.{Global}
use Rattle.canon_transcript.specs.declared.transcript.Record.{Record}
use Rattle.canon_cli.specs.Program.{AnswersInput, IsInput, IsJson, IsNoJson, IsPerformed, IsStatus, IsTask, OnTold, Performed, ReadsNoJson, ReadsNoTask, ReadsTask, ReadsTooMuch, command_of, max_input}
use Rattle.canon_cli.specs.declared.command.Command.{Command}
use Rattle.canon_cli.specs.declared.status.Status.{Status}

pub status_is : (s : Status) (n : ℕ) → s.0 ≡ n → s ≡ record { 0 = n }
status_is s n e = ap (λ k. record { 0 = k }) e

-- what was read to the end is the input
whole_is : (input bytes : List ℕ) (left : Option (List ℕ)) → IsInput (Some input) left bytes → bytes ≡ input
whole_is input bytes None h = absurd h.taken
whole_is input bytes (Some rest) h = sym (h.taken ∙ (ap (λ xs. bytes ++ xs) h.whole ∙ append-nil bytes))

-- what was taken is no longer than the input
front_is : (input bytes : List ℕ) (left : Option (List ℕ)) → Consumes (Some input) left bytes → length bytes ≤ length input
front_is input bytes None h = absurd h
front_is input bytes (Some rest) h = omega (arith, ap length h, length-append bytes rest)

-- bytes read as one tree
one_json : (bytes : List ℕ) (t u : Data) → IsJson bytes t → IsJson bytes u → t ≡ u
one_json bytes t u h g = let e : Some t ≡ Some u = sym h.value ∙ g.value in cc

differ : {T : Type 0} (asks : Data → Option T) (t u : Data) (task : T) → t ≡ u → asks t ≡ None → asks u ≡ Some task → ⊥
differ asks t u task e lacks is = let h : asks t ≡ asks u = ap asks e in cc

module _ {T : Type 0} (asks : Data → Option T) (input : List ℕ) (left : Option (List ℕ)) where
  task_short : (task : T) → ReadsTask asks (Some input) left task → length input ≤ max_input
  task_short task h = subst (λ (xs : List ℕ). length xs ≤ max_input) (whole_is input h.input left h.whole) h.whole.short

  task_json : (task : T) → (h : ReadsTask asks (Some input) left task) → IsJson input h.tree
  task_json task h = subst (λ (xs : List ℕ). IsJson xs h.tree) (whole_is input h.input left h.whole) h.json

  none_short : ReadsNoTask asks (Some input) left → length input ≤ max_input
  none_short h = subst (λ (xs : List ℕ). length xs ≤ max_input) (whole_is input h.input left h.whole) h.whole.short

  none_json : (h : ReadsNoTask asks (Some input) left) → IsJson input h.tree
  none_json h = subst (λ (xs : List ℕ). IsJson xs h.tree) (whole_is input h.input left h.whole) h.json

  bad_short : ReadsNoJson (Some input) left → length input ≤ max_input
  bad_short h = subst (λ (xs : List ℕ). length xs ≤ max_input) (whole_is input h.input left h.whole) h.whole.short

  bad_json : ReadsNoJson (Some input) left → IsNoJson input
  bad_json h = subst (λ (xs : List ℕ). IsNoJson xs) (whole_is input h.input left h.whole) h.none

  too_much : ReadsTooMuch (Some input) left → max_input < length input
  too_much h = omega (arith, h.long, front_is input h.input left h.taken)

  module _ (s : Status) (status : IsStatus s) (used : ¬ (s.0 ≡ 2)) (no_fault : ¬ (s.0 ≡ 3)) (long : s.0 ≡ 6 → ReadsTooMuch (Some input) left)
      (bad : s.0 ≡ 7 → ReadsNoJson (Some input) left) (none : s.0 ≡ 8 → ReadsNoTask asks (Some input) left)
      (done : s.0 ≡ 0 → (task : T) × ReadsTask asks (Some input) left task) (cut : s.0 ≡ 4 → (task : T) × ReadsTask asks (Some input) left task) where
    -- by its number
    by_number : (P : Type 0) → (s.0 ≡ 6 → P) → (s.0 ≡ 7 → P) → (s.0 ≡ 8 → P) → (s.0 ≡ 0 → P) → (s.0 ≡ 4 → P) → (s.0 ≡ 5 → P) → P
    by_number P a b c d e f = elim status as (λ _. P) [
      | inl r ↦ elim r as (λ _. P) [ inl x ↦ absurd (used x) | inr y ↦ elim y as (λ _. P) [ inl x ↦ absurd (no_fault x) | inr z ↦ elim z as (λ _. P) [ inl x ↦ a x | inr w ↦ elim w as (λ _. P) [ inl x ↦ b x | inr x ↦ c x ] ] ] ]
      | inr r ↦ elim r as (λ _. P) [ inl x ↦ d x | inr y ↦ elim y as (λ _. P) [ inl x ↦ e x | inr x ↦ f x ] ]
    ]

    answers_told : AnswersInput asks input s
    answers_told = record {
      too_long = λ far. by_number ((s.0 ≡ 6) ⊎ (s.0 ≡ 5)) (λ e. inl e) (λ e. absurd (omega (arith, far, bad_short (bad e)))) (λ e. absurd (omega (arith, far, none_short (none e))))
          (λ e. let d = done e in absurd (omega (arith, far, task_short d.0 d.1))) (λ e. let d = cut e in absurd (omega (arith, far, task_short d.0 d.1))) (λ e. inr e);
      not_json = λ near lacks. by_number ((s.0 ≡ 7) ⊎ (s.0 ≡ 5)) (λ e. absurd (omega (arith, near, too_much (long e)))) (λ e. inl e) (λ e. let n = none e in absurd (lacks n.tree (none_json n)))
          (λ e. let d = done e in absurd (lacks d.1.tree (task_json d.0 d.1))) (λ e. let d = cut e in absurd (lacks d.1.tree (task_json d.0 d.1))) (λ e. inr e);
      bad_script = λ near tree json lacks. by_number ((s.0 ≡ 8) ⊎ (s.0 ≡ 5)) (λ e. absurd (omega (arith, near, too_much (long e)))) (λ e. absurd (bad_json (bad e) tree json)) (λ e. inl e)
          (λ e. let d = done e in absurd (differ asks tree d.1.tree d.0 (one_json input tree d.1.tree json (task_json d.0 d.1)) lacks d.1.is))
          (λ e. let d = cut e in absurd (differ asks tree d.1.tree d.0 (one_json input tree d.1.tree json (task_json d.0 d.1)) lacks d.1.is)) (λ e. inr e);
      task = λ near tree json task is. by_number ((s.0 ≡ 0) ⊎ ((s.0 ≡ 4) ⊎ (s.0 ≡ 5))) (λ e. absurd (omega (arith, near, too_much (long e)))) (λ e. absurd (bad_json (bad e) tree json))
          (λ e. let n = none e in absurd (differ asks n.tree tree task (one_json input n.tree tree (none_json n) json) n.none is)) (λ e. inl e) (λ e. inr (inl e)) (λ e. inr (inr e));
    }

pub answers_input : {T : Type 0} (asks : Data → Option T) (left left' : Option (List ℕ)) (s : Status) → IsStatus s → ¬ (s.0 ≡ 2) → ¬ (s.0 ≡ 3)
    → (s.0 ≡ 6 → ReadsTooMuch left left') → (s.0 ≡ 7 → ReadsNoJson left left') → (s.0 ≡ 8 → ReadsNoTask asks left left')
    → (s.0 ≡ 0 → (task : T) × ReadsTask asks left left' task) → (s.0 ≡ 4 → (task : T) × ReadsTask asks left left' task) → OnTold left (λ input. AnswersInput asks input s)
answers_input asks None left' s status used no_fault long bad none done cut = tt
answers_input asks (Some input) left' s status used no_fault long bad none done cut = answers_told asks input left' s status used no_fault long bad none done cut

-- a task is done and its text written, where the sink doesn't fail
completes : {T : Type 0} (asks : Data → Option T) (input : List ℕ) (s : Status) → AnswersInput asks input s → ¬ (s.0 ≡ 4) → IsTask asks input → (s.0 ≡ 0) ⊎ (s.0 ≡ 5)
completes asks input s h sound is = elim (h.task is.short is.tree is.json is.task is.is) as (λ _. (s.0 ≡ 0) ⊎ (s.0 ≡ 5)) [
  | inl x ↦ inl x
  | inr y ↦ elim y as (λ _. (s.0 ≡ 0) ⊎ (s.0 ≡ 5)) [ inl x ↦ absurd (sound x) | inr x ↦ inr x ]
]

pub completes_told : {T : Type 0} (asks : Data → Option T) (left : Option (List ℕ)) (s : Status) → OnTold left (λ input. AnswersInput asks input s) → ¬ (s.0 ≡ 4) → OnTold left (λ input. IsTask asks input → (s.0 ≡ 0) ⊎ (s.0 ≡ 5))
completes_told asks None s h sound = tt
completes_told asks (Some input) s h sound = completes asks input s h sound

-- what a command does is what its words ask for, which aren't those of `gen N`
pub performed : (words : List (String Global)) (asked : Command) (left left' : Option (List ℕ)) (records : List Record) (text : List ℕ) → command_of words ≡ Some asked
    → Performed asked left left' records text → IsPerformed words left left' records text
performed [] asked left left' records text e h = absurd (cc)
performed (word ∷ []) asked left left' records text e h = (subst (λ o. IfSome o (λ a. Performed a left left' records text)) (sym e) h, tt)
performed (word ∷ other ∷ []) asked left left' records text e h = absurd (cc)
performed (word ∷ other ∷ more ∷ words) asked left left' records text e h = absurd (cc)
