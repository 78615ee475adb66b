-- The parameters of an ask over Rust types are those that its words and memory represent, and its results are what they walk.
use Rattle.std.proofs.Common.{Bool, IsTrue, List, ℕ, arith, false, inl, inr, subst, true}
use Rattle.std.specs.Prelude.{nat_le, take}
use Rattle.std.proofs.lemmas.List.{length-take-le}
use Rattle.canon_args.proofs.Exactly.{always_passed, only_passed}
use Rattle.canon_args.specs.Exactly.{IsPassed}
use Rattle.canon_args.specs.Returned.{reading_by}
use Rattle.canon_func.specs.AskExactly.{GivenIsWalked, IsExact, IsTypedExactly, LiftedIsFaultless, MeantIsEnough, MeantIsLiftable, OnlyMeant}
use Rattle.canon_func.specs.AskTypes.{asked_setting, asked_shape}
use Rattle.canon_func.proofs.TypedExact.{faultless, within}
use Rattle.canon_func.specs.AskValues.{asked_params, asked_results}
use Rattle.canon_host.proofs.TypedAnswers.{members_given}
use Rattle.canon_host.proofs.TypedAsked.{its_lifted}
use Rattle.canon_host.specs.Forms.{AreLawful, HostFuncForm, IsLawful, RustTypes, TypedAnswering, over_types, over_values}
use Rattle.canon_reading.specs.Apart.{AreApart, IsApart}
use Rattle.canon_reading.specs.Reading.{Reading, Setting}
use Rattle.canon_reading.specs.Spots.{flat_in}
use Rattle.canon_model.specs.Flat.{max_params}
use Rattle.canon_model.specs.Layout.{align, flat}
use Rattle.canon_model.specs.Shape.{Members, Shape}
use Rattle.canon_model.specs.Tree.{parts}
use Rattle.canon_typed.specs.Trees.{IsTreeOf}
use Rattle.canon_types.specs.Instance.{Instance}
use Rattle.canon_types.specs.Table.{shape_of}
use Rattle.canon_types.specs.declared.types.InterfaceType.TheVariants.{Tuple}
use Rattle.canon_passing.specs.Args.{args_words}

-- in a row, or by a pointer
passed_apart : {P : Type 0} (R : Reading P) → IsApart R → (b : Bool) → AreApart (reading_by b R)
unfolding align
passed_apart R law true w at s before after v k x read f = law.apart w at s before after v k x read f
passed_apart R law false w at s before after v k x (good, read) (inl (inl (is, wrong))) = wrong good.0
passed_apart R law false w at s before after v k x (good, read) (inl (inr (is, aligned, outside))) = outside good.1
passed_apart R law false w at s before after v k x (good, read) (inr (there, f)) = law.apart w _ s before after v k x read f

module _ {T P R : Type 0} (types : RustTypes P R) (may : TypedAnswering T P R) (law : AreLawful types) where
  only_meant : IsTrue types.told → OnlyMeant types may
  only_meant told store callee fuel asked words memory before after params are (fits, (left, lifts)) =
      let ms : Members = asked_params callee asked in
      let h : IsPassed types.reading types.lifts types.cost max_params (asked_setting callee asked memory store) ms (take (args_words ms) words) before after fuel left params =
      only_passed law.faulted law.priced (law.of_trees told) law.taken max_params (asked_setting callee asked memory store) (Tuple asked.func.params) ms (take (args_words ms) words) fits.1.params are.params
      (length-take-le (args_words ms) words are.given) before after fuel left params lifts in
      record { trees = h.trees; represented = h.represented; means = h.means; within = omega (arith, h.spent); steps = h.steps; taken = h.taken }

  meant_enough : IsTrue types.told → MeantIsEnough types may
  meant_enough told store callee fuel asked words memory before after end result trees hs are rep few took (fits, (left, lifts)) =
      let ms : Members = asked_params callee asked in
      its_lifted types.reading types.lifts types.cost (parts trees) end after fuel left result
      (always_passed law.faulted law.priced (law.of_trees told) law.taken max_params (asked_setting callee asked memory store) (Tuple asked.func.params) ms (take (args_words ms) words) fits.1.params are.params
      before after end fuel left result trees hs rep few took lifts)

  meant_liftable : MeantIsLiftable types may
  meant_liftable store callee fuel asked words memory before end trees hs are fits rep few took =
      let w : Setting = asked_setting callee asked memory store in
      let ms : Members = asked_params callee asked in
      let front : List ℕ = take (args_words ms) words in
      record {
        faultless = faultless types.fits_params types.reading types.cost law.priced max_params w asked.func.params ms front fits are.params law.faulted fuel trees few rep;
        within = within types.fits_params types.reading types.cost law.priced max_params w asked.func.params ms front fits are.params law.faulted fuel trees few rep;
        handles = hs;
        lifted = end;
        takes = took;
      }

  lifted_faultless : LiftedIsFaultless types may
  lifted_faultless store callee fuel asked words memory before after params k x (fits, (left, lifts)) f =
      passed_apart types.reading law.apart (nat_le (flat (asked_shape callee asked)) max_params) (asked_setting callee asked memory store) (flat_in (take (args_words (asked_params callee asked)) words) 0) (asked_shape callee asked)
      before after params k x lifts.0 f

  given_walked : GivenIsWalked types may
  given_walked callee asked results trees fits is walked =
      let i : Instance = callee.types in
      let means : types.means results (parts trees) = law.walked results (parts trees) walked in
      record {
        means = means;
        of_type = subst (λ (s : Shape). IsTreeOf s (parts trees)) is (law.typed results i (Tuple asked.func.results) (parts trees) fits means);
        given = members_given i (shape_of i.types (Tuple asked.func.results)) (asked_results callee asked) types.gives results trees is (law.given results i (Tuple asked.func.results) (parts trees) fits walked);
      }

  typed_exactly : IsTypedExactly types may
  typed_exactly = record { only = only_meant; enough = meant_enough; liftable = meant_liftable; faultless = lifted_faultless; results = given_walked }

pub form_exact : {T : Type 0} (form : HostFuncForm T) → IsLawful form → IsExact form
form_exact (over_values may) law = tt
form_exact (over_types types may) law = typed_exactly types may law
