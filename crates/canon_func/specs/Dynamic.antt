-- What is said of dynamic parameters and results is as it has to be.
use Rattle.std.proofs.Common.{List, arith, length, ℕ, ⊎_elim, ◌≡◌, ◌≤◌}
use Rattle.std.specs.Prelude.{false}
use Rattle.std.proofs.lemmas.Bool.{cases_lt, le-leb, lt-leb}
use Rattle.canon_model.specs.Flat.{RepResults, max_results}
use Rattle.canon_model.specs.Layout.{members_flat}
use Rattle.canon_model.specs.Memory.{Memory}
use Rattle.canon_model.specs.Shape.{Members}
use Rattle.canon_model.specs.Text.{Encoding}
use Rattle.canon_model.specs.Tree.{Trees}
use Rattle.canon_model.proofs.Faults.{fault_excludes}
use Rattle.canon_model.proofs.Reached.{reach_is_the_cost}
use Rattle.canon_resources.proofs.Lifts.{lifts_take}
use Rattle.canon_lowering.specs.Storing.{narrow}
use Rattle.canon_context.specs.declared.fault.Fault.TheVariants as fault
use Rattle.canon_value_parts.proofs.Values.{failure_excludes}
use Rattle.canon_value_parts.specs.Fails.{field_name, mismatch, payload_expected, payload_not_expected, unknown_case, unknown_flag, wrong_length}
use Rattle.canon_value_parts.specs.Resources.{all_resources}
use Rattle.canon_val.specs.declared.val.Val.{Val}
use Rattle.canon_func.specs.Call.{dynamic, dynamic_results, result_words, returned_leaves}
use Rattle.canon_func.specs.Passed.{BlamesRightly, ReadsRightly}
use Rattle.canon_func.specs.Stores.{Callee}

-- ---- parameters

pub dynamic_blames : (callee : Callee) (params : List Val) → BlamesRightly (dynamic callee params)
dynamic_blames callee params (fault.TypeMismatch k) b = λ ts have small. failure_excludes mismatch callee.params params b.0 ts tt b.2 have
dynamic_blames callee params (fault.FieldName k) b = λ ts have small. failure_excludes field_name callee.params params b.0 ts tt b.2 have
dynamic_blames callee params (fault.UnknownCase k) b = λ ts have small. failure_excludes unknown_case callee.params params b.0 ts tt b.2 have
dynamic_blames callee params (fault.UnknownFlag k) b = λ ts have small. failure_excludes unknown_flag callee.params params b.0 ts tt b.2 have
dynamic_blames callee params (fault.PayloadExpected k) b = λ ts have small. failure_excludes payload_expected callee.params params b.0 ts tt b.2 have
dynamic_blames callee params (fault.PayloadNotExpected k) b = λ ts have small. failure_excludes payload_not_expected callee.params params b.0 ts tt b.2 have
dynamic_blames callee params (fault.LengthMismatch k) b = λ ts have small. failure_excludes wrong_length callee.params params b.0 ts tt b.2 have
dynamic_blames callee params (fault.StringTooLong n) b = λ ts have small. small.texts n b.0 b.1
dynamic_blames callee params (fault.SizeOverflow n) b = λ ts have small. small.lists n b.0 b.1
dynamic_blames callee params (fault.ReallocMisaligned a) b = tt
dynamic_blames callee params (fault.ReallocOutOfBounds a) b = tt
dynamic_blames callee params fault.GuestTrap b = tt
dynamic_blames callee params fault.OutOfMemory b = tt
dynamic_blames callee params (fault.Resource r) b = tt
dynamic_blames callee params f b = absurd b

-- ---- results

pub words_of_results : (enc : Encoding) (m : Memory) (ws : List ℕ) (ms : Members) (ts : Trees) → RepResults false enc m ws ms ts → length ws ≡ result_words ms
words_of_results enc m ws ms ts h = ⊎_elim (λ far. rw (lt-leb (members_flat ms) max_results far) (h.far far).0) (λ near. rw (le-leb (members_flat ms) max_results near) (h.near near).0) (cases_lt max_results (members_flat ms))

cost_within : (reached cost fuel : ℕ) → reached ≡ cost → cost ≤ fuel → reached ≤ fuel
cost_within reached cost fuel e few = omega (arith, e, few)

pub dynamic_reads : (callee : Callee) → ReadsRightly callee (dynamic_results callee)
dynamic_reads callee = record {
  whole = λ ws m fuel left results are. words_of_results callee.encoding (narrow m) ws callee.results are.its_trees are.represented;
  counted = λ ws m fuel rep. words_of_results callee.encoding (narrow m) ws callee.results rep.0 rep.1;
  faultless = λ ws m fuel k x f rep. fault_excludes.values max_results false callee.encoding (narrow m) ws callee.results rep.0 k x f rep.1;
  within = λ ws m fuel rep. cost_within _ _ fuel (reach_is_the_cost.values max_results false callee.encoding (narrow m) ws callee.results rep.0 rep.1) rep.2;
  accepted = λ ws m l n results lifts. (all_resources results, lifts);
  taken = λ ws m l n accepted. lifts_take callee.types l n (returned_leaves callee ws m) accepted.0 accepted.1;
}
